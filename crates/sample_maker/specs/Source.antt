-- The kernel's source. It gives each user 16 pages, copies user 1's first page to the others, and gives each a number to begin with;
-- then it runs them in turn, and adds up what they have in register 4 when they trap.
use Rattle.std.specs.Prelude.{ℕ, ◌==◌, List, [], ◌∷◌, codes, decimal, if◌then◌else◌}
use Rattle.std.specs.List.{flat_map}
use Rattle.sample_maker.specs.Program.{text_of}

-- the source, with the letter U for the number of users, and K for the number below that of user 1
unfoldable pub pattern : List ℕ
pattern = text_of (
    codes "int total;" ∷
    codes "int left;" ∷
    codes "bool[17] done;" ∷
    codes "int pick(int user) {" ∷
    codes "  int next; bool look;" ∷
    codes "  next = user; look = true;" ∷
    codes "  while (look) {" ∷
    codes "    next = next + 1;" ∷
    codes "    if (next > U) { next = 1; }" ∷
    codes "    if (!done[next]) { look = false; }" ∷
    codes "  }" ∷
    codes "  return next;" ∷
    codes "}" ∷
    codes "int dispatch(int cause, int data, int user) {" ∷
    codes "  int next; int u; int v; bool ok;" ∷
    codes "  if (cause == 0) {" ∷
    codes "    left = U; u = 1;" ∷
    codes "    while (u <= U) {" ∷
    codes "      ok = vm_resize(u, 16);" ∷
    codes "      if (u > 1) { ok = vm_copy(1, 0, u, 0, 1024); }" ∷
    codes "      ok = vm_set(u, 1, K + u);" ∷
    codes "      u = u + 1;" ∷
    codes "    }" ∷
    codes "    next = 1;" ∷
    codes "  }" ∷
    codes "  if (cause == 1) { next = pick(user); }" ∷
    codes "  if (cause == 6) {" ∷
    codes "    v = vm_get(user, 4);" ∷
    codes "    total = total + v;" ∷
    codes "    left = left - 1;" ∷
    codes "    done[user] = true;" ∷
    codes "    if (left > 0) { next = pick(user); }" ∷
    codes "  }" ∷
    codes "  return next;" ∷
    codes "}" ∷
    [])

-- what stands for a byte of the pattern: numbers in decimal for the two letters
abbrev pub filled_byte : ℕ → ℕ → ℕ → List ℕ
filled_byte users base c = if c == 85 then decimal users else (if c == 75 then decimal base else c ∷ [])

-- a pattern with numbers for its letters
abbrev pub filled_pattern : ℕ → ℕ → List ℕ → List ℕ
filled_pattern users base text = flat_map (filled_byte users base) text
