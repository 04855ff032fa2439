-- The text of the kernel: that of semaphore.c0.
use Rattle.std.specs.Prelude.{ℕ, List, [], ◌∷◌, codes}
use Rattle.kernel_theorems.specs.Lines.{by_lines}

abbrev pub text : List ℕ
text = by_lines (
    codes "int owner;"
    ∷ codes ""
    ∷ codes "int dispatch(int cause, int data, int user) {"
    ∷ codes "  int next; int got; bool ok;"
    ∷ codes "  next = user;"
    ∷ codes "  if (cause == 0) { next = 1; }"
    ∷ codes "  if (cause == 1) { next = user % 3 + 1; }"
    ∷ codes "  if (cause == 6) {"
    ∷ codes "    if (data == 12) {"
    ∷ codes "      if (owner == 0) { owner = user; got = 1; }"
    ∷ codes "      ok = vm_set(user, 2, got);"
    ∷ codes "    } else {"
    ∷ codes "      if (data == 76) { if (owner == user) { owner = 0; } }"
    ∷ codes "    }"
    ∷ codes "  }"
    ∷ codes "  return next;"
    ∷ codes "}" ∷ [])
