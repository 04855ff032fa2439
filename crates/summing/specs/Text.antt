-- The text of the kernel: that of summing.c0.
use Rattle.std.specs.Prelude.{ℕ, List, [], ◌∷◌, codes}
use Rattle.kernel_theorems.specs.Lines.{by_lines}

abbrev pub text : List ℕ
text = by_lines (
    codes "int total;"
    ∷ codes "bool done;"
    ∷ codes ""
    ∷ codes "int dispatch(int cause, int data, int user) {"
    ∷ codes "  int next; int value;"
    ∷ codes "  next = 1;"
    ∷ codes "  if (user == 1) { next = 2; }"
    ∷ codes "  if (cause == 1) {"
    ∷ codes "    if (done) { next = user; }"
    ∷ codes "  }"
    ∷ codes "  if (cause == 6) {"
    ∷ codes "    value = vm_get(user, 4);"
    ∷ codes "    total = total + value;"
    ∷ codes "    if (done) { next = 0; }"
    ∷ codes "    done = true;"
    ∷ codes "  }"
    ∷ codes "  return next;"
    ∷ codes "}" ∷ [])
