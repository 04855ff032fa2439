-- The text of the kernel: that of answering.c0.
use Rattle.std.specs.Prelude.{ℕ, List, [], ◌∷◌, codes}
use Rattle.kernel_theorems.specs.Lines.{by_lines}

abbrev pub text : List ℕ
text = by_lines (
    codes "int total;"
    ∷ codes ""
    ∷ codes "int dispatch(int cause, int data, int user) {"
    ∷ codes "  int next; int value; bool told;"
    ∷ codes "  next = user;"
    ∷ codes "  if (cause == 0) { next = 1; }"
    ∷ codes "  if (cause == 6) {"
    ∷ codes "    if (data == 12) {"
    ∷ codes "      value = vm_get(user, 4);"
    ∷ codes "      total = total + value;"
    ∷ codes "      told = vm_set(user, 2, total);"
    ∷ codes "    } else {"
    ∷ codes "      next = 2;"
    ∷ codes "      if (user == 2) { next = 0; }"
    ∷ codes "    }"
    ∷ codes "  }"
    ∷ codes "  return next;"
    ∷ codes "}" ∷ [])
