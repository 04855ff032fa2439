-- The text of the kernel: that of kernel.c0.
use Rattle.std.specs.Prelude.{ℕ, List, [], ◌∷◌, codes}
use Rattle.kernel_theorems.specs.Lines.{by_lines}

abbrev pub text : List ℕ
text = by_lines (
    codes "int calls;"
    ∷ codes ""
    ∷ codes "int dispatch(int cause, int data, int user) {"
    ∷ codes "  int next; int value; bool kept;"
    ∷ codes "  next = user;"
    ∷ codes "  if (cause == 0) { next = 1; }"
    ∷ codes "  if (cause == 6) {"
    ∷ codes "    value = vm_get(user, 4);"
    ∷ codes "    kept = con_put(value);"
    ∷ codes "    calls = calls + 1;"
    ∷ codes "    next = 3 - user;"
    ∷ codes "    if (calls == 6) { next = 0; }"
    ∷ codes "  }"
    ∷ codes "  return next;"
    ∷ codes "}" ∷ [])
