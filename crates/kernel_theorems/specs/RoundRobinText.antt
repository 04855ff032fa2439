-- The text of the round robin for three users: that of kernels/round_robin.c0.
use Rattle.std.specs.Prelude.{ℕ, List, [], ◌∷◌, codes}
use Rattle.kernel_theorems.specs.Lines.{by_lines}

abbrev pub text : List ℕ
text = by_lines (
    codes "int turn;"
    ∷ codes "int served;"
    ∷ codes "int dispatch(int cause, int data, int user) {"
    ∷ codes "  int next;"
    ∷ codes "  next = user;"
    ∷ codes "  if (cause == 0) { turn = 1; next = turn; }"
    ∷ codes "  if (cause == 1) { turn = turn % 3 + 1; next = turn; }"
    ∷ codes "  if (cause > 1) { served = served + 1; }"
    ∷ codes "  return next;"
    ∷ codes "}" ∷ [])
