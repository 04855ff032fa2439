-- The text of a program that tells the sum of the numbers from 1 to 10.
use Rattle.std.specs.Prelude.{ℕ, List, [], ◌∷◌, codes}
use Rattle.kernel_theorems.specs.Lines.{by_lines}

abbrev pub text : List ℕ
text = by_lines (
    codes "int main() {"
    ∷ codes "  int i; int s; int a;"
    ∷ codes "  i = 0; s = 0;"
    ∷ codes "  while (i < 10) { i = i + 1; s = s + i; }"
    ∷ codes "  a = trap(s);"
    ∷ codes "  return 0;"
    ∷ codes "}" ∷ [])
