-- The texts of these programs.
use Rattle.std.specs.Prelude.{ℕ, List, [], ◌∷◌, ◌++◌, codes}
use Rattle.c0_tree.specs.declared.primitive.Program.TheVariants.{User}
use Rattle.kernel_theorems.specs.Lines.{by_lines}
use Rattle.kernel_theorems.specs.Text.{IsTextAs}
use Rattle.program_systems.specs.Adders.{adder}

-- with this limit
abbrev pub adder_text : List ℕ → List ℕ
adder_text limit = by_lines (
    codes "int main() {"
    ∷ codes "  int i; int s; int a;"
    ∷ (codes "  while (i < " ++ (limit ++ codes ") { i = i + 1; s = s + i; }"))
    ∷ codes "  a = trap(s);"
    ∷ codes "  return 0;"
    ∷ codes "}" ∷ [])

abbrev pub text_ten : List ℕ
text_ten = adder_text (codes "10")

abbrev pub text_twenty : List ℕ
text_twenty = adder_text (codes "20")

-- A LAW: each is that of its tree
pub record TextsAreAdders : Type 0 where
  pub ten : IsTextAs User 5000 text_ten (adder 10)
  pub twenty : IsTextAs User 5000 text_twenty (adder 20)
