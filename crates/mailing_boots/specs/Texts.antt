-- The texts of these programs.
use Rattle.std.specs.Prelude.{ℕ, List, [], ◌∷◌, codes}
use Rattle.c0_tree.specs.declared.primitive.Program.TheVariants.{User}
use Rattle.kernel_theorems.specs.Lines.{by_lines}
use Rattle.kernel_theorems.specs.Text.{IsTextAs}
use Rattle.mailing_boots.specs.Mailers.{sender, receiver}

abbrev pub sender_text : List ℕ
sender_text = by_lines (
    codes "int main() {"
    ∷ codes "  int i; int ok;"
    ∷ codes "  while (i < 10) { i = i + 1; ok = trap(i); }"
    ∷ codes "  return 0;"
    ∷ codes "}" ∷ [])

abbrev pub receiver_text : List ℕ
receiver_text = by_lines (
    codes "int main() {"
    ∷ codes "  int message; int ok;"
    ∷ codes "  while (message != 10) { message = trap(0); ok = trap(message); }"
    ∷ codes "  return 0;"
    ∷ codes "}" ∷ [])

-- A LAW: each is that of its tree
pub record TextsAreMailers : Type 0 where
  pub sends : IsTextAs User 9000 sender_text sender
  pub receives : IsTextAs User 9000 receiver_text receiver
