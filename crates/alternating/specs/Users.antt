-- The words of the users that are written in assembler.
use Rattle.std.specs.Prelude.{ℕ, List, [], ◌∷◌}

abbrev pub user_1 : List ℕ
user_1 = 0x34040001 ∷ 0x0000000c ∷ 0x24840002 ∷ 0x1000fffd ∷ []

abbrev pub user_2 : List ℕ
user_2 = 0x34040002 ∷ 0x0000000c ∷ 0x24840002 ∷ 0x1000fffd ∷ []
