-- The report of the two users computes.
use Rattle.std.proofs.Common.{◌≡◌, ℕ, zero, suc, ◌+◌, List, [], ◌∷◌, ◌++◌, replicate, refl, ap₂, ◌∙◌}
use Rattle.std.specs.Prelude.{codes}
use Rattle.std.specs.Fmt.{digits}
use Rattle.mips_table.specs.Flat.{Flat}
use Rattle.cvm_model.specs.Cvm.{first_flat}
use Rattle.cvm_model.specs.Text.{memory_text, user_text, users_text}
use Rattle.kernel_theorems.specs.UserRuns.{after}
use Rattle.summing.specs.Users.{user_one, user_two}

-- the machine of a user that has counted to n
abbrev counted : ℕ → List ℕ → Flat
counted n words = record { cpu = record { pc = 16; regs = 0 ∷ 0 ∷ 0 ∷ 0 ∷ n ∷ n ∷ replicate 26 0; hi = 0; lo = 0 }; words = words ++ replicate 1020 0 }

one_counted : after 22 (first_flat user_one) ≡ counted 10 user_one
one_counted = refl

two_counted : after 42 (first_flat user_two) ≡ counted 20 user_two
two_counted = refl

-- zeros have no rows
no_rows : (k n : ℕ) → memory_text k (replicate n 0) ≡ []
no_rows k zero = refl
no_rows k (suc n) = no_rows (k + 1) n

-- THE ROWS of a user
rows_one : user_text 1 (counted 10 user_one) ≡ codes "user 1 pages 1 pc 00000010\nreg 4 0000000a\nreg 5 0000000a\nmem 00000000 3405000a\nmem 00000004 24840001\nmem 00000008 1485fffe\nmem 0000000c 0000000c\n"
unfolding digits
rows_one = refl

rows_two : user_text 2 (counted 20 user_two) ≡ codes "user 2 pages 1 pc 00000010\nreg 4 00000014\nreg 5 00000014\nmem 00000000 34050014\nmem 00000004 24840001\nmem 00000008 1485fffe\nmem 0000000c 0000000c\n"
unfolding digits
rows_two = refl

pub reports : users_text 1 (after 22 (first_flat user_one) ∷ after 42 (first_flat user_two) ∷ [])
    ≡ codes "user 1 pages 1 pc 00000010\nreg 4 0000000a\nreg 5 0000000a\nmem 00000000 3405000a\nmem 00000004 24840001\nmem 00000008 1485fffe\nmem 0000000c 0000000c\n"
    ++ codes "user 2 pages 1 pc 00000010\nreg 4 00000014\nreg 5 00000014\nmem 00000000 34050014\nmem 00000004 24840001\nmem 00000008 1485fffe\nmem 0000000c 0000000c\n"
reports =
    ap₂ (λ (f g : Flat). users_text 1 (f ∷ g ∷ [])) one_counted two_counted
    ∙ ap₂ (λ (a b : List ℕ). a ++ (b ++ [])) rows_one rows_two
