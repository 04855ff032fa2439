-- The report of the system that has halted computes.
use Rattle.std.proofs.Common.{◌≡◌, ℕ, List, [], ◌∷◌, ◌++◌, replicate, refl, ap₂, ◌∙◌}
use Rattle.std.specs.Prelude.{codes, pos}
use Rattle.std.specs.Fmt.{digits}
use Rattle.mips_table.specs.Flat.{Flat}
use Rattle.c0_meaning.specs.Value.{int, empty, part}
use Rattle.cvm_model.specs.Kernel.{Core}
use Rattle.cvm_model.specs.Cvm.{first_flat}
use Rattle.cvm_model.specs.Text.{globals_text, log_text, user_text, users_text, report_text}
use Rattle.kernel_theorems.specs.Lines.{by_lines}
use Rattle.alternating.specs.Users.{user_1, user_2}
use Rattle.alternating.specs.Property.{data_of, logged_numbers, behind_calls}
use Rattle.alternating.specs.Boots.{report_lines}

-- the machine of a user that stands behind its third call
abbrev stood : ℕ → List ℕ → Flat
stood n words = record { cpu = record { pc = 8; regs = 0 ∷ 0 ∷ 0 ∷ 0 ∷ n ∷ replicate 27 0; hi = 0; lo = 0 }; words = words ++ replicate 1020 0 }

one_stood : behind_calls (first_flat user_1) 3 ≡ stood 5 user_1
one_stood = refl

two_stood : behind_calls (first_flat user_2) 3 ≡ stood 6 user_2
two_stood = refl

-- THE ROWS
rows_first : globals_text (codes "calls" ∷ []) (part (int (pos 6)) empty) ++ log_text (logged_numbers 6)
    ≡ codes "global calls 6\ncon 00000001\ncon 00000002\ncon 00000003\ncon 00000004\ncon 00000005\ncon 00000006\n"
unfolding digits
rows_first = refl

rows_one : user_text 1 (stood 5 user_1) ≡ codes "user 1 pages 1 pc 00000008\nreg 4 00000005\nmem 00000000 34040001\nmem 00000004 0000000c\nmem 00000008 24840002\nmem 0000000c 1000fffd\n"
unfolding digits
rows_one = refl

rows_two : user_text 2 (stood 6 user_2) ≡ codes "user 2 pages 1 pc 00000008\nreg 4 00000006\nmem 00000000 34040002\nmem 00000004 0000000c\nmem 00000008 24840002\nmem 0000000c 1000fffd\n"
unfolding digits
rows_two = refl

rows_both : users_text 1 (behind_calls (first_flat user_1) 3 ∷ behind_calls (first_flat user_2) 3 ∷ [])
    ≡ codes "user 1 pages 1 pc 00000008\nreg 4 00000005\nmem 00000000 34040001\nmem 00000004 0000000c\nmem 00000008 24840002\nmem 0000000c 1000fffd\n"
    ++ codes "user 2 pages 1 pc 00000008\nreg 4 00000006\nmem 00000000 34040002\nmem 00000004 0000000c\nmem 00000008 24840002\nmem 0000000c 1000fffd\n"
rows_both = ap₂ (λ (f g : Flat). users_text 1 (f ∷ g ∷ [])) one_stood two_stood ∙ ap₂ (λ (a b : List ℕ). a ++ (b ++ [])) rows_one rows_two

-- of a state by its parts
pub reported : (names : List (List ℕ)) (c : Core) → names ≡ codes "calls" ∷ [] → c.c0 ≡ data_of 6 → c.console.log ≡ logged_numbers 6
    → c.users ≡ behind_calls (first_flat user_1) 3 ∷ behind_calls (first_flat user_2) 3 ∷ [] → codes "halted\n" ++ report_text names c ≡ by_lines report_lines
reported names c named data_is log users =
    rw (named, data_is, log, users) (ap₂ (λ (a b : List ℕ). codes "halted\n" ++ (a ++ b)) rows_first rows_both)
