-- Too few operands, and too many.
use Rattle.std.proofs.Common.{◌≡◌, true, false, cond, ◌==◌, ◌<◌, ◌≤◌, ◌+◌, ℕ, List, [], ◌∷◌, length, drop, get_or, Option, Some, None, refl, sym, ap, ◌∙◌, arith}
use Rattle.std.specs.Borrow.{Bor}
use Rattle.std.proofs.lemmas.List.{drop_more, drop_all}
use Rattle.std.proofs.lemmas.List.Splits.{length-slice_split}
use Rattle.mips_asm.specs.declared.form.Operand.{Operand}
use Rattle.mips_asm.specs.declared.form.Operand.TheVariants.{Signed}
use Rattle.mips_asm.specs.Line.{LineMeaning, bad_operand, with_operands, may_be_left_out}
use Rattle.mips_asm.specs.View.{parts_left}

pub too_few : (m : LineMeaning) (ks : List Operand) (i : ℕ) (rest : Option (Bor (List ℕ))) → i < length ks → rest ≡ None → may_be_left_out (get_or ks i Signed) ≡ false
    → with_operands m (drop i ks) (parts_left rest) ≡ bad_operand
too_few m ks i rest inside none needed =
    ap (λ r. with_operands m (drop i ks) (parts_left r)) none ∙ ap (λ l. with_operands m l []) (drop_more ks i Signed inside)
    ∙ ap (λ b. cond b (with_operands m (drop (i + 1) ks) []) bad_operand) needed

pub left_out : (m : LineMeaning) (ks : List Operand) (i : ℕ) (rest : Option (Bor (List ℕ))) → i < length ks → rest ≡ None → may_be_left_out (get_or ks i Signed) ≡ true
    → with_operands m (drop i ks) (parts_left rest) ≡ with_operands m (drop (i + 1) ks) (parts_left rest)
left_out m ks i rest inside none free =
    ap (λ r. with_operands m (drop i ks) (parts_left r)) none ∙ ap (λ l. with_operands m l []) (drop_more ks i Signed inside)
    ∙ ap (λ b. cond b (with_operands m (drop (i + 1) ks) []) bad_operand) free
    ∙ ap (λ r. with_operands m (drop (i + 1) ks) (parts_left r)) (sym none)

some_more : (m : LineMeaning) (ts : List (List ℕ)) → 0 < length ts → with_operands m [] ts ≡ bad_operand
some_more m [] some = absurd (omega arith)
some_more m (t ∷ ts) some = refl

pub too_many : (m : LineMeaning) (ks : List Operand) (i : ℕ) (rest : Option (Bor (List ℕ))) (t : Bor (List ℕ)) → length ks ≤ i → rest ≡ Some t → with_operands m (drop i ks) (parts_left rest) ≡ bad_operand
too_many m ks i rest t outside some =
    ap (λ r. with_operands m (drop i ks) (parts_left r)) some ∙ ap (λ l. with_operands m l (parts_left (Some t))) (drop_all i ks outside)
    ∙ some_more m (parts_left (Some t)) (omega (arith, length-slice_split (λ x. x == 44) t.now))
