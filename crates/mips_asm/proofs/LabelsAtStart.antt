-- The labels at the start of a line.
use Rattle.std.proofs.Common.{◌≡◌, ◌<◌, ℕ, true, cond, List, [], ◌∷◌, length, refl, ap, sym, ◌∙◌, ◌==◌, arith}
use Rattle.std.proofs.lemmas.List.Splits.{length-slice_split}
use Rattle.mips_asm.specs.Number.{is_name}
use Rattle.mips_asm.specs.Line.{of_parts, left_colon}
use Rattle.mips_asm.specs.Text.{trim_start, labels_in, after_labels, colon_parts}

labels_step : (p : List ℕ) (parts : List (List ℕ)) → 0 < length parts → is_name (trim_start p) ≡ true → labels_in (p ∷ parts) ≡ trim_start p ∷ labels_in parts
labels_step p [] some named = absurd (omega arith)
labels_step p (q ∷ ps) some named = ap (λ b. cond b (trim_start p ∷ labels_in (q ∷ ps)) []) named

after_step : (p : List ℕ) (parts : List (List ℕ)) → 0 < length parts → is_name (trim_start p) ≡ true → after_labels (p ∷ parts) ≡ after_labels parts
after_step p [] some named = absurd (omega arith)
after_step p (q ∷ ps) some named = ap (λ b. cond b (after_labels (q ∷ ps)) (p ∷ (q ∷ ps))) named

some_part : (text : List ℕ) → 0 < length (colon_parts text)
some_part text = omega (arith, length-slice_split (λ c. c == 58) text)

pub labels_next : (p label text rest : List ℕ) → colon_parts text ≡ p ∷ colon_parts rest → label ≡ trim_start p → is_name label ≡ true
    → (labels_in (colon_parts text) ≡ label ∷ labels_in (colon_parts rest)) × (after_labels (colon_parts text) ≡ after_labels (colon_parts rest))
labels_next p label text rest parts is named =
    let named' = sym (ap is_name is) ∙ named in (
      ap labels_in parts ∙ labels_step p (colon_parts rest) (some_part rest) named' ∙ ap (λ l. l ∷ labels_in (colon_parts rest)) (sym is),
      ap after_labels parts ∙ after_step p (colon_parts rest) (some_part rest) named',
    )

colon_left : (p : List ℕ) (parts : List (List ℕ)) → 0 < length parts → of_parts (p ∷ parts) ≡ left_colon p
colon_left p [] some = absurd (omega arith)
colon_left p (q ∷ ps) some = refl

pub colon_left_of : (p text rest : List ℕ) → colon_parts text ≡ p ∷ colon_parts rest → of_parts (colon_parts text) ≡ left_colon p
colon_left_of p text rest parts = ap of_parts parts ∙ colon_left p (colon_parts rest) (some_part rest)
