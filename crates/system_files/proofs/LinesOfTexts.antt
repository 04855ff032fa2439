-- The lines of a text, and the text of lines.
use Rattle.std.proofs.Common.{◌≡◌, ℕ, ◌<◌, ◌==◌, ◌⊎◌, inl, inr, cond, List, [], ◌∷◌, ◌++◌, length, refl, sym, ap, ◌∙◌, arith}
use Rattle.std.specs.List.{slice_split, join_with_byte}
use Rattle.std.proofs.lemmas.Bool.Decides.{nat_tests}
use Rattle.std.proofs.lemmas.List.Splits.{join_with_byte-slice_split}
use Rattle.cvm_text.specs.Lines.{without_empty_end, lines_of}

-- parts are those that are left, or these and an empty one
pub ends : (parts : List (List ℕ)) → (parts ≡ without_empty_end parts) ⊎ (parts ≡ without_empty_end parts ++ [] ∷ [])
ends [] = inl refl
ends ([] ∷ []) = inr refl
ends ((c ∷ part) ∷ []) = inl (sym (not_empty (c ∷ part) (omega arith)))
  where
    not_empty : (part : List ℕ) → 0 < length part → cond (length part == 0) [] (part ∷ []) ≡ part ∷ []
    not_empty part some = grind (arith, nat_tests)
ends (part ∷ next ∷ parts) = elim (ends (next ∷ parts)) [
  | inl e ↦ inl (ap (λ ps. part ∷ ps) e)
  | inr e ↦ inr (ap (λ ps. part ∷ ps) e)
]

-- a text is its lines, joined, or these with an empty one behind
pub text_is : (text : List ℕ) (lines : List (List ℕ)) → lines_of text ≡ lines → (text ≡ join_with_byte 10 lines) ⊎ (text ≡ join_with_byte 10 (lines ++ [] ∷ []))
text_is text lines e =
    let parts = slice_split (λ c. c == 10) text in
    let whole : join_with_byte 10 parts ≡ text = join_with_byte-slice_split 10 text in
    elim (ends parts) [
      | inl is ↦ inl (sym whole ∙ ap (join_with_byte 10) (is ∙ e))
      | inr is ↦ inr (sym whole ∙ ap (join_with_byte 10) (is ∙ ap (λ ls. ls ++ [] ∷ []) e))
    ]
