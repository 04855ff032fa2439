-- One more line of a text.
use Rattle.std.proofs.Common.{◌≡◌, ℕ, ◌+◌, ◌≤◌, Bool, true, false, ◌&&◌, cond, Option, Some, None, Result, Ok, Err, is_some, List, [], ◌∷◌, ◌++◌, length, append_assoc, refl, sym, ap, ◌∙◌, arith}
use Rattle.std.proofs.lemmas.Bool.{and_from}
use Rattle.std.specs.Option.{option_or, IfSome}
use Rattle.std.specs.List.{list_all}
use Rattle.mips_asm.specs.declared.fault.AsmFault.{AsmFault}
use Rattle.mips_asm.specs.Line.{line_meaning, statement}
use Rattle.mips_asm.specs.Assembled.{assembled}
use Rattle.c0_meaning.specs.Asm.{is_allowed_word, are_allowed_words}
use Rattle.c0_asm_text.specs.AsmText.{is_plain_line, allowed, of_assembled, line_words, words_if, allowed_words, first_bad}

-- an empty line is allowed
pub empty_line : line_words [] ≡ Some []
unfolding line_words assembled line_meaning statement
empty_line = refl

-- the words so far
pub words_step : (before : List ℕ) (line : List ℕ) (v : Option (List ℕ)) (lines rest : List (List ℕ)) (whole : List ℕ) → v ≡ line_words line → lines ≡ line ∷ rest → before ++ allowed_words lines ≡ whole → (before ++ words_if v) ++ allowed_words rest ≡ whole
words_step before line v lines rest whole e f h =
    append_assoc before (words_if v) (allowed_words rest)
    ∙ (ap (λ (o : Option (List ℕ)). before ++ (words_if o ++ allowed_words rest)) e ∙ (sym (ap (λ (ls : List (List ℕ)). before ++ allowed_words ls) f) ∙ h))

either : (old : Option ℕ) (b : Bool) (number : ℕ) (next : Option ℕ) → option_or (option_or old (cond b None (Some number))) next ≡ option_or old (cond b next (Some number))
either None true number next = refl
either None false number next = refl
either (Some n) b number next = refl

-- the first line that isn't allowed
pub bad_step : (old : Option ℕ) (number : ℕ) (line : List ℕ) (v : Option (List ℕ)) (lines rest : List (List ℕ)) (whole : Option ℕ) → v ≡ line_words line → lines ≡ line ∷ rest → option_or old (first_bad number lines) ≡ whole →
    option_or (option_or old (cond (is_some v) None (Some number))) (first_bad (number + 1) rest) ≡ whole
bad_step old number line v lines rest whole e f h =
    either old (is_some v) number (first_bad (number + 1) rest)
    ∙ (ap (λ (o : Option (List ℕ)). option_or old (cond (is_some o) (first_bad (number + 1) rest) (Some number))) e
    ∙ (sym (ap (λ (ls : List (List ℕ)). option_or old (first_bad number ls)) f) ∙ h))

-- a line that isn't allowed isn't empty
longer : (line : List ℕ) → line_words line ≡ None → 1 ≤ length line
longer [] h = absurd (differs (sym empty_line ∙ h))
  where
    differs : ◌≡◌ {A = Option (List ℕ)} (Some []) None → ⊥
    differs e = cc
longer (c ∷ cs) h = omega arith

-- the number of a line that isn't allowed
pub within_step : (old : Option ℕ) (number left whole : ℕ) (line : List ℕ) (v : Option (List ℕ)) → v ≡ line_words line → length line ≤ left → number + left ≤ whole + 1 → IfSome old (λ n. n ≤ whole) → IfSome (option_or old (cond (is_some v) None (Some number))) (λ n. n ≤ whole)
within_step (Some n) number left whole line v e l h w = w
within_step None number left whole line (Some ws) e l h w = tt
within_step None number left whole line None e l h w = let m : 1 ≤ length line = longer line (sym e) in omega arith

-- the words of allowed lines are allowed
ok_words : (ws : List ℕ) → list_all is_allowed_word (words_if (allowed ws)) ≡ true
ok_words [] = refl
ok_words (w ∷ []) =
    elim (is_allowed_word w) as (λ b. is_allowed_word w ≡ b → list_all is_allowed_word (words_if (cond b (Some (w ∷ [])) None)) ≡ true) [
      | true ↦ λ e. and_from (is_allowed_word w) true e refl
      | false ↦ λ e. refl
    ] refl
ok_words (w ∷ (v ∷ ws)) = refl

result_words : (r : Result (List ℕ) AsmFault) → list_all is_allowed_word (words_if (of_assembled r)) ≡ true
result_words (Ok ws) = ok_words ws
result_words (Err f) = refl

line_allowed : (line : List ℕ) → list_all is_allowed_word (words_if (line_words line)) ≡ true
unfolding line_words
line_allowed line =
    elim (is_plain_line line) as (λ b. list_all is_allowed_word (words_if (cond b (of_assembled (assembled line)) None)) ≡ true) [
      | true ↦ result_words (assembled line)
      | false ↦ refl
    ]

joined : (xs ys : List ℕ) → list_all is_allowed_word xs ≡ true → list_all is_allowed_word ys ≡ true → list_all is_allowed_word (xs ++ ys) ≡ true
joined [] ys p q = q
joined (x ∷ xs) ys p q = elim (is_allowed_word x) as (λ b. (b && list_all is_allowed_word xs) ≡ true → (b && list_all is_allowed_word (xs ++ ys)) ≡ true) [
  | true ↦ λ e. joined xs ys e q
  | false ↦ λ e. e
] p

pub words_allowed : (lines : List (List ℕ)) → are_allowed_words (allowed_words lines) ≡ true
words_allowed [] = refl
words_allowed (line ∷ rest) = joined (words_if (line_words line)) (allowed_words rest) (line_allowed line) (words_allowed rest)
