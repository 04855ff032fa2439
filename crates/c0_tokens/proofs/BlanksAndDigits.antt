-- What blanks, comments and runs of digits give byte by byte.
use Rattle.std.proofs.Common.{◌≡◌, ℕ, suc, ◌+◌, ◌-◌, ◌*◌, ◌<◌, ◌≤◌, Bool, true, false, not, ◌==◌, List, [], ◌∷◌, length, take, drop, get_or, refl, ap, sym, ◌∙◌, subst, arith, fold, codes, get_or-take, if◌then◌else◌}
use Rattle.std.proofs.lemmas.List.Folds.{length-prefix_len}
use Rattle.std.specs.List.{prefix_len, starts_with, AllPass}
use Rattle.std.proofs.lemmas.List.{take-append-drop}
use Rattle.std.proofs.lemmas.Slice.Eq.{starts_is}
use Rattle.std.proofs.lemmas.Bool.{eqb-true}
use Rattle.std.proofs.lemmas.Bool.Decides.{Decides-eqb}
use Rattle.std.proofs.lemmas.Grind.{common_steps}
use Rattle.std.proofs.lemmas.List.Sums.{fold-append, fold_more, prefix_len_passes}
use Rattle.c0_tokens.specs.Lexis.{gap, slash, comment, is_blank, digits_value}

-- a byte within a line
abbrev pub in_line : ℕ → Bool
in_line b = not (b == 10)

-- a front of n bytes belongs to the gap
abbrev pub SkipsBy : List ℕ → ℕ → ℕ → Type 0
SkipsBy text whole n = whole ≡ n + gap (drop n text)

-- one byte of a comment
line_step : (b : ℕ) (rest : List ℕ) (ends : Bool) → (b == 10) ≡ ends → SkipsBy rest (comment rest) (prefix_len in_line rest)
    → SkipsBy (b ∷ rest) (comment (b ∷ rest)) (prefix_len in_line (b ∷ rest))
line_step b rest true e h = subst (λ c. SkipsBy (c ∷ rest) (comment (c ∷ rest)) (prefix_len in_line (c ∷ rest))) (sym (eqb-true b 10 e)) (omega arith)
line_step b rest false e h =
    let n = prefix_len in_line rest in
    let one : 1 + n ≡ suc n = omega arith in
    rw (e, one) (omega (arith, h))

-- inside a comment the rest of the line is skipped
comment_line : (text : List ℕ) → SkipsBy text (comment text) (prefix_len in_line text)
comment_line [] = refl
comment_line (b ∷ rest) = line_step b rest (b == 10) refl (comment_line rest)

-- a comment takes its whole line, without the LF, which is a blank
pub gap_line : (rest : List ℕ) → SkipsBy (47 ∷ 47 ∷ rest) (gap (47 ∷ 47 ∷ rest)) (prefix_len in_line (47 ∷ 47 ∷ rest))
gap_line rest = grind (arith, common_steps, comment_line rest)

-- a further digit makes no number smaller
pub digits_value_grows : (value : ℕ) (digits : List ℕ) → value ≤ fold (λ value d. 10 * value + (d - 48)) value digits
digits_value_grows value [] = omega arith
digits_value_grows value (d ∷ rest) = let h = digits_value_grows (10 * value + (d - 48)) rest in omega (arith, h)

-- a number that is too large part of the way is too large in the end
pub digits_value_too_large : (digits : List ℕ) (i limit : ℕ) → i < length digits → limit < 10 * digits_value (take i digits) + (get_or digits i 0 - 48) → limit < digits_value digits
digits_value_too_large digits i limit inside large =
    let next = fold_more (λ value d. 10 * value + (d - 48)) 0 digits i 0 inside in
    let grows = digits_value_grows (digits_value (take (i + 1) digits)) (drop (i + 1) digits) in
    let whole = fold-append (λ value d. 10 * value + (d - 48)) 0 (take (i + 1) digits) (drop (i + 1) digits) in
    let parts = ap digits_value (take-append-drop (i + 1) digits) in
    omega (arith, next, grows, whole, parts)

-- two slashes at the front, as the test for them says
pub comment_front : (text : List ℕ) → starts_with (λ a b. a == b) text (codes "//") ≡ true → SkipsBy text (gap text) (prefix_len in_line text)
comment_front text e =
    let front : text ≡ 47 ∷ 47 ∷ drop 2 text = (starts_is Decides-eqb text (codes "//") true (sym e)).0 refl in
    subst (λ t. SkipsBy t (gap t) (prefix_len in_line t)) (sym front) (gap_line (drop 2 text))

-- each byte of a run passes the test
pub run_passes : (p : ℕ → Bool) (text run : List ℕ) (n : ℕ) → run ≡ take n text → n ≡ prefix_len p text → AllPass p run
run_passes p text run n e l = subst (AllPass p) (sym (e ∙ ap (λ m. take m text) l)) taken
  where
    taken : AllPass p (take (prefix_len p text) text)
    taken k d h =
        let inside : k < prefix_len p text = omega (arith, length-prefix_len p text) in
        subst (λ b. p b ≡ true) (sym (get_or-take (prefix_len p text) text k d inside)) (prefix_len_passes p text k d inside)

-- a choice of two numbers below a bound
choice_le : (b : Bool) (x y n : ℕ) → x ≤ n → y ≤ n → (if b then x else y) ≤ n
choice_le true x y n l r = l
choice_le false x y n l r = r

-- a gap lies within its text
record Within (text : List ℕ) : Type 0 where
  blank : gap text ≤ length text
  second : slash text ≤ suc (length text)
  inside : comment text ≤ length text

-- the gap, what stands after a slash and a comment are measured together
within : (text : List ℕ) → Within text
within [] = record { blank = omega arith; second = omega arith; inside = omega arith }
within (b ∷ rest) =
    let w = within rest in
    record {
      blank = choice_le (is_blank b) (suc (gap rest)) (if b == 47 then slash rest else 0) (suc (length rest)) (omega arith) (choice_le (b == 47) (slash rest) 0 (suc (length rest)) (omega arith) (omega arith));
      second = choice_le (b == 47) (suc (suc (comment rest))) 0 (suc (suc (length rest))) (omega arith) (omega arith);
      inside = choice_le (b == 10) (suc (gap rest)) (suc (comment rest)) (suc (length rest)) (omega arith) (omega arith);
    }

-- the first of these bounds, which the places need
pub gap_within : (text : List ℕ) → gap text ≤ length text
gap_within text = (within text).blank
