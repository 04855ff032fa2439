-- What is read from a position is spelled there: the longest front of digits ends where no digit follows, and it is the decimal text of the number.
use Rattle.std.proofs.Common.{◌≡◌, ◌+◌, ℕ, Bool, true, false, cond, suc, List, [], ◌∷◌, ◌++◌, length, take, drop, Option, Some, None, refl, sym, ap, ◌∙◌, inl, inr, take-append-drop, arith}
use Rattle.std.specs.Prelude.{option_map, decimal}
use Rattle.std.specs.List.{list_all, prefix_len}
use Rattle.std.specs.Char.{is_ascii_digit}
use Rattle.std.proofs.lemmas.Bool.{cases_Bool, cases_lt, and_from}
use Rattle.std.proofs.lemmas.List.{drop-drop}
use Rattle.std.proofs.lemmas.List.Folds.{length-prefix_len}
use Rattle.std.proofs.lemmas.List.Sums.{prefix_len_stops, prefix_len-drop_no, prefix_len-drop_all}
use Rattle.cvm_text.specs.Number.{digits_at, is_spelling, value_of, spelled_number_at, IsSpelledAt}
use Rattle.cvm_text.proofs.FrontsOfDigits.{limit_is_small}
use Rattle.cvm_text.proofs.SpelledIsDecimal.{spelled_is}

-- the longest front of elements that pass: all of it passes, and the next element doesn't
all_front : (p : ℕ → Bool) (xs : List ℕ) → list_all p (take (prefix_len p xs) xs) ≡ true
all_front p [] = refl
all_front p (x ∷ xs) =
    elim (cases_Bool (p x)) as (λ _. list_all p (take (prefix_len p (x ∷ xs)) (x ∷ xs)) ≡ true) [
      | inl passes ↦
          let count : prefix_len p (x ∷ xs) ≡ suc (prefix_len p xs) = ap (λ b. cond b (1 + prefix_len p xs) 0) passes ∙ omega arith in
          ap (λ n. list_all p (take n (x ∷ xs))) count ∙ and_from _ _ passes (all_front p xs)
      | inr fails ↦ ap (λ n. list_all p (take n (x ∷ xs))) (ap (λ b. cond b (1 + prefix_len p xs) 0) fails)
    ]

stops : (p : ℕ → Bool) (xs : List ℕ) → prefix_len p (drop (prefix_len p xs) xs) ≡ 0
stops p xs =
    elim (cases_lt (prefix_len p xs) (length xs)) [
      | inl inside ↦ prefix_len-drop_no p xs (prefix_len p xs) 0 inside (prefix_len_stops p xs 0 inside)
      | inr past ↦ prefix_len-drop_all p xs (prefix_len p xs) past
    ]

-- what an answered number says of its parts
parts_of : (spells : Bool) (value : Option ℕ) (after : ℕ) (read : ℕ × ℕ) → cond spells (option_map (λ n. (n, after)) value) None ≡ Some read
    → (spells ≡ true) × (value ≡ Some read.0) × (read.1 ≡ after)
parts_of true (Some n) after read e =
    let same : (let made : ℕ × ℕ = (n, after) in made ≡ read) = cc in
    (refl, ap (λ (r : ℕ × ℕ). Some r.0) same, ap (λ (r : ℕ × ℕ). r.1) (sym same))
parts_of true None after read e = cc
parts_of false value after read e = cc

pub spelled-number_at : (bytes : List ℕ) (at : ℕ) (read : ℕ × ℕ) → spelled_number_at bytes at ≡ Some read → IsSpelledAt bytes at read.0 read.1
spelled-number_at bytes at read e =
    let text = drop at bytes in
    let run = prefix_len is_ascii_digit text in
    let digits = digits_at bytes at in
    let parts = parts_of (is_spelling digits) (value_of digits) (at + length digits) read e in
    let spelled : digits ≡ decimal read.0 = spelled_is digits read.0 (all_front is_ascii_digit text) parts.0 parts.1 in
    let position : read.1 ≡ at + run = parts.2 ∙ ap (λ n. at + n) (length-prefix_len is_ascii_digit text) in
    let rest : drop read.1 bytes ≡ drop run text = ap (λ n. drop n bytes) position ∙ sym (drop-drop run at bytes) in
    record {
      small = limit_is_small _ read.0 parts.1;
      digits = sym (take-append-drop run text) ∙ ap (λ ds. ds ++ drop run text) spelled ∙ ap (λ r. decimal read.0 ++ r) (sym rest);
      position = parts.2 ∙ ap (λ ds. at + length ds) spelled;
      ends = ap (prefix_len is_ascii_digit) rest ∙ stops is_ascii_digit text;
    }
