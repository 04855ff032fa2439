-- A row that is spelled is read: its words stand between its two spaces, and its numbers are those that the words spell.
use Rattle.std.proofs.Common.{◌≡◌, ℕ, ◌+◌, ◌<◌, ◌^◌, ◌==◌, ◌&&◌, Bool, true, false, cond, List, [], ◌∷◌, ◌++◌, All, length, drop, refl, sym, ap, ◌∙◌, append-nil, zero-add, eq-eqb, rules, arith}
use Rattle.std.specs.Prelude.{Some, None, option_and_then, codes, decimal, bytes_eq}
use Rattle.std.specs.List.{list_all, prefix_len}
use Rattle.std.specs.Char.{is_ascii_digit}
use Rattle.std.specs.Str.Parse.{digits_value}
use Rattle.std.proofs.lemmas.Bool.Decides.{nat_tests}
use Rattle.std.proofs.lemmas.Fmt.{digits_decimal}
use Rattle.std.proofs.lemmas.List.Elements.{All-nil, All-cons}
use Rattle.std.proofs.lemmas.List.Splits.{slice_split_at, slice_split_none}
use Rattle.std.proofs.lemmas.Str.Parse.{IsNumeralModel, numerals_by_value}
use Rattle.cvm_text.specs.Number.{spelled_number_at}
use Rattle.schedule_file.specs.declared.row.Row.{Row}
use Rattle.schedule_file.specs.declared.row.Row.TheVariants.{Line, Busy, Input}
use Rattle.cvm_text.specs.Lines.{number_spelled}
use Rattle.schedule_file.specs.Text.{row_of_words, row_of_pair, row_in_words, row_of}
use Rattle.schedule_file.specs.Spelling.{spelling, RowFits}
use Rattle.schedule_file.proofs.WordsOfRows.{words}

-- what `whole_numbers_are_spelled` says
abbrev WholeNumbers : Type 0
WholeNumbers = (n : ℕ) → n < 2 ^ 64 → number_spelled (decimal n) ≡ Some n

-- no digit is a space
no_space : (digits : List ℕ) → list_all is_ascii_digit digits ≡ true → All (λ c. (c == 32) ≡ false) digits
no_space [] all = All-nil (λ c. (c == 32) ≡ false)
no_space (d ∷ digits) all =
    All-cons (λ c. (c == 32) ≡ false) d digits (first d (list_all is_ascii_digit digits) all) (no_space digits (others (is_ascii_digit d) (list_all is_ascii_digit digits) all))
  where
    first : (d : ℕ) (more : Bool) → (is_ascii_digit d && more) ≡ true → (d == 32) ≡ false
    first d more h = grind (arith, nat_tests)

    others : (here more : Bool) → (here && more) ≡ true → more ≡ true
    others true more h = h
    others false more h = cc

own : IsNumeralModel (λ ds. list_all is_ascii_digit ds ≡ true) (digits_value 10)
own = numerals_by_value _ (search rules)

digits_of : (n : ℕ) → n < 2 ^ 64 → All (λ c. (c == 32) ≡ false) (decimal n)
digits_of n small = no_space (decimal n) (digits_decimal own n small)

three : (kind first second : List ℕ) → All (λ c. (c == 32) ≡ false) kind → All (λ c. (c == 32) ≡ false) first → All (λ c. (c == 32) ≡ false) second
    → words (kind ++ 32 ∷ (first ++ 32 ∷ second)) ≡ kind ∷ first ∷ second ∷ []
three kind first second k f s =
    slice_split_at (λ c. c == 32) kind 32 (first ++ 32 ∷ second) k refl
    ∙ ap (λ ws. kind ∷ ws) (slice_split_at (λ c. c == 32) first 32 second f refl ∙ ap (λ ws. first ∷ ws) (slice_split_none (λ c. c == 32) second s))

two : (kind word : List ℕ) → All (λ c. (c == 32) ≡ false) kind → All (λ c. (c == 32) ≡ false) word → words (kind ++ 32 ∷ word) ≡ kind ∷ word ∷ []
two kind word k w = slice_split_at (λ c. c == 32) kind 32 word k refl ∙ ap (λ ws. kind ∷ ws) (slice_split_none (λ c. c == 32) word w)

module _ (number : WholeNumbers) where
  row : (kind : List ℕ) (a b : ℕ) → a < 2 ^ 64 → b < 2 ^ 64
      → row_of_words kind (decimal a) (decimal b) ≡ cond (bytes_eq kind (codes "line")) (Some (Line a b)) (cond (bytes_eq kind (codes "busy")) (Some (Busy a b)) None)
  unfolding row_of_words
  row kind a b small small' =
      ap (λ found. option_and_then (λ x. option_and_then (λ y. cond (bytes_eq kind (codes "line")) (Some (Line x y)) (cond (bytes_eq kind (codes "busy")) (Some (Busy x y)) None)) (number_spelled (decimal b))) found) (number a small)
      ∙ ap (λ found. option_and_then (λ y. cond (bytes_eq kind (codes "line")) (Some (Line a y)) (cond (bytes_eq kind (codes "busy")) (Some (Busy a y)) None)) found) (number b small')

  pair : (n : ℕ) → n < 2 ^ 64 → row_of_pair (codes "input") (decimal n) ≡ Some (Input n)
  unfolding row_of_pair
  pair n small = ap (λ found. option_and_then (λ w. cond (bytes_eq (codes "input") (codes "input")) (Some (Input w)) None) found) (number n small)

  pub read_back : (row : Row) → RowFits row → row_of (spelling row) ≡ Some row
  unfolding row_of
  read_back (Line a b) fits = ap row_in_words (three (codes "line") (decimal a) (decimal b) (search rules) (digits_of a fits.0) (digits_of b fits.1)) ∙ row (codes "line") a b fits.0 fits.1
  read_back (Input n) fits = ap row_in_words (two (codes "input") (decimal n) (search rules) (digits_of n fits)) ∙ pair n fits
  read_back (Busy a b) fits = ap row_in_words (three (codes "busy") (decimal a) (decimal b) (search rules) (digits_of a fits.0) (digits_of b fits.1)) ∙ row (codes "busy") a b fits.0 fits.1
