-- A line that is read is its row's spelling: its words, joined by spaces, are the line, and each number's word is its decimal text.
use Rattle.std.proofs.Common.{◌≡◌, ℕ, ◌<◌, ◌^◌, ◌==◌, Bool, true, false, cond, List, [], ◌∷◌, ◌++◌, length, drop, Option, Some, None, refl, sym, ap, ◌∙◌, subst, ◌⊎◌, inl, inr, append-nil, arith}
use Rattle.std.specs.Prelude.{option_and_then, codes, decimal, bytes_eq}
use Rattle.std.specs.List.{join_with_byte}
use Rattle.std.proofs.lemmas.Bool.Decides.{nat_tests}
use Rattle.std.proofs.lemmas.List.{drop_all}
use Rattle.std.proofs.lemmas.List.Splits.{join_with_byte-slice_split}
use Rattle.std.proofs.lemmas.Slice.Eq.{bytes_eq-Decides}
use Rattle.cvm_text.specs.Number.{spelled_number_at, IsSpelledAt}
use Rattle.schedule_file.specs.declared.row.Row.{Row}
use Rattle.schedule_file.specs.declared.row.Row.TheVariants.{Line, Busy, Input}
use Rattle.cvm_text.specs.Lines.{number_spelled}
use Rattle.schedule_file.specs.Text.{row_of_words, row_of_pair, row_in_words, row_of}
use Rattle.schedule_file.specs.Spelling.{spelling, RowFits, IsSpelled}
use Rattle.schedule_file.proofs.WordsOfRows.{words}

-- what `whole_numbers_are_spelled` says
abbrev WholeNumbers : Type 0
WholeNumbers = (word : List ℕ) (n : ℕ) → number_spelled word ≡ Some n → (n < 2 ^ 64) × (word ≡ decimal n)

-- a step that gives something had something before it
had : {X Y : Type 0} (f : X → Option Y) (o : Option X) (y : Y) → option_and_then f o ≡ Some y → (x : X) × (o ≡ Some x) × (f x ≡ Some y)
had f None y e = cc
had f (Some x) y e = (x, refl, e)

-- a choice that gives something was taken
taken : {X : Type 0} (b : Bool) (x : X) (o : Option X) (y : X) → cond b (Some x) o ≡ Some y → ((b ≡ true) × (x ≡ y)) ⊎ (o ≡ Some y)
taken true x o y e = inl (refl, cc)
taken false x o y e = inr e

-- the same, where nothing else is left
taken_alone : {X : Type 0} (b : Bool) (x y : X) → cond b (Some x) None ≡ Some y → (b ≡ true) × (x ≡ y)
taken_alone true x y e = (refl, cc)
taken_alone false x y e = cc

same_bytes : (kind name : List ℕ) → bytes_eq kind name ≡ true → kind ≡ name
same_bytes kind name e = (bytes_eq-Decides kind name).0 e

-- which of two kinds it is that gave a row
kind_of : (kind : List ℕ) (x y row : Row) → cond (bytes_eq kind (codes "line")) (Some x) (cond (bytes_eq kind (codes "busy")) (Some y) None) ≡ Some row
    → ((kind ≡ codes "line") × (x ≡ row)) ⊎ ((kind ≡ codes "busy") × (y ≡ row))
kind_of kind x y row e =
    elim (taken (bytes_eq kind (codes "line")) x (cond (bytes_eq kind (codes "busy")) (Some y) None) row e) [
      | inl line ↦ inl (same_bytes kind (codes "line") line.0, line.1)
      | inr other ↦ (let busy = taken_alone (bytes_eq kind (codes "busy")) y row other in inr (same_bytes kind (codes "busy") busy.0, busy.1))
    ]

module _ (whole : WholeNumbers) where
  pair : (kind word : List ℕ) (row : Row) → row_of_pair kind word ≡ Some row → RowFits row × (kind ++ 32 ∷ word ≡ spelling row)
  unfolding row_of_pair
  pair kind word row e =
      let w = had (λ w. cond (bytes_eq kind (codes "input")) (Some (Input w)) None) (number_spelled word) row e in
      let value = taken_alone _ (Input w.0) row w.2 in
      let number = whole word w.0 w.1 in
      let P : Row → Type 0 = λ r. RowFits r × (kind ++ 32 ∷ word ≡ spelling r) in
      subst P value.1 (number.0, ap (λ k. k ++ 32 ∷ word) (same_bytes kind _ value.0) ∙ ap (λ d. codes "input" ++ 32 ∷ d) number.1)

  three : (kind first second : List ℕ) (row : Row) → row_of_words kind first second ≡ Some row → RowFits row × (kind ++ 32 ∷ (first ++ 32 ∷ second) ≡ spelling row)
  unfolding row_of_words
  three kind first second row e =
      let a = had (λ a. option_and_then (λ b. cond (bytes_eq kind (codes "line")) (Some (Line a b)) (cond (bytes_eq kind (codes "busy")) (Some (Busy a b)) None)) (number_spelled second)) (number_spelled first) row e in
      let b = had (λ b. cond (bytes_eq kind (codes "line")) (Some (Line a.0 b)) (cond (bytes_eq kind (codes "busy")) (Some (Busy a.0 b)) None)) (number_spelled second) row a.2 in
      let m = whole first a.0 a.1 in
      let n = whole second b.0 b.1 in
      let numbers : first ++ 32 ∷ second ≡ decimal a.0 ++ 32 ∷ decimal b.0 = ap (λ d. d ++ 32 ∷ second) m.1 ∙ ap (λ d. decimal a.0 ++ 32 ∷ d) n.1 in
      let text : (name : List ℕ) → kind ≡ name → kind ++ 32 ∷ (first ++ 32 ∷ second) ≡ name ++ 32 ∷ (decimal a.0 ++ 32 ∷ decimal b.0)
      = λ name is. ap (λ k. k ++ 32 ∷ (first ++ 32 ∷ second)) is ∙ ap (λ ns. name ++ 32 ∷ ns) numbers in
      let P : Row → Type 0 = λ r. RowFits r × (kind ++ 32 ∷ (first ++ 32 ∷ second) ≡ spelling r) in
      elim (kind_of kind (Line a.0 b.0) (Busy a.0 b.0) row b.2) [
        | inl line ↦ subst P line.1 ((m.0, n.0), text (codes "line") line.0)
        | inr busy ↦ subst P busy.1 ((m.0, n.0), text (codes "busy") busy.0)
      ]

  joined : (ws : List (List ℕ)) (row : Row) → row_in_words ws ≡ Some row → RowFits row × (join_with_byte 32 ws ≡ spelling row)
  joined [] row e = cc
  joined (kind ∷ []) row e = cc
  joined (kind ∷ word ∷ []) row e = pair kind word row e
  joined (kind ∷ first ∷ second ∷ []) row e = three kind first second row e
  joined (kind ∷ first ∷ second ∷ next ∷ ws) row e = cc

  pub spelled_back : (line : List ℕ) (row : Row) → row_of line ≡ Some row → IsSpelled line row
  unfolding row_of
  spelled_back line row e =
      let is = joined (words line) row e in
      record { numbers = is.0; text = sym (join_with_byte-slice_split 32 line) ∙ is.1 }
