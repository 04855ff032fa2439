-- The row of a line, by the words that stand between its spaces: it has two or three words, and none where they are fewer or more.
use Rattle.std.proofs.Common.{◌≡◌, ◌<◌, ◌==◌, List, [], ℕ, ◌∷◌, length, refl, ap, ◌∙◌, arith}
use Rattle.std.specs.List.{slice_split}
use Rattle.std.specs.Borrow.{Bor}
use Rattle.std.specs.Prelude.{Option, Some, None, is_some, true, false}
use Rattle.std.specs.Option.{option_map_or}
use Rattle.schedule_file.specs.Text.{row_of, row_of_words, row_of_pair, row_in_words}
use Rattle.std.proofs.lemmas.List.Splits.{length-slice_split}

-- a text cut at its spaces
abbrev pub words : List ℕ → List (List ℕ)
words line = slice_split (λ c. c == 32) line

pub one_word : (line kind : List ℕ) → words line ≡ kind ∷ [] → row_of line ≡ None
unfolding row_of
one_word line kind cut = ap row_in_words cut

pub two_words : (line kind rest first : List ℕ) → words line ≡ kind ∷ words rest → words rest ≡ first ∷ [] → row_of line ≡ row_of_pair kind first
unfolding row_of
two_words line kind rest first cut cut' = ap row_in_words (cut ∙ ap (λ ws. kind ∷ ws) cut')

pub three_words : (line kind rest first more second : List ℕ) → words line ≡ kind ∷ words rest → words rest ≡ first ∷ words more → words more ≡ second ∷ []
    → row_of line ≡ row_of_words kind first second
unfolding row_of
three_words line kind rest first more second cut cut' cut'' = ap row_in_words (cut ∙ ap (λ ws. kind ∷ ws) cut' ∙ ap (λ ws. kind ∷ first ∷ ws) cut'')

pub four_words : (line kind rest first more second last : List ℕ) → words line ≡ kind ∷ words rest → words rest ≡ first ∷ words more → words more ≡ second ∷ words last
    → row_of line ≡ None
unfolding row_of
four_words line kind rest first more second last cut cut' cut'' =
    ap row_in_words (cut ∙ ap (λ ws. kind ∷ ws) cut' ∙ ap (λ ws. kind ∷ first ∷ ws) cut'')
    ∙ too_many (words last) (omega (arith, length-slice_split (λ c. c == 32) last))
  where
    too_many : (ws : List (List ℕ)) → 0 < length ws → row_in_words (kind ∷ first ∷ second ∷ ws) ≡ None
    too_many [] some = absurd (omega arith)
    too_many (w ∷ ws) some = refl

-- what a cut says, by whether a space was there
pub cut_last : (text part : List ℕ) (rest : Option (Bor (List ℕ))) → words text ≡ part ∷ option_map_or (λ r. words r.now) rest [] → rest ≡ None → words text ≡ part ∷ []
cut_last text part rest cut none = cut ∙ ap (λ o. part ∷ option_map_or (λ (r : Bor (List ℕ)). words r.now) o []) none

pub cut_more : (text part : List ℕ) (rest : Option (Bor (List ℕ))) (more : Bor (List ℕ)) → words text ≡ part ∷ option_map_or (λ r. words r.now) rest [] → rest ≡ Some more → words text ≡ part ∷ words more.now
cut_more text part rest more cut some = cut ∙ ap (λ o. part ∷ option_map_or (λ (r : Bor (List ℕ)). words r.now) o []) some

pub is_none : {X : Type 0} (o : Option X) → is_some o ≡ false → o ≡ None
is_none None h = refl
is_none (Some x) h = cc

pub some_of : {X : Type 0} (o : Option X) → is_some o ≡ true → (x : X) × (o ≡ Some x)
some_of None h = cc
some_of (Some x) h = (x, refl)
