-- Steps of the loops: a piece is put, and the rest is to come. And that a text has one answer.
use Rattle.std.proofs.Common.{◌≡◌, ℕ, suc, ◌+◌, ◌-◌, ◌<◌, ◌++◌, ◌∷◌, [], List, Ok, Result, map, replicate, sym, ap, ◌∙◌, append_assoc, arith}
use Rattle.std.specs.List.{range_with_len}
use Rattle.std.proofs.lemmas.List.{map-append}
use Rattle.schedule_file.specs.declared.row.Row.{Row}
use Rattle.sample_maker.specs.Sample.{schedule_row_text, schedule_rows_text}

-- a row is put, and those of the further numbers are to come
pub next_row : (f : ℕ → Row) (text new all : List ℕ) (a b : ℕ) → a < b → new ≡ text ++ schedule_row_text (f a) → text ++ schedule_rows_text (map f (range_with_len a (b - a))) ≡ all → new ++ schedule_rows_text (map f (range_with_len (a + 1) (b - (a + 1)))) ≡ all
next_row f text new all a b less put kept =
    let rest : List ℕ = schedule_rows_text (map f (range_with_len (a + 1) (b - (a + 1)))) in
    let size : b - a ≡ suc (b - (a + 1)) = omega arith in
    let first : schedule_rows_text (map f (range_with_len a (b - a))) ≡ schedule_row_text (f a) ++ rest = ap (λ n. schedule_rows_text (map f (range_with_len a n))) size in
    ap (λ t. t ++ rest) put ∙ append_assoc text (schedule_row_text (f a)) rest ∙ ap (λ r. text ++ r) (sym first) ∙ kept

-- a user without words is put, and further ones are to come
pub next_user : {V : Type 0} (view : V → List ℕ) (users new : List V) (user : V) (all : List (List ℕ)) (a b : ℕ) → a < b → new ≡ users ++ user ∷ [] → view user ≡ [] → map view users ++ replicate (b - a) [] ≡ all → map view new ++ replicate (b - (a + 1)) [] ≡ all
next_user view users new user all a b less put none kept =
    let rest : List (List ℕ) = replicate (b - (a + 1)) [] in
    let size : b - a ≡ suc (b - (a + 1)) = omega arith in
    let first : replicate (b - a) [] ≡ [] ∷ rest = ap (λ n. replicate n []) size in
    ap (λ l. map view l ++ rest) put ∙ ap (λ l. l ++ rest) (map-append view users (user ∷ [])) ∙ append_assoc (map view users) (view user ∷ []) rest
    ∙ ap (λ w. map view users ++ (w ∷ rest)) none ∙ ap (λ l. map view users ++ l) (sym first) ∙ kept

-- what is answered of a text is one thing
pub one_answer : {E : Type 0} (r : Result (List ℕ) E) (xs ys : List ℕ) → r ≡ Ok xs → r ≡ Ok ys → xs ≡ ys
one_answer r xs ys first second = cc
