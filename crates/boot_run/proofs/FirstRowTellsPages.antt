-- The number of pages of a user's machine at the start, which the first row of a trace tells.
-- It serves `first_pages` alone.
use Rattle.std.proofs.Common.{◌≡◌, ℕ, zero, suc, ◌+◌, ◌-◌, ◌/◌, ◌%◌, ◌<◌, ◌≤◌, All, List, [], ◌∷◌, length, map, min, get_or, slice_index_or, refl, sym, ap, ◌∙◌, subst, arith, length-append, Vec, Global}
use Rattle.std.proofs.lemmas.List.{length-map, length-replicate}
use Rattle.std.proofs.lemmas.List.Elements.{All-head, All-tail}
use Rattle.std.specs.Prelude.{replicate}
use Rattle.std.specs.Int.{div_ceil}
use Rattle.layer_map.specs.Map.{next_page}
use Rattle.cvm_model.specs.Primitives.{no_flat, pages_of, user_of}
use Rattle.cvm_model.specs.Cvm.{first_flat}

pages_are : (words : List ℕ) → pages_of (first_flat words) ≡ (length words + 1023) / 1024
pages_are words =
    let e = length-append words (replicate (next_page (length words) - length words) 0) in
    let f = length-replicate {A = ℕ} (next_page (length words) - length words) 0 in
    omega (arith, e, f)

machine_at : (users : List (List ℕ)) (i : ℕ) → i < length users → slice_index_or (map first_flat users) i no_flat ≡ first_flat (slice_index_or users i [])
machine_at [] i lt = absurd (omega (arith, lt))
machine_at (w ∷ ws) zero lt = refl
machine_at (w ∷ ws) (suc i) lt = machine_at ws i (omega (arith, lt))

words_at : (users : List (List ℕ)) (i : ℕ) → i < length users → All (λ w. length w ≤ 1048576) users → length (slice_index_or users i []) ≤ 1048576
words_at [] i lt h = absurd (omega (arith, lt))
words_at (w ∷ ws) zero lt h = All-head (λ w. length w ≤ 1048576) w ws h
words_at (w ∷ ws) (suc i) lt h = words_at ws i (omega (arith, lt)) (All-tail (λ w. length w ≤ 1048576) w ws h)

list_at : (items : List (Vec ℕ Global)) (i : ℕ) (d : Vec ℕ Global) → i < length items → slice_index_or (map (λ w. w.items) items) i [] ≡ (get_or items i d).items
list_at [] i d lt = absurd (omega (arith, lt))
list_at (w ∷ ws) zero d lt = refl
list_at (w ∷ ws) (suc i) d lt = list_at ws i d (omega (arith, lt))

-- the whole pages of the words that are there
pub first_pages : (items : List (Vec ℕ Global)) (u : ℕ) (w : Vec ℕ Global) → 1 ≤ u → u ≤ length items → All (λ words. length words ≤ 1048576) (map (λ w. w.items) items) → w ≡ get_or items (u - 1) w →
    pages_of (user_of (map first_flat (map (λ w. w.items) items)) u) ≡ min (div_ceil (length w.items) 1024) 1024
first_pages items u w some there fits is =
    let many : length (map (λ (w : Vec ℕ Global). w.items) items) ≡ length items = length-map items (λ w. w.items) in
    let inside : u - 1 < length (map (λ (w : Vec ℕ Global). w.items) items) = omega (arith, many, some, there) in
    let same : slice_index_or (map (λ (w : Vec ℕ Global). w.items) items) (u - 1) [] ≡ w.items = list_at items (u - 1) w (omega (arith, some, there)) ∙ ap (λ (v : Vec ℕ Global). v.items) (sym is) in
    let few : length w.items ≤ 1048576 = subst (λ (l : List ℕ). length l ≤ 1048576) same (words_at (map (λ (w : Vec ℕ Global). w.items) items) (u - 1) inside fits) in
    let pages : pages_of (user_of (map first_flat (map (λ (w : Vec ℕ Global). w.items) items)) u) ≡ (length w.items + 1023) / 1024 =
    ap pages_of (machine_at (map (λ (w : Vec ℕ Global). w.items) items) (u - 1) inside) ∙ ap (λ (l : List ℕ). pages_of (first_flat l)) same ∙ pages_are w.items in
    let up : div_ceil (length w.items) 1024 ≡ length w.items / 1024 + min 1 (length w.items % 1024) = refl in
    omega (arith, pages, few, up)
