-- The users' pages at the start: which numbers are pages, and what words they have.
use Rattle.std.proofs.Common.{◌≡◌, ℕ, zero, suc, ◌+◌, ◌*◌, ◌/◌, ◌%◌, ◌-◌, ◌<◌, ◌≤◌, true, false, List, [], ◌∷◌, ◌++◌, map, length, get_or, replicate, refl, sym, ap, ◌∙◌, ⊎_elim, arith, length-append, lt-ltb, le-ltb}
use Rattle.std.specs.Prelude.{nat_lt, Result, Ok, Err, OnOk}
use Rattle.std.proofs.Math.Nat.{div-lt_iff_lt-mul}
use Rattle.std.proofs.lemmas.Bool.{cases_lt, cond-true}
use Rattle.std.proofs.lemmas.List.{get_or-map, length-replicate, get_or_past, length-map}
use Rattle.layer_map.specs.Map.{next_page}
use Rattle.mips_table.specs.Flat.{Flat}
use Rattle.cvm_model.specs.Primitives.{no_flat, user_of, pages_of}
use Rattle.cvm_model.specs.Cvm.{first_flat}
use Rattle.boot_run.specs.LoadedPages.{disk_pages, first_pages}

zeros : (n j : ℕ) → ◌≡◌ {A = ℕ} (get_or (replicate n 0) j 0) 0
zeros zero j = refl
zeros (suc n) zero = refl
zeros (suc n) (suc j) = zeros n j

-- zeros past the end change no word
padded : (w : List ℕ) (n j : ℕ) → get_or (w ++ replicate n 0) j 0 ≡ get_or w j 0
padded [] n j = zeros n j
padded (a ∷ w) n zero = refl
padded (a ∷ w) n (suc j) = padded w n j

pages_of_first : (w : List ℕ) → pages_of (first_flat w) ≡ (length w + 1023) / 1024
pages_of_first w =
    let a = length-append w (replicate (next_page (length w) - length w) 0) in
    let b : length {A = ℕ} (replicate (next_page (length w) - length w) 0) ≡ next_page (length w) - length w = length-replicate _ 0 in
    omega (arith, a, b)

module _ (per : ℕ) (users : List (List ℕ)) (q : ℕ) (lt : q / per < length users) where
  -- the words of the page's user
  abbrev pub its_words : List ℕ
  its_words = get_or users (q / per) []

  its_user : user_of (map first_flat users) (q / per + 1) ≡ first_flat its_words
  its_user = let e : q / per + 1 - 1 ≡ q / per = omega arith in ap (λ k. get_or (map first_flat users) k no_flat) e ∙ get_or-map first_flat users (q / per) [] no_flat lt

  live_if : 1024 * (q % per) < length its_words → (first_pages per users).live q ≡ true
  live_if h =
      ap (λ f. nat_lt (q % per) (pages_of f)) its_user
      ∙ lt-ltb (q % per) (pages_of (first_flat its_words)) (let e = pages_of_first its_words in omega (arith, e, h))

  dead_if : length its_words ≤ 1024 * (q % per) → (first_pages per users).live q ≡ false
  dead_if h =
      ap (λ f. nat_lt (q % per) (pages_of f)) its_user
      ∙ le-ltb (q % per) (pages_of (first_flat its_words)) (let e = pages_of_first its_words in omega (arith, e, h))

  pub live_is : (first_pages per users).live q ≡ nat_lt (1024 * (q % per)) (length its_words)
  live_is = ⊎_elim
      (λ (h : 1024 * (q % per) < length its_words). live_if h ∙ sym (lt-ltb (1024 * (q % per)) (length its_words) h))
      (λ (h : length its_words ≤ 1024 * (q % per)). dead_if h ∙ sym (le-ltb (1024 * (q % per)) (length its_words) h))
      (cases_lt (1024 * (q % per)) (length its_words))

  pub word_is : (i : ℕ) → (first_pages per users).word q i ≡ get_or its_words (1024 * (q % per) + i) 0
  word_is i = ap (λ (f : Flat). get_or f.words (1024 * (q % per) + i) 0) its_user ∙ padded its_words _ _

-- a number past all users is no page
pub dead_past : (per : ℕ) (users : List (List ℕ)) (q : ℕ) → length users ≤ q / per → (first_pages per users).live q ≡ false
dead_past per users q h =
    let long : length (map first_flat users) ≡ length users = length-map users first_flat in
    let none : user_of (map first_flat users) (q / per + 1) ≡ no_flat = get_or_past (map first_flat users) (q / per + 1 - 1) no_flat (omega (arith, long, h)) in
    ap (λ f. nat_lt (q % per) (pages_of f)) none ∙ le-ltb (q % per) 0 (omega arith)

-- a number below all users' pages is one of these, whatever stands behind them
module _ (per : ℕ) (users : List (List ℕ)) (behind : List ℕ) (q : ℕ) (lt : q < length users * per) where
  pub live_below : (disk_pages per users behind).live q ≡ (first_pages per users).live q
  live_below = cond-true (nat_lt q (length users * per)) _ _ (lt-ltb q (length users * per) lt)

  pub word_below : (i : ℕ) → (disk_pages per users behind).word q i ≡ (first_pages per users).word q i
  word_below i = cond-true (nat_lt q (length users * per)) _ _ (lt-ltb q (length users * per) lt)

pub on_ok : {T E P Q : Type 0} (r : Result T E) → (P → Q) → OnOk r P → OnOk r Q
on_ok (Ok v) f h = f h
on_ok (Err e) f h = tt

module _ {A : Type 0} (f : A → List ℕ) (users : List A) where
  -- the user of a number that is below all pages
  pub user_there : (per q : ℕ) → 1 ≤ per → q < length users * per → (q / per < length users) × (q / per < length (map f users))
  user_there per q some lt =
      let h : q / per < length users = (div-lt_iff_lt-mul {k = per} {x = q} {y = length users} some).1 lt in
      let e : length (map f users) ≡ length users = length-map users f in
      (h, omega (arith, e, h))

  -- the words of a user
  pub its_list : (i : ℕ) (d : A) → i < length users → get_or (map f users) i [] ≡ f (get_or users i d)
  its_list i d lt = get_or-map f users i d [] lt
