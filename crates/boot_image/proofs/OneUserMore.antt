-- The steps of the loops over the users: what one more number, or one more user's words, makes of what is left to read.
use Rattle.std.proofs.Common.{◌≡◌, ℕ, suc, ◌+◌, ◌-◌, ◌*◌, ◌<◌, ◌≤◌, ltb, All, List, [], ◌∷◌, ◌++◌, length, get_or, take, drop, map, Result, Ok, Err, inl, inr, refl, sym, ap, subst, ◌∙◌, append_assoc, arith}
use Rattle.std.specs.List.{flat_map}
use Rattle.std.proofs.lemmas.Grind.{flat_map-append}
use Rattle.cvm_words.specs.Bytes.{word, words_of_bytes}
use Rattle.std.proofs.lemmas.Bool.{lt-ltb, le-ltb, cond-true, cond-false, cases_lt}
use Rattle.std.proofs.lemmas.List.{at_drop_more, at_drop_all, take_more, append-nil, length-map, get_or-map}
use Rattle.boot_image.specs.declared.fault.ImageFault.{ImageFault}
use Rattle.boot_image.specs.declared.fault.ImageFault.TheVariants.{Truncated, Trailing}
use Rattle.cvm_words.specs.Reading.{◌>>=◌}
use Rattle.boot_image.specs.Reading.{number_at, counts_at, part_at, users_at, users_of}

-- ---- the numbers of words

pub counts_suc : (first : List ℕ) (most users k : ℕ) (bytes : List ℕ) (r : Result (ℕ × List ℕ) ImageFault) → length first ≡ k → number_at (9 + k) 0 most bytes ≡ r → counts_at first most (suc users) bytes ≡ (r >>= λ c. counts_at (first ++ c.0 ∷ []) most users c.1)
unfolding counts_at
counts_suc first most users k bytes r size is =
    ap (λ (n : ℕ). number_at (9 + n) 0 most bytes >>= λ c. counts_at (first ++ c.0 ∷ []) most users c.1) size
    ∙ ap (λ (q : Result (ℕ × List ℕ) ImageFault). q >>= λ c. counts_at (first ++ c.0 ∷ []) most users c.1) is

less_one : (users k : ℕ) → k < users → users - k ≡ suc (users - (k + 1))
less_one users k lt = omega (arith, lt)

pub counts_more : (first : List ℕ) (most users k : ℕ) (bytes : List ℕ) (r : Result (ℕ × List ℕ) ImageFault) → k < users → length first ≡ k → number_at (9 + k) 0 most bytes ≡ r → counts_at first most (users - k) bytes ≡ (r >>= λ c. counts_at (first ++ c.0 ∷ []) most (users - (k + 1)) c.1)
counts_more first most users k bytes r lt size is =
    ap (λ (n : ℕ). counts_at first most n bytes) (less_one users k lt) ∙ counts_suc first most (users - (k + 1)) k bytes r size is

pub counts_end : (first : List ℕ) (most users k : ℕ) (bytes : List ℕ) → users ≤ k → counts_at first most (users - k) bytes ≡ Ok (first, bytes)
unfolding counts_at
counts_end first most users k bytes le =
    let none : users - k ≡ 0 = omega (arith, le) in
    ap (λ (n : ℕ). counts_at first most n bytes) none

-- ---- a part

pub part_short : (at size : ℕ) (bytes : List ℕ) → length bytes < size → part_at at size bytes ≡ Err (Truncated at)
unfolding part_at
part_short at size bytes short = cond-true (ltb (length bytes) size) _ _ (lt-ltb (length bytes) size short)

pub part_whole : (at size : ℕ) (bytes : List ℕ) → size ≤ length bytes → part_at at size bytes ≡ Ok (take size bytes, drop size bytes)
unfolding part_at
part_whole at size bytes long = cond-false (ltb (length bytes) size) _ _ (le-ltb (length bytes) size long)

-- ---- the words of the users

pub users_first : (at n : ℕ) (counts bytes : List ℕ) (r : Result (List ℕ × List ℕ) ImageFault) → part_at at (4 * n) bytes ≡ r → users_at at (n ∷ counts) bytes ≡ (r >>= λ p. users_at (at + 4 * n) counts p.1)
unfolding users_at
users_first at n counts bytes r is = ap (λ (q : Result (List ℕ × List ℕ) ImageFault). q >>= λ p. users_at (at + 4 * n) counts p.1) is

pub users_more : (at k n : ℕ) (counts bytes : List ℕ) (r : Result (List ℕ × List ℕ) ImageFault) → k < length counts → n ≡ get_or counts k 0 → part_at at (4 * n) bytes ≡ r → users_at at (drop k counts) bytes ≡ (r >>= λ p. users_at (at + 4 * n) (drop (k + 1) counts) p.1)
users_more at k n counts bytes r lt is part =
    at_drop_more (λ cs. users_at at cs bytes) counts k 0 lt ∙ ap (λ (m : ℕ). users_at at (m ∷ drop (k + 1) counts) bytes) (sym is)
    ∙ users_first at n (drop (k + 1) counts) bytes r part

pub users_end : (at k : ℕ) (counts bytes : List ℕ) → length counts ≤ k → length bytes ≡ 0 → users_at at (drop k counts) bytes ≡ Ok tt
unfolding users_at
users_end at k counts bytes le none = at_drop_all (λ cs. users_at at cs bytes) counts k le ∙ cond-false (ltb 0 (length bytes)) _ _ (le-ltb 0 (length bytes) (omega (arith, none)))

pub users_go_on : (at k : ℕ) (counts bytes : List ℕ) → length counts ≤ k → 0 < length bytes → users_at at (drop k counts) bytes ≡ Err (Trailing at)
unfolding users_at
users_go_on at k counts bytes le more = at_drop_all (λ cs. users_at at cs bytes) counts k le ∙ cond-true (ltb 0 (length bytes)) _ _ (lt-ltb 0 (length bytes) more)

-- where all users are whole, the first one is, and the others are
pub record FirstWhole (at n : ℕ) (counts bytes : List ℕ) : Type 0 where
  pub long : 4 * n ≤ length bytes
  pub others : users_at (at + 4 * n) counts (drop (4 * n) bytes) ≡ Ok tt

pub first_whole : (at n : ℕ) (counts bytes : List ℕ) → users_at at (n ∷ counts) bytes ≡ Ok tt → FirstWhole at n counts bytes
first_whole at n counts bytes is =
    elim (cases_lt (length bytes) (4 * n)) [
      | inl short ↦ let e = sym is ∙ users_first at n counts bytes (Err (Truncated at)) (part_short at (4 * n) bytes short) in absurd cc
      | inr long ↦ record { long = long; others = sym (users_first at n counts bytes (Ok (take (4 * n) bytes, drop (4 * n) bytes)) (part_whole at (4 * n) bytes long)) ∙ is }
    ]

pub next_whole : (at k : ℕ) (counts bytes : List ℕ) → k < length counts → users_at at (drop k counts) bytes ≡ Ok tt → FirstWhole at (get_or counts k 0) (drop (k + 1) counts) bytes
next_whole at k counts bytes lt is = first_whole at (get_or counts k 0) (drop (k + 1) counts) bytes (sym (at_drop_more (λ cs. users_at at cs bytes) counts k 0 lt) ∙ is)

pub users_of_more : (k : ℕ) (counts bytes : List ℕ) → k < length counts → users_of (drop k counts) bytes ≡ words_of_bytes (take (4 * get_or counts k 0) bytes) ∷ users_of (drop (k + 1) counts) (drop (4 * get_or counts k 0) bytes)
unfolding users_of
users_of_more k counts bytes lt = at_drop_more (λ cs. users_of cs bytes) counts k 0 lt

pub users_of_end : (k : ℕ) (counts bytes : List ℕ) → length counts ≤ k → users_of (drop k counts) bytes ≡ []
unfolding users_of
users_of_end k counts bytes le = at_drop_all (λ cs. users_of cs bytes) counts k le

pub push_map : {V : Type 0} (f : V → List ℕ) (vs : List V) (v : V) (xs : List (List ℕ)) → map f (vs ++ v ∷ []) ++ xs ≡ map f vs ++ (f v ∷ xs)
push_map f [] v xs = refl
push_map f (w ∷ vs) v xs = ap (λ (l : List (List ℕ)). f w ∷ l) (push_map f vs v xs)

map_push : {V : Type 0} (f : V → List ℕ) (vs : List V) (v : V) → map f (vs ++ v ∷ []) ≡ map f vs ++ f v ∷ []
map_push f [] v = refl
map_push f (w ∷ vs) v = ap (λ (l : List (List ℕ)). f w ∷ l) (map_push f vs v)

pub take_map : {V : Type 0} (f : V → List ℕ) (vs : List V) (k : ℕ) (d : V) → k < length vs → map f (take (k + 1) vs) ≡ map f (take k vs) ++ f (get_or vs k d) ∷ []
take_map f vs k d lt = ap (map f) (take_more vs k d lt) ∙ map_push f (take k vs) (get_or vs k d)

-- the words of one more user are written
pub push_flat : (before bytes now xs : List ℕ) (done : List (List ℕ)) → now ≡ bytes ++ flat_map word xs → bytes ≡ before ++ flat_map (flat_map word) done → now ≡ before ++ flat_map (flat_map word) (done ++ xs ∷ [])
push_flat before bytes now xs done is was =
    is ∙ ap (λ (l : List ℕ). l ++ flat_map word xs) was ∙ append_assoc before (flat_map (flat_map word) done) (flat_map word xs)
    ∙ ap (λ (l : List ℕ). before ++ (flat_map (flat_map word) done ++ l)) (sym (append-nil (flat_map word xs)))
    ∙ ap (λ (l : List ℕ). before ++ l) (sym (flat_map-append (flat_map word) done (xs ∷ [])))

-- what holds of all that is seen of a list holds of what is seen of an element
pub all_at : {V : Type 0} (P : List ℕ → Type 0) (f : V → List ℕ) (xs : List V) (i : ℕ) (d : V) → All P (map f xs) → i < length xs → P (f (get_or xs i d))
all_at P f xs i d h below =
    let len : length (map f xs) ≡ length xs = length-map xs f in
    subst P (get_or-map f xs i d (f d) below) (h i (f d) (omega arith))
