-- Fronts of digits: how long one is, and what it writes.
use Rattle.std.proofs.Common.{◌≡◌, ◌<◌, ◌≤◌, ◌+◌, ◌-◌, ◌*◌, ◌^◌, ◌&&◌, ℕ, Bool, true, false, cond, zero, suc, List, [], ◌∷◌, length, take, get_or, Some, None, refl, ap, sym, ◌∙◌, true≢false, arith}
use Rattle.std.specs.List.{list_all, prefix_len}
use Rattle.std.specs.Char.{is_ascii_digit, digit_value}
use Rattle.std.specs.Str.Parse.{digits_value}
use Rattle.cvm_text.specs.Number.{below_limit, value_of}
use Rattle.std.proofs.lemmas.Bool.Decides.{nat_tests}
use Rattle.std.proofs.lemmas.Int.Digits.{digits_value_more}
use Rattle.std.proofs.lemmas.Str.Parse.{digits_value-take-le}

pub both : (a b : Bool) → (a && b) ≡ true → (a ≡ true) × (b ≡ true)
both true b h = (refl, h)
both false b h = (h, absurd (true≢false (sym h)))

-- a front of passing elements before one that doesn't pass
pub prefix_len_at : (p : ℕ → Bool) (xs : List ℕ) (i : ℕ) → i < length xs → list_all p (take i xs) ≡ true → p (get_or xs i 0) ≡ false → i ≡ prefix_len p xs
prefix_len_at p [] i inside all stops = absurd (omega arith)
prefix_len_at p (x ∷ xs) zero inside all stops = sym (ap (λ b. cond b (1 + prefix_len p xs) 0) stops)
prefix_len_at p (x ∷ xs) (suc i) inside all stops =
    let b = both (p x) (list_all p (take i xs)) all in
    let more : i ≡ prefix_len p xs = prefix_len_at p xs i (omega arith) b.1 stops in
    omega (arith, more, ap (λ b. cond b (1 + prefix_len p xs) 0) b.0)

-- all elements pass
pub prefix_len_all : (p : ℕ → Bool) (xs : List ℕ) → list_all p xs ≡ true → length xs ≡ prefix_len p xs
prefix_len_all p [] all = refl
prefix_len_all p (x ∷ xs) all =
    let b = both (p x) (list_all p xs) all in
    omega (arith, prefix_len_all p xs b.1, ap (λ b. cond b (1 + prefix_len p xs) 0) b.0)

pub all_at : {X : Type 0} (p : X → Bool) (xs : List X) (i : ℕ) (d : X) → list_all p xs ≡ true → i < length xs → p (get_or xs i d) ≡ true
all_at p [] i d h inside = absurd (omega arith)
all_at p (x ∷ xs) zero d h inside = (both _ _ h).0
all_at p (x ∷ xs) (suc i) d h inside = all_at p xs i d (both _ _ h).1 (omega arith)

pub digit_is : (c n : ℕ) → is_ascii_digit c ≡ true → n ≡ c - 48 → digit_value c ≡ n
digit_is c n h e = grind (arith, nat_tests)

-- one more digit, and the numbers of the fronts never fall
pub next_value : (ds : List ℕ) (i n : ℕ) → list_all is_ascii_digit ds ≡ true → i < length ds → n ≡ digits_value 10 (take i ds)
    → (digits_value 10 (take (i + 1) ds) ≡ n * 10 + (get_or ds i 0 - 48)) × (digits_value 10 (take (i + 1) ds) ≤ digits_value 10 ds)
next_value ds i n digits inside e =
    let more = digits_value_more 10 ds i inside in
    let here = digit_is (get_or ds i 0) (get_or ds i 0 - 48) (all_at is_ascii_digit ds i 0 digits inside) refl in
    (omega (arith, more, here, e), digits_value-take-le 10 ds (i + 1) (omega arith))

pub limit_none : (m n : ℕ) → below_limit m ≡ None → m ≤ n → below_limit n ≡ None
limit_none m n e le = grind (arith, nat_tests)

pub limit_some : (m v : ℕ) → below_limit m ≡ Some v → v ≡ m
limit_some m v e = grind (arith, nat_tests)

pub limit_is_small : (m v : ℕ) → below_limit m ≡ Some v → v < 2 ^ 64
limit_is_small m v e = grind (arith, nat_tests)

pub limit_below : (n : ℕ) → n < 2 ^ 64 → Some n ≡ below_limit n
limit_below n h = grind (arith, nat_tests)

-- what the loop over the digits learns from one more digit
pub step_none : (ds : List ℕ) (i n : ℕ) → list_all is_ascii_digit ds ≡ true → i < length ds → n ≡ digits_value 10 (take i ds)
    → below_limit (n * 10 + (get_or ds i 0 - 48)) ≡ None → None ≡ value_of ds
step_none ds i n digits inside e none =
    let next = next_value ds i n digits inside e in
    sym (limit_none (n * 10 + (get_or ds i 0 - 48)) (digits_value 10 ds) none (omega (arith, next.0, next.1)))

pub step_some : (ds : List ℕ) (i n v : ℕ) → list_all is_ascii_digit ds ≡ true → i < length ds → n ≡ digits_value 10 (take i ds)
    → below_limit (n * 10 + (get_or ds i 0 - 48)) ≡ Some v → v ≡ digits_value 10 (take (i + 1) ds)
step_some ds i n v digits inside e some =
    let next = next_value ds i n digits inside e in
    limit_some _ v some ∙ sym next.0

-- what the loop over the digits has at its end
pub small_value : (ds : List ℕ) (v : ℕ) → v ≡ digits_value 10 ds → v < 2 ^ 64 → Some v ≡ value_of ds
small_value ds v is small = limit_below v small ∙ ap below_limit is
