-- Calls in memory of which none that is to come fails, and names under which a file stays.
use Rattle.std.proofs.Common.{◌≡◌, Bool, true, false, ℕ, ◌<◌, ◌≤◌, List, [], ◌∷◌, refl, sym, ◌∙◌, arith}
use Rattle.std.specs.Prelude.{◌&&◌, ◌==◌, nat_lt}
use Rattle.std.specs.List.{list_any, list_all}
use Rattle.std.proofs.lemmas.Bool.Decides.{nat_tests}

both_are : (a b : Bool) → (a && b) ≡ true → (a ≡ true) × (b ≡ true)
both_are true b e = (refl, e)
both_are false b e = absurd (let t : false ≡ true = e in cc)

all_are : (a b : Bool) → a ≡ true → b ≡ true → (a && b) ≡ true
all_are a b e f = rw (e, f) refl

-- what is given stays so, as the later calls stay; and where a call fails, none was
pub still : (was is before now : Bool) → is ≡ was → (before ≡ true → now ≡ true) → (was && before) ≡ true → (is && now) ≡ true
still was is before now same kept h = let w = both_are was before h in all_are is now (same ∙ w.0) (kept w.1)

pub not_sure : (a b fails : Bool) → (b ≡ true → fails ≡ false) → fails ≡ true → (a && b) ≡ false
not_sure false b fails s e = refl
not_sure true false fails s e = refl
not_sure true true fails s e = absurd (let t : true ≡ false = sym e ∙ s refl in cc)

other : (n next : ℕ) → nat_lt n next ≡ true → (n == next) ≡ false
other n next h = grind (arith, nat_tests)

below : (n a b : ℕ) → a ≤ b → nat_lt n a ≡ true → nat_lt n b ≡ true
below n a b le h = grind (arith, nat_tests)

-- where all numbers lie before the next call's, that one is none of them, and the one after it neither
pub unlisted : (next : ℕ) (failing : List ℕ) → list_all (λ n. nat_lt n next) failing ≡ true → list_any (λ n. n == next) failing ≡ false
unlisted next [] h = refl
unlisted next (n ∷ ns) h =
    let w = both_are (nat_lt n next) (list_all (λ m. nat_lt m next) ns) h in
    rw (other n next w.0) (unlisted next ns w.1)

pub spent_later : (a b : ℕ) (failing : List ℕ) → a ≤ b → list_all (λ n. nat_lt n a) failing ≡ true → list_all (λ n. nat_lt n b) failing ≡ true
spent_later a b [] le h = refl
spent_later a b (n ∷ ns) le h =
    let w = both_are (nat_lt n a) (list_all (λ m. nat_lt m a) ns) h in
    all_are (nat_lt n b) (list_all (λ m. nat_lt m b) ns) (below n a b le w.0) (spent_later a b ns le w.1)
