-- What an edit of one entry, one frame or one sector does.
use Rattle.std.proofs.Common.{◌≡◌, ◌≢◌, ℕ, zero, suc, ◌+◌, ◌*◌, ◌/◌, ◌%◌, ◌<◌, ◌≤◌, ◌⊎◌, refl, sym, ap, ap₂, ◌∙◌, ⊎_elim, inl, inr, arith, eq-eqb, ne_eqb}
use Rattle.std.proofs.lemmas.Bool.{cases_eq, cond-true, cond-false}
use Rattle.page_model.specs.Paging.{Valid, MapsTo, naming, counted_entries, Paged, shown_word}

pub hits : (e f : ℕ) → MapsTo e f → naming e f ≡ 1
hits e f h = cond-true _ 1 0 (eq-eqb _ _ h)

pub misses : (e f : ℕ) → (MapsTo e f → ⊥) → naming e f ≡ 0
misses e f h = cond-false _ 1 0 (ne_eqb _ _ h)

pub named_by : (e f : ℕ) → (MapsTo e f) ⊎ (MapsTo e f → ⊥)
named_by e f = cases_eq (e / 2048) (2 * f + 1)

-- what a valid entry names, and what any shows
pub names_own : (e : ℕ) → Valid e → MapsTo e (e / 4096)
names_own e h = omega arith

pub names_one : (e f : ℕ) → MapsTo e f → f ≡ e / 4096
names_one e f h = omega arith

pub shown_valid : (a : Paged) (q f i : ℕ) → MapsTo (a.entry q) f → shown_word a q i ≡ a.frame f i
shown_valid a q f i h =
    let v : a.entry q / 2048 % 2 ≡ 1 = omega arith in
    let e : a.entry q / 4096 ≡ f = omega arith in
    cond-true _ _ (a.sector q i) (eq-eqb _ _ v) ∙ ap (λ g. a.frame g i) e

pub shown_gone : (a : Paged) (q i : ℕ) → a.entry q / 2048 % 2 ≡ 0 → shown_word a q i ≡ a.sector q i
shown_gone a q i h = let ne : a.entry q / 2048 % 2 ≢ 1 = omega arith in cond-false _ (a.frame (a.entry q / 4096) i) (a.sector q i) (ne_eqb _ _ ne)

pub validity : (e : ℕ) → (MapsTo e (e / 4096)) ⊎ (e / 2048 % 2 ≡ 0)
validity e = ⊎_elim (λ h. inl (omega arith)) (λ h. inr (omega arith)) (cases_eq (e / 2048 % 2) 1)

-- counting
pub counted_same : (e e' : ℕ → ℕ) (f n : ℕ) → ((x : ℕ) → x < n → e' x ≡ e x) → counted_entries e' f n ≡ counted_entries e f n
counted_same e e' f zero h = refl
counted_same e e' f (suc n) h = ap₂ (λ u v. u + v) (counted_same e e' f n (λ x lt. h x (omega arith))) (ap (λ v. naming v f) (h n (omega arith)))

-- the one law of an edit: what the entry counted before is gone, and what it counts now is there
pub counted_edit : (e e' : ℕ → ℕ) (f q n : ℕ) → q < n → ((x : ℕ) → x < n → x ≢ q → e' x ≡ e x) → counted_entries e' f n + naming (e q) f ≡ counted_entries e f n + naming (e' q) f
counted_edit e e' f q zero lt h = absurd (omega arith)
counted_edit e e' f q (suc n) lt h = ⊎_elim
    (λ eq. let same = counted_same e e' f n (λ x l. h x (omega arith) (omega arith)) in
    let a : naming (e q) f ≡ naming (e n) f = ap (λ x. naming (e x) f) eq in
    let b : naming (e' q) f ≡ naming (e' n) f = ap (λ x. naming (e' x) f) eq in
    omega arith)
    (λ ne. let r = counted_edit e e' f q n (omega arith) (λ x l. h x (omega arith)) in
    let a : naming (e' n) f ≡ naming (e n) f = ap (λ v. naming v f) (h n (omega arith) (λ eq. ne (sym eq))) in
    omega arith)
    (cases_eq q n)

pub counted_one : (e : ℕ → ℕ) (f q n : ℕ) → q < n → MapsTo (e q) f → 1 ≤ counted_entries e f n
counted_one e f q zero lt h = absurd (omega arith)
counted_one e f q (suc n) lt h = ⊎_elim
    (λ eq. let a : naming (e n) f ≡ 1 = ap (λ x. naming (e x) f) (sym eq) ∙ hits (e q) f h in omega arith)
    (λ ne. let r = counted_one e f q n (omega arith) h in omega arith)
    (cases_eq q n)

pub counted_two : (e : ℕ → ℕ) (f q r n : ℕ) → q < n → r < n → q ≢ r → MapsTo (e q) f → MapsTo (e r) f → 2 ≤ counted_entries e f n
counted_two e f q r zero a b ne h k = absurd (omega arith)
counted_two e f q r (suc n) a b ne h k = ⊎_elim
    (λ eq. let x : naming (e n) f ≡ 1 = ap (λ x. naming (e x) f) (sym eq) ∙ hits (e q) f h in let y = counted_one e f r n (omega arith) k in omega arith)
    (λ n1. ⊎_elim
    (λ eq. let x : naming (e n) f ≡ 1 = ap (λ x. naming (e x) f) (sym eq) ∙ hits (e r) f k in let y = counted_one e f q n (omega arith) h in omega arith)
    (λ n2. let y = counted_two e f q r n (omega arith) (omega arith) ne h k in omega arith)
    (cases_eq r n))
    (cases_eq q n)

-- no entry names it
pub counted_none : (e : ℕ → ℕ) (f n : ℕ) → ((x : ℕ) → x < n → MapsTo (e x) f → ⊥) → counted_entries e f n ≡ 0
counted_none e f zero h = refl
counted_none e f (suc n) h =
    let r = counted_none e f n (λ x l. h x (omega arith)) in
    let m = misses (e n) f (h n (omega arith)) in omega arith

pub none_counted : (e : ℕ → ℕ) (f q n : ℕ) → q < n → counted_entries e f n ≡ 0 → MapsTo (e q) f → ⊥
none_counted e f q n lt z h = let o = counted_one e f q n lt h in omega arith

pub alone : (e : ℕ → ℕ) (f q r n : ℕ) → q < n → r < n → counted_entries e f n ≤ 1 → MapsTo (e q) f → MapsTo (e r) f → r ≡ q
alone e f q r n a b le h k = ⊎_elim (λ eq. eq) (λ ne. let t = counted_two e f r q n b a ne k h in absurd (omega arith)) (cases_eq r q)
