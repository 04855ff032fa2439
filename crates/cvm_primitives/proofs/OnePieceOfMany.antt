-- Pieces: their number, and how a copy goes on by one of them.
use Rattle.std.proofs.Common.{◌≡◌, ◌≢◌, ℕ, zero, suc, ◌+◌, ◌-◌, ◌%◌, ◌<◌, ◌≤◌, ◌⊎◌, Bool, true, false, cond, nat_eq, nat_lt, refl, sym, ap, ap₂, ◌∙◌, ⊎_elim, inl, inr, arith, lt-ltb, le-ltb, eq-eqb, ne_eqb}
use Rattle.std.proofs.lemmas.Bool.{cases_eq, cases_lt, cond-true, cond-false}
use Rattle.cvm_primitives.specs.Copy.{begins_piece, piece_count, least, piece}

pub least_either : (a b : ℕ) → ((least a b ≡ a) × (a < b)) ⊎ ((least a b ≡ b) × (b ≤ a))
least_either a b = ⊎_elim (λ lt. inl (cond-true (nat_lt a b) a b (lt-ltb a b lt), lt)) (λ le. inr (cond-false (nat_lt a b) a b (le-ltb a b le), le)) (cases_lt a b)

-- a piece lies in one page on each side, and is as long as it can be
pub record Fits (x y n l : ℕ) : Type 0 where
  pub some : 0 < l
  pub most : l ≤ n
  pub source : x % 1024 + l ≤ 1024
  pub target : y % 1024 + l ≤ 1024
  pub end : l < n → ((x + l) % 1024 ≡ 0) ⊎ ((y + l) % 1024 ≡ 0)

pub fits : (x y n : ℕ) → 0 < n → Fits x y n (piece x y n)
fits x y n pos = ⊎_elim
    (λ a. ⊎_elim (λ b. by1 _ _ a b) (λ b. by2 _ _ a b) (least_either (1024 - y % 1024) (least (1024 - x % 1024) n)))
    (λ a. ⊎_elim (λ b. by3 _ _ a b) (λ b. by4 _ _ a b) (least_either (1024 - y % 1024) (least (1024 - x % 1024) n)))
    (least_either (1024 - x % 1024) n)
  where
    by1 : (m l : ℕ) → (m ≡ 1024 - x % 1024) × (1024 - x % 1024 < n) → (l ≡ 1024 - y % 1024) × (1024 - y % 1024 < m) → Fits x y n l
    by1 m l a b = let a0 = a.0 in let a1 = a.1 in let b0 = b.0 in let b1 = b.1 in record { some = omega arith; most = omega arith; source = omega arith; target = omega arith; end = λ lt. inr (omega arith) }

    by2 : (m l : ℕ) → (m ≡ 1024 - x % 1024) × (1024 - x % 1024 < n) → (l ≡ m) × (m ≤ 1024 - y % 1024) → Fits x y n l
    by2 m l a b = let a0 = a.0 in let a1 = a.1 in let b0 = b.0 in let b1 = b.1 in record { some = omega arith; most = omega arith; source = omega arith; target = omega arith; end = λ lt. inl (omega arith) }

    by3 : (m l : ℕ) → (m ≡ n) × (n ≤ 1024 - x % 1024) → (l ≡ 1024 - y % 1024) × (1024 - y % 1024 < m) → Fits x y n l
    by3 m l a b = let a0 = a.0 in let a1 = a.1 in let b0 = b.0 in let b1 = b.1 in record { some = omega arith; most = omega arith; source = omega arith; target = omega arith; end = λ lt. inr (omega arith) }

    by4 : (m l : ℕ) → (m ≡ n) × (n ≤ 1024 - x % 1024) → (l ≡ m) × (m ≤ 1024 - y % 1024) → Fits x y n l
    by4 m l a b = let a0 = a.0 in let a1 = a.1 in let b0 = b.0 in let b1 = b.1 in record { some = omega arith; most = omega arith; source = omega arith; target = omega arith; end = λ lt. absurd (omega arith) }

-- where no page begins, no piece does
inner : (x y j : ℕ) → 0 < j → (x + j) % 1024 ≢ 0 → (y + j) % 1024 ≢ 0 → begins_piece x y j ≡ 0
inner x y j pos a b = cond-false (nat_eq j 0) 1 _ (ne_eqb j 0 (omega arith)) ∙ cond-false _ 1 _ (ne_eqb _ 0 a) ∙ cond-false _ 1 0 (ne_eqb _ 0 b)

at_page : (x y j : ℕ) → ((x + j) % 1024 ≡ 0) ⊎ ((y + j) % 1024 ≡ 0) → begins_piece x y j ≡ 1
at_page x y j o = ⊎_elim
    (λ a. same (nat_eq j 0) _ 1 refl (cond-true _ 1 _ (eq-eqb _ 0 a)))
    (λ b. same (nat_eq j 0) _ 1 refl (same (nat_eq ((x + j) % 1024) 0) _ 1 refl (cond-true _ 1 0 (eq-eqb _ 0 b))))
    o
  where
    same : (t : Bool) (u v : ℕ) → v ≡ 1 → u ≡ 1 → cond t v u ≡ 1
    same true u v h k = h
    same false u v h k = k

-- the first piece is one
one_piece : (x y l j : ℕ) → x % 1024 + l ≤ 1024 → y % 1024 + l ≤ 1024 → 0 < j → j ≤ l → piece_count x y j ≡ 1
one_piece x y l zero s t pos le = absurd (omega arith)
one_piece x y l (suc j) s t pos le = ⊎_elim
    (λ e. ap (λ k. piece_count x y k + begins_piece x y k) e)
    (λ ne. let r = one_piece x y l j s t (omega arith) (omega arith) in let b = inner x y j (omega arith) (omega arith) (omega arith) in omega arith)
    (cases_eq j 0)

-- and the others are those of the rest
shifted : (x y l j : ℕ) → ((x + l) % 1024 ≡ 0) ⊎ ((y + l) % 1024 ≡ 0) → 0 < l → begins_piece x y (l + j) ≡ begins_piece (x + l) (y + l) j
shifted x y l zero o pos = let e : l + 0 ≡ l = omega arith in ap (begins_piece x y) e ∙ at_page x y l o
shifted x y l (suc j) o pos =
    let e : x + (l + suc j) ≡ x + l + suc j = omega arith in
    let g : y + (l + suc j) ≡ y + l + suc j = omega arith in
    cond-false (nat_eq (l + suc j) 0) 1 _ (ne_eqb _ 0 (omega arith)) ∙ ap₂ (λ u v. cond (nat_eq (u % 1024) 0) 1 (cond (nat_eq (v % 1024) 0) 1 0)) e g
    ∙ sym (cond-false (nat_eq (suc j) 0) 1 _ (ne_eqb _ 0 (omega arith)))

rest_pieces : (x y l m : ℕ) → (0 < m → ((x + l) % 1024 ≡ 0) ⊎ ((y + l) % 1024 ≡ 0)) → 0 < l → piece_count x y l ≡ 1 → piece_count x y (l + m) ≡ 1 + piece_count (x + l) (y + l) m
rest_pieces x y l zero o pos h = let e : l + 0 ≡ l = omega arith in ap (piece_count x y) e ∙ h
rest_pieces x y l (suc m) o pos h =
    let e : l + suc m ≡ suc (l + m) = omega arith in
    let r = rest_pieces x y l m (λ lt. o (omega arith)) pos h in
    let b = shifted x y l m (o (omega arith)) pos in
    let k : piece_count x y (l + suc m) ≡ piece_count x y (l + m) + begins_piece x y (l + m) = ap (piece_count x y) e in
    omega arith

-- THE NUMBER OF PIECES goes down by one
pub pieces_step : (x y n : ℕ) → 0 < n → piece_count x y n ≡ 1 + piece_count (x + piece x y n) (y + piece x y n) (n - piece x y n)
pieces_step x y n pos = by (piece x y n) (fits x y n pos)
  where
    by : (l : ℕ) → Fits x y n l → piece_count x y n ≡ 1 + piece_count (x + l) (y + l) (n - l)
    by l t =
        let some = t.some in let most = t.most in
        let e : n ≡ l + (n - l) = omega arith in
        ap (piece_count x y) e ∙ rest_pieces x y l (n - l) (λ lt. t.end (omega arith)) t.some (one_piece x y l l t.source t.target t.some (omega arith))
