-- A user step meets at most two handled faults.
use Rattle.std.proofs.Common.{◌≡◌, ◌≢◌, ℕ, ◌/◌, ◌%◌, ◌<◌, ◌≤◌, Bool, false, sym, ap, ◌∙◌, subst, ⊎_elim, arith}
use Rattle.std.proofs.lemmas.Bool.{cases_eq}
use Rattle.std.proofs.lemmas.Bool.Decides.{nat_tests}
use Rattle.page_model.specs.Paging.{PageLayout, IsUserFrame, next_frame, Valid, Paged, IsAccessible}
use Rattle.page_model.specs.Faults.{ByFill, Handled, UserStep, AsksForPage, ByFetch, ByData, FilledLast}

moved : (l : PageLayout) (f : ℕ) → 2 ≤ l.frames → IsUserFrame l f → next_frame l f ≢ f
moved l f two u = grind (arith, nat_tests)

pub passes_on : (a b : Paged) (q : ℕ) (store : Bool) → b.entry q ≡ a.entry q → IsAccessible a q store → IsAccessible b q store
passes_on a b q store e p = record { valid = ap (λ u. u / 2048 % 2) e ∙ p.valid; unprotected = λ s h. p.unprotected s (ap (λ u. u / 1024 % 2) (sym e) ∙ h) }

-- after a fill
pub filled_last : (l : PageLayout) (q : ℕ) (a b : Paged) → 2 ≤ l.frames → IsUserFrame l a.hand → ByFill l q a b → FilledLast b q
filled_last l q a b two u h = record {
  passes = λ store. record { valid = ap (λ e. e / 2048 % 2) h.entry ∙ omega arith; unprotected = λ s p. let e : b.entry q / 1024 % 2 ≡ 0 = ap (λ e. e / 1024 % 2) h.entry ∙ omega arith in omega arith };
  away = λ n. let e = h.entry in let m : b.hand ≡ a.hand = omega arith in moved l a.hand two u (sym h.hand ∙ m);
}

-- and it stays readable and writable when another page is brought in
pub stays_filled : (l : PageLayout) (q r : ℕ) (store : Bool) (a b : Paged) → q < l.pages → q ≢ r → FilledLast a q → Handled l r store a b → (t : Bool) → IsAccessible b q t
stays_filled l q r store a b lt ne k h t = ⊎_elim
    (λ i. passes_on a b q t (i.entries q lt ne) (k.passes t))
    (λ f. passes_on a b q t (f.entries q lt ne k.away) (k.passes t))
    h

pub done : (l : PageLayout) (r : ℕ) (store : Bool) (a b : Paged) → Handled l r store a b → IsAccessible b r store
done l r store a b h = ⊎_elim (λ i. i.passes) (λ f. record { valid = ap (λ e. e / 2048 % 2) f.entry ∙ omega arith; unprotected = λ s p. let e : b.entry r / 1024 % 2 ≡ 0 = ap (λ e. e / 1024 % 2) f.entry ∙ omega arith in omega arith }) h

-- where both pages pass, nothing is asked for
satisfied : (u : UserStep) (a : Paged) (q : ℕ) (store : Bool) → IsAccessible a u.code_page false → IsAccessible a u.data_page u.store → AsksForPage u a q store → ⊥
satisfied u a q store p d (ByFetch e s nay) = nay p
satisfied u a q store p d (ByData e s t p' nay) = nay d

fetch_fills : (l : PageLayout) (q : ℕ) (store : Bool) (a b : Paged) → (IsAccessible a q false → ⊥) → Handled l q store a b → ByFill l q a b
fetch_fills l q store a b nay h = ⊎_elim (λ i. absurd (nay (record { valid = i.was; unprotected = λ s. absurd (cc) }))) (λ f. f) h

module _ (l : PageLayout) (u : UserStep) (two : 2 ≤ l.frames) (code_in : u.code_page < l.pages) (data_in : u.data_page < l.pages) where
  -- the state after the second fault, by the page of the first
  after_fetch : (b c : Paged) (r : ℕ) (t : Bool) → FilledLast b u.code_page → AsksForPage u b r t → Handled l r t b c → (IsAccessible c u.code_page false) × (IsAccessible c u.data_page u.store)
  after_fetch b c r t k (ByFetch e s nay) h = absurd (nay (k.passes false))
  after_fetch b c r t k (ByData e s to p nay) h =
      let h' : Handled l u.data_page u.store b c = subst (λ x. Handled l x u.store b c) e (subst (λ x. Handled l r x b c) s h) in
      let ne : u.code_page ≢ u.data_page = λ eq. nay (subst (λ x. IsAccessible b x u.store) eq (k.passes u.store)) in
      (stays_filled l u.code_page u.data_page u.store b c code_in ne k h' false, done l u.data_page u.store b c h')

  after_data : (b c : Paged) (r : ℕ) (t : Bool) → FilledLast b u.data_page → AsksForPage u b r t → Handled l r t b c → (IsAccessible c u.code_page false) × (IsAccessible c u.data_page u.store)
  after_data b c r t k (ByData e s to p nay) h = absurd (nay (k.passes u.store))
  after_data b c r t k (ByFetch e s nay) h =
      let h' : Handled l u.code_page false b c = subst (λ x. Handled l x false b c) e (subst (λ x. Handled l r x b c) s h) in
      let ne : u.data_page ≢ u.code_page = λ eq. nay (subst (λ x. IsAccessible b x false) eq (k.passes false)) in
      (done l u.code_page false b c h', stays_filled l u.data_page u.code_page false b c data_in ne k h' u.store)

  pub two_faults : (a b c : Paged) (q r x : ℕ) (s t y : Bool) → IsUserFrame l a.hand → AsksForPage u a q s → Handled l q s a b → AsksForPage u b r t → Handled l r t b c → AsksForPage u c x y → ⊥
  two_faults a b c q r x s t y hand (ByFetch e z nay) h1 a2 h2 a3 =
      let f : ByFill l q a b = fetch_fills l q s a b (λ p. nay (subst (λ v. IsAccessible a v false) e p)) h1 in
      let k : FilledLast b u.code_page = subst (λ v. FilledLast b v) e (filled_last l q a b two hand f) in
      let o = after_fetch b c r t k a2 h2 in
      satisfied u c x y o.0 o.1 a3
  two_faults a b c q r x s t y hand (ByData e z to p nay) h1 a2 h2 a3 = ⊎_elim
      (λ i. let d : IsAccessible b u.data_page u.store = subst (λ v. IsAccessible b u.data_page v) z (subst (λ v. IsAccessible b v s) e i.passes) in
      satisfied u b r t (⊎_elim
      (λ eq. record { valid = subst (λ v. Valid (b.entry v)) (sym eq) d.valid; unprotected = λ s. absurd (cc) })
      (λ ne. passes_on a b u.code_page false (i.entries u.code_page code_in (λ g. ne (g ∙ e))) p)
      (cases_eq u.code_page u.data_page)) d a2)
      (λ f. let k : FilledLast b u.data_page = subst (λ v. FilledLast b v) e (filled_last l q a b two hand f) in
      let o = after_data b c r t k a2 h2 in
      satisfied u c x y o.0 o.1 a3)
      h1
