-- More units change no CVM run that is defined, and its data is typed and fits.
use Rattle.std.proofs.Common.{◌≡◌, ◌≢◌, ℕ, zero, suc, ◌+◌, Option, Some, None, refl, sym, ap, ◌∙◌, arith}
use Rattle.std.specs.Prelude.{bit_or, pos}
use Rattle.mips_table.specs.Arith.{signed}
use Rattle.cvm_model.specs.Kernel.{Core, MeaningLaws, DispatchEnd, Answers, Faults, NotYet}
use Rattle.cvm_model.specs.Cvm.{System, Status, Running, Halted, Faulted, Cvm, Begin, Steps, Traps, Interrupts, begin, dispatch_of, after_dispatch, dispatches, begun, turn_by, turn, cvm, IsCvm}

module _ (y : System) (laws : MeaningLaws y.boot.meaning) where
  none_some : {A : Type 0} (p : A) → None ≡ Some p → ⊥
  none_some p e = cc

  dispatches_more : (n d k : ℕ) (c p : Cvm) (cause edata : ℕ) (at : Core) (pending : ℕ) → dispatches y n k c cause edata at pending ≡ Some p → dispatches y (n + d) k c cause edata at pending ≡ Some p
  dispatches_more n d k c p cause edata at pending h = by (dispatch_of y n cause edata at).end refl
    where
      go : (dispatch_of y n cause edata at).end ≢ NotYet → dispatches y (n + d) k c cause edata at pending ≡ Some p
      go ne = ap (λ o. after_dispatch y c k cause edata at.current pending o o.end) (laws.same n d at (pos cause) (signed edata) (pos at.current) ne) ∙ h

      by : (e : DispatchEnd) → (dispatch_of y n cause edata at).end ≡ e → dispatches y (n + d) k c cause edata at pending ≡ Some p
      by (Answers a) eq = go (λ f. absurd (let g : Answers a ≡ NotYet = sym eq ∙ f in cc))
      by (Faults a) eq = go (λ f. absurd (let g : Faults a ≡ NotYet = sym eq ∙ f in cc))
      by NotYet eq = absurd (none_some p (sym (ap (after_dispatch y c k cause edata at.current pending (dispatch_of y n cause edata at)) eq) ∙ h))

  begun_more : (n d k : ℕ) (c p : Cvm) (b : Begin) → begun y n k c b ≡ Some p → begun y (n + d) k c b ≡ Some p
  begun_more n d k c p (Steps after) h = h
  begun_more n d k c p (Traps cause edata at) h = dispatches_more n d k c p cause edata at 0 h
  begun_more n d k c p (Interrupts cause edata at pending) h = dispatches_more n d k c p cause edata at pending h

  pub turn_more_units : (n d k lines : ℕ) (c p : Cvm) (s : Status) → turn_by y n k lines c s ≡ Some p → turn_by y (n + d) k lines c s ≡ Some p
  turn_more_units n d k lines c p Running h = begun_more n d k c p (begin k c.core (bit_or c.pending lines)) h
  turn_more_units n d k lines c p Halted h = h
  turn_more_units n d k lines c p (Faulted f) h = h

  pub cvm_more : (lines : ℕ → ℕ) (n d k : ℕ) (p : Cvm) → cvm y lines n k ≡ Some p → cvm y lines (n + d) k ≡ Some p
  cvm_more lines n d zero p h = h
  cvm_more lines n d (suc k) p h = by (cvm_more lines n d k) (cvm y lines n k) refl
    where
      by : ((q : Cvm) → cvm y lines n k ≡ Some q → cvm y lines (n + d) k ≡ Some q) → (o : Option Cvm) → cvm y lines n k ≡ o → turn y (n + d) k (lines k) (cvm y lines (n + d) k) ≡ Some p
      by go (Some q) eq = ap (turn y (n + d) k (lines k)) (go q eq) ∙ turn_more_units n d k (lines k) q p q.status (sym (ap (turn y n k (lines k)) eq) ∙ h)
      by go None eq = absurd (none_some p (sym (ap (turn y n k (lines k)) eq) ∙ h))

  some_same : (a b : Cvm) → Some a ≡ Some b → a ≡ b
  some_same a b h = cc

  -- a CVM run comes to one state
  pub one_cvm : (lines : ℕ → ℕ) (k : ℕ) (p q : Cvm) → IsCvm y lines k p → IsCvm y lines k q → p ≡ q
  one_cvm lines k p q a b =
      let e : cvm y lines (a.units + b.units) k ≡ Some p = cvm_more lines a.units b.units k p a.is in
      let f : cvm y lines (b.units + a.units) k ≡ Some q = cvm_more lines b.units a.units k q b.is in
      let z : a.units + b.units ≡ b.units + a.units = omega arith in
      some_same p q (sym e ∙ ap (λ n. cvm y lines n k) z ∙ f)

  -- the next turn
  pub cvm_next : (lines : ℕ → ℕ) (n k : ℕ) (c p : Cvm) (b : Begin) → cvm y lines n k ≡ Some c → c.status ≡ Running → begin k c.core (bit_or c.pending (lines k)) ≡ b → begun y n k c b ≡ Some p → cvm y lines n (suc k) ≡ Some p
  cvm_next lines n k c p b h r e g = ap (turn y n k (lines k)) h ∙ ap (turn_by y n k (lines k) c) r ∙ ap (begun y n k c) e ∙ g
