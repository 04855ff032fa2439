-- Journals are replayed part by part; and the number of units doesn't matter to a run.
use Rattle.std.proofs.Common.{◌≡◌, ℕ, zero, suc, ◌+◌, [], ◌∷◌, ◌++◌, Option, Some, None, refl, sym, ap, ◌∙◌, arith}
use Rattle.std.specs.Prelude.{◌≢◌, option_and_then, bit_or, pos}
use Rattle.mips_table.specs.Flat.{Flat}
use Rattle.mips_table.specs.Arith.{signed}
use Rattle.cvm_model.specs.Kernel.{Core, DispatchEnd, Answers, Faults, NotYet, DispatchOutcome, MeaningLaws}
use Rattle.cvm_model.specs.Cvm.{System, Cvm, Status, Running, Halted, Faulted, Begin, Steps, Traps, Interrupts, begin, after_dispatch, dispatch_of, dispatches, begun, turn_by, turn, cvm, UnitsDontMatter}
use Rattle.cvm_model.specs.Journal.{replay, replay_entry, ReplayJoins}

pub joins : ReplayJoins
joins f [] b = refl
joins f (e ∷ rest) b = by (replay_entry e f) (λ g. joins g rest b)
  where
    by : (o : Option Flat) → ((g : Flat) → replay g (rest ++ b) ≡ option_and_then (λ g. replay g b) (replay g rest)) →
        option_and_then (λ g. replay g (rest ++ b)) o ≡ option_and_then (λ g. replay g b) (option_and_then (λ g. replay g rest) o)
    by None h = refl
    by (Some g) h = h g

-- a dispatch with a state after it is over
is_over : (y : System) (c d : Cvm) (k cause edata user pending : ℕ) (o : DispatchOutcome) (e : DispatchEnd) → after_dispatch y c k cause edata user pending o e ≡ Some d → e ≢ NotYet
is_over y c d k cause edata user pending o (Answers a) h = λ n. absurd (cc)
is_over y c d k cause edata user pending o (Faults f) h = λ n. absurd (cc)
is_over y c d k cause edata user pending o NotYet h = λ n. absurd (cc)

dispatch_more : (y : System) → MeaningLaws y.boot.meaning → (n m k : ℕ) (c d : Cvm) (cause edata : ℕ) (at : Core) (pending : ℕ) →
    dispatches y n k c cause edata at pending ≡ Some d → dispatches y (n + m) k c cause edata at pending ≡ Some d
dispatch_more y l n m k c d cause edata at pending h =
    let o = dispatch_of y n cause edata at in
    let same : dispatch_of y (n + m) cause edata at ≡ o = l.same n m at (pos cause) (signed edata) (pos at.current) (is_over y c d k cause edata at.current pending o o.end h) in
    ap (λ (o : DispatchOutcome). after_dispatch y c k cause edata at.current pending o o.end) same ∙ h

begun_more : (y : System) → MeaningLaws y.boot.meaning → (n m k : ℕ) (c d : Cvm) (b : Begin) → begun y n k c b ≡ Some d → begun y (n + m) k c b ≡ Some d
begun_more y l n m k c d (Steps after) h = h
begun_more y l n m k c d (Traps cause edata at) h = dispatch_more y l n m k c d cause edata at 0 h
begun_more y l n m k c d (Interrupts cause edata at pending) h = dispatch_more y l n m k c d cause edata at pending h

turn_more : (y : System) → MeaningLaws y.boot.meaning → (n m k lines : ℕ) (c d : Cvm) (s : Status) → turn_by y n k lines c s ≡ Some d → turn_by y (n + m) k lines c s ≡ Some d
turn_more y l n m k lines c d Running h = begun_more y l n m k c d (begin k c.core (bit_or c.pending lines)) h
turn_more y l n m k lines c d Halted h = h
turn_more y l n m k lines c d (Faulted f) h = h

-- with more units a run comes to the same state
more_units : (y : System) → MeaningLaws y.boot.meaning → (lines : ℕ → ℕ) (n m k : ℕ) (d : Cvm) → cvm y lines n k ≡ Some d → cvm y lines (n + m) k ≡ Some d
more_units y l lines n m zero d h = h
more_units y l lines n m (suc k) d h = by (cvm y lines n k) refl h (more_units y l lines n m k)
  where
    by : (p : Option Cvm) → cvm y lines n k ≡ p → turn y n k (lines k) p ≡ Some d → ((c : Cvm) → cvm y lines n k ≡ Some c → cvm y lines (n + m) k ≡ Some c) →
        turn y (n + m) k (lines k) (cvm y lines (n + m) k) ≡ Some d
    by None e t ih = absurd (cc)
    by (Some c) e t ih = ap (turn y (n + m) k (lines k)) (ih c e) ∙ turn_more y l n m k (lines k) c d c.status t

pub units_dont_matter : UnitsDontMatter
units_dont_matter y lines k c d l a b =
    let p = more_units y l lines a.units b.units k c a.is in
    let q = more_units y l lines b.units a.units k d b.is in
    let swap : a.units + b.units ≡ b.units + a.units = omega arith in
    let same : Some c ≡ Some d = sym p ∙ ap (λ n. cvm y lines n k) swap ∙ q in
    cc
