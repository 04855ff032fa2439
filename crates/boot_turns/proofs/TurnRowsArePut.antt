-- The rows of a turn, and its current user.
use Rattle.std.proofs.Common.{◌≡◌, ℕ, zero, suc, Bool, true, false, Option, Some, None, refl, sym, ap, ◌∙◌, subst}
use Rattle.std.specs.Prelude.{◌==◌, if◌then◌else◌, bit_or, length}
use Rattle.mips_table.specs.Device.{Environment}
use Rattle.mips_table.specs.Turns.{lines_of_turn}
use Rattle.c0_meaning.specs.State.{C0State}
use Rattle.cvm_model.specs.declared.row.Next.TheVariants.{User, Fault}
use Rattle.cvm_model.specs.declared.kernel_fault.KernelFault.{KernelFault}
use Rattle.mips_table.specs.Flat.{VStep, Goes, Trap, vstep}
use Rattle.cvm_model.specs.Primitives.{user_of}
use Rattle.cvm_model.specs.Kernel.{Core, DispatchOutcome, DispatchEnd, Answers, Faults, NotYet}
use Rattle.cvm_model.specs.Cvm.{System, Running, Cvm, IsCvm, Begin, Steps, Traps, Interrupts, begin, user_step, begun, next_of, core_of, after_dispatch, dispatch_of, turn, turn_by, cvm}
use Rattle.mips_table.specs.Machine.{State}
use Rattle.boot_turns.specs.RunMachines.{RowAdded, RowsGrow, TurnRows, UserStays}
use Rattle.boot_turns.proofs.MoreUnits.{one_cvm}
use Rattle.boot_turns.proofs.TurnGoesOn.{Given}

none_some : (p : Cvm) → None ≡ Some p → ⊥
none_some p e = cc

same_cvm : (a b : Cvm) → Some a ≡ Some b → a ≡ b
same_cvm a b h = cc

fault_user : (f : KernelFault) (u : ℕ) → Fault f ≡ User u → ⊥
fault_user f u e = cc

dispatch_rows : (y : System) (c after : Cvm) (k cause edata user pending : ℕ) (o : DispatchOutcome) (e : DispatchEnd) → after_dispatch y c k cause edata user pending o e ≡ Some after → RowAdded k cause edata user c after
dispatch_rows y c after k cause edata user pending o (Answers a) h =
    let d = same_cvm _ after h in
    record { next = next_of (length y.boot.users) a; current = λ u e. ap (λ (w : Cvm). w.core.current) (sym d) ∙ ap (λ n. (core_of n o.after).current) e; rows = ap (λ (w : Cvm). w.rows) (sym d); status = ap (λ (w : Cvm). w.status) (sym d) }
dispatch_rows y c after k cause edata user pending o (Faults f) h =
    let d = same_cvm _ after h in
    record { next = Fault f; current = λ u e. absurd (fault_user f u e); rows = ap (λ (w : Cvm). w.rows) (sym d); status = ap (λ (w : Cvm). w.status) (sym d) }
dispatch_rows y c after k cause edata user pending o NotYet h = absurd (none_some after h)

begun_rows : (y : System) (n k : ℕ) (c after : Cvm) (b : Begin) → begun y n k c b ≡ Some after → RowsGrow k c after b
begun_rows y n k c after (Steps at) h = ap (λ (w : Cvm). w.rows) (sym (same_cvm _ after h))
begun_rows y n k c after (Traps cause edata at) h = dispatch_rows y c after k cause edata at.current 0 (dispatch_of y n cause edata at) (dispatch_of y n cause edata at).end h
begun_rows y n k c after (Interrupts cause edata at pending) h = dispatch_rows y c after k cause edata at.current pending (dispatch_of y n cause edata at) (dispatch_of y n cause edata at).end h

-- where turn k of a run goes on, it is as it begins
turn_is : (x : Environment) (y : System) (s : State) (late held : ℕ) (Typed : C0State → Type 0) → Given x y s late held Typed → (k : ℕ) (c after : Cvm) → IsCvm y (lines_of_turn x s) k c → c.status ≡ Running →
    (i : IsCvm y (lines_of_turn x s) (suc k) after) → begun y i.units k c (begin k c.core (bit_or c.pending (lines_of_turn x s k))) ≡ Some after
turn_is x y s late held Typed g k c after is running i = by (cvm y (lines_of_turn x s) i.units k) refl
  where
    by : (o : Option Cvm) → cvm y (lines_of_turn x s) i.units k ≡ o → begun y i.units k c (begin k c.core (bit_or c.pending (lines_of_turn x s k))) ≡ Some after
    by None eq = absurd (none_some after (sym (ap (turn y i.units k (lines_of_turn x s k)) eq) ∙ i.is))
    by (Some q) eq =
        let d : q ≡ c = one_cvm y g.meaning (lines_of_turn x s) k q c (record { units = i.units; is = eq }) is in
        let h : turn_by y i.units k (lines_of_turn x s k) q q.status ≡ Some after = sym (ap (turn y i.units k (lines_of_turn x s k)) eq) ∙ i.is in
        let h2 : turn_by y i.units k (lines_of_turn x s k) c c.status ≡ Some after = subst (λ (w : Cvm). turn_by y i.units k (lines_of_turn x s k) w w.status ≡ Some after) d h in
        sym (ap (turn_by y i.units k (lines_of_turn x s k) c) running) ∙ h2

pub rows_grow : (x : Environment) (y : System) (s : State) (late held : ℕ) (Typed : C0State → Type 0) → Given x y s late held Typed → TurnRows x y s
rows_grow x y s late held Typed g k c after is running i =
    begun_rows y i.units k c after (begin k c.core (bit_or c.pending (lines_of_turn x s k))) (turn_is x y s late held Typed g k c after is running i)

-- a step keeps the current user
same_steps : (a b : Core) → Steps a ≡ Steps b → a ≡ b
same_steps a b h = cc

step_current : (c : Core) (v : VStep) (at : Core) → user_step c v ≡ Steps at → at.current ≡ c.current
step_current c (Goes f) at e = ap (λ (w : Core). w.current) (sym (same_steps _ at e))
step_current c (Trap f cause edata) at e = absurd (cc)

begin_current : (k : ℕ) (c : Core) (lines : ℕ) (at : Core) → begin k c lines ≡ Steps at → at.current ≡ c.current
begin_current zero c lines at e = absurd (cc)
begin_current (suc k) c lines at e = by (lines == 0) e
  where
    by : (b : Bool) → (if b then user_step c (vstep (user_of c.users c.current)) else Interrupts 1 lines c 0) ≡ Steps at → at.current ≡ c.current
    by true h = step_current c (vstep (user_of c.users c.current)) at h
    by false h = absurd (cc)

pub user_stays : (x : Environment) (y : System) (s : State) (late held : ℕ) (Typed : C0State → Type 0) → Given x y s late held Typed → UserStays x y s
user_stays x y s late held Typed g k c after at is running i e =
    let h : begun y i.units k c (Steps at) ≡ Some after = subst (λ (b : Begin). begun y i.units k c b ≡ Some after) e (turn_is x y s late held Typed g k c after is running i) in
    ap (λ (w : Cvm). w.core.current) (sym (same_cvm _ after h)) ∙ begin_current k c.core (bit_or c.pending (lines_of_turn x s k)) at e
