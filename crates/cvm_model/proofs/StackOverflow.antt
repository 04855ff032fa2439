-- A run stops for want of stack only in a dispatch, and there only where a chain of calls has more words than the stack.
use Rattle.std.proofs.Common.{◌≡◌, ℕ, zero, suc, Bool, true, false, Option, Some, None, sym, subst, arith}
use Rattle.std.specs.Prelude.{ℤ, pos, negsuc, nat_lt, bit_or, length, if◌then◌else◌, unwrap_or, position}
use Rattle.c0_tree.specs.Tree.{CUnit}
use Rattle.c0_meaning.specs.CallChain.{HasLongerChain, dispatch_number}
use Rattle.c0_meaning.specs.Limits.{is_dispatch}
use Rattle.c0_meaning.specs.Value.{Value, int, bool, null, at, group, empty, part}
use Rattle.c0_meaning.specs.Operators as c0
use Rattle.c0_meaning.specs.Execution as c0_run
use Rattle.c0_meaning.specs.RunLaws.{NoRoomIsChained, HasNoRoom}
use Rattle.cvm_model.specs.declared.kernel_fault.KernelFault.{KernelFault}
use Rattle.cvm_model.specs.declared.kernel_fault.KernelFault.TheVariants.{NullUse, Bounds, DivZero, StackOut, BadUser}
use Rattle.cvm_model.specs.declared.row.Next.TheVariants.{User, Fault}
use Rattle.cvm_model.specs.Kernel.{Core, Changes, DispatchEnd, Answers, Faults, NotYet, DispatchOutcome}
use Rattle.cvm_model.specs.KernelMeaning.{Machines, answer_end, failure_end, outcome_of, setting_of, machines_of, kernel_meaning}
use Rattle.cvm_model.specs.Cvm.{System, Status, Running, Halted, Faulted, Cvm, Begin, Steps, Traps, Interrupts, begin, next_of, status_of, after_dispatch, dispatch_of, begun, turn_by, turn, cvm}
use Rattle.cvm_model.specs.StackRoom.{EnoughStackIsKept}

-- a status, or an end of a dispatch, that is want of stack
abbrev IsOut : Status → Type 0
IsOut (Faulted StackOut) = Unit {0}
IsOut _ = ⊥

abbrev EndsOut : DispatchEnd → Type 0
EndsOut (Faults StackOut) = Unit {0}
EndsOut _ = ⊥

answers_in : (o : Option Value) → EndsOut (answer_end o) → ⊥
answers_in (Some (int a)) h = h
answers_in (Some (bool b)) h = h
answers_in (Some null) h = h
answers_in (Some (at l)) h = h
answers_in (Some (group vs)) h = h
answers_in None h = h

fails_out : (f : c0.Failure) (cost : _) (d : _) → EndsOut (failure_end f) → HasNoRoom {W = Machines} {E = Changes} (c0_run.Failed cost f d)
fails_out (c0.faulted c0.NullUse) cost d h = absurd h
fails_out (c0.faulted c0.Bounds) cost d h = absurd h
fails_out (c0.faulted c0.DivZero) cost d h = absurd h
fails_out (c0.faulted c0.StackOut) cost d h = tt
fails_out c0.stuck cost d h = absurd h

run_out : (c : Core) (o : c0_run.Outcome Machines Changes) → EndsOut (outcome_of c o).end → HasNoRoom o
run_out c (c0_run.Done cost d) h = absurd (answers_in d.answer h)
run_out c (c0_run.Failed cost f d) h = fails_out f cost d h
run_out c (c0_run.NotYet cost d) h = absurd h

users_in : (b : Bool) (n : ℕ) → IsOut (status_of (if b then User (suc n) else Fault BadUser)) → ⊥
users_in true n h = h
users_in false n h = h

next_in : (users : ℕ) (a : ℤ) → IsOut (status_of (next_of users a)) → ⊥
next_in users (pos zero) h = h
next_in users (pos (suc n)) h = users_in (nat_lt n users) n h
next_in users (negsuc n) h = h

module _ (chains : NoRoomIsChained Machines Changes) (u : CUnit) (y : System) (same : y.boot.meaning ≡ kernel_meaning u y.boot.params) where
  abbrev Longer : Type 0
  Longer = HasLongerChain u (dispatch_number u) y.boot.params.stack

  dispatch_out : (n : ℕ) (c : Core) (cause edata user : ℤ) → EndsOut (y.boot.meaning.dispatch n c cause edata user).end → Longer
  dispatch_out n c cause edata user =
      subst (λ e. EndsOut (e.dispatch n c cause edata user).end → Longer) (sym same)
      (λ h. chains (setting_of u y.boot.params) n (unwrap_or (position is_dispatch u.functions) 0) (part (int cause) (part (int edata) (part (int user) empty))) c.c0 (machines_of y.boot.params c)
      (run_out c (c0_run.dispatch (setting_of u y.boot.params) n cause edata user c.c0 (machines_of y.boot.params c)) h))

  abbrev Fine : Option Cvm → Type 0
  Fine None = Unit {0}
  Fine (Some c) = IsOut c.status → Longer

  faulted_out : (f : KernelFault) → (EndsOut (Faults f) → Longer) → IsOut (Faulted f) → Longer
  faulted_out NullUse h o = absurd o
  faulted_out Bounds h o = absurd o
  faulted_out DivZero h o = absurd o
  faulted_out StackOut h o = h tt
  faulted_out BadUser h o = absurd o

  after_fine : (c : Cvm) (k cause edata user pending : ℕ) (o : DispatchOutcome) (e : DispatchEnd) → (EndsOut e → Longer) → Fine (after_dispatch y c k cause edata user pending o e)
  after_fine c k cause edata user pending o (Answers a) h = λ out. absurd (next_in (length y.boot.users) a out)
  after_fine c k cause edata user pending o (Faults f) h = λ out. faulted_out f h out
  after_fine c k cause edata user pending o NotYet h = tt

  begun_fine : (n k : ℕ) (c : Cvm) (b : Begin) → Fine (Some c) → Fine (begun y n k c b)
  begun_fine n k c (Steps after) h = h
  begun_fine n k c (Traps cause edata core) h = after_fine c k cause edata core.current 0 (dispatch_of y n cause edata core) (dispatch_of y n cause edata core).end (dispatch_out n core _ _ _)
  begun_fine n k c (Interrupts cause edata core pending) h = after_fine c k cause edata core.current pending (dispatch_of y n cause edata core) (dispatch_of y n cause edata core).end (dispatch_out n core _ _ _)

  turned_fine : (n k lines : ℕ) (c : Cvm) (s : Status) → Fine (Some c) → Fine (turn_by y n k lines c s)
  turned_fine n k lines c Running h = begun_fine n k c (begin k c.core (bit_or c.pending lines)) h
  turned_fine n k lines c Halted h = h
  turned_fine n k lines c (Faulted f) h = h

  turn_fine : (n k lines : ℕ) (o : Option Cvm) → Fine o → Fine (turn y n k lines o)
  turn_fine n k lines None h = tt
  turn_fine n k lines (Some c) h = turned_fine n k lines c c.status h

  cvm_fine : (lines : ℕ → ℕ) (n k : ℕ) → Fine (cvm y lines n k)
  cvm_fine lines n zero = λ out. absurd out
  cvm_fine lines n (suc k) = turn_fine n k (lines k) (cvm y lines n k) (cvm_fine lines n k)

  kept : (lines : ℕ → ℕ) (n k : ℕ) (c : Cvm) → cvm y lines n k ≡ Some c → c.status ≡ Faulted StackOut → Longer
  kept lines n k c is out = (subst Fine is (cvm_fine lines n k)) (subst IsOut (sym out) tt)

pub enough_is_kept : NoRoomIsChained Machines Changes → EnoughStackIsKept
enough_is_kept chains u y same enough lines k c h out =
    let longer = kept chains u y same lines h.units k c h.is out in
    let most = enough longer.chain longer.chained in
    let more = longer.longer in
    absurd (omega (arith, most, more))
