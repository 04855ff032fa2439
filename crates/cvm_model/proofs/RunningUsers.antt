-- A running state's user is one of the users: an untrapped step leaves who is current, and a dispatch that goes on names a user.
use Rattle.std.proofs.Common.{◌≡◌, ℕ, zero, suc, ◌+◌, ◌<◌, ◌≤◌, Bool, true, false, nat_lt, List, length, Option, Some, None, refl, sym, ap, ◌∙◌, subst, arith, ltb-true}
use Rattle.std.specs.Prelude.{ℤ, pos, negsuc, ◌==◌, if◌then◌else◌, bit_or}
use Rattle.mips_table.specs.Flat.{VStep, Goes, Trap, vstep}
use Rattle.cvm_model.specs.Kernel.{Core, DispatchEnd, Answers, Faults, NotYet, DispatchOutcome}
use Rattle.cvm_model.specs.declared.kernel_fault.KernelFault.TheVariants.{BadUser}
use Rattle.cvm_model.specs.Primitives.{user_of, with_user}
use Rattle.cvm_model.specs.declared.row.Next.TheVariants.{User, Halt, Fault}
use Rattle.cvm_model.specs.Cvm.{System, Status, Running, Halted, Faulted, Cvm, Begin, Steps, Traps, Interrupts, user_step, begin, next_of, status_of, core_of, dispatched, after_dispatch, dispatch_of, begun, turn_by, turn, first_cvm, cvm, UsersRun}

-- the number is a user's
abbrev IsOne : ℕ → ℕ → Type 0
IsOne users u = (1 ≤ u) × (u ≤ users)

next_one : (users : ℕ) (a : ℤ) (c : Core) → status_of (next_of users a) ≡ Running → IsOne users (core_of (next_of users a) c).current
next_one users (pos zero) c e = absurd (cc)
next_one users (pos (suc n)) c e = by (nat_lt n users) refl e
  where
    by : (b : Bool) → nat_lt n users ≡ b → status_of (if b then User (suc n) else Fault BadUser) ≡ Running → IsOne users (core_of (if b then User (suc n) else Fault BadUser) c).current
    by true lt h = let l = ltb-true n users lt in (omega arith, omega arith)
    by false lt h = absurd (cc)
next_one users (negsuc n) c e = absurd (cc)

-- a dispatch that was over
ended_one : (y : System) (c : Cvm) (k cause edata user pending : ℕ) (o : DispatchOutcome) (end : DispatchEnd) (d : Cvm) → after_dispatch y c k cause edata user pending o end ≡ Some d → d.status ≡ Running
    → IsOne (length y.boot.users) d.core.current
ended_one y c k cause edata user pending o (Answers a) d e r =
    let is : dispatched y c k cause edata user pending o (next_of (length y.boot.users) a) ≡ d = cc in
    subst (λ (v : Cvm). IsOne (length y.boot.users) v.core.current) is (next_one (length y.boot.users) a o.after (ap (λ (v : Cvm). v.status) is ∙ r))
ended_one y c k cause edata user pending o (Faults f) d e r =
    let is : dispatched y c k cause edata user pending o (Fault f) ≡ d = cc in
    let z : Faulted f ≡ Running = ap (λ (v : Cvm). v.status) is ∙ r in
    absurd (cc)
ended_one y c k cause edata user pending o NotYet d e r = absurd (cc)

stays : (c : Core) (v : VStep) (after : Core) → user_step c v ≡ Steps after → after.current ≡ c.current
stays c (Goes f) after e = let is : record c { users = with_user c.users c.current f } ≡ after = cc in ap (λ (x : Core). x.current) (sym is)
stays c (Trap f cause edata) after e = absurd (cc)

begin_stays : (k : ℕ) (c : Core) (lines : ℕ) (after : Core) → begin (suc k) c lines ≡ Steps after → after.current ≡ c.current
begin_stays k c lines after = by (lines == 0)
  where
    by : (b : Bool) → (if b then user_step c (vstep (user_of c.users c.current)) else Interrupts 1 lines c 0) ≡ Steps after → after.current ≡ c.current
    by true e = stays c (vstep (user_of c.users c.current)) after e
    by false e = absurd (cc)

begun_one : (y : System) (n k : ℕ) (c : Cvm) (b : Begin) (d : Cvm) → ((after : Core) → b ≡ Steps after → IsOne (length y.boot.users) after.current) → begun y n k c b ≡ Some d → d.status ≡ Running
    → IsOne (length y.boot.users) d.core.current
begun_one y n k c (Steps after) d h e r = let is : after ≡ d.core = cc in subst (λ (v : Core). IsOne (length y.boot.users) v.current) is (h after refl)
begun_one y n k c (Traps cause edata at) d h e r = ended_one y c k cause edata at.current 0 (dispatch_of y n cause edata at) (dispatch_of y n cause edata at).end d e r
begun_one y n k c (Interrupts cause edata at pending) d h e r = ended_one y c k cause edata at.current pending (dispatch_of y n cause edata at) (dispatch_of y n cause edata at).end d e r

pub users_run : UsersRun
users_run y lines n zero c e r = begun_one y n 0 (first_cvm y) (begin 0 (first_cvm y).core (bit_or 0 (lines 0))) c (λ after z. absurd (cc)) e r
users_run y lines n (suc k) c e r = by (users_run y lines n k) (cvm y lines n (suc k)) refl e
  where
    by_status : ((b : Cvm) → cvm y lines n (suc k) ≡ Some b → b.status ≡ Running → IsOne (length y.boot.users) b.core.current) → (b : Cvm) → cvm y lines n (suc k) ≡ Some b → (s : Status) → b.status ≡ s → turn_by y n (suc k) (lines (suc k)) b s ≡ Some c → IsOne (length y.boot.users) c.core.current
    by_status before b is Running run t =
        let one : IsOne (length y.boot.users) b.core.current = before b is run in
        begun_one y n (suc k) b (begin (suc k) b.core (bit_or b.pending (lines (suc k)))) c
        (λ after z. subst (IsOne (length y.boot.users)) (sym (begin_stays k b.core (bit_or b.pending (lines (suc k))) after z)) one) t r
    by_status before b is Halted run t = let same : b ≡ c = cc in let z : Halted ≡ Running = sym run ∙ ap (λ (v : Cvm). v.status) same ∙ r in absurd (cc)
    by_status before b is (Faulted f) run t = let same : b ≡ c = cc in let z : Faulted f ≡ Running = sym run ∙ ap (λ (v : Cvm). v.status) same ∙ r in absurd (cc)

    by : ((b : Cvm) → cvm y lines n (suc k) ≡ Some b → b.status ≡ Running → IsOne (length y.boot.users) b.core.current) → (o : Option Cvm) → cvm y lines n (suc k) ≡ o → turn y n (suc k) (lines (suc k)) o ≡ Some c → IsOne (length y.boot.users) c.core.current
    by before None is t = absurd (cc)
    by before (Some b) is t = by_status before b is b.status refl t
