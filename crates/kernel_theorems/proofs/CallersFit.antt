-- The current user of a dispatch: which caller fits the tests of primitives, and a call that is answered in a register; and a dispatch in which nobody calls. This
-- file may be cited from other crates.
use Rattle.std.proofs.Common.{◌≡◌, ℕ, ◌-◌, ◌≤◌, ◌<◌, length, Bool, true, false, refl, ap, ap₂, ◌∙◌, subst, arith}
use Rattle.std.specs.Prelude.{ℤ, nat_le, ◌==◌, ◌&&◌, FitsSigned}
use Rattle.std.specs.Int.{w32}
use Rattle.std.proofs.lemmas.Bool.{le-leb, eqb-true, eq-eqb}
use Rattle.std.proofs.lemmas.List.Elements.{All-get_or}
use Rattle.cvm_model.specs.Kernel.{Core}
use Rattle.cvm_model.specs.Primitives.{user_of, no_flat}
use Rattle.cvm_model.specs.Stands.{IsUser}
use Rattle.cvm_model.specs.Cvm.{System}
use Rattle.cvm_model.specs.Invariant.{Dispatch, Shaped, UserShaped}
use Rattle.kernel_theorems.specs.Registers.{int_held, is_call_of, set_in, SetsAreFound}
use Rattle.kernel_theorems.proofs.TestsSplit.{not_both}

-- THE CALLER FITS: the tests on the current user's number, which its primitives make, and its registers
pub record Caller (y : System) (at : Core) : Type 0 where
  pub some : 1 ≤ at.current
  pub few : at.current ≤ length y.boot.users
  pub from : nat_le 1 at.current ≡ true
  pub to : nat_le at.current (length at.users) ≡ true
  pub long : length (user_of at.users at.current).cpu.regs ≡ 32

pub caller : (y : System) (at : Core) → IsUser at at.current → Shaped y at → Caller y at
caller y at user fit = record {
  some = user.0;
  few = subst (λ n. at.current ≤ n) fit.count user.1;
  from = le-leb 1 at.current user.0;
  to = le-leb at.current (length at.users) user.1;
  long = let some = user.0 in let below = user.1 in (All-get_or (UserShaped y.boot.params.pages) at.users (at.current - 1) no_flat (omega (arith, some, below)) fit.each).regs;
}

-- who calls in a dispatch for a system call is its current user
pub the_caller : (d : Dispatch) (v : ℕ) → is_call_of v d ≡ true → d.before.current ≡ v
the_caller d v e = by (d.cause == 6) e
  where
    by : (b : Bool) → (b && (d.before.current == v)) ≡ true → d.before.current ≡ v
    by true e = eqb-true d.before.current v e
    by false e = absurd (cc)

-- A CALL THAT IS ANSWERED in a register: its caller finds the answer there, and all others keep their machines
pub record AnsweredCall (d : Dispatch) (register : ℕ) (a : ℤ) : Type 0 where
  pub found : (v : ℕ) → is_call_of v d ≡ true → int_held d.after v register ≡ a
  pub others : (v : ℕ) → 1 ≤ v → is_call_of v d ≡ false → user_of d.after.users v ≡ user_of d.before.users v

pub answered_call : SetsAreFound → (y : System) (d : Dispatch) (register : ℕ) (a : ℤ) → (d.cause == 6) ≡ true → Caller y d.before → IsUser d.before d.before.current → register < 32 → FitsSigned w32 a
    → d.after.users ≡ set_in d.before.users d.before.current register a → AnsweredCall d register a
answered_call sets y d register a cause c user room fits users =
    let set = sets d.before.users d.after d.before.current register a users user.0 user.1 room c.long fits in
    record {
      found = λ v e. subst (λ x. int_held d.after x register ≡ a) (the_caller d v e) set.found;
      others = λ v some e. set.others v some (λ same. not_both (is_call_of v d) (ap₂ (λ b w. b && (d.before.current == w)) cause same ∙ eq-eqb d.before.current d.before.current refl) e);
    }

-- A QUIET DISPATCH is for no system call and changes no machine: nobody calls in it, whatever is claimed of callers, and each user finds what it had
pub record IsQuiet (d : Dispatch) : Type 0 where
  pub none : (v : ℕ) → is_call_of v d ≡ false
  pub nobody : (v : ℕ) → is_call_of v d ≡ true → ⊥
  pub kept : (v : ℕ) → user_of d.after.users v ≡ user_of d.before.users v

pub quiet_dispatch : (d : Dispatch) → (d.cause == 6) ≡ false → d.after.users ≡ d.before.users → IsQuiet d
quiet_dispatch d other same =
    let none : (v : ℕ) → is_call_of v d ≡ false = λ v. ap (λ b. b && (d.before.current == v)) other in
    record { none = none; nobody = λ v e. not_both (is_call_of v d) e (none v); kept = λ v. ap (λ us. user_of us v) same }
