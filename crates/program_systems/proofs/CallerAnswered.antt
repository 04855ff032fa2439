-- A dispatch that sets register 2 of its caller leaves the machine with which the program goes on.
use Rattle.std.proofs.Common.{◌≡◌, ℕ, ◌-◌, ◌≤◌, List, [], ◌∷◌, ◌++◌, length, None, Some, sym, ap, ◌∙◌, subst, arith}
use Rattle.std.specs.Prelude.{ℤ, FitsSigned}
use Rattle.std.specs.Int.{w32, cast_unsigned}
use Rattle.std.proofs.lemmas.List.{length-set, get_or-set_same}
use Rattle.mips_table.specs.Flat.{Flat}
use Rattle.c0_tree.specs.Tree.{CUnit}
use Rattle.cvm_model.specs.Kernel.{Core}
use Rattle.cvm_model.specs.Primitives.{user_of, with_user, with_register, no_flat}
use Rattle.cvm_model.specs.Invariant.{Dispatch, with_machine}
use Rattle.user_c0.specs.Events.{Event, call, answer_of}
use Rattle.user_c0.specs.Users.{UserHasCome, UsersGoOn, IntsAreTold}
use Rattle.kernel_theorems.specs.Registers.{set_in}
use Rattle.program_systems.specs.Dispatches.{CallsIn, DispatchesAnswerCalls}

put_there : (us : List Flat) (v : ℕ) (f : Flat) → 1 ≤ v → v ≤ length us → user_of (with_user us v f) v ≡ f
put_there us v f some few = get_or-set_same us (v - 1) f no_flat (omega (arith, some, few))

module _ (before at : Core) (g : Flat) (left : at ≡ with_machine before g) (some : 1 ≤ before.current) (few : before.current ≤ length before.users) where
  its_machine : user_of (with_user before.users before.current g) before.current ≡ g
  its_machine = put_there before.users before.current g some few

  -- nothing is set
  left_so : (users : List Flat) → users ≡ at.users → user_of users before.current ≡ g
  left_so users same = ap (λ us. user_of us before.current) (same ∙ ap (λ (c : Core). c.users) left) ∙ its_machine

  -- or register 2
  set_so : (users : List Flat) (a : ℤ) → users ≡ set_in at.users at.current 2 a → user_of users before.current ≡ with_register g 2 (cast_unsigned w32 a)
  set_so users a set =
      let us : List Flat = with_user before.users before.current g in
      let long : length us ≡ length before.users = length-set before.users (before.current - 1) g in
      ap (λ us. user_of us before.current) (set ∙ ap (λ (c : Core). set_in c.users c.current 2 a) left)
      ∙ put_there us before.current (with_register (user_of us before.current) 2 (cast_unsigned w32 a)) some (omega (arith, few, long))
      ∙ ap (λ (f : Flat). with_register f 2 (cast_unsigned w32 a)) its_machine

module _ (go : UsersGoOn) (tell : IntsAreTold) (u : CUnit) (es : List Event) (before : Core) (d : Dispatch) where
  answered : (a : ℤ) → CallsIn u es before d → FitsSigned w32 a → d.after.users ≡ set_in d.before.users d.before.current 2 a
      → UserHasCome u (es ++ call (Some (cast_unsigned w32 a)) ∷ []) (user_of d.after.users before.current) × (answer_of (Some (cast_unsigned w32 a)) ≡ a)
  answered a c fits set =
      let told = tell a fits in (
        subst (λ f. UserHasCome u (es ++ call (Some (cast_unsigned w32 a)) ∷ []) f) (sym (set_so before d.before c.calls.after c.calls.left c.some c.few d.after.users a set))
            (go.answered u es (user_of before.users before.current) c.calls.after (cast_unsigned w32 a) told.0 c.come c.calls.stepped),
        told.1,
      )

  unanswered : CallsIn u es before d → d.after.users ≡ d.before.users → UserHasCome u (es ++ call None ∷ []) (user_of d.after.users before.current)
  unanswered c same =
      subst (λ f. UserHasCome u (es ++ call None ∷ []) f) (sym (left_so before d.before c.calls.after c.calls.left c.some c.few d.after.users same))
      (go.calls u es (user_of before.users before.current) c.calls.after c.come c.calls.stepped)

pub dispatches_answer : UsersGoOn → IntsAreTold → DispatchesAnswerCalls
dispatches_answer go tell = record {
  answered = λ u es before d a c fits set. answered go tell u es before d a c fits set;
  unanswered = λ u es before d c same. unanswered go tell u es before d c same;
}
