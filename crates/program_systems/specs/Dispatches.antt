-- A dispatch for a call of a program, as an event of that program: for theorems of whole systems, whose kernels answer by `vm_set`.
use Rattle.std.specs.Prelude.{◌≡◌, ℤ, ◌≤◌, List, [], ◌∷◌, ◌++◌, length, None, Some, FitsSigned}
use Rattle.std.specs.Int.{w32, cast_unsigned}
use Rattle.mips_table.specs.declared.cause.Cause.TheVariants.{Syscall}
use Rattle.c0_tree.specs.Tree.{CUnit}
use Rattle.cvm_model.specs.Kernel.{Core}
use Rattle.cvm_model.specs.Primitives.{user_of}
use Rattle.cvm_model.specs.Invariant.{Dispatch, IsTrapOf}
use Rattle.user_c0.specs.Events.{CALL_CAUSE, Event, call, answer_of}
use Rattle.user_c0.specs.Users.{UserHasCome}
use Rattle.kernel_theorems.specs.Registers.{set_in}

-- a program that has come to its machine calls in this dispatch, from the state before
pub record CallsIn (u : CUnit) (es : List Event) (before : Core) (d : Dispatch) : Type 0 where
  pub come : UserHasCome u es (user_of before.users before.current)
  pub calls : IsTrapOf before Syscall CALL_CAUSE d.before
  pub some : 1 ≤ before.current
  pub few : before.current ≤ length before.users

-- A LAW: where the dispatch sets register 2 of its caller to an int, and nothing else, it is that call answered, and the program is told that int; where it
-- changes no machine it is the call without an answer
pub record DispatchesAnswerCalls : Type 0 where
  pub answered : (u : CUnit) (es : List Event) (before : Core) (d : Dispatch) (a : ℤ) → CallsIn u es before d → FitsSigned w32 a
      → d.after.users ≡ set_in d.before.users d.before.current 2 a
      → UserHasCome u (es ++ call (Some (cast_unsigned w32 a)) ∷ []) (user_of d.after.users before.current) × (answer_of (Some (cast_unsigned w32 a)) ≡ a)
  pub unanswered : (u : CUnit) (es : List Event) (before : Core) (d : Dispatch) → CallsIn u es before d → d.after.users ≡ d.before.users
      → UserHasCome u (es ++ call None ∷ []) (user_of d.after.users before.current)
