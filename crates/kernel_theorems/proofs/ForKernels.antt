-- What most proofs of a kernel's property name, in one place: the words of the rule for runs, and the lemmas on steps that repeat. This file may be cited from
-- other crates.
pub use Rattle.mips_table.specs.Arith.{signed}
pub use Rattle.mips_table.specs.declared.cause.Cause.{Cause}
pub use Rattle.mips_table.specs.Machine.{cause_number}
pub use Rattle.c0_meaning.specs.Value.{int}
pub use Rattle.cvm_model.specs.Kernel.{Core, KernelMeaning}
pub use Rattle.cvm_model.specs.Primitives.{user_of}
pub use Rattle.cvm_model.specs.Stands.{IsUser}
pub use Rattle.cvm_model.specs.Cvm.{System, first_core}
pub use Rattle.cvm_model.specs.declared.row.Next.{Next}
pub use Rattle.cvm_model.specs.Invariant.{Dispatch, IsTrap, IsTrapOf, IsInvariant, HasUsers, Shaped, RunsAreLawful}
pub use Rattle.cvm_model.proofs.InvariantsHold.{invariants_hold}
pub use Rattle.kernel_theorems.specs.Registers.{int_held, is_call_of, set_in, SetsAreFound}
pub use Rattle.kernel_theorems.specs.History.{EachHas, told_by}
pub use Rattle.kernel_theorems.proofs.ComputedDispatches.{rows_join, each_more, answers_user, answers_halt}
pub use Rattle.kernel_theorems.proofs.OneDispatchMore.{told_more, one_more, rows_length}
pub use Rattle.kernel_theorems.proofs.TestsSplit.{not_both, left_of, and_false, by_test, by_same, by_equal, small_fits, small_sum}
pub use Rattle.kernel_theorems.proofs.CallersFit.{Caller, caller, the_caller, AnsweredCall, answered_call, IsQuiet, quiet_dispatch}
pub use Rattle.kernel_theorems.proofs.OneKernel.{Does, keeps_from, to_user}
