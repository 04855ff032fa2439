-- What the code of a function's expressions depends on, beside the expressions.
use Rattle.std.specs.Prelude.{ℕ, ◌/◌, Bool, slice_index}
use Rattle.c0_tree.specs.Tree.{CFunction, CUnit}
use Rattle.masm.specs.declared.registers.CodeAddresses.{CodeAddresses}
use Rattle.c0_meaning.specs.Env.{Env}
use Rattle.c0_meaning.specs.Limits.{words_of_frame}
use Rattle.c0_meaning.specs.Operators.{KernelFault, NullUse, Bounds, DivZero, StackOut}
use Rattle.c0_meaning.specs.Sound.{shapes}
use Rattle.c0_meaning.specs.TypeAt.{env_in}
use Rattle.c0_typed.specs.Leaf.{keeps_registers}

-- What names stand for; whether the function keeps its variables in registers; the words of its frame; and where each fault leaves
-- to, as a word number.
pub record Scope : Type 0 where
  pub env : Env
  pub in_registers : Bool
  pub frame : ℕ
  pub exit : KernelFault → ℕ

-- the number of a fault's exit among those of the addresses
abbrev pub exit_number : KernelFault → ℕ
exit_number NullUse = 0
exit_number Bounds = 1
exit_number DivZero = 2
exit_number StackOut = 3

-- the word at which a fault leaves
abbrev pub exit_of : CodeAddresses → KernelFault → ℕ
exit_of addresses fault = slice_index addresses.faults (exit_number fault) / 4

-- the scope of a function of a unit, where the addresses are these
abbrev pub scope_of : CUnit → CFunction → CodeAddresses → Scope
scope_of u f addresses = record { env = env_in u f; in_registers = keeps_registers f; frame = words_of_frame (shapes u) f; exit = exit_of addresses }
