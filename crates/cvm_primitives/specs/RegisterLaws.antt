-- The laws of the primitives that use no page: each answers and changes what is said of it, for good and for bad arguments.
use Rattle.std.specs.Prelude.{ℕ, List, length}
use Rattle.mips_table.specs.declared.inst.Inst.{Inst}
use Rattle.mips_table.specs.Arith.{signed}
use Rattle.mips_table.specs.Flat.{Flat}
use Rattle.mips_table.specs.Code.{Contents, Behind, World}
use Rattle.masm.specs.declared.registers.TheConstants.{ARGUMENTS}
use Rattle.masm.specs.Laws.{From}
use Rattle.cvm_model.specs.Primitives.{KernelCall, VmGet, VmSet, VmSize, ConPut, ConGet, ConLeft, prim}
use Rattle.cvm_primitives.specs.declared.roles.TheConstants.{USER, NUMBER, VALUE}
use Rattle.cvm_primitives.specs.RegisterCode.{vm_get_code, vm_set_code, vm_size_code, con_put_code, con_get_code, con_left_code}
use Rattle.cvm_primitives.specs.Blocks.{EnteredOnBlocks, LeftByCall, console_of}

-- a call of a primitive by this code takes at most so many steps, and comes to what is said of the call
abbrev pub AnswersInRegisters : World → List Inst → ℕ → KernelCall → (most : ℕ) → List Flat → Contents → Behind → Type 0
AnswersInRegisters w code steps call most users c d = From w code steps c d (LeftByCall users (prim most call users (console_of d)) c d)

-- the calls, with their arguments as registers hold them
abbrev pub get_call : Contents → KernelCall
get_call c = VmGet (signed (c.regs USER)) (signed (c.regs NUMBER))

abbrev pub set_call : Contents → KernelCall
set_call c = VmSet (signed (c.regs USER)) (signed (c.regs NUMBER)) (signed (c.regs VALUE))

abbrev pub size_call : Contents → KernelCall
size_call c = VmSize (signed (c.regs USER))

abbrev pub console_put_call : Contents → KernelCall
console_put_call c = ConPut (signed (c.regs ARGUMENTS))

-- vm_get, vm_set and vm_size, and the console's calls
pub record RegisterCallsAnswer (w : World) (most : ℕ) (users : List Flat) (c : Contents) (d : Behind) : Type 0 where
  pub get : AnswersInRegisters w (vm_get_code (length users)) 14 (get_call c) most users c d
  pub set : AnswersInRegisters w (vm_set_code (length users)) 15 (set_call c) most users c d
  pub size : AnswersInRegisters w (vm_size_code (length users)) 8 (size_call c) most users c d
  pub put : AnswersInRegisters w con_put_code 3 (console_put_call c) most users c d
  pub take : AnswersInRegisters w con_get_code 1 ConGet most users c d
  pub left : AnswersInRegisters w con_left_code 1 ConLeft most users c d

-- they do from wherever they are entered
abbrev pub RegistersAnswer : World → Type 0
RegistersAnswer w = (most : ℕ) (users : List Flat) (c : Contents) (d : Behind) → EnteredOnBlocks w users c d → RegisterCallsAnswer w most users c d
