-- The processor as the definitions of the table see it.
use Rattle.mips_table.specs.Processor as processor
use Rattle.mips_step.specs.declared.cpu.Cpu.{Cpu}

-- pc, registers, hi and lo
abbrev pub cpu_of : Cpu → processor.Cpu
cpu_of c = record { pc = c.pc; regs = c.regs; hi = c.hi; lo = c.lo }
