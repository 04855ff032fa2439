-- The flat machine: a processor and a list of words.
use Rattle.std.specs.Prelude.{ℕ, ◌/◌, Bool, nat_lt, List, length, slice_index, slice_set}
use Rattle.mips_table.specs.declared.cause.Cause.{Cause}
use Rattle.mips_table.specs.declared.cause.Cause.TheVariants as causes
use Rattle.mips_table.specs.Processor.{Cpu, Access, Move, Ran, Loaded, Stored, Trapped, Privileged, with_loaded, move}

-- the state: addresses are byte addresses, and word k stands at 4 * k
pub record Flat : Type 0 where
  pub cpu : Cpu
  pub words : List ℕ

-- what one step comes to: the machine after it, and the trap that came
pub data VStep : Type 0 where
  Goes : (after : Flat) → VStep
  Trap : (after : Flat) (cause : Cause) (edata : ℕ) → VStep

-- an aligned address is refused where it is past the words
abbrev pub is_inside : List ℕ → ℕ → Bool
is_inside words address = nat_lt (address / 4) (length words)

-- the same for every access
abbrev pub flat_access : List ℕ → Access
flat_access words = record { may_fetch = is_inside words; may_load = is_inside words; may_store = is_inside words }

-- the word at an address
abbrev pub word_at : List ℕ → ℕ → ℕ
word_at words address = slice_index words (address / 4)

-- the machine after a move; every instruction on special registers is illegal
abbrev pub after_move : Flat → Move → VStep
after_move f (Ran c) = Goes (record f { cpu = c })
after_move f (Loaded c register address) = Goes (record f { cpu = with_loaded c register (word_at f.words address) })
after_move f (Stored c address value) = Goes (record { cpu = c; words = slice_set f.words (address / 4) value })
after_move f (Trapped cause edata epc) = Trap (record f { cpu = record f.cpu { pc = epc } }) cause edata
after_move f (Privileged word) = Trap f causes.Illegal word

-- one step of the flat machine
abbrev pub vstep : Flat → VStep
vstep f = after_move f (move (flat_access f.words) f.cpu (word_at f.words f.cpu.pc))
