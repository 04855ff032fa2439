-- The addresses that the code of a unit names, and what a jump, a call and a return do.
use Rattle.std.specs.Prelude.{◌≡◌, ℕ, ◌+◌, ◌*◌, ◌/◌, ◌%◌, ◌^◌, ◌<◌, All, Some}
use Rattle.mips_table.specs.declared.inst.Inst.TheVariants.{J, Jal, Jr}
use Rattle.mips_table.specs.Device.{Idle}
use Rattle.mips_table.specs.Code.{Contents, with_reg, Behind, World, at_with, Reaches}
use Rattle.masm.specs.declared.registers.CodeAddresses.{CodeAddresses}
use Rattle.masm.specs.declared.registers.TheConstants.{RETURN}

-- the address of a word that every jump reaches
abbrev pub IsJumpTarget : ℕ → Type 0
IsJumpTarget a = (a % 4 ≡ 0) × (a < 2 ^ 28)

-- each address of these is one
pub record AreCodeAddresses (p : CodeAddresses) : Type 0 where
  pub globals : IsJumpTarget p.globals
  pub faults : All IsJumpTarget p.faults
  pub multiply : IsJumpTarget p.multiply
  pub divide : IsJumpTarget p.divide
  pub remainder : IsJumpTarget p.remainder
  pub new_object : IsJumpTarget p.new_object
  pub functions : All IsJumpTarget p.functions.items
  pub primitives : All IsJumpTarget p.primitives.items

-- The word of an instruction that jumps, calls or returns, where no command is under way: a jump leads to the place's word, a call does too
-- and leaves the address behind it in the return register, and a return leads to the word whose address is there. Each takes a step, and
-- nothing else changes: so what a called routine keeps is kept across its call.
pub record CallsLead (w : World) : Type 0 where
  pub jumps : (k a : ℕ) (c : Contents) (d : Behind) → w.code k ≡ Some (J (a / 4)) → d.pending ≡ Idle → Reaches w 1 (at_with k c d) (at_with (a / 4) c d)
  pub calls : (k a : ℕ) (c : Contents) (d : Behind) → w.code k ≡ Some (Jal (a / 4)) → d.pending ≡ Idle →
      Reaches w 1 (at_with k c d) (at_with (a / 4) (with_reg c RETURN (4 * (k + 1))) d)
  pub returns : (k to : ℕ) (c : Contents) (d : Behind) → w.code k ≡ Some (Jr RETURN) → c.regs RETURN ≡ 4 * to → d.pending ≡ Idle →
      Reaches w 1 (at_with k c d) (at_with to c d)
  pub across : (k a m : ℕ) (c : Contents) (d : Behind) (c' : Contents) (d' : Behind) → w.code k ≡ Some (Jal (a / 4)) → d.pending ≡ Idle →
      Reaches w m (at_with (a / 4) (with_reg c RETURN (4 * (k + 1))) d) (at_with (k + 1) c' d') → Reaches w (1 + m) (at_with k c d) (at_with (k + 1) c' d')
