-- Frames of memory and sectors of the disk: what a block that writes a frame to a sector does, and what stays beside.
use Rattle.std.specs.Prelude.{◌≡◌, ◌≢◌, ℕ, ◌+◌, ◌*◌, ◌<◌, ◌≤◌, true, List, None}
use Rattle.mips_table.specs.declared.inst.Inst.{Inst}
use Rattle.mips_table.specs.Device.{Idle, BUFFER, COMMAND}
use Rattle.mips_table.specs.Code.{Contents, Behind, World}
use Rattle.masm.specs.Laws.{From}
use Rattle.masm.specs.declared.roles.TheConstants.{ORDER, VICTIM_AT, OUT_PAGE}

-- the disk may be used, and is busy for b steps at most
pub record HasDisk (w : World) (b : ℕ) : Type 0 where
  pub system : w.system ≡ true
  pub free : (x : ℕ) → BUFFER ≤ x → x ≤ COMMAND → w.kept x ≡ None
  pub busy : (n : ℕ) → w.busy n ≤ b

-- the special registers, hi and lo, and the console's log and input are as before, and no command is under way
pub record Besides (c0 : Contents) (d0 : Behind) (c : Contents) (d : Behind) : Type 0 where
  pub special : c.special ≡ c0.special
  pub hi : c.hi ≡ c0.hi
  pub lo : c.lo ≡ c0.lo
  pub log : d.log ≡ d0.log
  pub input : d.input ≡ d0.input
  pub idle : d.pending ≡ Idle

-- sector s is frame g; memory, the other sectors, and the registers behind ORDER are as before
pub record SwappedOut (s g : ℕ) (c0 : Contents) (d0 : Behind) (c : Contents) (d : Behind) : Type 0 where
  pub sector : (i : ℕ) → i < 1024 → d.sectors s i ≡ c0.memory (1024 * g + i)
  pub sectors : (x i : ℕ) → x ≢ s → d.sectors x i ≡ d0.sectors x i
  pub memory : (x : ℕ) → x < BUFFER → c.memory x ≡ c0.memory x
  pub regs : (x : ℕ) → ORDER < x → c.regs x ≡ c0.regs x
  pub commands : d.commands ≡ d0.commands + 1
  pub besides : Besides c0 d0 c d

-- the block writes the frame at the address in VICTIM_AT to the sector in OUT_PAGE, within so many steps
abbrev pub WritesFrames : World → List Inst → ℕ → Type 0
WritesFrames w out steps = (s g : ℕ) (c : Contents) (d : Behind) → c.regs OUT_PAGE ≡ s → c.regs VICTIM_AT ≡ 4096 * g → 1024 * g + 1024 ≤ w.words → s < w.count →
    d.pending ≡ Idle → From w out steps c d (SwappedOut s g c d)
