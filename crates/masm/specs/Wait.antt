-- A loop that waits for the disk: it reads the status until that is 0.
use Rattle.std.specs.Prelude.{◌≡◌, ◌≢◌, ℕ, ◌+◌, ◌*◌, ◌<◌, ◌==◌, if◌then◌else◌, true, List, [], ◌∷◌, None}
use Rattle.mips_table.specs.declared.inst.Inst.{Inst}
use Rattle.mips_table.specs.declared.effect.Effect.TheVariants.{Store}
use Rattle.mips_table.specs.Device.{Pending, Idle, Reading, Writing, COMMAND, SECTOR}
use Rattle.mips_table.specs.Code.{Contents, Behind, World, effect_at, filled, buffer_of}
use Rattle.masm.specs.Blocks.{loop_code}
use Rattle.masm.specs.Laws.{From}
use Rattle.masm.specs.declared.addresses.TheConstants.{READ_SECTOR, WRITE_SECTOR}
use Rattle.masm.specs.declared.roles.TheConstants.{STATUS}
use Rattle.masm.specs.declared.waiting.TheConstants.{READ_STATUS}

-- the status is read into STATUS, as long as it isn't 0
abbrev pub wait_code : List Inst
wait_code = loop_code READ_STATUS STATUS []

-- the steps of the wait: five more than those that end before the transfer of the command under way, and two where none is
abbrev pub wait_steps : Pending → ℕ
wait_steps Idle = 2
wait_steps (Reading steps sector) = steps + 5
wait_steps (Writing steps sector) = steps + 5

-- the words once the command is done: those that a sector is read into
abbrev pub words_after : Pending → (ℕ → ℕ) → Behind → ℕ → ℕ
words_after Idle m d = m
words_after (Reading steps sector) m d = filled m (d.sectors sector)
words_after (Writing steps sector) m d = m

-- what is behind the ports then: no command, and the sector that is written
abbrev pub behind_after : Pending → (ℕ → ℕ) → Behind → Behind
behind_after Idle m d = d
behind_after (Reading steps sector) m d = record d { pending = Idle }
behind_after (Writing steps sector) m d = record d { sectors = λ k. if k == sector then buffer_of m else d.sectors k; pending = Idle }

-- the words are these, STATUS is 0, and all else that the code sees is as it was
pub record Waited (m : ℕ → ℕ) (c c' : Contents) : Type 0 where
  pub words : c'.memory ≡ m
  pub status : c'.regs STATUS ≡ 0
  pub regs : (r : ℕ) → r ≢ STATUS → c'.regs r ≡ c.regs r
  pub hi : c'.hi ≡ c.hi
  pub lo : c'.lo ≡ c.lo
  pub special : c'.special ≡ c.special

-- the command under way is done within the steps of the wait
abbrev pub WaitRuns : World → Type 0
WaitRuns w = w.system ≡ true → (c : Contents) (d : Behind)
    → From w wait_code (wait_steps d.pending) c d (λ c' d'. Waited (words_after d.pending c.memory d) c c' × (d' ≡ behind_after d.pending c.memory d))

-- A command v may be given by this instruction, wherever it stands: it stores v to the command port, ports may be used, no command is under
-- way, and the sector may be used.
pub record MayCommand (w : World) (i : Inst) (v : ℕ) (c : Contents) (d : Behind) : Type 0 where
  pub stores : (n : ℕ) → effect_at i n c ≡ Store (4 * COMMAND) v
  pub system : w.system ≡ true
  pub free : w.kept COMMAND ≡ None
  pub idle : d.pending ≡ Idle
  pub sector : c.memory SECTOR < w.count

-- A command and the wait for it take the busy time of the command's number and five steps more: after a READ_SECTOR the
-- buffer holds the sector, and after a WRITE_SECTOR the sector holds the buffer.
pub record TransfersRun (w : World) : Type 0 where
  pub read : (i : Inst) (c : Contents) (d : Behind) → MayCommand w i READ_SECTOR c d
      → From w (i ∷ wait_code) (w.busy d.commands + 5) c d (λ c' d'. Waited (filled c.memory (d.sectors (c.memory SECTOR))) c c'
      × (d' ≡ record d { pending = Idle; commands = d.commands + 1 }))
  pub write : (i : Inst) (c : Contents) (d : Behind) → MayCommand w i WRITE_SECTOR c d
      → From w (i ∷ wait_code) (w.busy d.commands + 5) c d (λ c' d'. Waited c.memory c c'
      × (d' ≡ record d { pending = Idle; commands = d.commands + 1; sectors = λ k. if k == c.memory SECTOR then buffer_of c.memory else d.sectors k }))
