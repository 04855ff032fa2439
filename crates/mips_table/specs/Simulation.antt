-- How the machines simulate a run of code: the physical one in system mode with sr 0, and the flat one.
use Rattle.std.specs.Prelude.{◌≡◌, ℕ, zero, suc, ◌+◌, ◌-◌, ◌/◌, ◌%◌, ◌<◌, ◌≤◌, false}
use Rattle.std.specs.Prelude.{nat_lt, ◌==◌, if◌then◌else◌, List, [], length, slice_index, bit_or, All, Some, None}
use Rattle.mips_table.specs.declared.inst.Inst.{Inst}
use Rattle.mips_table.specs.Flat.{Flat, VStep, Goes, Trap, vstep}
use Rattle.mips_table.specs.Device.{Device, Idle, Environment, BUFFER, SECTOR, is_buffer, sector_of}
use Rattle.mips_table.specs.Processor.{Cpu}
use Rattle.mips_table.specs.declared.special.TheConstants.{SR, MODE}
use Rattle.mips_table.specs.Machine.{State, Done, coming, latched, run}
use Rattle.mips_table.specs.Fits.{IsWord, CpuFits, NamesSector, Fits}
use Rattle.mips_table.specs.Code.{Contents, Behind, World, Program, on_machine, on_flat, Sound, CodeState, at_with, code_run, Steps}

-- the words that can be read while no command is under way: of memory, of the buffer, and the sector register
abbrev pub space : List ℕ → List ℕ → ℕ → ℕ → ℕ
space memory buffer sector k =
    if nat_lt k (length memory) then slice_index memory k else
    if is_buffer k then slice_index buffer (k - BUFFER) else
    if k == SECTOR then sector else
    0

-- what a run of code sees of a processor, special registers and words
abbrev pub contents_of : Cpu → List ℕ → (ℕ → ℕ) → Contents
contents_of c special words = record { regs = slice_index c.regs; hi = c.hi; lo = c.lo; special = slice_index special; memory = words }

-- the sectors as functions
abbrev pub sectors_of : List (List ℕ) → ℕ → ℕ → ℕ
sectors_of sectors i = slice_index (sector_of sectors i)

-- what it sees behind the ports
abbrev pub behind_of : Device → List ℕ → List ℕ → Behind
behind_of d log input = record { pending = d.pending; commands = d.commands; sectors = sectors_of d.sectors; log = log; input = input }

-- what it sees of the whole machine
abbrev pub configuration_of : State → CodeState
configuration_of s = at_with (s.cpu.pc / 4) (contents_of s.cpu s.special (space s.memory s.device.buffer s.device.sector)) (behind_of s.device s.log s.input)

-- the machine fits, is on, in system mode with sr 0, and no reset is latched
pub record Quiet (x : Environment) (s : State) : Type 0 where
  pub fits : Fits x s
  pub on : s.off ≡ None
  pub no_reset : s.reset ≡ false
  pub sr : slice_index s.special SR ≡ 0
  pub mode : slice_index s.special MODE ≡ 0
  pub aligned : s.cpu.pc % 4 ≡ 0

-- a memory of the world's words holds each kept word; the code is among these
pub record MemoryHolds (w : World) (memory : List ℕ) : Type 0 where
  pub size : length memory ≡ w.words
  pub kept : (k v : ℕ) → w.kept k ≡ Some v → slice_index memory k ≡ v

-- the disk has the sectors that the code may use, and a command that is under way is for one of them
pub record DiskServes (x : Environment) (w : World) (d : Device) : Type 0 where
  pub count : w.count ≤ x.count
  pub named : NamesSector w.count d.pending

-- the mask after n steps from step t on: the lines of these steps are joined to it
abbrev pub raised : Environment → ℕ → ℕ → ℕ → ℕ
raised x zero t mask = mask
raised x (suc n) t mask = bit_or (raised x n t mask) (x.lines (t + n))

-- the state after j steps of the run: quiet, with the kept words and the sectors that the code may not use as they were; raised lines
-- only join the mask
pub record Along (x : Environment) (w : World) (s : State) (j : ℕ) : Type 0 where
  pub quiet : Quiet x (run x s j)
  pub holds : MemoryHolds w (run x s j).memory
  pub serves : DiskServes x w (run x s j).device
  pub sectors : (q : ℕ) → w.count ≤ q → sector_of (run x s j).device.sectors q ≡ sector_of s.device.sectors q
  pub mask : (run x s j).mask ≡ raised x j s.time s.mask
  pub time : (run x s j).time ≡ s.time + j

-- the step from this state is that of an instruction of the code, and takes no interrupt; a command that is under way before the disk
-- counts is for a sector that the code may use
pub record Instructs (x : Environment) (w : World) (s : State) : Type 0 where
  pub inst : Inst
  pub code : w.code (s.cpu.pc / 4) ≡ Some inst
  pub after : State
  pub untaken : coming x (latched x s) ≡ Done after
  pub named : NamesSector w.count after.device.pending

-- n steps of code, as the machine makes them, whatever lines are raised: each state on the way is what the code comes to
pub record Simulates (x : Environment) (w : World) (n : ℕ) (s : State) : Type 0 where
  pub same : (j : ℕ) → j ≤ n → configuration_of (run x s j) ≡ code_run w (configuration_of s) j
  pub along : (j : ℕ) → j ≤ n → Along x w s j
  pub instructs : (j : ℕ) → j < n → Instructs x w (run x s j)

-- the physical machine simulates each run of code
abbrev pub MachineSimulates : Type 0
MachineSimulates = (x : Environment) (p : Program) (s : State) (n : ℕ) (t : CodeState) → Sound (on_machine x p) → Quiet x s
    → MemoryHolds (on_machine x p) s.memory
    → DiskServes x (on_machine x p) s.device → Steps (on_machine x p) n (configuration_of s) t → Simulates x (on_machine x p) n s

-- nothing is behind the ports of a machine that has none
abbrev pub nothing_behind : Behind
nothing_behind = record { pending = Idle; commands = 0; sectors = λ _ _. 0; log = []; input = [] }

-- what a run of code sees of the flat machine
abbrev pub flat_configuration : Flat → CodeState
flat_configuration f = at_with (f.cpu.pc / 4) (contents_of f.cpu [] (slice_index f.words)) nothing_behind

-- the flat machine has words below 2^32, 32 registers, and a pc that is a multiple of 4
pub record FlatFits (f : Flat) : Type 0 where
  pub cpu : CpuFits f.cpu
  pub aligned : f.cpu.pc % 4 ≡ 0
  pub words : All IsWord f.words

-- the flat machine after a step
abbrev pub flat_after : VStep → Flat
flat_after (Goes after) = after
flat_after (Trap after cause edata) = after

-- the flat machine after so many steps
abbrev pub flat_run : Flat → ℕ → Flat
flat_run f zero = f
flat_run f (suc n) = flat_after (vstep (flat_run f n))

-- the state after j steps of the run: it fits, with the kept words as they were
pub record FlatAlong (w : World) (f : Flat) (j : ℕ) : Type 0 where
  pub fits : FlatFits (flat_run f j)
  pub holds : MemoryHolds w (flat_run f j).words

-- the step from this state is that of an instruction of the code, and doesn't trap
pub record FlatInstructs (w : World) (f : Flat) : Type 0 where
  pub inst : Inst
  pub code : w.code (f.cpu.pc / 4) ≡ Some inst
  pub untrapped : vstep f ≡ Goes (flat_after (vstep f))

-- n steps of code, as the flat machine makes them
pub record SimulatesFlat (w : World) (n : ℕ) (f : Flat) : Type 0 where
  pub same : (j : ℕ) → j ≤ n → flat_configuration (flat_run f j) ≡ code_run w (flat_configuration f) j
  pub along : (j : ℕ) → j ≤ n → FlatAlong w f j
  pub instructs : (j : ℕ) → j < n → FlatInstructs w (flat_run f j)

-- the flat machine simulates each run of code too
abbrev pub FlatSimulates : Type 0
FlatSimulates = (p : Program) (f : Flat) (n : ℕ) (t : CodeState) → Sound (on_flat p) → FlatFits f → MemoryHolds (on_flat p) f.words
    → Steps (on_flat p) n (flat_configuration f) t → SimulatesFlat (on_flat p) n f
