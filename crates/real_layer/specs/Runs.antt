-- A run of one block of the layer's code, as the machine makes it: in the block's words, with the sectors past the users' pages and the frames behind
-- the map's last one as they were, and no command for one of those sectors.
use Rattle.std.specs.Prelude.{◌≡◌, ◌≢◌, ℕ, ◌+◌, ◌*◌, ◌^◌, ◌<◌, ◌≤◌, ◌&&◌, not, false}
use Rattle.std.specs.Prelude.{nat_lt, if◌then◌else◌, List, length, map, slice_index, All, Option, Some, None}
use Rattle.mips_table.specs.declared.inst.Inst.{Inst}
use Rattle.mips_table.specs.Encoding.{InRange, encoding}
use Rattle.mips_table.specs.Device.{Idle, Environment}
use Rattle.mips_table.specs.Machine.{State, run}
use Rattle.mips_table.specs.Code.{Program, on_machine, World, CodeState, Steps}
use Rattle.mips_table.specs.Simulation.{configuration_of, Quiet}
use Rattle.layer_map.specs.Map.{layer_words, memory_words}
use Rattle.masm.specs.Standing.{only_block_at}
use Rattle.cvm_model.specs.Stands.{Site, is_own}
use Rattle.layer_contract.specs.declared.entry.Entry.{Entry}
use Rattle.layer_contract.specs.Layer.{layer_entry, IsEntry, Inside, SectorsStay, FramesStay, EndsNamed}

-- a block stands at word n of a site's linked words, all of which stay
pub record BlockIsLinked (y : Site) (n : ℕ) (is : List Inst) : Type 0 where
  pub range : All InRange is
  pub inside : n + length is ≤ length y.linked
  pub linked : (i : ℕ) → i < length is → slice_index y.linked (n + i) ≡ slice_index (map encoding is) i
  pub kept : (k : ℕ) → n ≤ k → k < n + length is → is_own y.map k ≡ false

-- the machine is quiet, holds the linked words that stay, and no command is under way
pub record Calm (x : Environment) (y : Site) (s : State) : Type 0 where
  pub quiet : Quiet x s
  pub long : length y.linked ≤ length s.memory
  pub small : length s.memory < 2 ^ 26
  pub stays : (k : ℕ) → k < length y.linked → is_own y.map k ≡ false → slice_index s.memory k ≡ slice_index y.linked k
  pub idle : s.device.pending ≡ Idle
  pub sectors : y.map.users * y.map.params.pages ≤ x.count

-- the words that stay: the linked ones but the layer's own, and those of memory behind the map's last frame
abbrev pub kept_words : Site → List ℕ → ℕ → Option ℕ
kept_words y memory k =
    if nat_lt k (memory_words y.map) then (if nat_lt k (length y.linked) && not (is_own y.map k) then Some (slice_index y.linked k) else None) else
    if nat_lt k (length memory) then Some (slice_index memory k) else
    None

-- the block at word n and no other code, over this memory; it may use the sectors of the users' pages
abbrev pub block_program : Site → (memory : List ℕ) (n : ℕ) → List Inst → Program
block_program y memory n is = record { code = only_block_at n is; kept = kept_words y memory; words = length memory; count = y.map.users * y.map.params.pages }

-- and its runs from a state
abbrev pub block_world : Environment → Site → State → ℕ → List Inst → World
block_world x y s n is = on_machine x (block_program y s.memory n is)

-- for n steps the machine is inside, with its pc at one of the words from a to b, the sectors past the users' pages and the frames behind the map's
-- last one stay, and no command is for one of those sectors
pub record LayerStretch (x : Environment) (y : Site) (a b n : ℕ) (s : State) : Type 0 where
  pub inside : (j : ℕ) → j < n → Inside (run x s j)
  pub from : (j : ℕ) → j < n → 4 * a ≤ (run x s j).cpu.pc
  pub to : (j : ℕ) → j < n → (run x s j).cpu.pc < 4 * b
  pub sectors : (j : ℕ) → j ≤ n → SectorsStay y.map s (run x s j)
  pub frames : (j : ℕ) → j ≤ n → FramesStay y.map s (run x s j)
  pub named : (j : ℕ) → j < n → EndsNamed x y.map (run x s j)

-- the machine makes a run of the block: after so many steps it is at t, and as calm as before where no command is under way
pub record MakesRun (x : Environment) (y : Site) (n : ℕ) (is : List Inst) (steps : ℕ) (s : State) (t : CodeState) : Type 0 where
  pub stretch : LayerStretch x y n (n + length is) steps s
  pub there : configuration_of (run x s steps) ≡ t
  pub calm : t.behind.pending ≡ Idle → Calm x y (run x s steps)
  pub size : length (run x s steps).memory ≡ length s.memory

-- each run of a block is made so, whatever lines are raised
abbrev pub BlocksRun : Type 0
BlocksRun = (x : Environment) (y : Site) (s : State) (t : CodeState) (n : ℕ) (is : List Inst) (steps : ℕ) → BlockIsLinked y n is → Calm x y s →
    Steps (block_world x y s n is) steps (configuration_of s) t → MakesRun x y n is steps s t

-- for n steps the machine is inside, at no entry and below the kernel's code, the sectors past the users' pages and the frames behind the map's last
-- one stay, and no command is for one of those sectors
pub record StaysBetween (x : Environment) (y : Site) (n : ℕ) (s : State) : Type 0 where
  pub inside : (j : ℕ) → j < n → Inside (run x s j)
  pub below : (j : ℕ) → j < n → (run x s j).cpu.pc < 4 * layer_words
  pub apart : (j : ℕ) (e : Entry) → j < n → IsEntry e → (run x s j).cpu.pc ≢ layer_entry e
  pub sectors : (j : ℕ) → j ≤ n → SectorsStay y.map s (run x s j)
  pub frames : (j : ℕ) → j ≤ n → FramesStay y.map s (run x s j)
  pub named : (j : ℕ) → j < n → EndsNamed x y.map (run x s j)
