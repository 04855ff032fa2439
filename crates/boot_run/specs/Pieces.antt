-- The pieces of a whole run: its premises, what the loop over turns comes to, and how a run ends in which a call fails.
use Rattle.std.specs.Prelude.{⊤, ◌≡◌, ℕ, suc, ◌+◌, ◌≤◌, false, Option, Some, List, Result, MatchResult}
use Rattle.mips_table.specs.Device.{Environment}
use Rattle.mips_table.specs.Machine.{State, run}
use Rattle.mips_table.specs.Turns.{is_end, IsTurnEnd, end_within}
use Rattle.schedule_file.specs.Rows.{Rows}
use Rattle.mips_machine.specs.Steps.{outside_of}
use Rattle.c0_tree.specs.View.{unit_view}
use Rattle.c0_meaning.specs.TypedState.{IsTypedState}
use Rattle.cvm_model.specs.Cvm.{System, Cvm}
use Rattle.layer_contract.specs.declared.boot.Boot.{Boot as Booted}
use Rattle.layer_contract.specs.Boots.{boot_of}
use Rattle.layer_contract.specs.Follows.{loaded}
use Rattle.layer_contract.specs.Starts.{user_sectors, Beyond}
use Rattle.boot_turns.specs.Sooner.{NoSooner}
use Rattle.boot_turns.specs.Premises.{StartsFrom}
use Rattle.boot_turns.specs.Rom.{rom_sectors, rom_steps}
use Rattle.boot_turns.specs.declared.answers.View.{View}
use Rattle.boot_turns.specs.declared.answers.RunFault.{RunFault}
use Rattle.boot_turns.specs.declared.answers.RunFault.TheVariants.{StepLimit, Disk, Sink}
use Rattle.boot_run.specs.declared.whole.RunEnd.{RunEnd}
use Rattle.boot_run.specs.declared.whole.RunEnd.TheVariants as ends
use Rattle.boot_run.specs.Loading.{system_of}
use Rattle.boot_run.specs.LoadEnds.{Kept, pages_needed, rom_needed}
use Rattle.boot_run.specs.SavedRuns.{IsDisk}
use Rattle.boot_run.specs.TurnCalls.{Around, ReadyAt}
use Rattle.boot_run.specs.Whole.{rom_start_of}

-- The premises of a run: what is booted under these rows, over a disk of so many sectors, which were `old` before the load. It
-- starts from `s`, from which the layer takes over after `late` steps, and its sectors are those below `held`.
pub record Bootable (b : Booted) (rows : Rows) (count : ℕ) (y : System) (s : State) (late held : ℕ) (old : List (List ℕ)) : Type 0 where
  pub starts : StartsFrom (IsTypedState (unit_view b.unit)) (outside_of rows count) y s late held
  pub beyond : Beyond held old s.device.sectors
  pub same : y.boot ≡ boot_of b

-- so it is of the loaded machine with each disk of so many sectors
abbrev pub AreBoots : Booted → Rows → (count : ℕ) → Type 0
AreBoots b rows count = (old : List (List ℕ)) → IsDisk count old →
    Bootable b rows count (system_of b rows) (loaded (system_of b rows) old) 1 (user_sectors (system_of b rows)) old

-- and of the machine with its boot ROM
pub record RomBootable (b : Booted) (rows : Rows) (count : ℕ) (old : List (List ℕ)) : Type 0 where
  pub late : ℕ
  pub within : late ≤ rom_steps (system_of b rows)
  pub bootable : Bootable b rows count (system_of b rows) (rom_start_of (system_of b rows) old) late (rom_sectors (system_of b rows)) old

abbrev pub AreRomBoots : Booted → Rows → (count : ℕ) → Type 0
AreRomBoots b rows count = (old : List (List ℕ)) → IsDisk count old → RomBootable b rows count old

-- where the sectors are told, and are enough
abbrev pub AreBootable : Booted → Rows → (count : ℕ) → (told : Option (List (List ℕ))) → Type 0
AreBootable b rows count told = (old : List (List ℕ)) → told ≡ Some old → pages_needed b ≤ count →
    Bootable b rows count (system_of b rows) (loaded (system_of b rows) old) 1 (user_sectors (system_of b rows)) old

abbrev pub AreRomBootable : Booted → Rows → (count : ℕ) → (told : Option (List (List ℕ))) → Type 0
AreRomBootable b rows count told = (old : List (List ℕ)) → told ≡ Some old → rom_needed b ≤ count → RomBootable b rows count old

-- the wanted turns are complete, or the run has ended, within the steps
pub record Gone (x : Environment) (y : System) (s : State) (v : View) (turns steps : ℕ) (after : Around) : Type 0 where
  pub count : ℕ
  pub at : ℕ
  pub past : Cvm
  pub ready : ReadyAt x y s v (suc count) at past after
  pub end : IsTurnEnd x s turns at
  pub within : at ≤ steps

-- they aren't
pub record Late (x : Environment) (s : State) (turns steps : ℕ) (after : Around) : Type 0 where
  pub none : is_end x s turns (end_within x s turns steps) ≡ false
  pub state : after.state ≡ Some (run x s (end_within x s turns steps))

-- the steps were spent; what a fault of the disk or the sink leaves the script tells
abbrev pub GoFails : Environment → State → (turns steps : ℕ) → Around → RunFault → Type 0
GoFails x s turns steps after StepLimit = Late x s turns steps after
GoFails x s turns steps after other = ⊤

-- k turns are complete at step t for the first time: before, fewer were, and the machine was on
abbrev pub FirstAt : Environment → State → (k t : ℕ) → Type 0
FirstAt x s k t = NoSooner x s k t

-- THE LOOP over turns, from any moment at which turns are complete for the first time
abbrev pub GoRuns : {L : Type 0} → (count : ℕ) → Kept L → ℕ → (before after : Around) → Result (Unit {0}) RunFault → Type 0
GoRuns count r turns before after result =
    (y : System) (s : State) (late held : ℕ) (old : List (List ℕ)) (k t wanted steps : ℕ) (c : Cvm) →
    Bootable r.boot r.machine.rows count y s late held old →
    FirstAt (outside_of r.machine.rows count) s k t → 1 ≤ wanted → k + turns ≡ wanted → before.budget + t ≡ steps →
    ReadyAt (outside_of r.machine.rows count) y s r.view k t c before →
    MatchResult result (λ _. Gone (outside_of r.machine.rows count) y s r.view wanted steps after)
    (GoFails (outside_of r.machine.rows count) s wanted steps after)

-- how an ended run is told, and a fault
abbrev pub end_of_fault : RunFault → RunEnd
end_of_fault StepLimit = ends.OutOfSteps
end_of_fault Disk = ends.DiskFault
end_of_fault Sink = ends.SinkFault
