-- Where a run that is to be saved stops, and what a run is that was taken up from saved words.
use Rattle.std.specs.Prelude.{⊤, ◌≡◌, ℕ, ◌+◌, ◌≤◌, Option, Some, None, List, [], Result, Ok, Err}
use Rattle.mips_table.specs.Device.{Environment}
use Rattle.mips_table.specs.Machine.{State, run}
use Rattle.schedule_file.specs.Rows.{Rows}
use Rattle.mips_machine.specs.Machine.{state_of}
use Rattle.mips_machine.specs.Saved.{saved, CanBeSaved}
use Rattle.mips_machine.specs.Steps.{outside_of}
use Rattle.cvm_model.specs.Cvm.{System, Cvm}
use Rattle.layer_contract.specs.declared.boot.Boot.{Boot as Booted}
use Rattle.layer_contract.specs.Follows.{loaded}
use Rattle.boot_turns.specs.declared.answers.View.TheVariants.{Boot}
use Rattle.boot_run.specs.declared.load.LoadFault.{LoadFault}
use Rattle.boot_run.specs.declared.whole.RunEnd.{RunEnd}
use Rattle.boot_run.specs.declared.whole.RunEnd.TheVariants.{Stopped}
use Rattle.boot_run.specs.Loading.{system_of}
use Rattle.boot_run.specs.LoadEnds.{Kept}
use Rattle.boot_run.specs.SavedRuns.{SavedAt}
use Rattle.boot_run.specs.TurnCalls.{Around, run_around, ReadyAt}
use Rattle.boot_run.specs.Pieces.{Bootable, FirstAt}

-- the words of a saved run: those of its machine, among which no sector stands, with its complete turns and its current user
abbrev pub saved_run : {L : Type 0} → Kept L → List ℕ
saved_run r = saved r.machine.rows.inputs (state_of r.machine []) r.turns r.current

-- WHERE A RUN THAT IS TO BE SAVED STOPS, from `s`: these words are those of its machine there, and these sectors its own. Of one that ends nothing is
-- said
abbrev pub SaveStops : Environment → System → State → (turns steps : ℕ) → (words : List ℕ) → (now : List (List ℕ)) → RunEnd → Type 0
SaveStops x y s turns steps words now end = end ≡ Stopped → (shown : List ℕ) × SavedAt x y s turns steps words now shown

-- so it is of a loaded run, from any moment at which turns are complete for the first time
abbrev pub RunsToStop : {L : Type 0} → (count : ℕ) → (r new : Kept L) → (turns : ℕ) → (before : Around) → (retold : Option (List (List ℕ))) → RunEnd →
    Type 0
RunsToStop count r new turns before retold result =
    (s : State) (late held : ℕ) (old : List (List ℕ)) (k t wanted total : ℕ) (c : Cvm) (now : List (List ℕ)) →
    Bootable r.boot r.machine.rows count (system_of r.boot r.machine.rows) s late held old → r.view ≡ Boot →
    FirstAt (outside_of r.machine.rows count) s k t → 1 ≤ wanted → k + turns ≡ wanted → before.budget + t ≡ total →
    ReadyAt (outside_of r.machine.rows count) (system_of r.boot r.machine.rows) s r.view k t c before → retold ≡ Some now →
    SaveStops (outside_of r.machine.rows count) (system_of r.boot r.machine.rows) s wanted total (saved_run new) now result

-- and of a call that loads one, with the run
abbrev pub AnswerStops : {L : Type 0} → Environment → System → State → (turns steps : ℕ) → (now : List (List ℕ)) → Result (Kept L × RunEnd) LoadFault → Type 0
AnswerStops x y s turns steps now (Ok (r, e)) = SaveStops x y s turns steps (saved_run r) now e
AnswerStops x y s turns steps now (Err fault) = ⊤

-- for what is booted, a schedule's rows and a disk of so many sectors, where it tells them before and after
abbrev pub WholeStops : {L : Type 0} → Booted → Rows → ℕ → (turns steps : ℕ) → (told retold : Option (List (List ℕ))) →
    Result (Kept L × RunEnd) LoadFault → Type 0
WholeStops b rows count turns steps told retold result = (old now : List (List ℕ)) → told ≡ Some old → retold ≡ Some now →
    AnswerStops (outside_of rows count) (system_of b rows) (loaded (system_of b rows) old) turns steps now result

-- A RUN THAT WAS TAKEN UP and made no step since: of a boot, it goes on, and its machine can be saved
pub record IsResumed {L : Type 0} (r : Kept L) : Type 0 where
  pub view : r.view ≡ Boot
  pub ended : r.ended ≡ None
  pub fault : r.fault ≡ None
  pub tracer : r.tracer ≡ None
  pub some : 1 ≤ r.turns
  pub ready : (sectors : List (List ℕ)) → CanBeSaved r.machine.rows.inputs (state_of r.machine sectors)

-- from these words, under these rows, over a disk of so many sectors
pub record IsTakenUp {L : Type 0} (layer : L) (boot : Booted) (rows : Rows) (count : ℕ) (words : List ℕ) (r : Kept L) : Type 0 where
  pub layer_is : r.layer ≡ layer
  pub boot_is : r.boot ≡ boot
  pub rows_are : r.machine.rows ≡ rows
  pub count_is : r.count ≡ count
  pub words_are : saved_run r ≡ words
  pub resumed : IsResumed r

-- one that goes on stops there, untouched
abbrev pub StaysThere : {L D O : Type 0} → Kept L → D → O → Kept L → D → O → RunEnd → Type 0
StaysThere run disk out new redisk reout end = end ≡ Stopped → (run.ended ≡ None) × (new ≡ run) × (redisk ≡ disk) × (reout ≡ out)

-- The calls, by the run and the disk before, and then by those after. The first words of each tell the disk's size and its sectors.
module _ {D : Type 0} (size : D → ℕ) (sectors : D → Option (List (List ℕ))) where
  -- a loaded run is run to where it can be saved
  abbrev pub RunStops : {L : Type 0} → (turns steps : ℕ) → Kept L → D → Kept L → D → RunEnd → Type 0
  RunStops turns steps run disk new redisk result = RunsToStop (size disk) run new turns (run_around run (sectors disk) steps) (sectors redisk) result

-- what is booted over such a disk, under a schedule, is run so
abbrev pub StopsSaved : {L D : Type 0} → (size : D → ℕ) → (sectors : D → Option (List (List ℕ))) → Booted → Rows → (turns steps : ℕ) → D → D →
    Result (Kept L × RunEnd) LoadFault → Type 0
StopsSaved size sectors boot rows turns steps disk redisk result =
    WholeStops boot rows (size disk) turns steps (sectors disk) (sectors redisk) result
