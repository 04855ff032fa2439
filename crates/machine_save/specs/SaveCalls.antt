-- THE SCRIPT OF A SAVE: the calls of its run, and behind them, where it is left to be saved, the put of its file and the row `saved`.
use Rattle.std.specs.Prelude.{◌≡◌, ℕ, ◌<◌, ◌≤◌, ◌^◌, ◌⊎◌, Option, None, List, [], ◌++◌, length, Result, Ok, Err}
use Rattle.std.specs.List.{flat_map}
use Rattle.cvm_words.specs.Bytes.{word}
use Rattle.cvm_outside.specs.Outside.{Files, Drive, files, output, drive}
use Rattle.cvm_outside.specs.declared.shelf.Shelf as shelf_of
use Rattle.cvm_outside.specs.declared.sink.Sink as sink_of
use Rattle.cvm_outside.specs.declared.sectors.Sectors as sectors_of
use Rattle.cvm_outside.specs.Script.{Call, Who, Performs}
use Rattle.schedule_file.specs.Rows.{Rows}
use Rattle.mips_table.specs.Machine.{State}
use Rattle.mips_machine.specs.Steps.{outside_of}
use Rattle.cvm_model.specs.Cvm.{System}
use Rattle.boot_turns.specs.LoopScripts.{AreOfRun}
use Rattle.boot_turns.specs.declared.answers.View.TheVariants.{Boot}
use Rattle.boot_run.specs.declared.load.LoadFault.{LoadFault}
use Rattle.boot_run.specs.declared.whole.RunEnd.{RunEnd}
use Rattle.boot_run.specs.declared.whole.RunEnd.TheVariants.{Stopped, SinkFault, ShelfFault}
use Rattle.boot_run.specs.LoadEnds.{Kept}
use Rattle.boot_run.specs.RunCalls.{run_at, of_end, of_answer, BegunScript}
use Rattle.boot_run.specs.Closing.{says}
use Rattle.boot_run.specs.RunScript.{saved_row, put_script, save_script}
use Rattle.boot_run.specs.SaveCalls.{due_stop}
use Rattle.boot_run.specs.Saving.{saved_run}

-- THE CALLS of the row, and of the put of a run's file with the row behind it: its bytes are those of the run's words, where they have room; and where no
-- call fails the run stopped
abbrev pub RowCalls : {O : Type 0} → sink_of.Ghosts O → (old new : O) → RunEnd → Type 0
RowCalls text old new end = ((shelf : Files) (disk : Drive) → Performs (says saved_row)
    (record { shelf = shelf; sink = output text old; disk = disk }) (record { shelf = shelf; sink = output text new; disk = disk }) (of_end end))
    × (of_end end ≡ None → end ≡ Stopped)

abbrev pub PutCalls : {S O L : Type 0} → shelf_of.Ghosts S → sink_of.Ghosts O → Kept L → (room : ℕ) → (name : List ℕ) → (old new : S × O) → RunEnd →
    Type 0
PutCalls shelf text run room name (s, o) (s', o') end = (bytes : List ℕ)
    × (length (saved_run run) ≤ room → run.turns < 2 ^ 32 → bytes ≡ flat_map word (saved_run run))
    × ((disk : Drive) → Performs (put_script name bytes)
    (record { shelf = files shelf s; sink = output text o; disk = disk }) (record { shelf = files shelf s'; sink = output text o'; disk = disk }) (of_end end))
    × (of_end end ≡ None → end ≡ Stopped)

-- calls of all three objects
abbrev pub AllMade : {S O D : Type 0} → shelf_of.Ghosts S → sink_of.Ghosts O → sectors_of.Ghosts D → (old new : S × O × D) → List Call → Option Who → Type 0
AllMade shelf text told (s, o, d) (s', o', d') script blamed = Performs script
    (record { shelf = files shelf s; sink = output text o; disk = drive told d })
    (record { shelf = files shelf s'; sink = output text o'; disk = drive told d' }) blamed

-- what is left where nothing is told: a file and the row, or nothing; where the sink failed, nothing as it failed in the run, the file as in the row
abbrev pub SomeLeft : (name : List ℕ) → Result RunEnd LoadFault → List Call → Type 0
SomeLeft name (Ok Stopped) left = (bytes : List ℕ) × (left ≡ put_script name bytes)
SomeLeft name (Ok ShelfFault) left = (bytes : List ℕ) × (left ≡ put_script name bytes)
SomeLeft name (Ok SinkFault) left = (left ≡ []) ⊎ ((bytes : List ℕ) × (left ≡ put_script name bytes))
SomeLeft name (Ok other) left = left ≡ []
SomeLeft name (Err fault) left = left ≡ []

-- THE CALLS OF A WHOLE SAVE, as those of a whole boot
abbrev pub SavedScript : {S O D : Type 0} → shelf_of.Ghosts S → sink_of.Ghosts O → sectors_of.Ghosts D → System → Rows →
    (start : List (List ℕ) → State) → (turns steps : ℕ) → (load : List Call) → (name : List ℕ) → (old new : S × O × D) → Result RunEnd LoadFault → Type 0
SavedScript shelf text told y rows start turns steps load name old new result = BegunScript (AllMade shelf text told old new) (told.sectors old.2)
    (λ sectors. run_at (outside_of rows (told.size old.2)) y (start sectors) Boot turns steps) (λ r. save_script name r load) due_stop
    ((more : List Call) × AreOfRun more × (left : List Call) × SomeLeft name result left
    × AllMade shelf text told old new (load ++ more ++ left) (of_answer result)) (new ≡ old) result
