-- THE SCRIPT OF A RESUME: of a run that was saved the rest of that boot's; and whatever its file holds, the machine's own transfers, with texts that
-- aren't told.
use Rattle.std.specs.Prelude.{◌≡◌, ℕ, ◌-◌, ◌≤◌, Some, List, Result, Ok, IfOk, IfErr, MatchResult}
use Rattle.std.specs.List.{flat_map}
use Rattle.cvm_words.specs.Bytes.{word}
use Rattle.cvm_outside.specs.declared.sink.Sink as sink_of
use Rattle.cvm_outside.specs.declared.sectors.Sectors as sectors_of
use Rattle.schedule_file.specs.Rows.{Rows}
use Rattle.mips_table.specs.Machine.{State}
use Rattle.mips_machine.specs.Steps.{outside_of}
use Rattle.layer_contract.specs.declared.boot.Boot.{Boot as Booted}
use Rattle.layer_contract.specs.Follows.{loaded}
use Rattle.layer_contract.specs.Boots.{boot_of}
use Rattle.saved_file.specs.Answer.{answer}
use Rattle.saved_file.specs.declared.fault.SaveFault.TheVariants.{Memory}
use Rattle.boot_turns.specs.declared.answers.View.TheVariants.{Boot}
use Rattle.boot_turns.specs.Runs.{Run, Past, turns_at}
use Rattle.boot_run.specs.declared.whole.RunEnd.{RunEnd}
use Rattle.boot_run.specs.AnyScripts.{EndsUntold}
use Rattle.boot_run.specs.Loading.{system_of}
use Rattle.boot_run.specs.LoadEnds.{pages_needed}
use Rattle.boot_run.specs.RunCalls.{run_at, due_end, of_end, RunEndsBy, SomeMade}
use Rattle.boot_run.specs.RunScript.{WasSaved, rest_script}
use Rattle.boot_run.specs.SavedFiles.{wanted_of}
use Rattle.boot_run.specs.SavedRuns.{IsDisk}
use Rattle.machine_save.specs.ResumeRun.{Names}
use Rattle.machine_save.specs.declared.resuming.ResumeFault.{ResumeFault}
use Rattle.machine_save.specs.declared.resuming.ResumeFault.TheVariants.{Save}

-- the run of a boot of what is booted over a disk that had these sectors
abbrev pub boot_over : Booted → Rows → (turns steps count : ℕ) → (sectors : List (List ℕ)) → Run
boot_over b rows turns steps count sectors = run_at (outside_of rows count) (system_of b rows) (loaded (system_of b rows) sectors) Boot turns steps

-- A RESUME OF A BOOT THAT WAS SAVED, with some turns, and no more than it may make: it performs the rest of that boot's script, with its texts, and ends as
-- it; or there was no memory
abbrev pub RestPerformed : {O D : Type 0} → sink_of.Ghosts O → sectors_of.Ghosts D → Booted → Rows → (turns steps : ℕ) → (bytes : List ℕ) →
    (old new : O × D) → Result RunEnd ResumeFault → Type 0
RestPerformed text told b rows turns steps bytes (out, disk) new result =
    (sectors left : List (List ℕ)) (words : List ℕ) (past : Past) (made : ℕ) → pages_needed b ≤ told.size disk → IsDisk (told.size disk) sectors →
    told.sectors disk ≡ Some left → bytes ≡ flat_map word words →
    WasSaved (boot_over b rows turns steps (told.size disk) sectors) past words left made →
    1 ≤ turns_at (boot_over b rows turns steps (told.size disk) sectors) made →
    turns_at (boot_over b rows turns steps (told.size disk) sectors) made ≤ turns → MatchResult result
    (λ end. RunEndsBy text told (out, disk) new (rest_script (boot_over b rows turns steps (told.size disk) sectors) past made)
    (due_end (boot_over b rows turns steps (told.size disk) sectors) past) end)
    (λ fault. fault ≡ Save Memory)

-- ANY FILE that is taken up names one machine over these sectors, and the calls are those of its run, for as many turns and steps as are left
pub record FileRuns {O D : Type 0} (text : sink_of.Ghosts O) (told : sectors_of.Ghosts D) (b : Booted) (rows : Rows) (turns steps : ℕ) (words : List ℕ)
    (left : List (List ℕ)) (old new : O × D) (end : RunEnd) : Type 0 where
  pub machine : State
  pub finished : ℕ
  pub user : ℕ
  pub named : Names rows.inputs words left machine finished user
  pub ends : EndsUntold text told old new
      (run_at (outside_of rows (told.size old.1)) (system_of b rows) machine Boot (turns - finished) (steps - machine.time)) 0 end

-- THE CALLS OF A RESUME: so, over a disk that tells its sectors; else some calls of a run; and none where the file isn't taken up
pub record ResumeScript {O D : Type 0} (text : sink_of.Ghosts O) (told : sectors_of.Ghosts D) (b : Booted) (rows : Rows) (turns steps : ℕ) (bytes : List ℕ)
    (old new : O × D) (result : Result RunEnd ResumeFault) : Type 0 where
  pub rest : RestPerformed text told b rows turns steps bytes old new result
  pub untold : (words : List ℕ) (left : List (List ℕ)) → answer (wanted_of (boot_of b) rows.inputs turns) bytes ≡ Ok words → told.sectors old.1 ≡ Some left →
      IfOk result (FileRuns text told b rows turns steps words left old new)
  pub some : IfOk result (λ end. SomeMade text told old new (of_end end))
  pub none : IfErr result (λ fault. new ≡ old)
