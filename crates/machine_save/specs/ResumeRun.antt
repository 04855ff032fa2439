-- What a call comes to that takes up a run from the bytes of a file and goes on with it.
use Rattle.std.specs.Prelude.{◌≡◌, ℕ, List, Result, Ok, Err}
use Rattle.mips_table.specs.Machine.{State}
use Rattle.schedule_file.specs.Rows.{Rows}
use Rattle.mips_machine.specs.Saved.{saved, CanBeSaved}
use Rattle.layer_contract.specs.declared.boot.Boot.{Boot as Booted}
use Rattle.boot_run.specs.declared.whole.RunEnd.{RunEnd}
use Rattle.machine_save.specs.declared.resuming.ResumeFault.{ResumeFault}
use Rattle.machine_save.specs.Resume.{NotResumed, SpellsRun}

-- WHAT IS ANSWERED, for what is booted, the rows of a schedule, the turns that are wanted and a disk of so many sectors: the run that the bytes tell was
-- taken up, and ended; or why none was
abbrev pub ResumeAnswers : Booted → Rows → (turns count : ℕ) → (bytes : List ℕ) → Result RunEnd ResumeFault → Type 0
ResumeAnswers boot rows turns count bytes (Ok e) = (words : List ℕ) × SpellsRun boot rows turns count bytes words
ResumeAnswers boot rows turns count bytes (Err fault) = NotResumed boot rows turns count bytes fault

-- these words name a machine that was given this input, over these sectors, with its complete turns and its current user
pub record Names (inputs words : List ℕ) (sectors : List (List ℕ)) (z : State) (done user : ℕ) : Type 0 where
  pub ready : CanBeSaved inputs z
  pub words_are : saved inputs z done user ≡ words
  pub sectors_are : z.device.sectors ≡ sectors
