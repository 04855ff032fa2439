-- The rows of a trace write no sector, so a disk keeps its sectors and its size over them.
use Rattle.std.proofs.Common.{◌≡◌, ℕ, ◌+◌, ◌/◌, List, [], ◌∷◌, Bool, true, false, Option, Some, None, Result, slice_index}
use Rattle.std.specs.Prelude.{if◌then◌else◌, ◌==◌, ◌&&◌}
use Rattle.cvm_outside.specs.Outside.{Outside, no_files, output, drive}
use Rattle.cvm_outside.specs.Script.{Call, WritesNoSector, blame}
use Rattle.cvm_outside.specs.declared.sink.Sink as sink_of
use Rattle.cvm_outside.specs.declared.sectors.Sectors as sectors_of
use Rattle.cvm_outside.proofs.RowsPut.{unwritten, same_size, quiet_both, quiet_scripts}
use Rattle.mips_table.specs.Machine.{State}
use Rattle.mips_machine.specs.Machine.{Held, state_of}
use Rattle.layer_map.specs.Map.{Map}
use Rattle.layer_contract.specs.declared.registers.TheConstants.{ANSWER}
use Rattle.cvm_model.specs.Text.{journal_rows_after}
use Rattle.boot_report.specs.Resident.{page_of_word, word_reads}
use Rattle.boot_report.proofs.PagesByLines.{reads_quiet}
use Rattle.boot_turns.specs.declared.answers.RunFault.{RunFault}
use Rattle.boot_turns.specs.declared.primitives.TheConstants.{VM_COPY}
use Rattle.boot_turns.specs.declared.tracer.Entered.{Entered}
use Rattle.boot_turns.specs.declared.tracer.Tracer.{Tracer}
use Rattle.boot_turns.specs.Completes.{note}
use Rattle.boot_turns.specs.Entries.{turn_begins, call_ends}
use Rattle.boot_turns.specs.Returns.{returned}
use Rattle.boot_turns.specs.StepScript.{prints}
use Rattle.boot_turns.specs.RowScripts.{of_run, MakesRows, copied_script, copy_script, words_copied, ended_script, returned_script, followed_script}

prints_quiet : (text : List ℕ) → WritesNoSector (prints text)
prints_quiet [] = tt
prints_quiet (b ∷ text) = tt

either : (test : Bool) (a b : List Call) → WritesNoSector a → WritesNoSector b → WritesNoSector (if test then a else b)
either true a b h k = h
either false a b h k = k

copied_quiet : (m : Map) (s : State) (u steps address i : ℕ) → WritesNoSector (copied_script m s None u steps address i)
copied_quiet m s u steps address i = quiet_both (word_reads m s u (address / 4 + i)) _ (reads_quiet m s (page_of_word m u (address / 4 + i))) tt

ended_quiet : (m : Map) (s : State) (u steps : ℕ) (e : Entered) (answer : ℕ) → WritesNoSector (ended_script m s None u steps e answer)
ended_quiet m s u steps e answer =
    either (answer == 1 && (e.primitive == VM_COPY && slice_index e.arguments 2 == u)) (copy_script m s None u steps (slice_index e.arguments 3) (words_copied m e)) (prints (journal_rows_after false steps (call_ends u e answer [])))
    (quiet_scripts (copied_script m s None u steps (slice_index e.arguments 3)) (copied_quiet m s u steps (slice_index e.arguments 3)) (words_copied m e)) (prints_quiet (journal_rows_after false steps (call_ends u e answer [])))

returned_quiet : (m : Map) (s : State) (u steps : ℕ) (call : Option Entered) → WritesNoSector (returned_script m s None u steps call)
returned_quiet m s u steps None = tt
returned_quiet m s u steps (Some e) = ended_quiet m s u steps e (slice_index s.cpu.regs ANSWER)

pub followed_quiet : (m : Map) (s : State) (kept : Tracer) (current : ℕ) (began : Bool) → WritesNoSector (followed_script m s None kept current began)
followed_quiet m s kept current began =
    either began (prints (journal_rows_after false kept.steps (turn_begins kept.user current (note s)))) (returned_script m s None kept.user kept.steps (returned s kept.call))
    (prints_quiet (journal_rows_after false kept.steps (turn_begins kept.user current (note s)))) (returned_quiet m s kept.user kept.steps (returned s kept.call))

-- so it is where the rows of a step were made, or broke off
module _ {O D T : Type 0} (text : sink_of.Ghosts O) (told : sectors_of.Ghosts D) (held : Held) (m : Map) (out reout : O) (disk redisk : D) (kept : Tracer) (current : ℕ) (began : Bool) (result : Result T RunFault)
    (makes : MakesRows text told held m (out, disk) (reout, redisk) (λ pages. followed_script m (state_of held []) pages kept current began) result) where
  abbrev before : Outside
  before = record { shelf = no_files; sink = output text out; disk = drive told disk }

  abbrev after : Outside
  after = record { shelf = no_files; sink = output text reout; disk = drive told redisk }

  pub rows_keep_sectors : told.sectors redisk ≡ told.sectors disk
  rows_keep_sectors = unwritten (followed_script m (state_of held []) None kept current began) before after (blame of_run result) (followed_quiet m (state_of held []) kept current began) (makes None tt no_files)

  pub rows_keep_size : told.size redisk ≡ told.size disk
  rows_keep_size = same_size (followed_script m (state_of held []) None kept current began) before after (blame of_run result) (makes None tt no_files)
