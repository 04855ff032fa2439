-- The calls of a run whose disk tells no sectors: which calls they are, of a step and of its rows; and that a script is performed with no text told, too.
use Rattle.std.proofs.Common.{ℕ, zero, suc, ◌+◌, ◌*◌, ◌/◌, ◌&&◌, Bool, true, false, List, [], ◌∷◌, ◌++◌, Option, Some, None, slice_index, sym, subst}
use Rattle.std.specs.Prelude.{◌==◌, if◌then◌else◌}
use Rattle.std.specs.Option.{option_map}
use Rattle.cvm_outside.specs.Outside.{Outside}
use Rattle.cvm_outside.specs.Script.{Call, Printed, Read, Wrote, Got, Stored, Who, Performs, done, breaks, goes_on, scripts}
use Rattle.cvm_outside.proofs.RowsPut.{scripts-none, scripts-suc}
use Rattle.sector_disk.specs.Ports.{transfer_script}
use Rattle.mips_table.specs.Device as device
use Rattle.mips_table.specs.Device.{Pending, Idle, Reading, Writing}
use Rattle.mips_table.specs.Machine.{State}
use Rattle.mips_machine.specs.Steps.{script_of_step, due_if, before_count}
use Rattle.layer_map.specs.Map.{Map}
use Rattle.layer_contract.specs.declared.registers.TheConstants.{ANSWER}
use Rattle.page_model.specs.Paging.{Paged}
use Rattle.cvm_model.specs.Kernel.{Put}
use Rattle.cvm_model.specs.Text.{steps_row, entry_row, journal_rows_after}
use Rattle.boot_report.specs.Told.{user_word}
use Rattle.boot_report.specs.Resident.{is_resident, page_of_word, word_reads}
use Rattle.boot_turns.specs.declared.tracer.Entered.{Entered}
use Rattle.boot_turns.specs.declared.tracer.Tracer.{Tracer}
use Rattle.boot_turns.specs.Completes.{note}
use Rattle.boot_turns.specs.Copies.{steps_left}
use Rattle.boot_turns.specs.Entries.{turn_begins, call_ends}
use Rattle.boot_turns.specs.Returns.{returned}
use Rattle.boot_turns.specs.StepScript.{prints}
use Rattle.boot_turns.specs.RowScripts.{copied_script, copy_script, words_copied, ended_script, returned_script, followed_script}
use Rattle.boot_turns.specs.LoopScripts.{AreOfRun}

-- the same calls, with no text told
abbrev pub untold : List Call → List Call
untold [] = []
untold (Printed text ∷ rest) = Printed None ∷ untold rest
untold (Read sector ∷ rest) = Read sector ∷ untold rest
untold (Wrote sector words ∷ rest) = Wrote sector words ∷ untold rest
untold (Got name ∷ rest) = Got name ∷ untold rest
untold (Stored name bytes ∷ rest) = Stored name bytes ∷ untold rest

-- they are made where those are
pub made_untold : (a : List Call) (old new : Outside) (blamed : Option Who) → Performs a old new blamed → Performs (untold a) old new blamed
made_untold a old new blamed (done _) = done _
made_untold a old new blamed (breaks (Printed text) rest _ _ f) = breaks (Printed None) (untold rest) old new (tt, f.1, f.2)
made_untold a old new blamed (breaks (Read sector) rest _ _ f) = breaks (Read sector) (untold rest) old new f
made_untold a old new blamed (breaks (Wrote sector words) rest _ _ f) = breaks (Wrote sector words) (untold rest) old new f
made_untold a old new blamed (breaks (Got name) rest _ _ f) = breaks (Got name) (untold rest) old new f
made_untold a old new blamed (breaks (Stored name bytes) rest _ _ f) = breaks (Stored name bytes) (untold rest) old new f
made_untold a old new blamed (goes_on (Printed text) rest _ mid _ _ d p) = goes_on (Printed None) (untold rest) old mid new blamed (tt, d.1) (made_untold rest mid new blamed p)
made_untold a old new blamed (goes_on (Read sector) rest _ mid _ _ d p) = goes_on (Read sector) (untold rest) old mid new blamed d (made_untold rest mid new blamed p)
made_untold a old new blamed (goes_on (Wrote sector words) rest _ mid _ _ d p) = goes_on (Wrote sector words) (untold rest) old mid new blamed d (made_untold rest mid new blamed p)
made_untold a old new blamed (goes_on (Got name) rest _ mid _ _ d p) = goes_on (Got name) (untold rest) old mid new blamed d (made_untold rest mid new blamed p)
made_untold a old new blamed (goes_on (Stored name bytes) rest _ mid _ _ d p) = goes_on (Stored name bytes) (untold rest) old mid new blamed d (made_untold rest mid new blamed p)

-- calls of a run behind others
pub of_both : (a b : List Call) → AreOfRun a → AreOfRun b → AreOfRun (a ++ b)
of_both [] b h k = k
of_both (Printed None ∷ a) b h k = of_both a b h k
of_both (Printed (Some text) ∷ a) b h k = absurd h
of_both (Read sector ∷ a) b h k = of_both a b h k
of_both (Wrote sector words ∷ a) b h k = of_both a b h k
of_both (Got name ∷ a) b h k = absurd h
of_both (Stored name bytes ∷ a) b h k = absurd h

pub untold_both : (a b : List Call) → AreOfRun (untold a) → AreOfRun (untold b) → AreOfRun (untold (a ++ b))
untold_both [] b h k = k
untold_both (Printed text ∷ a) b h k = untold_both a b h k
untold_both (Read sector ∷ a) b h k = untold_both a b h k
untold_both (Wrote sector words ∷ a) b h k = untold_both a b h k
untold_both (Got name ∷ a) b h k = absurd h
untold_both (Stored name bytes ∷ a) b h k = absurd h

untold_scripts : (f : ℕ → List Call) (n : ℕ) → ((i : ℕ) → AreOfRun (untold (f i))) → AreOfRun (untold (scripts f n))
untold_scripts f zero h = subst (λ (l : List Call). AreOfRun (untold l)) (sym (scripts-none f)) tt
untold_scripts f (suc n) h = subst (λ (l : List Call). AreOfRun (untold l)) (sym (scripts-suc f n)) (untold_both (scripts f n) (f n) (untold_scripts f n h) (h n))

-- a step's transfer
of_transfer : (p : Pending) (buffer : List ℕ) → AreOfRun (untold (transfer_script p buffer))
of_transfer Idle buffer = tt
of_transfer (Reading zero sector) buffer = tt
of_transfer (Reading (suc left) sector) buffer = tt
of_transfer (Writing zero sector) buffer = tt
of_transfer (Writing (suc left) sector) buffer = tt

of_due_if : (x : device.Environment) (s : State) (off : Option ℕ) → AreOfRun (untold (due_if x s off))
of_due_if x s None = of_transfer (before_count x s).pending (before_count x s).buffer
of_due_if x s (Some word) = tt

pub of_due : (x : device.Environment) (s : State) → AreOfRun (untold (script_of_step x s))
unfolding script_of_step
of_due x s = of_due_if x s s.off

-- its rows
of_prints : (rows : List ℕ) → AreOfRun (untold (prints rows))
of_prints [] = tt
of_prints (b ∷ rows) = tt

of_if : (b : Bool) (a c : List Call) → AreOfRun (untold a) → AreOfRun (untold c) → AreOfRun (untold (if b then a else c))
of_if true a c h k = h
of_if false a c h k = k

module _ (m : Map) (s : State) (pages : Option Paged) (u steps : ℕ) where
  of_ended : (e : Entered) (answer : ℕ) → AreOfRun (untold (ended_script m s pages u steps e answer))
  of_ended e answer =
      of_if (answer == 1 && (e.primitive == 6 && slice_index e.arguments 2 == u)) (copy_script m s pages u steps (slice_index e.arguments 3) (words_copied m e)) (prints (journal_rows_after false steps (call_ends u e answer [])))
      (untold_scripts (copied_script m s pages u steps (slice_index e.arguments 3)) (words_copied m e) (λ i.
      untold_both (word_reads m s u (slice_index e.arguments 3 / 4 + i)) (Printed (text i) ∷ []) (of_if (is_resident m s (page_of_word m u (slice_index e.arguments 3 / 4 + i))) [] (Read (page_of_word m u (slice_index e.arguments 3 / 4 + i)) ∷ []) tt tt) tt))
      (of_prints (journal_rows_after false steps (call_ends u e answer [])))
    where
      text : ℕ → Option (List ℕ)
      text i = option_map (λ a. steps_row (steps_left steps i) ++ entry_row (Put (slice_index e.arguments 3 + 4 * i) (user_word m a u (slice_index e.arguments 3 / 4 + i)))) pages

  of_returned : (o : Option Entered) → AreOfRun (untold (returned_script m s pages u steps o))
  of_returned None = tt
  of_returned (Some e) = of_ended e (slice_index s.cpu.regs ANSWER)

pub of_followed : (m : Map) (s : State) (pages : Option Paged) (k : Tracer) (current : ℕ) (began : Bool) → AreOfRun (untold (followed_script m s pages k current began))
of_followed m s pages k current began =
    of_if began (prints (journal_rows_after false k.steps (turn_begins k.user current (note s)))) (returned_script m s pages k.user k.steps (returned s k.call)) (of_prints _) (of_returned m s pages k.user k.steps (returned s k.call))
