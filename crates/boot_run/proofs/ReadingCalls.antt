-- Calls that only read sectors, and print texts that aren't told.
use Rattle.std.proofs.Common.{◌≡◌, List, [], ◌∷◌, ◌++◌, Some, None, Result}
use Rattle.cvm_outside.specs.Outside.{no_files}
use Rattle.cvm_outside.specs.Script.{Call, Printed, Read, Wrote, Got, Stored, WritesNoSector, blame}
use Rattle.cvm_outside.specs.declared.sink.Sink as sink_of
use Rattle.cvm_outside.specs.declared.sectors.Sectors as sectors_of
use Rattle.cvm_outside.proofs.RowsPut.{same_size}
use Rattle.boot_turns.specs.declared.answers.RunFault.{RunFault}
use Rattle.boot_turns.specs.LoopScripts.{AreOfRun, SomeMake}
use Rattle.boot_turns.specs.RowScripts.{of_run}
use Rattle.boot_turns.proofs.SomeCalls.{untold}
use Rattle.boot_run.specs.RunScript.{AreReads}
use Rattle.boot_run.proofs.ScriptsJoined.{at}

-- they are calls of a run
pub of_run_too : (a : List Call) → AreReads a → AreOfRun a
of_run_too [] h = tt
of_run_too (Printed None ∷ a) h = of_run_too a h
of_run_too (Printed (Some text) ∷ a) h = absurd h
of_run_too (Read sector ∷ a) h = of_run_too a h
of_run_too (Wrote sector words ∷ a) h = absurd h
of_run_too (Got name ∷ a) h = absurd h
of_run_too (Stored name bytes ∷ a) h = absurd h

-- such calls behind others, where no text is told
pub reads_behind : (a b : List Call) → AreReads (untold a) → AreReads (untold b) → AreReads (untold (a ++ b))
reads_behind [] b h k = k
reads_behind (Printed text ∷ a) b h k = reads_behind a b h k
reads_behind (Read sector ∷ a) b h k = reads_behind a b h k
reads_behind (Wrote sector words ∷ a) b h k = absurd h
reads_behind (Got name ∷ a) b h k = absurd h
reads_behind (Stored name bytes ∷ a) b h k = absurd h

-- they write no sector
pub reads_quietly : (a : List Call) → AreReads a → WritesNoSector a
reads_quietly [] h = tt
reads_quietly (Printed None ∷ a) h = reads_quietly a h
reads_quietly (Printed (Some text) ∷ a) h = absurd h
reads_quietly (Read sector ∷ a) h = reads_quietly a h
reads_quietly (Wrote sector words ∷ a) h = absurd h
reads_quietly (Got name ∷ a) h = absurd h
reads_quietly (Stored name bytes ∷ a) h = absurd h

-- calls of a run leave the disk's size
pub calls_keep_size : {O D T : Type 0} (text : sink_of.Ghosts O) (told : sectors_of.Ghosts D) (o o1 : O) (d d1 : D) (result : Result T RunFault) → SomeMake text told (o, d) (o1, d1) result → told.size d1 ≡ told.size d
calls_keep_size text told o o1 d d1 result (script, are, made) = same_size script (at text told no_files o d) (at text told no_files o1 d1) (blame of_run result) (made no_files)
