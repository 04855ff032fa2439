-- What is answered where a run is to be taken up from a file.
use Rattle.std.specs.Prelude.{◌≡◌, ℕ, ◌<◌, ◌≤◌, ◌⊎◌, List, Result, Ok, Err}
use Rattle.std.specs.List.{flat_map}
use Rattle.cvm_words.specs.Bytes.{word}
use Rattle.schedule_file.specs.Rows.{Rows}
use Rattle.layer_contract.specs.declared.boot.Boot.{Boot as Booted}
use Rattle.layer_contract.specs.Boots.{boot_of}
use Rattle.saved_file.specs.Resumable.{CanBeResumed}
use Rattle.saved_file.specs.Answer.{answer}
use Rattle.saved_file.specs.declared.fault.SaveFault.TheVariants.{Memory}
use Rattle.boot_run.specs.LoadEnds.{Kept, pages_needed}
use Rattle.boot_run.specs.Saving.{IsTakenUp}
use Rattle.boot_run.specs.SavedFiles.{wanted_of}
use Rattle.machine_save.specs.declared.resuming.ResumeFault.{ResumeFault}
use Rattle.machine_save.specs.declared.resuming.ResumeFault.TheVariants.{Save, SmallDisk}

-- WHY NO RUN IS TAKEN UP, of what is booted, under these rows, for so many turns, over a disk of so many sectors: what is wrong with the bytes; or, where
-- nothing is, that the disk has too few sectors; or want of memory
abbrev pub NotResumed : Booted → Rows → (turns count : ℕ) → (bytes : List ℕ) → ResumeFault → Type 0
NotResumed boot rows turns count bytes (Save e) = (e ≡ Memory) ⊎ (answer (wanted_of (boot_of boot) rows.inputs turns) bytes ≡ Err e)
NotResumed boot rows turns count bytes (SmallDisk need have) =
    (words : List ℕ) × (answer (wanted_of (boot_of boot) rows.inputs turns) bytes ≡ Ok words) × (need ≡ pages_needed boot) × (have ≡ count) × (have < need)

-- THE FILE IS TAKEN UP: its bytes spell these words, which are those of a machine that fits, and there are sectors enough
abbrev pub SpellsRun : Booted → Rows → (turns count : ℕ) → (bytes words : List ℕ) → Type 0
SpellsRun boot rows turns count bytes words = (answer (wanted_of (boot_of boot) rows.inputs turns) bytes ≡ Ok words) × (bytes ≡ flat_map word words)
    × CanBeResumed (wanted_of (boot_of boot) rows.inputs turns) words × (pages_needed boot ≤ count)

-- WHAT IS ANSWERED: the run of the words that the bytes spell, or why there is none
abbrev pub ResumesFile : {L : Type 0} → (layer : L) → Booted → Rows → (turns count : ℕ) → (bytes : List ℕ) → Result (Kept L) ResumeFault → Type 0
ResumesFile layer boot rows turns count bytes (Ok r) =
    (words : List ℕ) × IsTakenUp layer boot rows count words r × SpellsRun boot rows turns count bytes words
ResumesFile layer boot rows turns count bytes (Err fault) = NotResumed boot rows turns count bytes fault
