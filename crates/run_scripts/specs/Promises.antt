-- WHAT EVERY RUN PROMISES, as laws of how it ends: the headline, completeness and isolation of what asks for a run, what a `yes` of a check means, what a
-- save leaves, how a resume goes on, and how the machine rests.
use Rattle.std.specs.Prelude.{ℕ, List}
use Rattle.std.specs.declared.string.String.{String}
use Rattle.std.specs.declared.alloc.Global.{Global}
use Rattle.cvm_outside.specs.declared.shelf.Shelf as shelf_of
use Rattle.cvm_outside.specs.declared.sink.Sink as sink_of
use Rattle.cvm_outside.specs.declared.sectors.Sectors as sectors_of
use Rattle.cvm_outside.specs.Outside.{Outside}
use Rattle.run_scripts.specs.declared.exit_status.Status.{Status}
use Rattle.run_scripts.specs.Command.{word_texts}
use Rattle.run_scripts.specs.CommandEnds.{Headlines, RunCompletes, Isolates, SavesComplete, ResumesComplete, EndsRest}
use Rattle.run_scripts.specs.Resumes.{Resumes}
use Rattle.run_scripts.specs.Saves.{Saves}
use Rattle.run_scripts.specs.Suffices.{Suffices}
use Rattle.run_scripts.specs.Ends.{Ends, as_outside}

-- of one call: by its words, its status, and what its shelf, its sink and its disk were and are
abbrev pub OfCall : {S O D : Type 0} → ((words : List (List ℕ)) → Status → (old new : Outside) → Type 0) → shelf_of.Ghosts S → sink_of.Ghosts O →
    sectors_of.Ghosts D → List (String Global) → Status → S → O → D → S → O → D → Type 0
OfCall Holds shelf sink disk words status s o d t p e = Holds (word_texts words) status (as_outside shelf sink disk s o d) (as_outside shelf sink disk t p e)

-- and of each command, by how it ends
abbrev pub Promised : ((words : List (List ℕ)) → Status → (old new : Outside) → Type 0) → Type 0
Promised Holds = (words : List (List ℕ)) (old new : Outside) (status : Status) → Ends words old new status → Holds words status old new

abbrev pub HeadlinesHold : Type 0
HeadlinesHold = Promised Headlines

abbrev pub RunsAreComplete : Type 0
RunsAreComplete = Promised RunCompletes

abbrev pub TracesAreIsolated : Type 0
TracesAreIsolated = Promised Isolates

abbrev pub YesIsEnough : Type 0
YesIsEnough = Promised Suffices

abbrev pub SavesAreHeld : Type 0
SavesAreHeld = Promised Saves

abbrev pub SavesAreComplete : Type 0
SavesAreComplete = Promised SavesComplete

abbrev pub ResumesAreHeld : Type 0
ResumesAreHeld = Promised Resumes

abbrev pub ResumesAreComplete : Type 0
ResumesAreComplete = Promised ResumesComplete

abbrev pub MachinesRest : Type 0
MachinesRest = Promised EndsRest
