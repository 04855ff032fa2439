-- The outside of a piece of work: named files, the text that is printed, and the disk, each as it is told, with its count of faults.
use Rattle.std.specs.Prelude.{ℕ, List, Bool, false, Option, None}
use Rattle.cvm_outside.specs.Numbering.{Tally}
use Rattle.cvm_outside.specs.declared.shelf.Shelf as shelf_of
use Rattle.cvm_outside.specs.declared.sink.Sink as sink_of
use Rattle.cvm_outside.specs.declared.sectors.Sectors as sectors_of

-- files: the bytes of each where they are told, how many bytes the last `get` took, the counts of faults, of the calls up to the first that failed, and
-- of all calls, and the names of which a `get` surely is no fault
pub record Files : Type 0 where
  pub file : List ℕ → Option (List ℕ)
  pub taken : ℕ
  pub faults : ℕ
  pub calls : ℕ
  pub all_calls : ℕ
  pub gives : List ℕ → Bool

-- its counts
abbrev pub shelf_counts : Files → Tally
shelf_counts s = record { faults = s.faults; calls = s.calls; all_calls = s.all_calls }

-- printed text, where it is told, and the count of faults
pub record Output : Type 0 where
  pub text : Option (List ℕ)
  pub faults : ℕ

-- a disk: the words of its sectors where they are told, how many sectors there are, the counts of faults, of the calls which read or write one, up to
-- the first that failed, and of all such calls
pub record Drive : Type 0 where
  pub sectors : Option (List (List ℕ))
  pub size : ℕ
  pub faults : ℕ
  pub calls : ℕ
  pub all_calls : ℕ

-- its counts
abbrev pub counts : Drive → Tally
counts d = record { faults = d.faults; calls = d.calls; all_calls = d.all_calls }

pub record Outside : Type 0 where
  pub shelf : Files
  pub sink : Output
  pub disk : Drive

-- what a shelf, a sink and a disk tell
abbrev pub files : {S : Type 0} → shelf_of.Ghosts S → S → Files
files told s =
    record { file = told.file s; taken = told.taken s; faults = told.faults s; calls = told.calls s; all_calls = told.all_calls s; gives = told.gives s }

abbrev pub output : {O : Type 0} → sink_of.Ghosts O → O → Output
output told o = record { text = told.text o; faults = told.faults o }

abbrev pub drive : {D : Type 0} → sectors_of.Ghosts D → D → Drive
drive told d = record { sectors = told.sectors d; size = told.size d; faults = told.faults d; calls = told.calls d; all_calls = told.all_calls d }

-- files of which nothing is told
abbrev pub no_files : Files
no_files = record { file = λ name. None; taken = 0; faults = 0; calls = 0; all_calls = 0; gives = λ name. false }

-- and a sink of which nothing is
abbrev pub no_output : Output
no_output = record { text = None; faults = 0 }
