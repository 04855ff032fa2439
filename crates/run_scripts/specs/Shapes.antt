-- WHICH CALLS a command makes, as laws: its gets in their order and then no further one, at most one put, of the file that its words name, and no call of the
-- disk where it loads nothing, or is refused.
use Rattle.std.specs.Prelude.{◌≡◌, ◌≢◌, ℕ, ◌+◌, ⊤, List, [], ◌∷◌, length, Option, Some, None}
use Rattle.run_scripts.specs.declared.exit_status.Status.{Status}
use Rattle.run_scripts.specs.declared.exit_status.Status.TheVariants.{Words, Refused, Disk, Shelf, Memory}
use Rattle.run_scripts.specs.Command.{Command, IsCommand, boot, trace, save, resume, sample}
use Rattle.run_scripts.specs.Refusal.{too_long}
use Rattle.run_scripts.specs.Plan.{Plan, refuses, PlanComesTo}
use Rattle.cvm_outside.specs.Script.{Call, Got, Stored, Who, Performs}
use Rattle.cvm_outside.specs.Outside.{Outside, shelf_counts}
use Rattle.cvm_outside.specs.Numbering.{Tally, called, counted_times}
use Rattle.run_scripts.specs.Ends.{Ends, done, no_file, no_memory, WasDone, PlanAsks, GetsFor, IsNotGot, Wants, answered}
use Rattle.run_scripts.specs.Served.{files_of, file_put}

-- a command that loads a machine
abbrev pub Loads : Command → Type 0
Loads (boot b) = ⊤
Loads (trace t) = ⊤
Loads (save c) = ⊤
Loads (resume c) = ⊤
Loads (sample x) = ⊤
Loads other = ⊥

-- the calls that get a file, and those that put one
abbrev pub gets_in : List Call → List (List ℕ)
gets_in [] = []
gets_in (Got name ∷ rest) = name ∷ gets_in rest
gets_in (call ∷ rest) = gets_in rest

abbrev pub puts_in : List Call → List (List ℕ)
puts_in [] = []
puts_in (Stored name bytes ∷ rest) = name ∷ puts_in rest
puts_in (call ∷ rest) = puts_in rest

abbrev pub NamedBy : Option (List ℕ) → List (List ℕ) → Type 0
NamedBy named [] = ⊤
NamedBy named (name ∷ []) = named ≡ Some name
NamedBy named more = ⊥

-- of the calls behind the gets none is a get, and at most one puts a file, the one that the words name
pub record ScriptShape (c : Command) (script : List Call) : Type 0 where
  pub gets : gets_in script ≡ []
  pub puts : NamedBy (file_put c) (puts_in script)

abbrev pub PlansHaveShape : Type 0
PlansHaveShape = (words : List (List ℕ)) (file : List ℕ → Option (List ℕ)) (c : Command) (p : Plan) (at : Outside) (script : List Call) (due : Status) →
    IsCommand words c → PlanComesTo words file p → PlanAsks p at script due → ScriptShape c script

-- the files but the one that is named are as before
abbrev pub OthersStay : Type 0
OthersStay = (words : List (List ℕ)) (c : Command) (old new : Outside) (status : Status) → IsCommand words c → Ends words old new status →
    (name : List ℕ) → file_put c ≢ Some name → new.shelf.file name ≡ old.shelf.file name

-- the disk is as before, where a command loads no machine, and where the words are none
abbrev pub NothingIsLoaded : Type 0
NothingIsLoaded = (words : List (List ℕ)) (old new : Outside) (status : Status) → ((c : Command) → IsCommand words c → Loads c → ⊥) →
    Ends words old new status → new.disk ≡ old.disk

-- the statuses of words that are bad and of what is refused: a file, a user, a disk that is too small, a file that is too long
abbrev pub IsRefusal : Status → Type 0
IsRefusal Words = ⊤
IsRefusal Refused = ⊤
IsRefusal Disk = ⊤
IsRefusal Shelf = ⊤
IsRefusal other = ⊥

-- such a status was due, whether its row was printed or not; or a file could not be got, or memory was wanted
abbrev pub CameToNothing : {words : List (List ℕ)} {old new : Outside} {status : Status} → Ends words old new status → Type 0
CameToNothing (done status h) = IsRefusal h.due
CameToNothing (no_file c is g) = ⊤
CameToNothing (no_memory c is w) = ⊤

-- the disk is as before then, whatever the command is
abbrev pub RefusalsKeepTheDisk : Type 0
RefusalsKeepTheDisk = (words : List (List ℕ)) (old new : Outside) (status : Status) (e : Ends words old new status) → CameToNothing e → new.disk ≡ old.disk

-- THE GETS come first: all files were got, or those up to one that is too long, and behind them calls are made of which none is
-- a get; or a get failed, and no call was made behind it; or memory was wanted, with some of the gets made and nothing else
pub data GotInOrder (c : Command) (old new : Outside) : Status → Type 0 where
  were_got : (status due : Status) (plan : Plan) (mid : Outside) (got script : List Call) (blamed : Option Who) →
      GetsFor old.shelf.file (files_of c) new.shelf.taken plan got → Performs got old mid None → ScriptShape c script → Performs script mid new blamed →
      status ≡ answered due blamed → GotInOrder c old new status
  ungot : IsNotGot (files_of c) old new → GotInOrder c old new Shelf
  wanting : Wants (files_of c) old new → GotInOrder c old new Memory

-- these are some of those words, in the order in which they stand there
pub data StandAmong : (names words : List (List ℕ)) → Type 0 where
  no_name : (words : List (List ℕ)) → StandAmong [] words
  named : (name : List ℕ) (names words : List (List ℕ)) → StandAmong names words → StandAmong (name ∷ names) (name ∷ words)
  passed : (word : List ℕ) (names words : List (List ℕ)) → StandAmong names words → StandAmong names (word ∷ words)

-- A law: a command gets files that its words name, in the order of the words, and before all else
pub record GetsComeFirst : Type 0 where
  pub of_words : (words : List (List ℕ)) (c : Command) → IsCommand words c → StandAmong (files_of c) words
  pub first : (words : List (List ℕ)) (c : Command) (old new : Outside) (status : Status) → IsCommand words c → Ends words old new status →
      GotInOrder c old new status

-- counts after so many more calls, by both of them
pub record CountedMore (n : ℕ) (before now : Tally) : Type 0 where
  pub calls : now.calls ≡ called n before
  pub all_calls : now.all_calls ≡ counted_times n before.all_calls

-- HOW OFTEN THE SHELF IS CALLED where nobody is blamed and no file is too long: once for each file that is named, and once for one that is put
abbrev pub ShelfIsCalled : Type 0
ShelfIsCalled = (words : List (List ℕ)) (c : Command) (old new : Outside) (status : Status) → IsCommand words c → (h : WasDone words old new status) →
    h.plan ≢ refuses too_long → h.blamed ≡ None →
    CountedMore (length (files_of c) + length (puts_in h.script)) (shelf_counts old.shelf) (shelf_counts new.shelf)
