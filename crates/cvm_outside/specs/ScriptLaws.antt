-- The laws of scripts.
use Rattle.std.specs.Prelude.{◌≡◌, ◌≢◌, ℕ, ◌≤◌, List, [], ◌∷◌, ◌++◌, Bool, true, false, Option, Some, None, IfSome}
use Rattle.std.specs.Option.{option_map}
use Rattle.std.specs.Io.KnownBytes.{append_known}
use Rattle.cvm_outside.specs.Told.{AppendsPart}
use Rattle.cvm_outside.specs.Numbering.{Tally, called, counted_times}
use Rattle.cvm_outside.specs.Outside.{Outside, counts, shelf_counts}
use Rattle.cvm_outside.specs.Causes.{Rose}
use Rattle.cvm_outside.specs.Script.{Call, Got, Stored, Who, TheDisk, TheShelf, who}
use Rattle.cvm_outside.specs.Script.{CallFailed, Performs, spoken, disk_calls, shelf_calls, sectors_after, faults_of}

-- two scripts one after another; and one that breaks off before another
abbrev pub Follow : Type 0
Follow = (a b : List Call) (old mid new : Outside) (blamed : Option Who) →
    Performs a old mid None → Performs b mid new blamed → Performs (a ++ b) old new blamed

abbrev pub BreakOff : Type 0
BreakOff = (a b : List Call) (old new : Outside) (whom : Who) → Performs a old new (Some whom) → Performs (a ++ b) old new (Some whom)

pub record ScriptsFollow : Type 0 where
  pub both : Follow
  pub first : BreakOff

-- what is printed of a text: all of it, or a part where somebody is blamed
abbrev pub PrintedBy : Option Who → (old new : Option (List ℕ)) → (text : List ℕ) → Type 0
PrintedBy None old new text = new ≡ append_known old text
PrintedBy (Some whom) old new text = AppendsPart old new text

abbrev pub ScriptsTell : Type 0
ScriptsTell = (a : List Call) (old new : Outside) (blamed : Option Who) → Performs a old new blamed →
    IfSome (spoken a) (PrintedBy blamed old.sink.text new.sink.text)

-- so many calls were made: those of the script, or some of them where somebody is blamed
abbrev pub MadeBy : Option Who → (made all : ℕ) → Type 0
MadeBy None made all = made ≡ all
MadeBy (Some whom) made all = made ≤ all

-- an object of which a script makes so many calls counted those that were made, by both counts, and at least one where it is blamed
pub record CallsMade (whom : Who) (all : ℕ) (before now : Tally) (blamed : Option Who) : Type 0 where
  pub made : ℕ
  pub calls : now.calls ≡ called made before
  pub all_calls : now.all_calls ≡ counted_times made before.all_calls
  pub which : MadeBy blamed made all
  pub some : blamed ≡ Some whom → 1 ≤ made

abbrev pub CountedCalls : (a : List Call) → (old new : Outside) → (blamed : Option Who) → Type 0
CountedCalls a old new blamed = CallsMade TheDisk (disk_calls a) (counts old.disk) (counts new.disk) blamed

abbrev pub ScriptsCount : Type 0
ScriptsCount = (a : List Call) (old new : Outside) (blamed : Option Who) → Performs a old new blamed → CountedCalls a old new blamed

abbrev pub ShelfCounted : (a : List Call) → (old new : Outside) → (blamed : Option Who) → Type 0
ShelfCounted a old new blamed = CallsMade TheShelf (shelf_calls a) (shelf_counts old.shelf) (shelf_counts new.shelf) blamed

abbrev pub ScriptsCountFiles : Type 0
ScriptsCountFiles = (a : List Call) (old new : Outside) (blamed : Option Who) → Performs a old new blamed → ShelfCounted a old new blamed

-- the sectors that a script leaves where nobody is blamed
abbrev pub ScriptsStore : Type 0
ScriptsStore = (a : List Call) (old new : Outside) → Performs a old new None → new.disk.sectors ≡ option_map (sectors_after a) old.disk.sectors

-- whom an answer blames counted one fault more, and the count of each other object is as before
pub record Blamed (old new : Outside) (blamed : Option Who) (whom : Who) : Type 0 where
  pub rose : blamed ≡ Some whom → Rose (faults_of whom old) (faults_of whom new)
  pub same : (blamed ≡ Some whom → ⊥) → faults_of whom new ≡ faults_of whom old

abbrev pub ScriptsBlame : Type 0
ScriptsBlame = (a : List Call) (old new : Outside) (blamed : Option Who) → Performs a old new blamed → (whom : Who) → Blamed old new blamed whom

-- a call that may fail where these names are given: it gets none of them
abbrev pub MayFail : (gives : List ℕ → Bool) → Call → Type 0
MayFail gives (Got name) = gives name ≡ false
MayFail gives call = Unit {0}

-- where somebody is blamed the calls before one were done, and that one failed; if it is a get, the file was not given before them all
pub record BreaksAt (a : List Call) (old new : Outside) (whom : Who) : Type 0 where
  pub made : List Call
  pub call : Call
  pub rest : List Call
  pub all : made ++ call ∷ rest ≡ a
  pub is : who call ≡ whom
  pub mid : Outside
  pub before : Performs made old mid None
  pub fails : CallFailed call mid new
  pub may : MayFail old.shelf.gives call

abbrev pub ScriptsBreak : Type 0
ScriptsBreak = (a : List Call) (old new : Outside) (whom : Who) → Performs a old new (Some whom) → BreaksAt a old new whom

-- all that a script gets is given, and it puts nothing
abbrev pub GetsGiven : (gives : List ℕ → Bool) → List Call → Type 0
GetsGiven gives [] = Unit {0}
GetsGiven gives (Got name ∷ rest) = (gives name ≡ true) × GetsGiven gives rest
GetsGiven gives (Stored name bytes ∷ rest) = ⊥
GetsGiven gives (call ∷ rest) = GetsGiven gives rest

-- what was given is given afterwards, and who gets what is given and puts nothing never blames the shelf
pub record StaysGiven (a : List Call) (old new : Outside) (blamed : Option Who) : Type 0 where
  pub stays : (name : List ℕ) → old.shelf.gives name ≡ true → new.shelf.gives name ≡ true
  pub sure : GetsGiven old.shelf.gives a → blamed ≢ Some TheShelf

abbrev pub ScriptsGive : Type 0
ScriptsGive = (a : List Call) (old new : Outside) (blamed : Option Who) → Performs a old new blamed → StaysGiven a old new blamed
