-- SCRIPTS: the calls of the outside that a piece of work makes, in order, where it does what it is asked; and what is left where one of them failed.
use Rattle.std.specs.Prelude.{◌≡◌, ◌≢◌, ℕ, zero, suc, ◌<◌, min, length, List, [], ◌∷◌, ◌++◌}
use Rattle.std.specs.Prelude.{Bool, true, false, Option, Some, None, IfSome, Result, Ok, Err, slice_set}
use Rattle.std.specs.Option.{option_map}
use Rattle.std.specs.Io.KnownBytes.{append_known}
use Rattle.cvm_outside.specs.Causes.{Rose}
use Rattle.cvm_outside.specs.Numbering.{counted_up, until_fault}
use Rattle.cvm_outside.specs.Told.{AppendsPart, IsCutOff, retold, with_sector, TOO_LONG}
use Rattle.cvm_outside.specs.declared.sink.SinkFault.{SinkFault}
use Rattle.cvm_outside.specs.declared.sectors.DiskFault.{DiskFault}
use Rattle.cvm_outside.specs.declared.sink.Sink as sink_of
use Rattle.cvm_outside.specs.declared.sectors.Sectors as sectors_of
use Rattle.cvm_outside.specs.Outside.{Outside, Output, Drive, Files, output, drive}

-- one call: a text is printed, where it hangs on no sector that isn't told; a sector is read, or written; a file is got, or put
pub data Call : Type 0 where
  Printed : Option (List ℕ) → Call
  Read : ℕ → Call
  Wrote : ℕ → List ℕ → Call
  Got : List ℕ → Call
  Stored : List ℕ → List ℕ → Call

-- the object that is called
pub data Who : Type 0 where
  TheSink : Who
  TheDisk : Who
  TheShelf : Who

abbrev pub who : Call → Who
who (Printed text) = TheSink
who (Read sector) = TheDisk
who (Wrote sector words) = TheDisk
who (Got name) = TheShelf
who (Stored name bytes) = TheShelf

-- whom an answer blames: by its error the object that failed, where it is the fault of one
abbrev pub blame : {T E : Type 0} → (E → Option Who) → Result T E → Option Who
blame of (Ok v) = None
blame of (Err e) = of e

abbrev pub of_sink : SinkFault → Option Who
of_sink fault = Some TheSink

abbrev pub of_disk : DiskFault → Option Who
of_disk fault = Some TheDisk

-- a disk that was called once more
abbrev pub disk_called : Drive → Drive
disk_called d = record d { calls = until_fault d.faults d.calls; all_calls = counted_up d.all_calls }

-- and a shelf, which gives what it gave
pub record ShelfCalled (old new : Files) : Type 0 where
  pub calls : new.calls ≡ until_fault old.faults old.calls
  pub all_calls : new.all_calls ≡ counted_up old.all_calls
  pub gives : (name : List ℕ) → old.gives name ≡ true → new.gives name ≡ true

-- what a call leaves that is done; the sector of one is among those that the disk has
abbrev pub CallDone : Call → (old new : Outside) → Type 0
CallDone (Printed told) old new =
    IfSome told (λ text. new.sink.text ≡ append_known old.sink.text text) × (new ≡ record old { sink = record old.sink { text = new.sink.text } })
CallDone (Read sector) old new = (new ≡ record old { disk = disk_called old.disk }) × (sector < old.disk.size)
CallDone (Wrote sector words) old new =
    (new ≡ record old { disk = record (disk_called old.disk) { sectors = with_sector old.disk.sectors sector words } }) × (sector < old.disk.size)
CallDone (Got name) old new =
    ((n : List ℕ) → new.shelf.file n ≡ old.shelf.file n) × IfSome (old.shelf.file name) (λ bytes. new.shelf.taken ≡ min (length bytes) TOO_LONG)
    × (new.shelf.faults ≡ old.shelf.faults) × (new ≡ record old { shelf = new.shelf }) × ShelfCalled old.shelf new.shelf
CallDone (Stored name bytes) old new =
    ((n : List ℕ) → n ≢ name → new.shelf.file n ≡ old.shelf.file n) × (new.shelf.file name ≡ retold (old.shelf.file name) bytes)
    × (new.shelf.faults ≡ old.shelf.faults) × (new ≡ record old { shelf = record new.shelf { taken = old.shelf.taken } }) × ShelfCalled old.shelf new.shelf

-- what one leaves that failed: a part of the text, a sector or a file that is torn; and its object counts one fault more. A file that is surely given is got
abbrev pub CallFailed : Call → (old new : Outside) → Type 0
CallFailed (Printed told) old new =
    IfSome told (λ text. AppendsPart old.sink.text new.sink.text text) × Rose old.sink.faults new.sink.faults × (new ≡ record old { sink = new.sink })
CallFailed (Read sector) old new =
    Rose old.disk.faults new.disk.faults × (new ≡ record old { disk = record (disk_called old.disk) { faults = new.disk.faults } })
    × (sector < old.disk.size)
CallFailed (Wrote sector words) old new =
    Rose old.disk.faults new.disk.faults
    × ((torn : List ℕ) × (new ≡ record old {
      disk = record (disk_called old.disk) {
        faults = new.disk.faults;
        sectors = with_sector old.disk.sectors sector torn;
      };
    }))
    × (sector < old.disk.size)
CallFailed (Got name) old new =
    ((n : List ℕ) → new.shelf.file n ≡ old.shelf.file n) × Rose old.shelf.faults new.shelf.faults × (new ≡ record old { shelf = new.shelf })
    × ShelfCalled old.shelf new.shelf × (old.shelf.gives name ≡ false)
CallFailed (Stored name bytes) old new =
    ((n : List ℕ) → n ≢ name → new.shelf.file n ≡ old.shelf.file n) × IsCutOff (old.shelf.file name) bytes (new.shelf.file name)
    × Rose old.shelf.faults new.shelf.faults × (new ≡ record old { shelf = record new.shelf { taken = old.shelf.taken } })
    × ShelfCalled old.shelf new.shelf

-- THE CALLS OF A SCRIPT ARE MADE, in order: all are done and nobody is blamed; or those before one are done and that one failed, whose object is blamed,
-- and no more is called
pub data Performs : List Call → (old new : Outside) → Option Who → Type 0 where
  done : (at : Outside) → Performs [] at at None
  breaks : (call : Call) (rest : List Call) (old new : Outside) → CallFailed call old new → Performs (call ∷ rest) old new (Some (who call))
  goes_on : (call : Call) (rest : List Call) (old mid new : Outside) (blamed : Option Who) → CallDone call old mid → Performs rest mid new blamed
      → Performs (call ∷ rest) old new blamed

-- the scripts of the numbers below n, in order
unfoldable pub scripts : (ℕ → List Call) → ℕ → List Call
scripts f zero = []
scripts f (suc n) = scripts f n ++ f n

-- all that a script prints, where all of it is told
abbrev pub spoken : List Call → Option (List ℕ)
spoken [] = Some []
spoken (Printed None ∷ rest) = None
spoken (Printed (Some text) ∷ rest) = option_map (λ more. text ++ more) (spoken rest)
spoken (call ∷ rest) = spoken rest

-- how often it calls the disk
abbrev pub disk_calls : List Call → ℕ
disk_calls [] = 0
disk_calls (Read sector ∷ rest) = suc (disk_calls rest)
disk_calls (Wrote sector words ∷ rest) = suc (disk_calls rest)
disk_calls (call ∷ rest) = disk_calls rest

-- and how often the shelf
abbrev pub shelf_calls : List Call → ℕ
shelf_calls [] = 0
shelf_calls (Got name ∷ rest) = suc (shelf_calls rest)
shelf_calls (Stored name bytes ∷ rest) = suc (shelf_calls rest)
shelf_calls (call ∷ rest) = shelf_calls rest

-- it writes no sector
abbrev pub WritesNoSector : List Call → Type 0
WritesNoSector [] = Unit {0}
WritesNoSector (Wrote sector words ∷ rest) = ⊥
WritesNoSector (call ∷ rest) = WritesNoSector rest

-- what a sink comes to in which rows are put: they follow its text; or a part of them, where it failed
abbrev pub PutBy : Option Who → (rows : List ℕ) → (old new : Output) → Type 0
PutBy None rows old new = new ≡ record old { text = append_known old.text rows }
PutBy (Some TheSink) rows old new = AppendsPart old.text new.text rows × Rose old.faults new.faults
PutBy (Some other) rows old new = ⊥

-- ROWS ARE PUT, by as many calls as it takes: the script of one text
pub record Puts (rows : List ℕ) (old new : Output) (blamed : Option Who) : Type 0 where
  pub by : PutBy blamed rows old new

-- the same of a function's sink, and its answer
abbrev pub Prints : {O T : Type 0} → sink_of.Ghosts O → (old new : O) → List ℕ → Result T SinkFault → Type 0
Prints told old new rows result = Puts rows (output told old) (output told new) (blame of_sink result)

-- THE SCRIPT OF A FUNCTION over a disk, whatever stands beside it
abbrev pub Asks : {D T : Type 0} → sectors_of.Ghosts D → (old new : D) → List Call → Result T DiskFault → Type 0
Asks told old new script result = (shelf : Files) (sink : Output) →
    Performs script (record { shelf = shelf; sink = sink; disk = drive told old }) (record { shelf = shelf; sink = sink; disk = drive told new })
    (blame of_disk result)

-- and over a sink and a disk, by whom its errors blame
abbrev pub Makes : {O D T E : Type 0} → sink_of.Ghosts O → sectors_of.Ghosts D → (old new : O × D) → List Call → (E → Option Who) → Result T E →
    Type 0
Makes text told (o, d) (o', d') script of result = (shelf : Files) →
    Performs script (record { shelf = shelf; sink = output text o; disk = drive told d })
    (record { shelf = shelf; sink = output text o'; disk = drive told d' }) (blame of result)

-- the sectors once all that a script writes is written
abbrev pub sectors_after : List Call → List (List ℕ) → List (List ℕ)
sectors_after [] ss = ss
sectors_after (Wrote sector words ∷ rest) ss = sectors_after rest (slice_set ss sector words)
sectors_after (call ∷ rest) ss = sectors_after rest ss

-- an object's count of faults
abbrev pub faults_of : Who → Outside → ℕ
faults_of TheSink at = at.sink.faults
faults_of TheDisk at = at.disk.faults
faults_of TheShelf at = at.shelf.faults
