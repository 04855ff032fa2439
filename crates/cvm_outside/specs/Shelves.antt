-- What a shelf in memory holds, as its callers see it.
use Rattle.std.specs.Prelude.{ℕ, ◌&&◌, List, Bool, true, false, Option, Some, None, Result, Ok, Err, length, nat_lt, is_some, if◌then◌else◌}
use Rattle.std.specs.Option.{option_map}
use Rattle.std.specs.BTreeMap.{get_by_text}
use Rattle.cvm_outside.specs.Numbering.{Numbering, is_listed, is_spent}
use Rattle.cvm_outside.specs.Memory.{Placed}
use Rattle.cvm_outside.specs.declared.mem_shelf.MemShelf.{MemShelf}
use Rattle.cvm_outside.specs.declared.sure_shelf.SureShelf.{SureShelf}
use Rattle.cvm_outside.specs.declared.shelf.ShelfFault.{ShelfFault}
use Rattle.cvm_outside.specs.declared.shelf.ShelfFault.TheVariants.{Failed, TooLong, Memory}

-- the file of a name, where one was placed
abbrev pub placed : MemShelf → List ℕ → Option Placed
placed shelf name = get_by_text shelf.files name

-- the calls of a shelf
abbrev pub calls_of : MemShelf → Numbering
calls_of shelf = shelf.calls

-- a `get` of a name surely finds a file: one was placed, and no call that is to come fails by its number
abbrev pub is_sure : MemShelf → List ℕ → Bool
is_sure shelf name = is_some (placed shelf name) && is_spent (calls_of shelf)

-- how many bytes the last `get` took
abbrev pub taken_of : MemShelf → ℕ
taken_of shelf = shelf.taken

-- the bytes of a file, where one was placed
abbrev pub placed_bytes : Option Placed → Option (List ℕ)
placed_bytes file = option_map (λ f. f.bytes) file

-- what the next call finds under a name: nothing where its number is listed
abbrev pub found : MemShelf → List ℕ → Option Placed
found shelf name = if is_listed (calls_of shelf) then None else placed shelf name

-- bytes have no room in what was found
abbrev pub lacks_room : Option Placed → List ℕ → Bool
lacks_room None bytes = true
lacks_room (Some file) bytes = nat_lt file.room (length bytes)

-- bytes in the place of those of a file, whose room stays
abbrev pub replaced : Option Placed → List ℕ → Option Placed
replaced None bytes = None
replaced (Some file) bytes = Some (record file { bytes = bytes })

-- the fault is `Failed`
abbrev pub is_failure : ShelfFault → Bool
is_failure Failed = true
is_failure TooLong = false
is_failure Memory = false

-- the answer is `Failed`
abbrev pub is_failed : {T : Type 0} → Result T ShelfFault → Bool
is_failed (Ok x) = false
is_failed (Err fault) = is_failure fault

-- the shelf in memory that a sure one stands on
abbrev pub shelf_inside : SureShelf → MemShelf
shelf_inside shelf = shelf.inner

-- the file of a name once bytes were put under it: as before where they have no room in what the call found
abbrev pub put_over : (found placed : Option Placed) → List ℕ → Option Placed
put_over found placed bytes = if lacks_room found bytes then placed else replaced placed bytes
