-- What is answered of bytes: the object that they spell, or what stands first where no object has it.
use Rattle.std.specs.Prelude.{ℕ, ◌≡◌, ◌≢◌, ◌≤◌, ◌<◌, ◌^◌, zero, suc, List, [], ◌++◌, length, take, codes, slice_index_or, Option, Some, None, Result, Ok, Err}
use Rattle.std.specs.List.{concat}
use Rattle.object_file.specs.declared.fault.ObjectFault.{ObjectFault}
use Rattle.object_file.specs.declared.fault.ObjectFault.TheVariants.{Magic, Truncated, Trailing, Field, Memory}
use Rattle.object_file.specs.Parts.{ObjectParts}
use Rattle.cvm_words.specs.Bytes.{word}
use Rattle.object_file.specs.Format.{pieces, spelling, IsInRange}

-- the first pieces of an object are whole, and fewer bytes follow than its next piece has, which begins at `at`
pub record EndsWithin (bytes : List ℕ) (at : ℕ) : Type 0 where
  pub object : ObjectParts
  pub in_range : IsInRange object
  pub whole : ℕ
  pub left : List ℕ
  pub spelled : bytes ≡ concat (take whole (pieces object)) ++ left
  pub short : length left < length (slice_index_or (pieces object) whole [])
  pub position : at ≡ length (concat (take whole (pieces object)))

-- the numbers that may not stand behind so many whole pieces: the form is 1, a source has at most 1,048,576 bytes, and there are at
-- most 4,177,920 words
abbrev pub IsOutOfRange : ℕ → ℕ → Type 0
IsOutOfRange zero value = ⊥
IsOutOfRange (suc zero) value = value ≢ 1
IsOutOfRange (suc (suc zero)) value = 1048576 < value
IsOutOfRange (suc (suc (suc zero))) value = 4177920 < value
IsOutOfRange (suc (suc (suc (suc field)))) value = ⊥

-- the first fields of an object are whole, and the next one, which begins at `at`, has a number that may not stand there
pub record HasWrongField (bytes : List ℕ) (at value : ℕ) : Type 0 where
  pub object : ObjectParts
  pub in_range : IsInRange object
  pub whole : ℕ
  pub left : List ℕ
  pub spelled : bytes ≡ concat (take whole (pieces object)) ++ (word value ++ left)
  pub bits : value < 2 ^ 32
  pub out : IsOutOfRange whole value
  pub position : at ≡ length (concat (take whole (pieces object)))

-- an object is whole, and bytes follow, from `at` on
pub record GoesOnAt (bytes : List ℕ) (at : ℕ) : Type 0 where
  pub object : ObjectParts
  pub in_range : IsInRange object
  pub left : List ℕ
  pub spelled : bytes ≡ spelling object ++ left
  pub more : 0 < length left
  pub position : at ≡ length (spelling object)

-- what is answered of bytes
abbrev pub IsObjectAnswer : List ℕ → Result ObjectParts ObjectFault → Type 0
IsObjectAnswer bytes (Ok o) = IsInRange o × (bytes ≡ spelling o)
IsObjectAnswer bytes (Err Magic) = (4 ≤ length bytes) × (take 4 bytes ≢ codes "CVMO")
IsObjectAnswer bytes (Err (Truncated at)) = EndsWithin bytes at
IsObjectAnswer bytes (Err (Field at value)) = HasWrongField bytes at value
IsObjectAnswer bytes (Err (Trailing at)) = GoesOnAt bytes at
IsObjectAnswer bytes (Err Memory) = ⊥

-- the number that is printed for a fault of an object that is linked
abbrev pub object_fault_number : ObjectFault → ℕ
object_fault_number Magic = 40
object_fault_number (Truncated at) = 41
object_fault_number (Trailing at) = 42
object_fault_number (Field at value) = 43
object_fault_number Memory = 44

-- the byte of the file that a fault names
abbrev pub object_fault_position : ObjectFault → Option ℕ
object_fault_position Magic = None
object_fault_position (Truncated at) = Some at
object_fault_position (Trailing at) = Some at
object_fault_position (Field at value) = Some at
object_fault_position Memory = None

-- the number that may not stand in a field
abbrev pub object_fault_value : ObjectFault → Option ℕ
object_fault_value Magic = None
object_fault_value (Truncated at) = None
object_fault_value (Trailing at) = None
object_fault_value (Field at value) = Some value
object_fault_value Memory = None

-- what holds unless memory ran out
abbrev pub UnlessMemory : Result ObjectParts ObjectFault → Type 0 → Type 0
UnlessMemory (Ok o) P = P
UnlessMemory (Err Magic) P = P
UnlessMemory (Err (Truncated at)) P = P
UnlessMemory (Err (Field at value)) P = P
UnlessMemory (Err (Trailing at)) P = P
UnlessMemory (Err Memory) P = Unit {0}
