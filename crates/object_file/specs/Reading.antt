-- The fields from left to right, with the first fault that is met: the steps of the reader, each on the bytes that are left.
use Rattle.std.specs.Prelude.{ℕ, ◌+◌, ◌*◌, ◌||◌, List, [], ◌∷◌, length, take, drop, codes, nat_lt, Result, Ok, Err, if◌then◌else◌}
use Rattle.std.specs.Str.{bytes_eq}
use Rattle.byteorder.specs.Endian.{little_number}
use Rattle.cvm_words.specs.Bytes.{words_of_bytes}
use Rattle.cvm_words.specs.Reading.{◌>>=◌}
use Rattle.object_file.specs.declared.fault.ObjectFault.{ObjectFault}
use Rattle.object_file.specs.declared.fault.ObjectFault.TheVariants.{Magic, Truncated, Trailing, Field}
use Rattle.object_file.specs.Parts.{ObjectParts}

-- what follows the mark
unfoldable pub mark_at : List ℕ → Result (List ℕ) ObjectFault
mark_at bytes =
    if nat_lt (length bytes) 4 then Err (Truncated 0) else
    if bytes_eq (take 4 bytes) (codes "CVMO") then Ok (drop 4 bytes) else Err Magic

-- a field's number, from `least` to `most`, and what follows it
unfoldable pub number_at : ℕ → ℕ → ℕ → List ℕ → Result (ℕ × List ℕ) ObjectFault
number_at at least most bytes =
    if nat_lt (length bytes) 4 then Err (Truncated at) else
    if nat_lt (little_number 4 bytes) least || nat_lt most (little_number 4 bytes) then Err (Field at (little_number 4 bytes)) else
    Ok (little_number 4 bytes, drop 4 bytes)

-- the bytes of the source and those of the words, where nothing follows
unfoldable pub parts_at : ℕ → ℕ → List ℕ → Result (List ℕ × List ℕ) ObjectFault
parts_at n k bytes =
    if nat_lt (length bytes) n then Err (Truncated 16) else
    if nat_lt (length (drop n bytes)) (4 * k) then Err (Truncated (16 + n)) else
    if nat_lt (4 * k) (length (drop n bytes)) then Err (Trailing (16 + n + 4 * k)) else
    Ok (take n bytes, drop n bytes)

-- what follows the four fields, and the numbers of bytes and of words
unfoldable pub header_of : List ℕ → Result (List ℕ × List ℕ) ObjectFault
header_of bytes = do
  rest ← mark_at bytes
  form ← number_at 4 1 1 rest
  n ← number_at 8 0 1048576 form.1
  k ← number_at 12 0 4177920 n.1
  parts_at n.0 k.0 k.1

-- the object of two parts
unfoldable pub object_of_parts : List ℕ × List ℕ → ObjectParts
object_of_parts parts = record { source = parts.0; words = words_of_bytes parts.1 }

-- the object that bytes spell, or the first fault
unfoldable pub answer : List ℕ → Result ObjectParts ObjectFault
answer bytes = do
  parts ← header_of bytes
  Ok (object_of_parts parts)
