-- What is answered of bytes: the fields in the order of the file, then the parts, then the end; the first that isn't as it is to be
-- answers.
use Rattle.std.specs.Prelude.{ℕ, zero, suc, ◌≡◌, ◌+◌, ◌*◌, ◌<◌, ◌||◌, slice_index, List, [], ◌∷◌}
use Rattle.std.specs.Prelude.{◌++◌, length, take, drop, codes, nat_lt, nat_eq, Result, Ok, Err, if◌then◌else◌}
use Rattle.std.specs.Str.{bytes_eq}
use Rattle.byteorder.specs.Endian.{little_number}
use Rattle.layer_map.specs.declared.params.Params.{Params}
use Rattle.cvm_words.specs.Bytes.{words_of_bytes}
use Rattle.cvm_words.specs.Reading.{◌>>=◌}
use Rattle.boot_image.specs.declared.fault.ImageFault.{ImageFault}
use Rattle.boot_image.specs.declared.fault.ImageFault.TheVariants.{Magic, Truncated, Trailing, Parameter}
use Rattle.boot_image.specs.declared.reading.Header.{Header}
use Rattle.boot_image.specs.Parts.{ImageParts}
use Rattle.boot_image.specs.Format.{bare_params, most_user_words, spelling}

-- what follows the mark
unfoldable pub mark_at : List ℕ → Result (List ℕ) ImageFault
mark_at bytes =
    if nat_lt (length bytes) 4 then Err (Truncated 0) else
    if bytes_eq (take 4 bytes) (codes "CVMI") then Ok (drop 4 bytes) else Err Magic

-- the number of word `which` of the file, from `least` to `most`, and what follows it
unfoldable pub number_at : ℕ → ℕ → ℕ → List ℕ → Result (ℕ × List ℕ) ImageFault
number_at which least most bytes =
    if nat_lt (length bytes) 4 then Err (Truncated (4 * which)) else
    if nat_lt (little_number 4 bytes) least || nat_lt most (little_number 4 bytes) then Err (Parameter which (little_number 4 bytes)) else
    Ok (little_number 4 bytes, drop 4 bytes)

-- the form, and what follows it
unfoldable pub form_at : List ℕ → Result (ℕ × List ℕ) ImageFault
form_at bytes = do
  form ← number_at 1 1 3 bytes
  if nat_eq form.0 2 then Err (Parameter 1 2) else Ok form

-- the parameters, which begin with word 3, with so many pages of a user at most
unfoldable pub params_at : ℕ → List ℕ → Result (Params × List ℕ) ImageFault
params_at most_pages bytes = do
  pages ← number_at 3 1 most_pages bytes
  frames ← number_at 4 2 16384 pages.1
  heap ← number_at 5 0 1048576 frames.1
  stack ← number_at 6 64 262144 heap.1
  Ok (record { pages = pages.0; frames = frames.0; heap = heap.0; stack = stack.0 }, stack.1)

-- the numbers of words of so many further users, behind those of the first ones; they begin with word 9
unfoldable pub counts_at : List ℕ → ℕ → ℕ → List ℕ → Result (List ℕ × List ℕ) ImageFault
counts_at first most zero bytes = Ok (first, bytes)
counts_at first most (suc users) bytes = do
  count ← number_at (9 + length first) 0 most bytes
  counts_at (first ++ count.0 ∷ []) most users count.1

-- behind the form: a source alone
unfoldable pub bare_at : List ℕ → Result (Header × (List ℕ × List ℕ)) ImageFault
bare_at bytes = do
  source ← number_at 2 0 1048576 bytes
  Ok (record { form = 1; params = bare_params; source_length = source.0; word_count = 0; parts_at = 12 }, ([], source.1))

-- behind the form: a whole system, with so many users and so many pages of a user at most
unfoldable pub system_at : ℕ → ℕ → ℕ → List ℕ → Result (Header × (List ℕ × List ℕ)) ImageFault
system_at form most_users most_pages bytes = do
  users ← number_at 2 0 most_users bytes
  params ← params_at most_pages users.1
  source ← number_at 7 0 1048576 params.1
  words ← number_at 8 16384 4194304 source.1
  counts ← counts_at [] (most_user_words params.0.pages) users.0 words.1
  Ok (record { form = form; params = params.0; source_length = source.0; word_count = words.0; parts_at = 36 + 4 * users.0 }, counts)

-- the fields, with the users' numbers of words apart, and what follows them
unfoldable pub header_of : List ℕ → Result (Header × (List ℕ × List ℕ)) ImageFault
header_of bytes = do
  rest ← mark_at bytes
  form ← form_at rest
  if nat_eq form.0 1 then bare_at form.1 else system_at 3 64 1024 form.1

-- the same of a file of form 2
unfoldable pub old_header_of : List ℕ → Result (Header × (List ℕ × List ℕ)) ImageFault
old_header_of bytes = do
  rest ← mark_at bytes
  form ← number_at 1 2 2 rest
  system_at 2 16 256 form.1

-- a part of so many bytes, which begins at `at`, and what follows it
unfoldable pub part_at : ℕ → ℕ → List ℕ → Result (List ℕ × List ℕ) ImageFault
part_at at size bytes = if nat_lt (length bytes) size then Err (Truncated at) else Ok (take size bytes, drop size bytes)

-- the words of each user, of which there are so many each, and then the end
unfoldable pub users_at : ℕ → List ℕ → List ℕ → Result (Unit {0}) ImageFault
users_at at [] bytes = if nat_lt 0 (length bytes) then Err (Trailing at) else Ok tt
users_at at (count ∷ counts) bytes = do
  part ← part_at at (4 * count) bytes
  users_at (at + 4 * count) counts part.1

-- the bytes of the source, of the linked words, and of all users' words
unfoldable pub parts_of : Header → List ℕ → List ℕ → Result (List ℕ × (List ℕ × List ℕ)) ImageFault
parts_of header counts bytes = do
  source ← part_at header.parts_at header.source_length bytes
  words ← part_at (header.parts_at + header.source_length) (4 * header.word_count) source.1
  users_at (header.parts_at + header.source_length + 4 * header.word_count) counts words.1 >>= λ end. Ok (source.0, (words.0, words.1))

-- the words of each user
unfoldable pub users_of : List ℕ → List ℕ → List (List ℕ)
users_of [] bytes = []
users_of (count ∷ counts) bytes = words_of_bytes (take (4 * count) bytes) ∷ users_of counts (drop (4 * count) bytes)

-- the image of a header and of parts
abbrev pub image_of : Header → List ℕ → List ℕ → List ℕ → List ℕ → ImageParts
image_of header counts source words users =
    record { params = header.params; form = header.form; source = source; words = words_of_bytes words; users = users_of counts users }

-- what is answered of the bytes that follow a header
abbrev pub image_at : Header → List ℕ → List ℕ → Result ImageParts ImageFault
image_at header counts bytes = parts_of header counts bytes >>= λ parts. Ok (image_of header counts parts.0 parts.1.0 parts.1.1)

-- what is answered of bytes
unfoldable pub answer : List ℕ → Result ImageParts ImageFault
answer bytes = do
  header ← header_of bytes
  image_at header.0 header.1.0 header.1.1

-- what is answered of bytes where form 2 is read
unfoldable pub old_answer : List ℕ → Result ImageParts ImageFault
old_answer bytes = do
  header ← old_header_of bytes
  image_at header.0 header.1.0 header.1.1

-- laws of a reading: bytes that are answered by an image are its spelling, and the spelling of each image is answered by it
abbrev pub AnswersAreSpelled : (List ℕ → Result ImageParts ImageFault) → (IsFit : ImageParts → Type 0) → Type 0
AnswersAreSpelled read IsFit =
    (bytes : List ℕ) → ((i : ℕ) → slice_index bytes i < 256) → (image : ImageParts) → read bytes ≡ Ok image → IsFit image × (bytes ≡ spelling image)

abbrev pub SpellingsAreAnswered : (List ℕ → Result ImageParts ImageFault) → (IsFit : ImageParts → Type 0) → Type 0
SpellingsAreAnswered read IsFit = (image : ImageParts) → IsFit image → read (spelling image) ≡ Ok image
