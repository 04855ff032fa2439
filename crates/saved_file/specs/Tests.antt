-- What is looked at of a file, in order.
use Rattle.std.specs.Prelude.{ℕ, zero, suc, ◌+◌, ◌-◌, ◌*◌, ◌^◌, ◌||◌, Bool, true, false, List}
use Rattle.std.specs.Prelude.{[], ◌∷◌, ◌++◌, length, slice_index, nat_lt, nat_eq, Result, Ok, Err, if◌then◌else◌}
use Rattle.cvm_words.specs.Reading.{◌>>=◌}
use Rattle.mips_table.specs.Machine.{LOG_ROOM}
use Rattle.mips_machine.specs.Saved.{MARK, from_halves}
use Rattle.saved_file.specs.Resumable.{Wanted, memory_position, memory_word, is_left_out, saved_size_at}
use Rattle.saved_file.specs.declared.fault.SaveFault.{SaveFault}
use Rattle.saved_file.specs.declared.fault.SaveFault.TheVariants.{Magic, Truncated, Trailing, Field, ForgedWord, SizeTooLarge, TurnsDone}

-- a thing that is looked at: how many words of the file have to be there for it, whether it is not as it has to be, and what is answered then
pub record Test : Type 0 where
  pub takes : ℕ
  pub wrong : Bool
  pub fault : SaveFault

-- whether a number is below the least or above the most that may be
abbrev pub is_outside : (least most value : ℕ) → Bool
is_outside least most value = nat_lt value least || nat_lt most value

-- the mark, which is the first word
abbrev pub mark_test : List ℕ → Test
mark_test words = record { takes = 1; wrong = is_outside MARK MARK (slice_index words 0); fault = Magic }

-- the word at a position is in its range
abbrev pub field_test : List ℕ → (position least most : ℕ) → Test
field_test words position least most =
    record { takes = suc position; wrong = is_outside least most (slice_index words position); fault = Field position (slice_index words position) }

-- the number of the next command of the disk, in two words, is at most that of the steps done
abbrev pub commands_test : List ℕ → Test
commands_test words =
    let steps = from_halves (slice_index words 3) (slice_index words 4) in
    let commands = from_halves (slice_index words 52) (slice_index words 53) in
    record { takes = 54; wrong = nat_lt steps commands; fault = Field 52 commands }

-- the head's first fields: the mark, the form, the frames of memory, the complete turns, the current user, and the mask
abbrev pub first_tests : (frames users : ℕ) → List ℕ → List Test
first_tests frames users words =
    mark_test words ∷ field_test words 1 1 1 ∷ field_test words 2 frames frames ∷ field_test words 5 1
    (2 ^ 32 - 1) ∷ field_test words 6 1 users ∷ field_test words 7 0 255 ∷ []

-- then the special registers sr, esr, mode and emode
abbrev pub special_tests : List ℕ → List Test
special_tests words = field_test words 42 0 1 ∷ field_test words 43 0 1 ∷ field_test words 49 1 1 ∷ field_test words 50 0 1 ∷ []

-- then the disk's next command, the words of input taken, and the length of the log
abbrev pub count_tests : (inputs : ℕ) → List ℕ → List Test
count_tests inputs words = commands_test words ∷ field_test words 54 0 inputs ∷ field_test words 55 0 LOG_ROOM ∷ []

-- the words that a saved machine has in all
abbrev pub whole : (frames : ℕ) → List ℕ → ℕ
whole frames words = memory_position words + 1024 * frames

-- the file ends with the last word, where it has so many bytes
abbrev pub end_test : (frames bytes : ℕ) → List ℕ → Test
end_test frames bytes words =
    record { takes = whole frames words; wrong = nat_lt (4 * whole frames words) bytes; fault = Trailing (4 * whole frames words) }

-- a linked word that no run changes is as the image has it
abbrev pub linked_test : (frames : ℕ) → (linked words : List ℕ) → (position : ℕ) → Test
linked_test frames linked words position = record {
  takes = whole frames words;
  wrong = if is_left_out position then false else if nat_eq (memory_word words position) (slice_index linked position) then false else true;
  fault = ForgedWord position (memory_word words position) (slice_index linked position);
}

-- a user's control block tells no more pages than a user may have
abbrev pub size_test : (frames pages : ℕ) → List ℕ → (user : ℕ) → Test
size_test frames pages words user = record {
  takes = whole frames words;
  wrong = nat_lt pages (memory_word words (saved_size_at user));
  fault = SizeTooLarge user (memory_word words (saved_size_at user));
}

-- the turns done are no more than those that are wanted
abbrev pub turns_test : (frames turns : ℕ) → List ℕ → Test
turns_test frames turns words =
    record { takes = whole frames words; wrong = nat_lt turns (slice_index words 5); fault = TurnsDone (slice_index words 5) turns }

-- the tests of so many numbers in a row, from a first one on
unfoldable pub each : (ℕ → Test) → (first count : ℕ) → List Test
each test first zero = []
each test first (suc count) = test first ∷ each test (suc first) count

-- the fields of the head
abbrev pub head_tests : (frames users inputs : ℕ) → List ℕ → List Test
head_tests frames users inputs words = first_tests frames users words ++ (special_tests words ++ count_tests inputs words)

-- and what comes behind: the end of the file, the linked words, the sizes of the users from 1 on, and the turns
abbrev pub tests_behind : (frames users pages turns bytes : ℕ) → (linked words : List ℕ) → List Test
tests_behind frames users pages turns bytes linked words =
    end_test frames bytes words ∷ (each (linked_test frames linked words) 0 (length linked) ++ (each (size_test frames pages words) 1 users
    ++ (turns_test frames turns words ∷ [])))

-- ALL THAT IS LOOKED AT, in order, in a file of so many bytes
abbrev pub tests : Wanted → (bytes : ℕ) → List ℕ → List Test
tests w bytes words = head_tests w.frames w.users (length w.inputs) words ++ tests_behind w.frames w.users w.pages w.turns bytes w.linked words

-- what comes of a test, where the file has so many whole words
unfoldable pub tried : ℕ → Test → Result (Unit {0}) SaveFault
tried n t = if nat_lt n t.takes then Err (Truncated (4 * n)) else if t.wrong then Err t.fault else Ok tt

-- what comes of tests in a row
abbrev pub all_tried : ℕ → List Test → Result (Unit {0}) SaveFault
all_tried n [] = Ok tt
all_tried n (t ∷ ts) = tried n t >>= λ done. all_tried n ts
