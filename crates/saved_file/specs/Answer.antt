-- What is answered of the bytes of a file.
use Rattle.std.specs.Prelude.{◌≡◌, ℕ, ◌*◌, ◌^◌, ◌<◌, ◌≤◌, ◌⊎◌, true, false, All, List, ◌∷◌, ◌++◌, length, slice_index, Result, Ok, Err}
use Rattle.std.specs.List.{flat_map, AllByRecursion}
use Rattle.cvm_words.specs.Bytes.{word, words_of_bytes}
use Rattle.cvm_words.specs.Reading.{◌>>=◌}
use Rattle.mips_table.specs.Device.{Environment}
use Rattle.mips_table.specs.Fits.{Fits}
use Rattle.mips_table.specs.declared.special.TheConstants.{MODE}
use Rattle.mips_table.specs.Machine.{State}
use Rattle.mips_table.specs.Steady.{Steady}
use Rattle.mips_machine.specs.Saved.{saved, CanBeSaved}
use Rattle.saved_file.specs.Resumable.{Wanted, CanBeResumed, is_left_out, saved_size_at}
use Rattle.saved_file.specs.Tests.{Test, tests, all_tried}
use Rattle.saved_file.specs.declared.fault.SaveFault.{SaveFault}
use Rattle.saved_file.specs.declared.fault.SaveFault.TheVariants.{Truncated}

-- a test is passed by a file of so many whole words
abbrev pub TestPasses : ℕ → Test → Type 0
TestPasses n t = (t.takes ≤ n) × (t.wrong ≡ false)

-- it isn't, and this is answered: a word that is looked at isn't whole, or the fault of the test stands
abbrev pub TestFails : ℕ → Test → SaveFault → Type 0
TestFails n t e = ((n < t.takes) × (e ≡ Truncated (4 * n))) ⊎ ((t.takes ≤ n) × (t.wrong ≡ true) × (e ≡ t.fault))

-- the first of the tests that a file of so many whole words doesn't pass, and what is answered there
pub record FailsFirst (n : ℕ) (ts : List Test) (e : SaveFault) : Type 0 where
  pub before : List Test
  pub test : Test
  pub behind : List Test
  pub are : ts ≡ before ++ test ∷ behind
  pub passed : AllByRecursion (TestPasses n) before
  pub fails : TestFails n test e

-- WHAT IS ANSWERED OF BYTES: the words that they spell, where these pass all tests, and else what comes of the first one that isn't passed
abbrev pub IsSavedAnswer : Wanted → List ℕ → Result (List ℕ) SaveFault → Type 0
IsSavedAnswer w bytes (Ok words) = (bytes ≡ flat_map word words) × (words ≡ words_of_bytes bytes)
    × AllByRecursion (TestPasses (length words)) (tests w (length bytes) words)
IsSavedAnswer w bytes (Err e) = FailsFirst (length (words_of_bytes bytes)) (tests w (length bytes) (words_of_bytes bytes)) e

-- the same by going through the tests
unfoldable pub answer : Wanted → List ℕ → Result (List ℕ) SaveFault
answer w bytes = all_tried (length (words_of_bytes bytes)) (tests w (length bytes) (words_of_bytes bytes)) >>= λ done. Ok (words_of_bytes bytes)

-- laws of a reading: what it answers of bytes is so of them, and nothing else is
abbrev pub AnswersAreSo : (Wanted → List ℕ → Result (List ℕ) SaveFault) → Type 0
AnswersAreSo read = (w : Wanted) (bytes : List ℕ) → ((i : ℕ) → slice_index bytes i < 256) → IsSavedAnswer w bytes (read w bytes)

abbrev pub NothingElseIsSo : (Wanted → List ℕ → Result (List ℕ) SaveFault) → Type 0
NothingElseIsSo read = (w : Wanted) (bytes : List ℕ) (answered : Result (List ℕ) SaveFault) → IsSavedAnswer w bytes answered → read w bytes ≡ answered

-- laws of a reading: words that it answers can be taken up, and the bytes of words that can be are answered by these
abbrev pub AnswersAreResumable : (Wanted → List ℕ → Result (List ℕ) SaveFault) → Type 0
AnswersAreResumable read = (w : Wanted) (bytes words : List ℕ) → read w bytes ≡ Ok words → CanBeResumed w words

abbrev pub ResumablesAreAnswered : (Wanted → List ℕ → Result (List ℕ) SaveFault) → Type 0
ResumablesAreAnswered read = (w : Wanted) (words : List ℕ) → All (λ n. n < 2 ^ 32) words → CanBeResumed w words → read w (flat_map word words) ≡ Ok words

-- a machine of a system's run that can be saved, with so many complete turns and this current user: it is in user mode, its memory has the linked
-- words that no run changes and the sizes of the users, and the numbers are words
pub record IsOfRun (x : Environment) (w : Wanted) (s : State) (turns user : ℕ) : Type 0 where
  pub fits : Fits x s
  pub steady : Steady w.inputs s
  pub can : CanBeSaved w.inputs s
  pub mode : slice_index s.special MODE ≡ 1
  pub time : s.time < 2 ^ 64
  pub inputs : length w.inputs < 2 ^ 32
  pub frames : length s.memory ≡ 1024 * w.frames
  pub few : w.frames < 2 ^ 32
  pub a_turn : 1 ≤ turns
  pub enough : turns ≤ w.turns
  pub bits : turns < 2 ^ 32
  pub a_user : 1 ≤ user
  pub of_users : user ≤ w.users
  pub users : user < 2 ^ 32
  pub linked : (position : ℕ) → position < length w.linked → is_left_out position ≡ false → slice_index s.memory position ≡ slice_index w.linked position
  pub sizes : (u : ℕ) → 1 ≤ u → u ≤ w.users → slice_index s.memory (saved_size_at u) ≤ w.pages

-- A LAW OF SAVING: the bytes of a saved machine are read back as its words, which can be taken up
abbrev pub SavedIsReadBack : (Wanted → List ℕ → Result (List ℕ) SaveFault) → Type 0
SavedIsReadBack read = (x : Environment) (w : Wanted) (s : State) (turns user : ℕ) → IsOfRun x w s turns user →
    CanBeResumed w (saved w.inputs s turns user) × (read w (flat_map word (saved w.inputs s turns user)) ≡ Ok (saved w.inputs s turns user))
