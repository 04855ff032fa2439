-- LAWS of what is seen of a user program: what it asks first depends neither on later answers nor on how many units it has, nor on spans in its source.
use Rattle.std.specs.Prelude.{◌≡◌, ℕ, suc, ◌<◌, ◌≤◌, ℤ, List, [], ◌∷◌, ◌++◌, length, take, Some, slice_get}
use Rattle.c0_tree.specs.declared.primitive.Program.TheVariants.{User}
use Rattle.c0_tree.specs.Tree.{CUnit}
use Rattle.c0_meaning.specs.Bare.{bare}
use Rattle.c0_meaning.specs.Limits.{first_number}
use Rattle.c0_meaning.specs.Value.{empty}
use Rattle.c0_meaning.specs.State.{first_state}
use Rattle.c0_meaning.specs.World.{Setting, Configuration, beginning}
use Rattle.c0_meaning.specs.Running.{begin}
use Rattle.c0_meaning.specs.Reasoning.{IsBeginningOf, MakesEntries}
use Rattle.c0_meaning.specs.UserProgram.{trap, prog}
use Rattle.c0_meaning.specs.RunLaws.{HasEnded}

-- a law: answers that come later change nothing of what is asked before them, and nothing at all of a program that has ended
pub record AnswersAheadDontMatter : Type 0 where
  pub arguments : (u : CUnit) (given later : List ℤ) (n : ℕ) → (prog u given n).arguments ≡ take (suc (length given)) (prog u (given ++ later) n).arguments
  pub ending : (u : CUnit) (given later : List ℤ) (n : ℕ) → HasEnded (prog u given n).ending → prog u (given ++ later) n ≡ prog u given n

-- a law: within more units the arguments so far stay, and others may stand behind them. So two numbers of units never disagree on an argument, and a
-- program that has ended has no further one.
pub record ArgumentsStay : Type 0 where
  pub extend : (u : CUnit) (given : List ℤ) (m n : ℕ) → m ≤ n → (more : List ℤ) × ((prog u given n).arguments ≡ (prog u given m).arguments ++ more)
  pub agree : (u : CUnit) (given : List ℤ) (m n i : ℕ) (a b : ℤ) → slice_get (prog u given m).arguments i ≡ Some a
      → slice_get (prog u given n).arguments i ≡ Some b → a ≡ b
  pub ended : (u : CUnit) (given : List ℤ) (m n i : ℕ) (a : ℤ) → HasEnded (prog u given m).ending → slice_get (prog u given n).arguments i ≡ Some a
      → i < length (prog u given m).arguments
  pub same_end : (u : CUnit) (given : List ℤ) (m n : ℕ) → HasEnded (prog u given m).ending → HasEnded (prog u given n).ending → prog u given m ≡ prog u given n

-- a law: a unit without its spans in the source is the program that the unit is
abbrev pub ProgramsIgnoreSpans : Type 0
ProgramsIgnoreSpans = (u : CUnit) (answers : List ℤ) (n : ℕ) → prog (bare u) answers n ≡ prog u answers n

-- where a program begins
abbrev pub program_setting : CUnit → Setting (List ℤ) ℤ
program_setting u = record { unit = u; heap = 1024; stack = 1024; meaning = trap }

abbrev pub program_start : CUnit → List ℤ → Configuration (List ℤ) ℤ
program_start u given = beginning (record (first_state u) { frames = [] }) given

-- a law: entries that the run of `main` makes are arguments that the program asks, as many as there are answers and one more
abbrev pub MadeIsAsked : Type 0
MadeIsAsked = (u : CUnit) (given es : List ℤ) (n : ℕ) → MakesEntries (program_setting u) n (begin (first_number User u) empty ∷ []) (program_start u given) es
    → IsBeginningOf (take (suc (length given)) es) (prog u given n).arguments
