-- Programs that make known calls, one after another, and then return: what they are as users of a whole system.
use Rattle.std.specs.Prelude.{◌≡◌, ℕ, ◌+◌, ◌^◌, ◌<◌, ◌≤◌, ℤ, pos, List, [], ◌∷◌, length, map, sum}
use Rattle.mips_table.specs.Flat.{Flat}
use Rattle.c0_tree.specs.Tree.{CUnit}
use Rattle.c0_meaning.specs.UserProgram.{prog, done}
use Rattle.cvm_model.specs.Cvm.{first_flat}
use Rattle.user_c0.specs.Image.{image_words}
use Rattle.user_c0.specs.Program.{steps_of as most_steps}
use Rattle.user_c0.specs.Users.{IsProgram}
use Rattle.program_systems.specs.Counts.{TrapsThrough}
use Rattle.mailing.specs.Users.{Leg, CallsInTurn}

-- numbers as ints, each of which is one
abbrev pub ints : List ℕ → List ℤ
ints ns = map (λ (n : ℕ). pos n) ns

abbrev pub AreInts : List ℕ → Type 0
AreInts [] = Unit {0}
AreInts (n ∷ ns) = (n < 2 ^ 31) × AreInts ns

-- a program that makes calls with these arguments, where it is answered so, and then returns, within n units
pub record CallsAndReturns (u : CUnit) (n : ℕ) (arguments answers : List ℕ) : Type 0 where
  pub program : IsProgram u
  pub runs : prog u (ints answers) n ≡ record { arguments = ints arguments; ending = done }
  pub as_many : length arguments ≡ length answers
  pub small : AreInts answers

-- the steps of a user that don't trap
abbrev pub untrapped_in : List Leg → (last : ℕ) → ℕ
untrapped_in [] last = last
untrapped_in (leg ∷ legs) last = leg.steps + untrapped_in legs last

-- a machine makes calls with these arguments in turn, where it is answered so, and ends, in so many untrapped steps at most
pub record ComesThrough (f : Flat) (most : ℕ) (arguments answers : List ℕ) : Type 0 where
  pub legs : List Leg
  pub last : ℕ
  pub arguments_are : map (λ (leg : Leg). leg.argument) legs ≡ arguments
  pub answers_are : map (λ (leg : Leg). leg.answer) legs ≡ answers
  pub calls : CallsInTurn f legs last
  pub few : untrapped_in legs last ≤ most

-- A LAW: the image of such a program comes through so, within the steps of its units
abbrev pub ProgramsComeThrough : Type 0
ProgramsComeThrough = (u : CUnit) (n : ℕ) (arguments answers : List ℕ) → CallsAndReturns u n arguments answers
    → ComesThrough (first_flat (image_words u)) (most_steps n) arguments answers

-- its untrapped steps are n in all, where it is answered so at each of its traps but the last one
pub record IsCountedThrough (f : Flat) (answers : List ℕ) (n : ℕ) : Type 0 where
  pub steps : List ℕ
  pub traps : TrapsThrough f answers steps
  pub sum_is : sum steps ≡ n

-- A LAW: where it is known so, a machine that makes its calls in turn and is answered so makes just these untrapped steps
abbrev pub CountsTellThrough : Type 0
CountsTellThrough = (f : Flat) (legs : List Leg) (last n : ℕ) → CallsInTurn f legs last → IsCountedThrough f (map (λ (leg : Leg). leg.answer) legs) n
    → untrapped_in legs last ≡ n
