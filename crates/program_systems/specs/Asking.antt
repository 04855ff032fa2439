-- A program that asks once, and ends behind the answer.
use Rattle.std.specs.Prelude.{◌≡◌, ℕ, pos, ◌+◌, ◌^◌, ◌≤◌, ◌<◌, [], ◌∷◌, Some, slice_get}
use Rattle.mips_table.specs.Flat.{Flat}
use Rattle.c0_tree.specs.Tree.{CUnit}
use Rattle.c0_meaning.specs.UserProgram.{prog, done}
use Rattle.cvm_model.specs.Cvm.{first_flat}
use Rattle.user_c0.specs.Image.{image_words}
use Rattle.user_c0.specs.Program.{steps_of}
use Rattle.user_c0.specs.Users.{IsProgram}
use Rattle.kernel_theorems.specs.UserRuns.{AsksAndEnds}

-- a program that brings a number by its first call, and ends behind it where it is answered so, both within n units
pub record BringsAndEnds (u : CUnit) (n value answer : ℕ) : Type 0 where
  pub program : IsProgram u
  pub calls : slice_get (prog u [] n).arguments 0 ≡ Some (pos value)
  pub ends : prog u (pos answer ∷ []) n ≡ record { arguments = pos value ∷ []; ending = done }

-- a machine does so within so many steps
pub record AskedAndEnded (f : Flat) (most value answer : ℕ) : Type 0 where
  pub steps : ℕ
  pub rest : ℕ
  pub few : steps + rest ≤ most
  pub runs : AsksAndEnds f steps rest value answer

-- A LAW: the image of such a program asks with its number, goes on with the answer, and ends, within the steps of its units
abbrev pub ProgramsAskAndEnd : Type 0
ProgramsAskAndEnd = (u : CUnit) (n value answer : ℕ) → BringsAndEnds u n value answer → answer < 2 ^ 31
    → AskedAndEnded (first_flat (image_words u)) (steps_of n) value answer
