-- Worked rows: the turns of small machines, with a line at each step in turn.
use Rattle.std.specs.Prelude.{◌≡◌, ℕ, List, [], ◌∷◌, ◌++◌, map, replicate, take, drop, slice_index, Some}
use Rattle.std.specs.List.{range_with_len}
use Rattle.mips_table.specs.Device.{HasEightLines, LinesEnd}
use Rattle.mips_table.specs.Machine.{State, power_on, run}
use Rattle.mips_table.specs.Turns.{turn_of, complete, lines_of_turn, end_within}
use Rattle.mips_table.specs.Samples.{sector_reading, sampled, sectors as eight_sectors}
use Rattle.cvm_outside.specs.Script.{Read}
use Rattle.mips_machine.specs.Steps.{script_of_step}
use Rattle.boot_turns.specs.StepScript.{transfers}
use Rattle.boot_turns.specs.Samples.{two_frames, few_words, raising_at, conversed, fetching}

-- the machine of 21 words at its start
abbrev pub small : State
small = power_on few_words [] []

-- with a line at a step: the turns begun before each of steps 0 to 27
abbrev pub begun_before : ℕ → List ℕ
begun_before at = map (turn_of (raising_at at) small) (range_with_len 0 28)

-- those complete at each of these steps
abbrev pub complete_at : ℕ → List ℕ
complete_at at = map (complete (raising_at at) small) (range_with_len 0 28)

-- the lines of turns 0 to 5
abbrev pub lines_by_turn : ℕ → List ℕ
lines_by_turn at = map (lines_of_turn (raising_at at) small) (range_with_len 0 6)

-- the steps at which 0 to 5 turns are complete, or the machine is off
abbrev pub ends_by_turn : ℕ → List ℕ
ends_by_turn at = map (λ k. end_within (raising_at at) small k 28) (range_with_len 0 6)

-- Turns begin at the reset, at step 0, and once in user mode at each step. User mode is entered after step 11. A line that is raised before
-- is taken at step 12, and then the user's three steps begin at 18, 19 and 20; the power is off after step 25.
pub record AreEarlyLinesTaken : Type 0 where
  pub first_line : lines_by_turn 0 ≡ 8 ∷ replicate 5 0
  pub lines : map lines_by_turn (range_with_len 1 12) ≡ replicate 12 (0 ∷ 8 ∷ replicate 4 0)
  pub begun : map begun_before (range_with_len 0 13) ≡ replicate 13 (0 ∷ replicate 12 1 ++ replicate 6 2 ++ 3 ∷ 4 ∷ replicate 7 5)
  pub complete : map complete_at (range_with_len 0 13) ≡ replicate 13 (replicate 12 0 ++ replicate 6 1 ++ 2 ∷ 3 ∷ replicate 6 4 ++ 5 ∷ 5 ∷ [])
  pub ends : ends_by_turn 6 ≡ 0 ∷ 12 ∷ 18 ∷ 19 ∷ 20 ∷ 26 ∷ []

-- one at step 13 is taken in place of the user's second step, and one at step 14 in place of its system call
pub record AreUsersInterrupted : Type 0 where
  pub second_lines : lines_by_turn 13 ≡ 0 ∷ 0 ∷ 8 ∷ replicate 3 0
  pub second_begun : begun_before 13 ≡ 0 ∷ replicate 12 1 ++ 2 ∷ replicate 6 3 ++ 4 ∷ replicate 7 5
  pub second_complete : complete_at 13 ≡ replicate 12 0 ++ 1 ∷ replicate 6 2 ++ 3 ∷ replicate 6 4 ++ 5 ∷ 5 ∷ []
  pub second_ends : ends_by_turn 13 ≡ 0 ∷ 12 ∷ 13 ∷ 19 ∷ 20 ∷ 26 ∷ []
  pub third_lines : lines_by_turn 14 ≡ 0 ∷ 0 ∷ 0 ∷ 8 ∷ replicate 2 0
  pub third_begun : begun_before 14 ≡ 0 ∷ replicate 12 1 ++ 2 ∷ 3 ∷ replicate 6 4 ++ replicate 7 5
  pub third_complete : complete_at 14 ≡ replicate 12 0 ++ 1 ∷ 2 ∷ replicate 6 3 ++ replicate 6 4 ++ 5 ∷ 5 ∷ []
  pub third_ends : ends_by_turn 14 ≡ 0 ∷ 12 ∷ 13 ∷ 14 ∷ 20 ∷ 26 ∷ []

-- a later one is never taken: the system call of step 14 switches the power off after step 19, and the line belongs to a turn that doesn't begin
pub record AreLateLinesLeft : Type 0 where
  pub lines : map lines_by_turn (range_with_len 15 6) ≡ replicate 6 (replicate 4 0 ++ 8 ∷ 0 ∷ [])
  pub begun : map begun_before (range_with_len 15 6) ≡ replicate 6 (0 ∷ replicate 12 1 ++ 2 ∷ 3 ∷ replicate 13 4)
  pub complete : map complete_at (range_with_len 15 6) ≡ replicate 6 (replicate 12 0 ++ 1 ∷ 2 ∷ replicate 6 3 ++ replicate 8 4)
  pub ends : ends_by_turn 17 ≡ 0 ∷ 12 ∷ 13 ∷ 14 ∷ 20 ∷ 20 ∷ []

-- the machine of two frames, with a line at step 12
abbrev pub framed : State
framed = power_on two_frames [] []

-- its turns: the reset, a step, the system call; the line belongs to a turn that doesn't begin
pub record AreTurnsCounted : Type 0 where
  pub begun : map (turn_of (raising_at 12) framed) (1 ∷ 10 ∷ 11 ∷ 12 ∷ 15 ∷ []) ≡ 1 ∷ 1 ∷ 2 ∷ 3 ∷ 3 ∷ []
  pub complete : map (complete (raising_at 12) framed) (9 ∷ 10 ∷ 11 ∷ 12 ∷ 14 ∷ 15 ∷ []) ≡ 0 ∷ 1 ∷ 2 ∷ 2 ∷ 2 ∷ 3 ∷ []
  pub lines : map (lines_of_turn (raising_at 12) framed) (0 ∷ 1 ∷ 2 ∷ 3 ∷ []) ≡ 0 ∷ 0 ∷ 0 ∷ 8 ∷ []
  pub ends : map (λ k. end_within (raising_at 12) framed k 20) (0 ∷ 1 ∷ 2 ∷ 3 ∷ 7 ∷ []) ≡ 0 ∷ 10 ∷ 11 ∷ 15 ∷ 15 ∷ []
  pub off : (run (raising_at 12) framed 15).off ≡ Some 0

-- input is taken by loads and by a fetch
pub record IsInputTaken : Type 0 where
  pub loaded : take 3 (drop 1 (run (raising_at 12) conversed 7).cpu.regs) ≡ 7 ∷ 35 ∷ 1 ∷ []
  pub left : (run (raising_at 12) conversed 7).input ≡ 9 ∷ []
  pub logged : (run (raising_at 12) conversed 7).log ≡ 7 ∷ []
  pub ran : slice_index (run (raising_at 12) fetching 1).cpu.regs 1 ≡ 5
  pub taken : (run (raising_at 12) fetching 1).input ≡ 8 ∷ []

-- of a machine that begins to read sector 7 in step 5, by a command that is busy for 3 steps: the transfer is due in step 8 alone
pub record IsTransferDue : Type 0 where
  pub by_step : map (λ t. script_of_step sampled (run sampled (power_on sector_reading eight_sectors []) t)) (range_with_len 0 11) ≡ replicate 8 []
      ++ (Read 7 ∷ []) ∷ [] ∷ [] ∷ []
  pub all : transfers sampled (power_on sector_reading eight_sectors []) 0 11 ≡ Read 7 ∷ []
  pub later : transfers sampled (power_on sector_reading eight_sectors []) 9 2 ≡ []

-- the outside of these rows is one that a schedule may give
pub record AreLinesOfASchedule : Type 0 where
  pub eight : (at : ℕ) → HasEightLines (raising_at at)
  pub end : (at : ℕ) → LinesEnd (raising_at at)
