-- THE SCRIPTS OF WHOLE RUNS: a boot or a trace, the rest of one, and a save; and a run that was saved.
use Rattle.std.specs.Prelude.{◌≡◌, ℕ, ◌-◌, ◌≤◌, ⊤, if◌then◌else◌, List, [], ◌∷◌, ◌++◌, codes, Some, None}
use Rattle.std.specs.List.{flat_map}
use Rattle.cvm_words.specs.Bytes.{word}
use Rattle.mips_table.specs.Turns.{IsTurnEnd}
use Rattle.mips_machine.specs.Saved.{saved}
use Rattle.cvm_model.specs.Cvm.{Status, Running}
use Rattle.cvm_outside.specs.Script.{Call, Printed, Read, Stored}
use Rattle.boot_turns.specs.Runs.{Run, Past, IsPast, state_at, turns_at, steps_made, has_ended, cvm_at}
use Rattle.boot_turns.specs.StepScript.{steps_script}
use Rattle.boot_run.specs.Closing.{opening_script, closing_script}

-- from step number t on: the steps that are left, and the end
abbrev pub rest_script : Run → Past → (t : ℕ) → List Call
rest_script r p t = steps_script r p t (steps_made r - t) ++ (if has_ended r then closing_script r p else [])

-- A BOOT OR A TRACE: the load, the first row, and the whole run
abbrev pub run_script : Run → (load : List Call) → Past → List Call
run_script r load p = load ++ opening_script r.view r.system ++ rest_script r p 0

-- the words of the machine that a run left, with its complete turns and its current user
abbrev pub saved_words : Run → Past → List ℕ
saved_words r p = saved r.system.input (state_at r (steps_made r)) (turns_at r (steps_made r)) (cvm_at r p (steps_made r)).core.current

-- the bytes of its file, and the row that a save prints in place of all from `stopped` on
abbrev pub saved_bytes : Run → Past → List ℕ
saved_bytes r p = flat_map word (saved_words r p)

abbrev pub saved_row : List ℕ
saved_row = codes "saved\n"

-- the put of a file with these bytes, and the row behind it
abbrev pub put_script : (name bytes : List ℕ) → List Call
put_script name bytes = Stored name bytes ∷ Printed (Some saved_row) ∷ []

-- a run that goes on is saved; else the end is the boot's
abbrev pub leaving_script : (name : List ℕ) → Run → Past → Status → List Call
leaving_script name r p Running = put_script name (saved_bytes r p)
leaving_script name r p other = closing_script r p

-- A SAVE: the boot, up to its end row
abbrev pub save_script : (name : List ℕ) → Run → (load : List Call) → Past → List Call
save_script name r load p =
    load ++ steps_script r p 0 (steps_made r) ++ (if has_ended r then leaving_script name r p (cvm_at r p (steps_made r)).status else [])

-- A RUN WAS SAVED in these words, with these sectors, after so many steps: there so many turns are complete for the first time, and the abstract machine
-- goes on
pub record WasSaved (r : Run) (past : Past) (words : List ℕ) (left : List (List ℕ)) (made : ℕ) : Type 0 where
  pub is_past : IsPast r past
  pub few : made ≤ r.steps
  pub first : IsTurnEnd r.around r.first (turns_at r made) made
  pub on : (cvm_at r past made).status ≡ Running
  pub words_are : words ≡ saved r.system.input (state_at r made) (turns_at r made) (cvm_at r past made).core.current
  pub left_is : left ≡ (state_at r made).device.sectors

-- calls that only read sectors, and print texts that aren't told
abbrev pub AreReads : List Call → Type 0
AreReads [] = ⊤
AreReads (Read sector ∷ rest) = AreReads rest
AreReads (Printed None ∷ rest) = AreReads rest
AreReads (other ∷ rest) = ⊥
