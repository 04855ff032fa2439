-- Where a run from a start stands between turns, and the text that is printed at a step. `s` is the state of step 0.
use Rattle.std.specs.Prelude.{◌≡◌, ◌≢◌, ◌⊎◌, ◌≤◌, ℕ, zero, suc, List, ◌++◌}
use Rattle.mips_table.specs.Device.{Environment}
use Rattle.mips_table.specs.Machine.{State, run}
use Rattle.mips_table.specs.Turns.{turn_of, complete, gathered, lines_of_turn}
use Rattle.mips_table.specs.Flat.{Flat}
use Rattle.cvm_model.specs.Kernel.{JournalEntry}
use Rattle.cvm_model.specs.Primitives.{user_of}
use Rattle.cvm_model.specs.Cvm.{System, Running, Cvm, first_core, IsCvm}
use Rattle.cvm_model.specs.Text.{rows_text, boot_text, open_journal_rows, start_row, trace_text}
use Rattle.cvm_model.specs.Stands.{SimulationRelation}
use Rattle.layer_contract.specs.Layer.{Rests}
use Rattle.layer_contract.specs.Follows.{site_of}
use Rattle.boot_turns.specs.Trace.{Shown}
use Rattle.boot_turns.specs.declared.answers.View.{View}
use Rattle.boot_turns.specs.declared.answers.View.TheVariants.{Boot, Trace}

-- user u's machine at the start
abbrev pub first_user_machine : System → ℕ → Flat
first_user_machine y u = user_of (first_core y).users u

-- how the machine is after k turns: at its start, or at rest, standing for c with the lines of turn k so far
abbrev pub RestsAfter : Environment → System → State → ℕ → ℕ → Cvm → Type 0
RestsAfter x y s zero t c = t ≡ 0
RestsAfter x y s (suc k) t c = Rests c.status (run x s t) × SimulationRelation x (site_of y.boot) (gathered x s (suc k) t) (run x s t) c

-- k turns are complete at step t, none has begun since, and the machine is as c says
pub record Stood (x : Environment) (y : System) (s : State) (k t : ℕ) (c : Cvm) : Type 0 where
  pub cvm : IsCvm y (lines_of_turn x s) k c
  pub turn : turn_of x s t ≡ k
  pub all : complete x s t ≡ k
  pub rests : RestsAfter x y s k t c

-- THE END of a run at step t: no more turns are complete than were asked for; all of them are, or the kernel has halted or faulted; and the machine rests as
-- the status says, and stands for that state
pub record TurnIsOver (x : Environment) (y : System) (s : State) (turns t : ℕ) (c : Cvm) : Type 0 where
  pub few : complete x s t ≤ turns
  pub over : (complete x s t ≡ turns) ⊎ (c.status ≢ Running)
  pub rests : RestsAfter x y s (complete x s t) t c

-- THE TEXT at step t: the rows of the complete turns; or the start row and the rows of what is shown, but for a last row of steps
abbrev pub Printed : Environment → System → State → View → ℕ → List ℕ → Type 0
Printed x y s Boot t text = (c : Cvm) × IsCvm y (lines_of_turn x s) (complete x s t) c × (text ≡ rows_text c.rows)
Printed x y s (Trace u) t text = (j : List JournalEntry) × Shown x s y u t j × (text ≡ start_row u (first_user_machine y u) ++ open_journal_rows j)

-- THE WHOLE TEXT, with the end and the report
abbrev pub Whole : Environment → System → State → View → ℕ → List ℕ → Type 0
Whole x y s Boot t text = (c : Cvm) × IsCvm y (lines_of_turn x s) (complete x s t) c × (text ≡ boot_text y c)
Whole x y s (Trace u) t text = (c : Cvm) × (j : List JournalEntry) × IsCvm y (lines_of_turn x s) (complete x s t) c
    × Shown x s y u t j
    × (text ≡ trace_text u (first_user_machine y u) j (user_of c.core.users u) c.status)
