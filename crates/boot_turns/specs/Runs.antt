-- A RUN of a machine that boots a system: where it starts, what is printed of it and how far it goes; and what the abstract machine says of it.
use Rattle.std.specs.Prelude.{ℕ, ◌≤◌, ⊤, Bool, List}
use Rattle.mips_table.specs.Device.{Environment}
use Rattle.mips_table.specs.Machine.{State, run}
use Rattle.mips_table.specs.Turns.{complete, is_end, end_within, lines_of_turn}
use Rattle.cvm_model.specs.Cvm.{System, Cvm, IsCvm}
use Rattle.cvm_model.specs.Kernel.{JournalEntry}
use Rattle.boot_turns.specs.declared.answers.View.{View}
use Rattle.boot_turns.specs.declared.answers.View.TheVariants.{Boot, Trace}
use Rattle.boot_turns.specs.Trace.{Shown}

-- what surrounds the machine, the system that is booted, the state at step 0, what is printed of the run, and for how many turns and steps it goes
pub record Run : Type 0 where
  pub around : Environment
  pub system : System
  pub first : State
  pub view : View
  pub turns : ℕ
  pub steps : ℕ

-- its state after t steps, and how many turns are complete there
abbrev pub state_at : Run → ℕ → State
state_at r t = run r.around r.first t

abbrev pub turns_at : Run → ℕ → ℕ
turns_at r t = complete r.around r.first t

-- how many steps it makes: until its turns are complete or the machine is off, or all; and whether it came to that end
abbrev pub steps_made : Run → ℕ
steps_made r = end_within r.around r.first r.turns r.steps

abbrev pub has_ended : Run → Bool
has_ended r = is_end r.around r.first r.turns (steps_made r)

-- the lines that the machine meets in each turn
abbrev pub lines_met : Run → ℕ → ℕ
lines_met r = lines_of_turn r.around r.first

-- WHAT THE ABSTRACT MACHINE SAYS of a run: its state after each number of turns; and of the user of a trace what is shown after each number of steps
pub record Past : Type 0 where
  pub cvm : ℕ → Cvm
  pub shown : ℕ → List JournalEntry

-- this is what is shown of the user of a trace after t steps; of a boot none is
abbrev pub IsShown : View → Run → (t : ℕ) → List JournalEntry → Type 0
IsShown Boot r t j = ⊤
IsShown (Trace u) r t j = Shown r.around r.first r.system u t j

-- so it is of all turns that are complete where the run is left, and of all its steps
pub record IsPast (r : Run) (p : Past) : Type 0 where
  pub turns : (k : ℕ) → k ≤ turns_at r (steps_made r) → IsCvm r.system (lines_met r) k (p.cvm k)
  pub user : (t : ℕ) → t ≤ steps_made r → IsShown r.view r t (p.shown t)

-- the abstract machine after the turns that are complete after t steps
abbrev pub cvm_at : Run → Past → ℕ → Cvm
cvm_at r p t = p.cvm (turns_at r t)
