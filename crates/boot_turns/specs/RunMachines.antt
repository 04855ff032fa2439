-- What holds of each run from a start, for whoever prints it.
use Rattle.std.specs.Prelude.{◌≡◌, ℕ, suc, ◌+◌, ◌-◌, ◌<◌, ◌≤◌, true, false, bit_or, Option, None, List, [], ◌∷◌, ◌++◌}
use Rattle.mips_table.specs.Device.{Environment}
use Rattle.mips_table.specs.Machine.{State, run}
use Rattle.mips_table.specs.Turns.{begins_turn, complete, lines_of_turn, is_end, end_within, faults_before}
use Rattle.c0_meaning.specs.State.{C0State}
use Rattle.cvm_model.specs.Kernel.{Core}
use Rattle.cvm_model.specs.Cvm.{System, Running, Cvm, IsCvm, Begin, Steps, Traps, Interrupts, status_of, begin}
use Rattle.cvm_model.specs.declared.row.Next.{Next}
use Rattle.cvm_model.specs.declared.row.Next.TheVariants.{User}
use Rattle.layer_contract.specs.Starts.{Beyond}
use Rattle.boot_turns.specs.declared.completion.Begun.{Begun}
use Rattle.boot_turns.specs.Completes.{note, ShownAs, Progress, Completed}
use Rattle.boot_turns.specs.Torn.{Torn}
use Rattle.boot_turns.specs.Premises.{StartsFrom}
use Rattle.boot_turns.specs.TurnEnds.{Stood, TurnIsOver}
use Rattle.boot_turns.specs.Ahead.{TurnAhead}
use Rattle.boot_turns.specs.GoesOn.{GoesOnWithin}

-- the CVM run is defined for as many turns as are complete at any step
abbrev pub RunIsDefined : Environment → System → State → Type 0
RunIsDefined x y s = (t : ℕ) → (c : Cvm) × IsCvm y (lines_of_turn x s) (complete x s t) c

-- two faults: from the completion of a turn to the step that begins the next, at most two page faults are handled
abbrev pub TwoFaults : Environment → State → Type 0
TwoFaults x s = (k a b : ℕ) → complete x s a ≡ k → complete x s b ≡ k → a ≤ b →
    ((j : ℕ) → a ≤ j → j < b → begins_turn x (run x s j) ≡ false) → faults_before x s b ≤ faults_before x s a + 2

-- where the machine came through a turn, that is turn k
abbrev pub TurnFound : Environment → System → State → Type 0
TurnFound x y s = (k t u : ℕ) (c : Cvm) (b : Begun) → Stood x y s k t c → c.status ≡ Running → (d : Completed x s t u b) →
    (a : TurnAhead x y s k t c) × (a.start ≡ d.opened.start) × (a.end ≡ u)

-- where it hasn't yet by step n, turn k isn't complete up to there, and the machine is on
abbrev pub TurnGoesOn : Environment → System → State → Type 0
TurnGoesOn x y s = (k t n : ℕ) (c : Cvm) (b : Option Begun) → t ≤ n → Stood x y s k t c → c.status ≡ Running → Progress x s t n b →
    ((j : ℕ) → t ≤ j → j ≤ n → complete x s j ≡ k) × ((j : ℕ) → j ≤ n → (run x s j).off ≡ None)

-- what the machine shows after the first step of turn k is what that turn begins with
abbrev pub TurnShows : Environment → System → State → Type 0
TurnShows x y s = (k t : ℕ) (c : Cvm) → Stood x y s k t c → c.status ≡ Running → (a : TurnAhead x y s k t c) →
    ShownAs (begin k c.core (bit_or c.pending (lines_of_turn x s k))) (note (run x s (suc a.start)))

-- a dispatch adds its row, and the status and the current user are by who is next
pub record RowAdded (k cause edata user : ℕ) (c after : Cvm) : Type 0 where
  pub next : Next
  pub current : (u : ℕ) → next ≡ User u → after.core.current ≡ u
  pub rows : after.rows ≡ c.rows ++ (record { turn = k; cause = cause; edata = edata; user = user; next = next }) ∷ []
  pub status : after.status ≡ status_of next

-- by what the turn begins with; a user's step adds none
abbrev pub RowsGrow : ℕ → Cvm → Cvm → Begin → Type 0
RowsGrow k c after (Steps at) = after.rows ≡ c.rows
RowsGrow k c after (Traps cause edata at) = RowAdded k cause edata at.current c after
RowsGrow k c after (Interrupts cause edata at pending) = RowAdded k cause edata at.current c after

-- the rows of turn k
abbrev pub TurnRows : Environment → System → State → Type 0
TurnRows x y s = (k : ℕ) (c after : Cvm) → IsCvm y (lines_of_turn x s) k c → c.status ≡ Running → IsCvm y (lines_of_turn x s) (suc k) after →
    RowsGrow k c after (begin k c.core (bit_or c.pending (lines_of_turn x s k)))

-- an untrapped step of turn k keeps the current user
abbrev pub UserStays : Environment → System → State → Type 0
UserStays x y s = (k : ℕ) (c after : Cvm) (at : Core) → IsCvm y (lines_of_turn x s) k c → c.status ≡ Running → IsCvm y (lines_of_turn x s) (suc k) after →
    begin k c.core (bit_or c.pending (lines_of_turn x s k)) ≡ Steps at → after.core.current ≡ c.core.current

-- where so many turns are complete or the machine is off for the first time, the run is over, and it rests as the CVM run says
abbrev pub RunsComeToRest : Environment → System → State → Type 0
RunsComeToRest x y s = (turns steps : ℕ) (c : Cvm) → IsCvm y (lines_of_turn x s) (complete x s (end_within x s turns steps)) c →
    is_end x s turns (end_within x s turns steps) ≡ true → TurnIsOver x y s turns (end_within x s turns steps) c

-- a run from a start from which the layer takes over after `late` steps, with the sectors below `held`
pub record RunMachines (x : Environment) (y : System) (s : State) (late held : ℕ) : Type 0 where
  pub goes_on : GoesOnWithin x y s (late - 1)
  pub defined : RunIsDefined x y s
  pub two_faults : TwoFaults x s
  pub ahead : (k t : ℕ) (c d : Cvm) → Stood x y s k t c → c.status ≡ Running → IsCvm y (lines_of_turn x s) (suc k) d → TurnAhead x y s k t c
  pub found : TurnFound x y s
  pub unfound : TurnGoesOn x y s
  pub shows : TurnShows x y s
  pub rows : TurnRows x y s
  pub stays : UserStays x y s
  -- the sectors from `held` on stay, also where the transfer of a step's command fails
  pub beyond : (t : ℕ) → Beyond held s.device.sectors (run x s t).device.sectors
  pub torn : (t : ℕ) (now : List (List ℕ)) → (run x s t).off ≡ None → Torn x (run x s t) now → Beyond held s.device.sectors now
  pub few : (t : ℕ) → complete x s t ≤ t
  pub ends : RunsComeToRest x y s
  pub same : (k : ℕ) (c d : Cvm) → IsCvm y (lines_of_turn x s) k c → IsCvm y (lines_of_turn x s) k d → c ≡ d

-- THE RUN FROM A START
abbrev pub MachinesRun : (C0State → Type 0) → Type 0
MachinesRun Typed = (x : Environment) (y : System) (s : State) (late held : ℕ) → StartsFrom Typed x y s late held → RunMachines x y s late held

-- and the kernel's data is typed after every number of turns
abbrev pub RunsStayTyped : (C0State → Type 0) → Type 0
RunsStayTyped Typed = (x : Environment) (y : System) (s : State) (late held : ℕ) → StartsFrom Typed x y s late held →
    (k : ℕ) (c : Cvm) → IsCvm y (lines_of_turn x s) k c → Typed c.core.c0
