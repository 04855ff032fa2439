-- What the calls of a loaded run come to on any run of the machine, whatever state that begins from: a run that is resumed from what no save left, file
-- and disk, is one.
use Rattle.std.specs.Prelude.{◌≡◌, ℕ, ◌+◌, Bool, true, false, Some, None, Result, MatchResult}
use Rattle.mips_table.specs.Device.{Environment}
use Rattle.mips_table.specs.Machine.{State, run}
use Rattle.mips_machine.specs.Steps.{outside_of}
use Rattle.boot_turns.specs.AnyTurns.{BrokeOff}
use Rattle.boot_turns.specs.Sooner.{ComesTo}
use Rattle.boot_turns.specs.declared.answers.Turn.{Turn}
use Rattle.boot_turns.specs.declared.answers.RunFault.{RunFault}
use Rattle.boot_run.specs.declared.whole.RunEnd.{RunEnd}
use Rattle.boot_run.specs.declared.whole.RunEnd.TheVariants.{KernelFaulted}
use Rattle.boot_run.specs.LoadEnds.{Kept}
use Rattle.boot_run.specs.TurnCalls.{Around}
use Rattle.boot_run.specs.AnyEnds.{ended_off}

-- from step t on the machine came to the end of turns, k in all
pub record CameTo (x : Environment) (s : State) (k t : ℕ) (before after : Around) : Type 0 where
  pub at : ℕ
  pub comes : ComesTo x s k at
  pub state : after.state ≡ Some (run x s at)
  pub spent : after.budget + at ≡ before.budget + t
  pub ended : after.ended ≡ ended_off (run x s at).off

-- or it was broken off before k turns were complete
abbrev pub WasCut : Environment → State → (k t : ℕ) → (before after : Around) → RunFault → Type 0
WasCut x s k t before after fault = BrokeOff x s k t after.state before.budget after.budget fault

-- P of each step t of each run from any s, of the machine of a run over a disk of so many sectors: k turns are complete there, and it is on
abbrev pub FromAnywhere : {L : Type 0} → (count : ℕ) → Kept L → Around → (Environment → State → (k t : ℕ) → Type 0) → Type 0
FromAnywhere count r before P = (s : State) (k t : ℕ) → ComesTo (outside_of r.machine.rows count) s k t →
    (run (outside_of r.machine.rows count) s t).off ≡ None →
    before.state ≡ Some (run (outside_of r.machine.rows count) s t) → before.ended ≡ None → P (outside_of r.machine.rows count) s k t

-- TURNS, so many at most
abbrev pub AnyTurnsRun : {L : Type 0} → (count : ℕ) → Kept L → (most : ℕ) → (before after : Around) → Result (ℕ × Turn) RunFault → Type 0
AnyTurnsRun count r most before after result = FromAnywhere count r before
    (λ x s k t. MatchResult result (λ made. CameTo x s (k + made.0) t before after) (WasCut x s (k + most) t before after))

-- TURNS until so many are complete or the machine is off
abbrev pub AnyGoRuns : {L : Type 0} → (count : ℕ) → Kept L → (turns : ℕ) → (before after : Around) → Result (Unit {0}) RunFault → Type 0
AnyGoRuns count r turns before after result = FromAnywhere count r before
    (λ x s k t. MatchResult result (λ _. CameTo x s (k + turns) t before after) (WasCut x s (k + turns) t before after))

-- whether a run ended by a fault of the kernel
abbrev pub is_faulted : RunEnd → Bool
is_faulted KernelFaulted = true
is_faulted other = false
