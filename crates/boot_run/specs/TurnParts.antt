-- The parts of a call of `turns`: what is printed before the machine goes on, the turn itself, and what is printed after it.
use Rattle.std.specs.Prelude.{◌≡◌, ◌≢◌, ℕ, zero, suc, ◌+◌, ◌-◌, ◌≤◌, ◌^◌, min, All, if◌then◌else◌, Option, Some, None, List, [], ◌++◌, length, map, slice_index}
use Rattle.std.specs.Prelude.{Result, Ok, Err, MatchResult}
use Rattle.mips_table.specs.Flat.{Flat}
use Rattle.mips_machine.specs.Machine.{Held}
use Rattle.layer_map.specs.Map.{current_at}
use Rattle.cvm_model.specs.Primitives.{user_of}
use Rattle.cvm_model.specs.Cvm.{first_flat, map_of}
use Rattle.cvm_model.specs.declared.row.Next.{Next}
use Rattle.cvm_model.specs.declared.row.Next.TheVariants.{Fault}
use Rattle.cvm_model.specs.Text.{steps_row, rows_text, start_row}
use Rattle.boot_report.specs.Texts.{fault_row}
use Rattle.layer_contract.specs.declared.boot.Boot.{Boot as Booted}
use Rattle.layer_contract.specs.Boots.{boot_of}
use Rattle.boot_turns.specs.declared.completion.Begun.{Begun}
use Rattle.boot_turns.specs.declared.tracer.Tracer.{Tracer}
use Rattle.boot_turns.specs.declared.answers.Turn.{Turn}
use Rattle.boot_turns.specs.declared.answers.Turn.TheVariants.{Step, Dispatch}
use Rattle.boot_turns.specs.declared.answers.RunFault.{RunFault}
use Rattle.boot_turns.specs.declared.answers.RunFault.TheVariants.{Sink}
use Rattle.boot_turns.specs.Advances.{Advances}
use Rattle.boot_turns.specs.AnyTurns.{AnyTurns}
use Rattle.boot_turns.specs.Tracing.{TraceRuns}
use Rattle.boot_run.specs.LoadEnds.{Kept, viewed}
use Rattle.boot_run.specs.RunEnds.{SeesUser}
use Rattle.boot_run.specs.Shown.{next_shown, end_of_next}
use Rattle.boot_run.specs.TurnCalls.{rows_of_turn}

-- what is viewed is what a tracer is kept for: a boot, or one of the users
pub record Views {L : Type 0} (r : Kept L) : Type 0 where
  pub view : r.view ≡ viewed r.tracer
  pub user : SeesUser r.view (length r.boot.users.items)

-- user u's machine at the start
abbrev pub first_machine : Booted → ℕ → Flat
first_machine b u = user_of (map first_flat (boot_of b).users) u

-- this is one of the users, whose words fit their memories
pub record HasUser (b : Booted) (user : ℕ) : Type 0 where
  pub some : 1 ≤ user
  pub there : user ≤ length b.users.items
  pub fits : All (λ words. length words ≤ 1048576) (boot_of b).users

-- what is printed after so many turns, before the next: before the first turn of a trace the start row
abbrev pub rows_before : Booted → Option Tracer → ℕ → List ℕ
rows_before b None turns = []
rows_before b (Some kept) zero = start_row kept.user (first_machine b kept.user)
rows_before b (Some kept) (suc turns) = []

-- the last rows of a trace whose kernel faulted, after n steps that have no row yet
abbrev pub fault_rows : ℕ → Option Next → List ℕ
fault_rows n (Some (Fault f)) = steps_row n ++ fault_row f
fault_rows n other = []

-- what is printed after a turn: of a boot the row of its dispatch, of a trace the kernel's fault
abbrev pub rows_after : Option Tracer → Option Next → Turn → List ℕ
rows_after None ended answer = rows_text (rows_of_turn answer)
rows_after (Some kept) ended answer = fault_rows kept.steps ended

-- who is next, as a machine shows it
abbrev pub next_of_held : Held → Next
next_of_held held = next_shown held.hardware.off (slice_index held.hardware.memory current_at)

-- turns are counted up to the end of the counter's type
abbrev pub count_on : ℕ → ℕ → ℕ
count_on turns n = min (turns + n) (2 ^ 64 - 1)

-- what turn k was, by what was noted of its begin, the user and who is next
abbrev pub turn_answer : ℕ → (user : ℕ) → Begun → Next → Turn
turn_answer k user b next = if b.dispatched then Dispatch (record { turn = k; cause = b.cause; edata = b.edata; user = user; next = next }) else Step user

-- a turn is counted that came after so many untrapped steps, began so, and answered
pub record TurnCounted {L : Type 0} (old new : Kept L) (skipped : ℕ) (b : Begun) (answer : Turn) : Type 0 where
  pub turns : new.turns ≡ count_on (count_on old.turns skipped) 1
  pub current : new.current ≡ slice_index new.machine.hardware.memory current_at
  pub ended : new.ended ≡ end_of_next (next_of_held new.machine)
  pub is : answer ≡ turn_answer (count_on old.turns skipped) old.current b (next_of_held new.machine)

-- what the machine did, and what is kept of a trace, over a disk of so many sectors, with these budgets; a boot prints nothing yet
pub record Moved {L : Type 0} (count : ℕ) (old new : Kept L) (most : ℕ) (told retold : Option (List (List ℕ))) (budget left : ℕ)
    (result : Result (ℕ × Begun) RunFault) : Type 0 where
  pub advances : Advances count old.machine new.machine told retold budget left most result
  pub anyhow : AnyTurns count old.machine new.machine told retold budget left most result
  pub traces : TraceRuns count (map_of (boot_of old.boot)) old.machine told
      (record { tracer = old.tracer; budget = budget }) (record { tracer = new.tracer; budget = left }) result
  pub silent : old.tracer ≡ None → result ≢ Err Sink

-- THE TURNS: the last is complete and all are counted, or it was broken off
abbrev pub MakesTurn : {L : Type 0} → (count : ℕ) → (old new : Kept L) → (most : ℕ) → (told retold : Option (List (List ℕ))) → (budget left : ℕ) →
    Result (ℕ × Turn) RunFault → Type 0
MakesTurn count old new most told retold budget left result = MatchResult result
    (λ r. (n : ℕ) × (b : Begun) × (r.0 ≡ n + 1) × Moved count old new most told retold budget left (Ok (n, b)) × TurnCounted old new n b r.1)
    (λ fault. Moved count old new most told retold budget left (Err fault) × (new.ended ≡ old.ended))
