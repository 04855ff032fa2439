-- What is kept of a trace while the machine steps.
use Rattle.std.specs.Prelude.{◌≡◌, ℕ, suc, ◌+◌, ◌*◌, ◌≤◌, ◌==◌, Bool, false, if◌then◌else◌}
use Rattle.std.specs.Prelude.{⊤, Option, Some, None, List, length, slice_index, Result, Ok, Err}
use Rattle.mips_table.specs.Device.{Environment}
use Rattle.mips_table.specs.Machine.{State, run}
use Rattle.mips_table.specs.Turns.{rests}
use Rattle.mips_machine.specs.Machine.{Held, state_of}
use Rattle.mips_machine.specs.Steps.{outside_of}
use Rattle.layer_map.specs.Map.{Map, memory_words}
use Rattle.layer_contract.specs.declared.registers.TheConstants.{ANSWER}
use Rattle.c0_tree.specs.Tree.{CUnit}
use Rattle.c0_meaning.specs.TypedState.{IsTypedState}
use Rattle.cvm_model.specs.Kernel.{JournalEntry}
use Rattle.cvm_model.specs.Cvm.{System}
use Rattle.layer_contract.specs.Follows.{site_of}
use Rattle.boot_report.specs.Told.{WordsAreTold}
use Rattle.boot_turns.specs.declared.completion.Begun.{Begun}
use Rattle.boot_turns.specs.declared.tracer.Entered.{Entered}
use Rattle.boot_turns.specs.declared.tracer.Tracer.{Tracer}
use Rattle.boot_turns.specs.declared.answers.RunFault.{RunFault}
use Rattle.boot_turns.specs.declared.answers.RunFault.TheVariants.{StepLimit, Disk, Sink}
use Rattle.boot_turns.specs.Completes.{state_seen, note}
use Rattle.boot_turns.specs.Entries.{turn_begins, call_ends, return_entries, IsPlaced}
use Rattle.boot_turns.specs.Returns.{noted_call, notes_on, returned}
use Rattle.boot_turns.specs.JournalText.{steps_after, pending_steps}
use Rattle.boot_turns.specs.Premises.{StartsFrom}
use Rattle.boot_turns.specs.Trace.{Shown}

-- a trace can be printed from a machine with so many words of memory, after so many steps, over a disk of so many sectors
pub record CanTrace (m : Map) (words time count : ℕ) (kept : Tracer) : Type 0 where
  pub some : 1 ≤ kept.user
  pub user : kept.user ≤ m.users
  pub few : kept.steps ≤ time
  pub pages : m.params.pages ≤ 65536
  pub memory : memory_words m ≤ words
  pub small : memory_words m ≤ 30000000
  pub all : m.users * m.params.pages ≤ 65536
  pub room : m.users * m.params.pages ≤ count

-- the entries of the traced user after a step that led to s: it began a turn under this current user, or a primitive returned
abbrev pub followed : State → Tracer → (current : ℕ) → (began : Bool) → (words : List ℕ) → List JournalEntry
followed s kept current began words =
    if began then turn_begins kept.user current (note s) else return_entries kept.user s words (returned s kept.call)

-- where a primitive has returned, the pages tell the user's words, and what was copied to it lies there
abbrev pub ReturnTold : Map → State → (u : ℕ) → List ℕ → Option Entered → Type 0
ReturnTold m s u words None = Unit {0}
ReturnTold m s u words (Some e) = WordsAreTold m s u words × IsPlaced u e (slice_index s.cpu.regs ANSWER) words

-- of every state in which a machine stands, with words of the traced user that it tells where a primitive has returned
abbrev pub WhereTold : Option (List (List ℕ)) → Held → Map → Tracer → (State → List ℕ → Type 0) → Type 0
WhereTold told held m kept P = (ss : List (List ℕ)) (words : List ℕ) → told ≡ Some ss →
    ReturnTold m (state_of held ss) kept.user words (returned (state_of held ss) kept.call) → P (state_of held ss) words

-- what is kept then
abbrev pub kept_after : State → Tracer → (current : ℕ) → (began : Bool) → (words : List ℕ) → Tracer
kept_after s kept current began words =
    record { user = kept.user; steps = steps_after kept.steps (followed s kept current began words); call = notes_on s kept.call }

-- an untrapped step under this current user is counted, and has no rows
abbrev pub counted_step : (current : ℕ) → Tracer → Tracer
counted_step current kept = record kept { steps = if current == kept.user then kept.steps + 1 else kept.steps }

-- of every words of the traced user that the pages tell, where those that a primitive with this answer copied to it lie
abbrev pub WhereCopied : Option (List (List ℕ)) → Held → Map → Tracer → Entered → (answer : ℕ) → (List ℕ → Type 0) → Type 0
WhereCopied told held m kept e answer P = (ss : List (List ℕ)) (words : List ℕ) → told ≡ Some ss → WordsAreTold m (state_of held ss) kept.user words →
    IsPlaced kept.user e answer words → P words

-- what is kept once it has given this answer
abbrev pub ended_kept : Tracer → Entered → (answer : ℕ) → (words : List ℕ) → Tracer
ended_kept kept e answer words = record kept { steps = steps_after kept.steps (call_ends kept.user e answer words) }

-- what is kept at step t, where j is shown
abbrev pub tracer_at : Environment → State → (u t : ℕ) → List JournalEntry → Tracer
tracer_at x s u t j = record { user = u; steps = pending_steps j; call = noted_call x s t }

-- AT STEP t: what is kept is by what is shown
pub record Traced (x : Environment) (y : System) (s : State) (u t : ℕ) (kept : Option Tracer) : Type 0 where
  pub journal : List JournalEntry
  pub shown : Shown x s y u t journal
  pub keeps : kept ≡ Some (tracer_at x s u t journal)

-- steps were made from step t on, each taken from the budget
pub record TracedOn (x : Environment) (y : System) (s : State) (u t : ℕ) (before after : ℕ) (kept : Option Tracer) : Type 0 where
  pub at : ℕ
  pub from : t ≤ at
  pub spent : after + at ≡ before + t
  pub traced : Traced x y s u at kept

-- what is kept of a trace, and the budget, before and after
pub record Tracing : Type 0 where
  pub tracer : Option Tracer
  pub budget : ℕ

abbrev pub tracing : Option Tracer → ℕ → Tracing
tracing tracer budget = record { tracer = tracer; budget = budget }

-- or they were broken off in a step that completes no turn
abbrev pub CutAt : Environment → State → (t : ℕ) → (before after : ℕ) → Type 0
CutAt x s t before after = (at : ℕ) × (after + suc at ≡ before + t) × (rests (run x s (suc at)) ≡ false)

-- P where turns were made, or the budget was spent; Q where the sink failed
abbrev pub UnlessFailed : {T : Type 0} → Result T RunFault → (P Q : Type 0) → Type 0
UnlessFailed (Ok v) P Q = P
UnlessFailed (Err StepLimit) P Q = P
UnlessFailed (Err Disk) P Q = ⊤
UnlessFailed (Err Sink) P Q = Q

-- THE TRACE OF A LOOP that steps a machine, over a disk of so many sectors: for every run from a start that stands there, of
-- one of its users
abbrev pub TraceRuns : (count : ℕ) → Map → Held → (told : Option (List (List ℕ))) → (before after : Tracing) → Result (ℕ × Begun) RunFault → Type 0
TraceRuns count m held told before after result =
    (c : CUnit) (y : System) (s : State) (late limit u t : ℕ) →
    StartsFrom (IsTypedState c) (outside_of held.rows count) y s late limit → m ≡ (site_of y.boot).map → 1 ≤ u → u ≤ length y.boot.users →
    state_seen told held ≡ Some (run (outside_of held.rows count) s t) → Traced (outside_of held.rows count) y s u t before.tracer →
    UnlessFailed result (TracedOn (outside_of held.rows count) y s u t before.budget after.budget after.tracer)
    (CutAt (outside_of held.rows count) s t before.budget after.budget)
