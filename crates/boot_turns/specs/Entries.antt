-- The entries that a step of the machine adds to what is shown of a user, by what the machine shows.
use Rattle.std.specs.Prelude.{◌≡◌, ◌≢◌, ℕ, suc, ◌+◌, ◌/◌, ◌≤◌, ◌&&◌, ◌==◌, nat_lt, if◌then◌else◌, List, [], ◌∷◌, ◌++◌, length, take, drop}
use Rattle.std.specs.Prelude.{slice_index, Bool, true, false, Option, Some, None, IsSome}
use Rattle.mips_table.specs.Device.{Environment}
use Rattle.mips_table.specs.Machine.{State, run}
use Rattle.mips_table.specs.Turns.{begins_turn, rests}
use Rattle.layer_map.specs.Map.{current_at}
use Rattle.c0_meaning.specs.State.{C0State}
use Rattle.cvm_model.specs.Kernel.{Core, JournalEntry, Stepped, Trapped, Set, Size, Put}
use Rattle.cvm_model.specs.Primitives.{user_of, put_entries}
use Rattle.cvm_model.specs.Cvm.{System, Running}
use Rattle.cvm_model.specs.Stands.{RunningRelation}
use Rattle.layer_contract.specs.declared.registers.TheConstants.{ANSWER}
use Rattle.layer_contract.specs.Follows.{site_of}
use Rattle.boot_turns.specs.declared.completion.Begun.{Begun}
use Rattle.boot_turns.specs.declared.primitives.TheConstants.{VM_SET, VM_RESIZE, VM_PUT, VM_COPY}
use Rattle.boot_turns.specs.declared.tracer.Entered.{Entered}
use Rattle.boot_turns.specs.Completes.{note}
use Rattle.boot_turns.specs.Premises.{StartsFrom}
use Rattle.boot_turns.specs.Trace.{Shown}
use Rattle.boot_turns.specs.Returns.{noted_call, returned}

-- the entries of user u where a turn begins with this current user, by what is shown after its first step: a trap, or an untrapped step
abbrev pub turn_begins : (u current : ℕ) → Begun → List JournalEntry
turn_begins u current b = if current == u then (if b.dispatched then (if nat_lt 1 b.cause then Trapped b.cause b.edata ∷ [] else []) else Stepped ∷ []) else []

-- the entries of user u of a primitive that has given this answer; `words` are that user's then
abbrev pub call_ends : ℕ → Entered → (answer : ℕ) → (words : List ℕ) → List JournalEntry
call_ends u e answer words =
    let a : ℕ → ℕ = slice_index e.arguments in
    if answer == 1 then (
    if e.primitive == VM_SET && a 0 == u then Set (a 1) (a 2) ∷ [] else
    if e.primitive == VM_RESIZE && a 0 == u then Size (a 1) ∷ [] else
    if e.primitive == VM_PUT && a 0 == u then Put (a 1) (a 2) ∷ [] else
    if e.primitive == VM_COPY && a 2 == u then put_entries (a 3) (take (a 4) (drop (a 3 / 4) words)) else []
    ) else []

-- it is not the primitive that copies words
abbrev pub IsNoCopy : Entered → Type 0
IsNoCopy e = e.primitive ≢ VM_COPY

abbrev pub return_entries : ℕ → State → List ℕ → Option Entered → List JournalEntry
return_entries u s words None = []
return_entries u s words (Some e) = call_ends u e (slice_index s.cpu.regs ANSWER) words

-- the entries of user u that step number t adds; `words` are that user's after it
abbrev pub step_entries : Environment → State → (u t : ℕ) → List ℕ → List JournalEntry
step_entries x s u t words =
    if begins_turn x (run x s t) then turn_begins u (slice_index (run x s t).memory current_at) (note (run x s (suc t)))
    else return_entries u (run x s (suc t)) words (returned (run x s (suc t)) (noted_call x s t))

-- the words that a primitive copied to user u lie in its memory
abbrev pub IsPlaced : ℕ → Entered → (answer : ℕ) → (words : List ℕ) → Type 0
IsPlaced u e answer words = answer ≡ 1 → e.primitive ≡ VM_COPY → slice_index e.arguments 2 ≡ u →
    slice_index e.arguments 3 / 4 + slice_index e.arguments 4 ≤ length words

-- where a primitive returns, the machine stands for a state with these words of user u, and what was copied to it lies there
abbrev pub WordsAt : Environment → System → (u : ℕ) → State → List ℕ → Option Entered → Type 0
WordsAt x y u s words None = Unit {0}
WordsAt x y u s words (Some e) = (core : Core) × RunningRelation x (site_of y.boot) s Running core × (words ≡ (user_of core.users u).words)
    × IsPlaced u e (slice_index s.cpu.regs ANSWER) words

-- a step that led to s has rows: it began a turn with a dispatch, or a primitive returned
abbrev pub HasRows : State → (noted : Option Entered) → (began : Bool) → Type 0
HasRows s noted true = (note s).dispatched ≡ true
HasRows s noted false = IsSome (returned s noted)

-- what is shown after step number t, where j was shown before it
pub record ShowsMore (x : Environment) (y : System) (s : State) (u t : ℕ) (j : List JournalEntry) : Type 0 where
  pub words : List ℕ
  pub there : WordsAt x y u (run x s (suc t)) words (returned (run x s (suc t)) (noted_call x s t))
  pub shown : Shown x s y u (suc t) (j ++ step_entries x s u t words)

-- A TRACE GROWS: one journal at most is shown at a step; none before the first step; and each step of a machine that is on adds its entries
pub record TraceGrows (x : Environment) (y : System) (s : State) (u : ℕ) : Type 0 where
  pub one : (t : ℕ) (i j : List JournalEntry) → Shown x s y u t i → Shown x s y u t j → i ≡ j
  pub none : Shown x s y u 0 []
  pub more : (t : ℕ) (j : List JournalEntry) → (run x s t).off ≡ None → Shown x s y u t j → ShowsMore x y s u t j
  -- and a step that has rows completes no turn
  pub busy : (t : ℕ) → (run x s t).off ≡ None → HasRows (run x s (suc t)) (noted_call x s t) (begins_turn x (run x s t)) → rests (run x s (suc t)) ≡ false

-- from each start, of each user
abbrev pub TracesGrow : (C0State → Type 0) → Type 0
TracesGrow Typed = (x : Environment) (y : System) (s : State) (late held u : ℕ) → StartsFrom Typed x y s late held →
    1 ≤ u → u ≤ length y.boot.users → TraceGrows x y s u
