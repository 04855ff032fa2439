-- What a loop that steps a machine to the end of a turn has done.
use Rattle.std.specs.Prelude.{◌≡◌, ◌≢◌, ◌⊎◌, ℕ, suc, ◌+◌, ◌-◌, ◌/◌, ◌<◌, ◌≤◌, ◌==◌, ◌&&◌, ◌||◌, not, nat_lt, is_some, IfSome, Option, Some, None}
use Rattle.std.specs.Prelude.{Bool, true, false, List, [], slice_index, Result, MatchResult}
use Rattle.std.specs.Option.{option_map}
use Rattle.mips_table.specs.Device.{Environment}
use Rattle.mips_table.specs.declared.cause.Cause.TheVariants.{Reset, FetchFault, DataFault}
use Rattle.mips_table.specs.declared.special.TheConstants.{MODE, ECA, EDATA}
use Rattle.mips_table.specs.Machine.{State, cause_number, step, run}
use Rattle.mips_table.specs.Turns.{begins_turn, rests}
use Rattle.mips_machine.specs.Machine.{Held, state_of}
use Rattle.mips_machine.specs.Steps.{outside_of}
use Rattle.mips_machine.specs.Quiet.{Stretch}
use Rattle.mips_machine.specs.declared.event.Event.{Event}
use Rattle.mips_machine.specs.declared.event.Event.TheVariants.{Taken, Off}
use Rattle.layer_map.specs.Map.{current_at}
use Rattle.cvm_model.specs.Cvm.{Begin, Steps, Traps, Interrupts}
use Rattle.boot_turns.specs.declared.completion.Begun.{Begun}
use Rattle.boot_turns.specs.declared.completion.Stepped.{Stepped}
use Rattle.boot_turns.specs.declared.completion.Stepped.TheVariants.{Kept, Began, On}
use Rattle.boot_turns.specs.declared.answers.RunFault.{RunFault}
use Rattle.boot_turns.specs.declared.answers.RunFault.TheVariants.{StepLimit, Disk}

-- the state of a machine with the sectors of its disk, where they are told
abbrev pub state_seen : Option (List (List ℕ)) → Held → Option State
state_seen told held = option_map (state_of held) told

-- over a disk of so many sectors the machine made one step
abbrev pub StepRan : (count : ℕ) → (old new : Held) → (told retold : Option (List (List ℕ))) → Type 0
StepRan count old new told retold = state_seen retold new ≡ option_map (step (outside_of old.rows count)) (state_seen told old)

-- a state but for the buffer and the sectors of its disk
abbrev pub but_disk : State → State
but_disk s = record s { device = record s.device { buffer = []; sectors = [] } }

-- what a fault leaves of the state behind a step: one of the disk all but that buffer and those sectors, one of the sink all of it
abbrev pub LeftBy : RunFault → Option State → State → Type 0
LeftBy Disk now s = option_map but_disk now ≡ Some (but_disk s)
LeftBy other now s = now ≡ Some s

-- over a disk of so many sectors this fault left the machine so, in a step or in its rows
abbrev pub StepLeft : (count : ℕ) → (old new : Held) → (told retold : Option (List (List ℕ))) → RunFault → Type 0
StepLeft count old new told retold fault =
    IfSome (state_seen told old) (λ s. LeftBy fault (state_seen retold new) (step (outside_of old.rows count) s))

-- the answer is whether that step begins a turn
abbrev pub StepBegan : (count : ℕ) → Held → Option (List (List ℕ)) → Bool → Type 0
StepBegan count old told answer = IfSome (state_seen told old) (λ s. answer ≡ begins_turn (outside_of old.rows count) s)

-- whether a step was the answer of a machine that was off, and whether it took an interrupt
abbrev pub was_off : Event → Bool
was_off (Off word) = true
was_off other = false

abbrev pub was_taken : Event → Bool
was_taken (Taken cause) = true
was_taken other = false

-- whether a step began a turn, by the mode and the pages before it, by what it was, and by the special registers after it: it is the reset, or a user's
-- step other than a page fault that is handled
abbrev pub begun_at : (in_user : Bool) (pages : ℕ) (off taken : Bool) (cause edata : ℕ) → Bool
begun_at in_user pages off taken cause edata =
    not off && ((taken && cause == cause_number Reset)
    || (in_user && not ((taken && (cause == cause_number FetchFault || cause == cause_number DataFault)) && nat_lt (edata / 4096) pages)))

-- whether a step was one that began a turn
abbrev pub turn_began : Stepped → Bool
turn_began Kept = true
turn_began Began = true
turn_began On = false

abbrev pub stepped_as : Bool → Stepped
stepped_as true = Began
stepped_as false = On

-- where it kept user mode, the machine is in user mode and on
abbrev pub KeptUser : Held → Stepped → Type 0
KeptUser held Kept = (slice_index held.hardware.special MODE ≡ 1) × (held.hardware.off ≡ None)
KeptUser held other = Unit {0}

-- over a disk of so many sectors the machine made one step, which was this for the turns
pub record TurnStepDone (count : ℕ) (old new : Held) (told retold : Option (List (List ℕ))) (stepped : Stepped) : Type 0 where
  pub ran : StepRan count old new told retold
  pub began : StepBegan count old told (turn_began stepped)
  pub kept : KeptUser new stepped

-- what a state shows after the step that begins a turn: the mode, the cause, what it concerns, and the current user's word
abbrev pub note : State → Begun
note s = record {
  dispatched = not (slice_index s.special MODE == 1);
  cause = slice_index s.special ECA;
  edata = slice_index s.special EDATA;
  user = slice_index s.memory current_at;
}

-- the same of a machine, whatever its disk's sectors are
abbrev pub noted_of : Held → Begun
noted_of held = note (state_of held [])

-- what is noted first stays
abbrev pub noted : Option Begun → Bool → Begun → Option Begun
noted (Some b) began now = Some b
noted None true now = Some now
noted None false now = None

-- whether a machine is in user mode or off
abbrev pub is_at_rest : Held → Bool
is_at_rest held = slice_index held.hardware.special MODE == 1 || is_some held.hardware.off

-- from step t on a turn began at `start`, before u, and the machine hasn't come to rest since
pub record Open (x : Environment) (s : State) (t u : ℕ) (b : Begun) : Type 0 where
  pub start : ℕ
  pub from : t ≤ start
  pub to : start < u
  pub none : (j : ℕ) → t ≤ j → j < start → begins_turn x (run x s j) ≡ false
  pub begin : begins_turn x (run x s start) ≡ true
  pub busy : (j : ℕ) → start < j → j < u → rests (run x s j) ≡ false
  pub shows : b ≡ note (run x s (suc start))

-- how far the next turn is at step u, from step t on: it hasn't begun, or it is open
abbrev pub Progress : Environment → State → ℕ → ℕ → Option Begun → Type 0
Progress x s t u None = (j : ℕ) → t ≤ j → j < u → begins_turn x (run x s j) ≡ false
Progress x s t u (Some b) = Open x s t u b × (rests (run x s u) ≡ false)

-- the turn is complete at u
pub record Completed (x : Environment) (s : State) (t u : ℕ) (b : Begun) : Type 0 where
  pub opened : Open x s t u b
  pub rest : rests (run x s u) ≡ true

-- or the machine is off at u, for the first time, before a turn begins; what is noted is what it shows there
pub record WentOff (x : Environment) (s : State) (t u : ℕ) (b : Begun) : Type 0 where
  pub from : t ≤ u
  pub none : (j : ℕ) → t ≤ j → j < u → begins_turn x (run x s j) ≡ false
  pub on : (j : ℕ) → t ≤ j → j < u → (run x s j).off ≡ None
  pub off : (run x s u).off ≢ None
  pub shows : b ≡ note (run x s u)

-- the turn was completed, or there is none to come, and the steps are taken from the budget
abbrev pub CompleteOk : Environment → Option State → ℕ → ℕ → State → ℕ → Begun → Type 0
CompleteOk x new before after s t b = (u : ℕ) × (Completed x s t u b ⊎ WentOff x s t u b) × (new ≡ Some (run x s u)) × (after + u ≡ before + t)

-- the machine is on, and the budget was spent; or the disk or the sink failed in step number u or in its rows, and left this of that step
abbrev pub CompleteErr : Environment → Option State → ℕ → ℕ → State → ℕ → RunFault → Type 0
CompleteErr x new before after s t StepLimit = (u : ℕ) × (t ≤ u) × (after + u ≡ before + t) × (new ≡ Some (run x s u))
    × (after ≡ 0) × ((run x s u).off ≡ None) × ((b : Option Begun) × Progress x s t u b)
CompleteErr x new before after s t other = (u : ℕ) × (t ≤ u) × (after + (u + 1) ≡ before + t) × ((b : Option Begun) × Progress x s t u b)
    × ((run x s u).off ≡ None) × LeftBy other new (run x s (suc u))

-- over any disk the machine made so many steps in which nothing comes from outside, and only the processor, the memory and the time changed
pub record PassesQuietly (old new : Held) (n : ℕ) : Type 0 where
  pub stretch : (count : ℕ) (sectors : List (List ℕ)) → Stretch (outside_of old.rows count) (state_of old sectors) n (state_of new sectors)
  pub rest : new ≡ record old { hardware = record old.hardware { cpu = new.hardware.cpu; memory = new.hardware.memory }; time = old.time + n }

-- n turns from step t on were one step each, after which the machine was on and in user mode
abbrev pub SkipsTurns : Environment → State → (t n : ℕ) → Type 0
SkipsTurns x s t n = (j : ℕ) → j < n → (begins_turn x (run x s (t + j)) ≡ true) × (slice_index (run x s (t + suc j)).special MODE ≡ 1)
    × ((run x s (t + suc j)).off ≡ None)

-- how the loop ends, after n such turns of so many at most
abbrev pub CompleteEnds : Environment → Option State → ℕ → ℕ → State → ℕ → (most : ℕ) → Result (ℕ × Begun) RunFault → Type 0
CompleteEnds x new before after s t most result = (n : ℕ) × (n < most) × (n ≤ before) × SkipsTurns x s t n ×
    MatchResult result (λ r. (r.0 ≡ n) × CompleteOk x new (before - n) after s (t + n) r.1) (CompleteErr x new (before - n) after s (t + n))

-- THE LOOP, over a disk of so many sectors: from any step of any run in which the machine stands
abbrev pub Completes : (count : ℕ) → (old new : Held) → (told retold : Option (List (List ℕ))) → (before after most : ℕ) →
    Result (ℕ × Begun) RunFault → Type 0
Completes count old new told retold before after most result = (s : State) (t : ℕ) → state_seen told old ≡ Some (run (outside_of old.rows count) s t) →
    CompleteEnds (outside_of old.rows count) (state_seen retold new) before after s t most result

-- what the machine shows once a turn has begun: a user's step, or the cause of its dispatch and what that concerns
abbrev pub ShownAs : Begin → Begun → Type 0
ShownAs (Steps after) b = b.dispatched ≡ false
ShownAs (Traps cause edata at) b = (b.dispatched ≡ true) × (b.cause ≡ cause) × (b.edata ≡ edata)
ShownAs (Interrupts cause edata at pending) b = (b.dispatched ≡ true) × (b.cause ≡ cause) × (b.edata ≡ edata)
