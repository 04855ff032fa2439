-- What every call says that steps a machine, beside what the step or the turn comes to.
use Rattle.std.specs.Prelude.{◌≡◌, ℕ, ◌+◌, ◌<◌, ◌≤◌, ◌^◌, Bool, true, false, Option, None, IfSome, length}
use Rattle.std.specs.Option.{option_map}
use Rattle.mips_table.specs.Fits.{NamesSector}
use Rattle.layer_map.specs.Map.{Map}
use Rattle.mips_machine.specs.Machine.{Held}
use Rattle.boot_turns.specs.declared.tracer.Tracer.{Tracer}
use Rattle.boot_turns.specs.Tracing.{CanTrace, counted_step}

-- what a machine has to be for so many steps over a disk of so many sectors, with what is kept of a trace: its steps stay countable in 64 bits, its command
-- names a sector of the disk, its memory has the word that says the current user, and where a user is traced the trace can be printed
pub record CanStep (m : Map) (held : Held) (kept : Option Tracer) (count steps : ℕ) : Type 0 where
  pub time : held.time + steps < 2 ^ 64
  pub sector : NamesSector count held.hardware.ports.pending
  pub room : 1024 < length held.hardware.memory
  pub trace : IfSome kept (CanTrace m (length held.hardware.memory) held.time count)

-- what steps keep: the schedule, how many words the memory has, that the machine's command names a sector of the disk, and how large that is
pub record Stays {D : Type 0} (old new : Held) (large : D → ℕ) (disk redisk : D) : Type 0 where
  pub rows : new.rows ≡ old.rows
  pub memory : length new.hardware.memory ≡ length old.hardware.memory
  pub sector : NamesSector (large redisk) new.hardware.ports.pending
  pub size : large redisk ≡ large disk

-- what they keep of a trace: its user, and that it can be printed; where no user is traced nothing is printed
pub record TraceStays {O : Type 0} (m : Map) (held : Held) (count : ℕ) (old new : Option Tracer) (out reout : O) : Type 0 where
  pub untraced : old ≡ None → (new ≡ None) × (reout ≡ out)
  pub can : IfSome new (CanTrace m (length held.hardware.memory) held.time count)
  pub user : option_map (λ (k : Tracer). k.user) new ≡ option_map (λ (k : Tracer). k.user) old

-- what steps leave beside what they come to, with a fault and without: what stays of the machine and of the trace; by the size of a disk, and the objects
-- before and after
pub record SteppingLeaves {D O : Type 0} (m : Map) (old new : Held) (kept rekept : Option Tracer) (large : D → ℕ) (disk redisk : D) (out reout : O) :
    Type 0 where
  pub stays : Stays old new large disk redisk
  pub trace : TraceStays m new (large redisk) kept rekept out reout

-- what a machine has to be that has made a step, and what is kept of a trace from before that step, for the step's rows to be printed
pub record CanFollow (m : Map) (held : Held) (kept : Tracer) (count : ℕ) : Type 0 where
  pub trace : CanTrace m (length held.hardware.memory) held.time count kept
  pub few : kept.steps < held.time
  pub room : 1024 < length held.hardware.memory

-- what may be counted of a step under this current user that kept user mode: where the answer is `true` no primitive is under way, so it has no rows, and it
-- is counted; else nothing is, and the rows are still to be seen to. Where no user is traced there is nothing to count
pub record CountsStep (current : ℕ) (old new : Option Tracer) (answer : Bool) : Type 0 where
  pub free : answer ≡ true → IfSome old (λ kept. kept.call ≡ None)
  pub counted : answer ≡ true → new ≡ option_map (counted_step current) old
  pub same : answer ≡ false → new ≡ old

-- what rows keep of a trace: its user, and it has no more steps without a row than before
pub record KeepsTracer (old new : Tracer) : Type 0 where
  pub user : new.user ≡ old.user
  pub few : new.steps ≤ old.steps
