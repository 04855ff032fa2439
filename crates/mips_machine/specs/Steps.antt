-- What a step of a machine does over a disk, by the one definition of a step.
use Rattle.std.specs.Prelude.{◌≡◌, ℕ, List, [], length, Option, Some, None, IfSome}
use Rattle.std.specs.Option.{option_map}
use Rattle.cvm_outside.specs.Script.{Call}
use Rattle.mips_table.specs.Device.{Device, Environment}
use Rattle.mips_table.specs.Machine.{State, coming, come_to, latched, step}
use Rattle.schedule_file.specs.Rows.{Rows, lines_at, last_step, busy_of}
use Rattle.sector_disk.specs.Ports.{TransferFails, transfer_script}
use Rattle.mips_machine.specs.declared.event.Event.{Event}
use Rattle.mips_machine.specs.declared.event.Event.TheVariants.{Off}
use Rattle.mips_machine.specs.Hardware.{told_as}
use Rattle.mips_machine.specs.Machine.{Held, state_of}

-- the outside that these rows give to a disk of so many sectors
abbrev pub outside_of : Rows → ℕ → Environment
outside_of rows count = record { lines = lines_at rows; last = last_step rows; busy = busy_of rows; count = count }

-- what a step is told as, by the power word that the machine had before it
abbrev pub event_if : Environment → State → Option ℕ → Event
event_if x s (Some word) = Off word
event_if x s None = told_as (coming x (latched x s))

-- what the step of a state is told as: it finds the machine off, takes an interrupt, switches the machine off, or is none of these
unfoldable pub event_of : Environment → State → Event
event_of x s = event_if x s s.off

-- the device before it counts at the end of the step of a machine that is on
unfoldable pub before_count : Environment → State → Device
before_count x s = (come_to (coming x (latched x s))).device

-- the calls of a step, by the power word that the machine had before it: the transfer that is due at the step's end; a machine that is off makes none
abbrev pub due_if : Environment → State → Option ℕ → List Call
due_if x s (Some word) = []
due_if x s None = transfer_script (before_count x s).pending (before_count x s).buffer

-- THE SCRIPT OF A STEP of a state
unfoldable pub script_of_step : Environment → State → List Call
script_of_step x s = due_if x s s.off

-- the script of the next step of a machine with these sectors
abbrev pub held_script : ℕ → Held → List (List ℕ) → List Call
held_script count old sectors = script_of_step (outside_of old.rows count) (state_of old sectors)

-- the state after the step of a machine with these sectors
abbrev pub after_step : ℕ → Held → List (List ℕ) → State
after_step count old sectors = step (outside_of old.rows count) (state_of old sectors)

-- With some sectors, as many as the disk has and those that are told where they are told, the machine made its step, and the
-- disk has the sectors that come of it.
pub record StepDone (count : ℕ) (old new : Held) (told retold : Option (List (List ℕ))) (answer : Event) : Type 0 where
  pub sectors : List (List ℕ)
  pub many : length sectors ≡ count
  pub given : IfSome told (λ ss. sectors ≡ ss)
  pub state : state_of new (after_step count old sectors).device.sectors ≡ after_step count old sectors
  pub left : retold ≡ option_map (λ _. (after_step count old sectors).device.sectors) told
  pub event : answer ≡ event_of (outside_of old.rows count) (state_of old sectors)

-- the same machine with another buffer
abbrev pub with_buffer : Held → List ℕ → Held
with_buffer held buffer = record held { hardware = record held.hardware { buffer = buffer } }

-- With any sectors, the machine made its step but for the buffer, and the transfer that was due failed.
pub record StepFailed (count : ℕ) (old new : Held) (told retold : Option (List (List ℕ))) : Type 0 where
  pub state : (sectors : List (List ℕ)) →
      let after : State = after_step count old sectors in
      state_of (with_buffer new after.device.buffer) after.device.sectors ≡ after
  pub disk : (sectors : List (List ℕ)) →
      let d : Device = before_count (outside_of old.rows count) (state_of old sectors) in
      TransferFails d.pending d.buffer new.hardware.buffer told retold
