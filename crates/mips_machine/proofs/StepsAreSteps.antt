-- A whole step: the lines are latched, then comes an interrupt or an instruction, then the disk counts; and how the code's
-- parts make it.
use Rattle.std.proofs.Common.{◌≡◌, ℕ, zero, suc, ◌+◌, Option, Some, None, IfSome, List, [], length, replicate, refl, sym, ap, ◌∙◌, subst}
use Rattle.std.specs.Int.RustNames.{bit_or}
use Rattle.std.specs.Option.{option_map}
use Rattle.std.proofs.lemmas.List.{length-replicate}
use Rattle.mips_table.specs.Device.{Device, Pending, Idle, Reading, Writing, Environment, settled, disk_counted}
use Rattle.mips_table.specs.Machine.{State, come_to, latched, step_ended, if_on, step}
use Rattle.schedule_file.specs.Rows.{Rows, lines_at}
use Rattle.sector_disk.specs.Ports.{device_of, ports_of, EndsStep, TransferFails, transfer_script}
use Rattle.mips_machine.specs.declared.event.Event.{Event}
use Rattle.mips_machine.specs.declared.event.Event.TheVariants.{Off}
use Rattle.mips_machine.specs.Hardware.{Hardware, state_in, chosen, told_as, IsOfComing}
use Rattle.mips_machine.specs.Machine.{Held, state_of}
use Rattle.mips_machine.specs.Steps.{outside_of, with_buffer, event_if, event_of, before_count, due_if, script_of_step, StepDone, StepFailed}

-- what callers see of the hardware with rows and a number of steps
abbrev pub held : Hardware → Rows → ℕ → Held
held h rows time = record { hardware = h; time = time; rows = rows }

-- a machine that is off
off_step : (x : Environment) (s : State) (word : ℕ) → s.off ≡ Some word → step x s ≡ s
unfolding step
off_step x s word e = ap (if_on x s) e

off_event : (x : Environment) (s : State) (word : ℕ) → s.off ≡ Some word → event_of x s ≡ Off word
unfolding event_of
off_event x s word e = ap (event_if x s) e

-- a machine that is on
pub on_step : (x : Environment) (s after : State) → s.off ≡ None → after ≡ come_to (chosen x (latched x s)) → step x s ≡ step_ended after
unfolding step chosen
on_step x s after on e = ap (if_on x s) on ∙ ap step_ended (sym e)

pub on_event : (x : Environment) (s : State) (told : Event) → s.off ≡ None → told ≡ told_as (chosen x (latched x s)) → told ≡ event_of x s
unfolding event_of chosen
on_event x s told on e = e ∙ ap (event_if x s) (sym on)

before_is : (x : Environment) (s after : State) → after ≡ come_to (chosen x (latched x s)) → before_count x s ≡ after.device
unfolding before_count chosen
before_is x s after e = ap (λ v. v.device) (sym e)

-- the calls of a step: none of a machine that is off, and else the transfer that is due once the instruction is done
pub off_due : (x : Environment) (s : State) (word : ℕ) → s.off ≡ Some word → script_of_step x s ≡ []
unfolding script_of_step
off_due x s word e = ap (due_if x s) e

pub on_due : (x : Environment) (s after : State) → s.off ≡ None → after ≡ come_to (chosen x (latched x s)) → transfer_script after.device.pending after.device.buffer ≡ script_of_step x s
unfolding script_of_step
on_due x s after on e = ap (λ (d : Device). transfer_script d.pending d.buffer) (sym (before_is x s after e)) ∙ ap (due_if x s) (sym on)

-- the end of a step numbers no command
settled_commands : (p : Pending) (d : Device) → (settled p d).commands ≡ d.commands
settled_commands Idle d = refl
settled_commands (Reading zero sector) d = refl
settled_commands (Reading (suc left) sector) d = refl
settled_commands (Writing zero sector) d = refl
settled_commands (Writing (suc left) sector) d = refl

pub counted_commands : (d : Device) → (disk_counted d).commands ≡ d.commands
counted_commands d = settled_commands d.pending d

-- a step of a machine that is off, with the sectors that are told or else with any
pub off_steps : (count : ℕ) (now : Held) (word : ℕ) (told : Option (List (List ℕ))) → IfSome told (λ ss. length ss ≡ count) → now.hardware.off ≡ Some word → StepDone count now now told told (Off word)
off_steps count now word None many e =
    let x = outside_of now.rows count in
    let s : State = state_of now (replicate count []) in
    record {
      sectors = replicate count [];
      many = length-replicate {A = List ℕ} count [];
      given = tt;
      state = subst (λ (v : State). state_of now v.device.sectors ≡ v) (sym (off_step x s word e)) refl;
      left = refl;
      event = sym (off_event x s word e);
    }
off_steps count now word (Some ss) many e =
    let x = outside_of now.rows count in
    let s : State = state_of now ss in
    record {
      sectors = ss;
      many = many;
      given = refl;
      state = subst (λ (v : State). state_of now v.device.sectors ≡ v) (sym (off_step x s word e)) refl;
      left = ap (λ (v : State). Some v.device.sectors) (sym (off_step x s word e));
      event = sym (off_event x s word e);
    }

-- the parts of a step: lines are latched, an interrupt or an instruction comes, and the disk counts
module _ (start lit acted left : Hardware) (rows : Rows) (time lines count : ℕ) (told_event : Event) (on : start.off ≡ None) (raised : lines ≡ lines_at rows time)
    (latches : lit ≡ record start { mask = bit_or start.mask lines })
    (comes : (t : ℕ) (sectors : List (List ℕ)) → IsOfComing (chosen (outside_of rows count) (state_in lit t sectors)) (state_in acted t sectors) told_event)
    (ends : left ≡ record acted { ports = left.ports; buffer = left.buffer })
  where
    abbrev x : Environment
    x = outside_of rows count

    is_latched : (sectors : List (List ℕ)) → state_in lit time sectors ≡ latched x (state_in start time sectors)
    is_latched sectors =
        ap (λ (h : Hardware). state_in h time sectors) latches ∙ ap (λ m. state_in (record start { mask = bit_or start.mask m }) time sectors) raised

    comes_latched : (sectors : List (List ℕ)) → IsOfComing (chosen x (latched x (state_in start time sectors))) (state_in acted time sectors) told_event
    comes_latched sectors = subst (λ (v : State). IsOfComing (chosen x v) (state_in acted time sectors) told_event) (is_latched sectors) (comes time sectors)

    step_is : (sectors : List (List ℕ)) → step x (state_in start time sectors) ≡ step_ended (state_in acted time sectors)
    step_is sectors = on_step x (state_in start time sectors) (state_in acted time sectors) on (comes_latched sectors).state

    -- what the step calls
    pub calls : (sectors : List (List ℕ)) → transfer_script acted.ports.pending acted.buffer ≡ script_of_step x (state_in start time sectors)
    calls sectors = on_due x (state_in start time sectors) (state_in acted time sectors) on (comes_latched sectors).state

    -- the disk answered
    pub steps : (told retold : Option (List (List ℕ))) → EndsStep count acted.ports left.ports acted.buffer left.buffer told retold → StepDone count (held start rows time) (held left rows (time + 1)) told retold told_event
    steps told retold e =
        let d : Device = device_of acted.ports acted.buffer e.sectors in
        let there : state_in left (time + 1) (disk_counted d).sectors ≡ step_ended (state_in acted time e.sectors) =
        ap (λ (h : Hardware). state_in h (time + 1) (disk_counted d).sectors) ends ∙ ap (λ (v : Device). record (state_in acted (time + 1) (disk_counted d).sectors) { device = v }) e.device in
        record {
          sectors = e.sectors;
          many = e.many;
          given = e.given;
          state = subst (λ (v : State). state_of (held left rows (time + 1)) v.device.sectors ≡ v) (sym (step_is e.sectors)) there;
          left = e.left ∙ ap (λ (v : State). option_map (λ _. v.device.sectors) told) (sym (step_is e.sectors));
          event = on_event x (state_in start time e.sectors) told_event on (comes_latched e.sectors).event;
        }

    -- the disk failed
    pub fails : (told retold : Option (List (List ℕ))) → ((sectors : List (List ℕ)) → left.ports ≡ ports_of (disk_counted (device_of acted.ports acted.buffer sectors))) →
        TransferFails acted.ports.pending acted.buffer left.buffer told retold → StepFailed count (held start rows time) (held left rows (time + 1)) told retold
    fails told retold ports f = record {
      state = λ sectors.
          let d : Device = device_of acted.ports acted.buffer sectors in
          let new : Held = held left rows (time + 1) in
          let there : state_of (with_buffer new (disk_counted d).buffer) (disk_counted d).sectors ≡ step_ended (state_in acted time sectors) =
          ap (λ (h : Hardware). record (state_in h (time + 1) (disk_counted d).sectors) { device = device_of left.ports (disk_counted d).buffer (disk_counted d).sectors }) ends
          ∙ ap (λ p. record (state_in acted (time + 1) (disk_counted d).sectors) { device = device_of p (disk_counted d).buffer (disk_counted d).sectors }) (ports sectors) in
          subst (λ (v : State). state_of (with_buffer new v.device.buffer) v.device.sectors ≡ v) (sym (step_is sectors)) there;
      disk = λ sectors.
          subst (λ (v : Device). TransferFails v.pending v.buffer left.buffer told retold) (sym (before_is x (state_in start time sectors) (state_in acted time sectors) (comes_latched sectors).state)) f;
    }
