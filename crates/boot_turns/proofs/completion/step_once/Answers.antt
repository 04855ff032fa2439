use Rattle.std.proofs.Common.{◌≡◌, Bool, true, false, slice_index, refl, sym, ap, ◌∙◌, subst, eq-eqb, ne_eqb, rules}
use Rattle.std.specs.Prelude.{◌==◌}
use Rattle.boot_turns.specs.Completes.{turn_began, stepped_as, StepBegan}
use Rattle.boot_turns.proofs.StepEvents.{event_told, event_told_at, user_begins, untaken_begins, steps_reset, steps_on, steps_seen, steps_time, fails_time, fails_left}
use Rattle.std.proofs.lemmas.Result.{err_from_is_err_and}
use Rattle.boot_turns.proofs.completion.step_once.Goals as goal

as_told : (b : Bool) → turn_began (stepped_as b) ≡ b
as_told true = refl
as_told false = refl

pub returns-clause-time : goal.returns-clause-time
returns-clause-time g c =
    steps_time (g.D.Sectors.size c.args.disk.now) c.args.machine.now c.step.new.self (g.D.Sectors.sectors c.args.disk.now) (g.D.Sectors.sectors c.step.new.disk)
    c.in_ok-event.event c.in_ok-event.ensures.ok

pub returns-in_err-event-clause-time : goal.returns-in_err-event-clause-time
returns-in_err-event-clause-time g c =
    fails_time (g.D.Sectors.size c.args.disk.now) c.args.machine.now c.step.new.self (g.D.Sectors.sectors c.args.disk.now) (g.D.Sectors.sectors c.step.new.disk) c.in_err-event.ensures.fault

pub returns-then-special-eq1-clause-time : goal.returns-then-special-eq1-clause-time
returns-then-special-eq1-clause-time g c =
    steps_time (g.D.Sectors.size c.args.disk.now) c.args.machine.now c.step.new.self (g.D.Sectors.sectors c.args.disk.now) (g.D.Sectors.sectors c.step.new.disk)
    c.in_ok-event.event c.in_ok-event.ensures.ok

pub returns-then-not-taken-clause-time : goal.returns-then-not-taken-clause-time
returns-then-not-taken-clause-time g c =
    steps_time (g.D.Sectors.size c.args.disk.now) c.args.machine.now c.step.new.self (g.D.Sectors.sectors c.args.disk.now) (g.D.Sectors.sectors c.step.new.disk)
    c.in_ok-event.event c.in_ok-event.ensures.ok

pub returns-clause-ends : goal.returns-clause-ends
returns-clause-ends g c = record {
  ran = steps_seen (g.D.Sectors.size c.args.disk.now) c.args.machine.now c.step.new.self (g.D.Sectors.sectors c.args.disk.now) (g.D.Sectors.sectors c.step.new.disk) c.in_ok-event.event c.in_ok-event.ensures.ok;
  began =
      subst (λ (b : Bool). StepBegan (g.D.Sectors.size c.args.disk.now) c.args.machine.now (g.D.Sectors.sectors c.args.disk.now) b) (sym (ap turn_began c.stepped_as.ensures ∙ as_told c.has_begun.result))
      (event_told_at (g.D.Sectors.size c.args.disk.now) c.args.machine.now c.step.new.self (g.D.Sectors.sectors c.args.disk.now) (g.D.Sectors.sectors c.step.new.disk)
      c.in_ok-event.event c.has_begun.result c.was_off-off.result c.was_taken-taken.result c.special-in_user.result c.special-pages.result c.special-cause.result c.special-edata.result c.in_ok-event.ensures.ok
      c.special-in_user.ensures c.special-pages.ensures c.special-cause.ensures c.special-edata.ensures c.was_off-off.ensures c.was_taken-taken.ensures c.has_begun.ensures);
  kept = search rules;
}

pub returns-then-special-eq1-clause-ends : goal.returns-then-special-eq1-clause-ends
returns-then-special-eq1-clause-ends g c = record {
  ran = steps_seen (g.D.Sectors.size c.args.disk.now) c.args.machine.now c.step.new.self (g.D.Sectors.sectors c.args.disk.now) (g.D.Sectors.sectors c.step.new.disk) c.in_ok-event.event c.in_ok-event.ensures.ok;
  began =
      event_told (g.D.Sectors.size c.args.disk.now) c.args.machine.now c.step.new.self (g.D.Sectors.sectors c.args.disk.now) (g.D.Sectors.sectors c.step.new.disk)
      c.in_ok-event.event true c.args.machine.now.hardware.reset c.special-in_user.result c.special-pages.result (slice_index c.step.new.self.hardware.special 4) c.in_ok-event.ensures.ok
      refl c.special-in_user.ensures c.special-pages.ensures refl
      (user_begins c.args.machine.now.hardware.reset (c.special-in_user.result == 1) c.special-pages.result (slice_index c.step.new.self.hardware.special 4) c.in_ok-event.event (eq-eqb c.special-in_user.result 1 c.if-in_user.true) c.in-Ran.is);
  kept = (
    sym c.special.ensures ∙ c.if-special-eq1.true,
    steps_on (g.D.Sectors.size c.args.disk.now) c.args.machine.now c.step.new.self (g.D.Sectors.sectors c.args.disk.now) (g.D.Sectors.sectors c.step.new.disk)
        c.in_ok-event.event c.in_ok-event.ensures.ok c.in-Ran.is,
  );
}

pub returns-then-not-taken-clause-ends : goal.returns-then-not-taken-clause-ends
returns-then-not-taken-clause-ends g c = record {
  ran = steps_seen (g.D.Sectors.size c.args.disk.now) c.args.machine.now c.step.new.self (g.D.Sectors.sectors c.args.disk.now) (g.D.Sectors.sectors c.step.new.disk) c.in_ok-event.event c.in_ok-event.ensures.ok;
  began =
      event_told (g.D.Sectors.size c.args.disk.now) c.args.machine.now c.step.new.self (g.D.Sectors.sectors c.args.disk.now) (g.D.Sectors.sectors c.step.new.disk)
      c.in_ok-event.event false c.args.machine.now.hardware.reset c.special-in_user.result c.special-pages.result (slice_index c.step.new.self.hardware.special 4) c.in_ok-event.ensures.ok
      refl c.special-in_user.ensures c.special-pages.ensures refl
      (untaken_begins c.args.machine.now.hardware.reset (c.special-in_user.result == 1) c.special-pages.result (slice_index c.step.new.self.hardware.special 4) c.in_ok-event.event (ne_eqb c.special-in_user.result 1 c.if-in_user.false)
      (sym c.was_taken-taken.ensures ∙ c.if-not-taken.true) (steps_reset (g.D.Sectors.size c.args.disk.now) c.args.machine.now c.step.new.self (g.D.Sectors.sectors c.args.disk.now) (g.D.Sectors.sectors c.step.new.disk) c.in_ok-event.event c.in_ok-event.ensures.ok));
  kept = tt;
}

pub returns-in_err-event-clause-left : goal.returns-in_err-event-clause-left
returns-in_err-event-clause-left g c =
    let w = err_from_is_err_and c.from_residual.result c.from_residual.ensures.1 in
    rw w.1 (fails_left (g.D.Sectors.size c.args.disk.now) c.args.machine.now c.step.new.self (g.D.Sectors.sectors c.args.disk.now) (g.D.Sectors.sectors c.step.new.disk) c.in_err-event.ensures.fault)
