use Rattle.std.proofs.Common.{◌≡◌, ℕ, List, length, Option, Some, None, sym, ap, ◌∙◌, subst, Bool, true, Result, Ok, Err, rules}
use Rattle.std.specs.Prelude.{IfSome}
use Rattle.boot_turns.specs.declared.completion.Stepped.{Stepped}
use Rattle.boot_turns.specs.declared.completion.Stepped.TheVariants.{Kept}
use Rattle.boot_turns.specs.Completes.{state_seen, KeptUser, StepBegan, turn_began}
use Rattle.std.specs.Option.{option_map}
use Rattle.mips_table.specs.Fits.{NamesSector}
use Rattle.boot_turns.specs.Tracing.{CanTrace}
use Rattle.boot_turns.proofs.QuietRows.{rows_keep_sectors, rows_keep_size}
use Rattle.boot_turns.proofs.CountedSteps.{step_counted}
use Rattle.boot_turns.proofs.StepEvents.{ran_left}
use Rattle.boot_turns.proofs.StepMakes.{step_broken, step_plain, step_follows, step_counts}
use Rattle.cvm_outside.specs.Outside.{output}
use Rattle.std.proofs.lemmas.Result.{err_from_is_err_and}
use Rattle.mips_machine.specs.Steps.{outside_of}
use Rattle.boot_turns.specs.declared.tracer.Tracer.{Tracer}
use Rattle.boot_turns.specs.declared.answers.RunFault.{RunFault}
use Rattle.boot_turns.specs.declared.answers.RunFault.TheVariants.{Disk, Sink}
use Rattle.boot_turns.proofs.TraceLoops.{step_broke, step_cut, step_goes}
use Rattle.boot_turns.proofs.completion.step_traced.Given.{Over}
use Rattle.boot_turns.proofs.completion.step_traced.Goals.{In-Some, in-Kept+else-counts, in_default}
use Rattle.boot_turns.proofs.completion.step_traced.Goals as goal

-- so it is where a user is traced
if_traced : (o : Option Tracer) (P : Type 0) → P → IfSome o (λ _. P)
if_traced None P h = tt
if_traced (Some k) P h = h

disk_sink : Disk ≡ Sink → ⊥
disk_sink e = absurd (cc)

same_err : {a b : RunFault} → ◌≡◌ {A = Result Stepped RunFault} (Err a) (Err b) → a ≡ b
same_err e = cc

-- what is kept is still what was kept before the step
here : (g : Over) (c : In-Some g) → c.args.tracer.now ≡ Some c.in-Some.kept
here g c = elim c.match-stepped.branch [
  | in-Kept+else-counts w ↦ sym (w.tracer-is ∙ w.counts.ensures.same w.if-counts.false) ∙ c.in-Some.is
  | in_default w ↦ sym w.tracer-is ∙ c.in-Some.is
]

-- whether the step began a turn
began : (g : Over) (c : In-Some g) → StepBegan (g.D.Sectors.size c.args.disk.now) c.args.machine.now (g.D.Sectors.sectors c.args.disk.now) c.began-began.result
began g c = subst (λ (b : Bool). StepBegan (g.D.Sectors.size c.args.disk.now) c.args.machine.now (g.D.Sectors.sectors c.args.disk.now) b) (sym c.began-began.ensures) c.in_ok-stepped.ensures.ends.began

pub returns-in_err-stepped-clause-traced : goal.returns-in_err-stepped-clause-traced
returns-in_err-stepped-clause-traced g c =
    let w = err_from_is_err_and c.from_residual.result c.from_residual.ensures.1 in
    step_broke (outside_of c.args.machine.now.rows (g.D.Sectors.size c.args.disk.now)) c.args.map.now c.args.machine.now (g.D.Sectors.sectors c.args.disk.now) c.args.tracer.now c.args.tracer.now
    c.from_residual.result w.0 w.1 (λ sink. disk_sink (sym w.2 ∙ sink))

pub returns-in_err-follow-clause-traced : goal.returns-in_err-follow-clause-traced
returns-in_err-follow-clause-traced g c =
    let w = err_from_is_err_and c.from_residual-in_err-follow.result c.from_residual-in_err-follow.ensures.1 in
    step_cut c.traces_grow.ensures c.journal_rows_follow.ensures c.the_words_tell.ensures (outside_of c.args.machine.now.rows (g.D.Sectors.size c.args.disk.now)) c.args.map.now c.args.machine.now (g.D.Sectors.sectors c.args.disk.now) c.in-Some.kept c.requires.on
    c.step_once.new.machine (g.D.Sectors.sectors c.step_once.new.disk) c.in_ok-stepped.ensures.ends.ran c.current_user-current.result c.current_user-current.ensures c.began-began.result (began g (goal.at.returns-in_err-follow-clause-traced g c).In-Some)
    c.args.tracer.now (Some c.follow.new.self) c.from_residual-in_err-follow.result w.0 (here g (goal.at.returns-in_err-follow-clause-traced g c).In-Some) w.1 c.in_err-follow.ensures.rows

-- where no user is traced the sink isn't called
pub returns-in_err-stepped-clause-silent : goal.returns-in_err-stepped-clause-silent
returns-in_err-stepped-clause-silent g c =
    let w = err_from_is_err_and c.from_residual.result c.from_residual.ensures.1 in
    λ none sink. disk_sink (sym w.2 ∙ same_err (sym w.1 ∙ sink))

pub returns-in_err-follow-clause-silent : goal.returns-in_err-follow-clause-silent
returns-in_err-follow-clause-silent g c = λ none sink. absurd (let e : ◌≡◌ {A = Option Tracer} None (Some c.in-Some.kept) = sym none ∙ here g (goal.at.returns-in_err-follow-clause-silent g c).In-Some in cc)

pub returns-in-Some-clause-traced : goal.returns-in-Some-clause-traced
returns-in-Some-clause-traced g c =
    let x = outside_of c.args.machine.now.rows (g.D.Sectors.size c.args.disk.now) in
    step_goes c.traces_grow.ensures c.journal_rows_follow.ensures c.the_words_tell.ensures x c.args.map.now c.args.machine.now (g.D.Sectors.sectors c.args.disk.now) c.in-Some.kept c.requires.on
    c.step_once.new.machine (g.D.Sectors.sectors c.step_once.new.disk) c.in_ok-stepped.ensures.ends.ran c.current_user-current.result c.current_user-current.ensures c.began-began.result (began g (goal.at.returns-in-Some-clause-traced g c).In-Some)
    c.stepped_as.result c.args.tracer.now c.follow.new.self (here g (goal.at.returns-in-Some-clause-traced g c).In-Some) c.in_ok-follow.ensures.behind

pub returns-then-counts-clause-traced : goal.returns-then-counts-clause-traced
returns-then-counts-clause-traced g c =
    let x = outside_of c.args.machine.now.rows (g.D.Sectors.size c.args.disk.now) in
    let kept : KeptUser c.step_once.new.machine Kept = subst (KeptUser c.step_once.new.machine) c.in-Kept.is c.in_ok-stepped.ensures.ends.kept in
    let began : StepBegan (g.D.Sectors.size c.args.disk.now) c.args.machine.now (g.D.Sectors.sectors c.args.disk.now) true =
    subst (λ (s : Stepped). StepBegan (g.D.Sectors.size c.args.disk.now) c.args.machine.now (g.D.Sectors.sectors c.args.disk.now) (turn_began s)) c.in-Kept.is c.in_ok-stepped.ensures.ends.began in
    step_counted c.traces_grow.ensures c.journal_rows_follow.ensures c.the_words_tell.ensures x c.args.map.now c.args.machine.now (g.D.Sectors.sectors c.args.disk.now) c.args.tracer.now c.counts.new.tracer
    c.requires.on c.step_once.new.machine (g.D.Sectors.sectors c.step_once.new.disk) c.in_ok-stepped.ensures.ends.ran c.current_user-current.result (if_traced c.args.tracer.now _ c.current_user-current.ensures) began kept.0 (c.counts.ensures.free c.if-counts.true)
    (c.counts.ensures.counted c.if-counts.true) Kept

-- what a fault left
pub returns-in_err-stepped-clause-left : goal.returns-in_err-stepped-clause-left
returns-in_err-stepped-clause-left g c =
    let w = err_from_is_err_and c.from_residual.result c.from_residual.ensures.1 in
    rw (w.1, w.2) c.in_err-stepped.ensures.left

pub returns-in_err-follow-clause-left : goal.returns-in_err-follow-clause-left
returns-in_err-follow-clause-left g c =
    let w = err_from_is_err_and c.from_residual-in_err-follow.result c.from_residual-in_err-follow.ensures.1 in
    let sectors = rows_keep_sectors {T = Unit {0}} g.O.Sink g.D.Sectors c.step_once.new.machine c.args.map.now c.args.out.now c.follow.new.out c.step_once.new.disk c.follow.new.disk c.in-Some.kept c.current_user-current.result c.began-began.result (Err c.in_err-follow.field-0.0) c.in_err-follow.ensures.script in
    rw w.1 (ran_left (g.D.Sectors.size c.args.disk.now) c.args.machine.now c.step_once.new.machine (g.D.Sectors.sectors c.args.disk.now) (g.D.Sectors.sectors c.follow.new.disk) w.0
    (ap (λ (r : Option (List (List ℕ))). state_seen r c.step_once.new.machine) sectors ∙ c.in_ok-stepped.ensures.ends.ran))

pub returns-in-Some-clause-ends : goal.returns-in-Some-clause-ends
returns-in-Some-clause-ends g c =
    let sectors = rows_keep_sectors {T = Unit {0}} g.O.Sink g.D.Sectors c.step_once.new.machine c.args.map.now c.args.out.now c.follow.new.out c.step_once.new.disk c.follow.new.disk c.in-Some.kept c.current_user-current.result c.began-began.result (Ok tt) c.in_ok-follow.ensures.script in
    record {
      ran = rw sectors c.in_ok-stepped.ensures.ends.ran;
      began = search rules;
      kept = search rules;
    }

-- what stays, where its rows were looked for
not_none : (o : Option Tracer) (k : Tracer) → o ≡ None → o ≡ Some k → ⊥
not_none o k none is = absurd (cc)

same_user : (o : Option Tracer) (k new : Tracer) → o ≡ Some k → new.user ≡ k.user → option_map (λ (k : Tracer). k.user) (Some new) ≡ option_map (λ (k : Tracer). k.user) o
same_user o k new is same = rw is (ap Some same)

pub returns-in_err-follow-clause-leaves : goal.returns-in_err-follow-clause-leaves
returns-in_err-follow-clause-leaves g c =
    let size = rows_keep_size {T = Unit {0}} g.O.Sink g.D.Sectors c.step_once.new.machine c.args.map.now c.args.out.now c.follow.new.out c.step_once.new.disk c.follow.new.disk c.in-Some.kept c.current_user-current.result c.began-began.result (Err c.in_err-follow.field-0.0) c.in_err-follow.ensures.script in
    let from = here g (goal.at.returns-in_err-follow-clause-leaves g c).In-Some in
    record {
      stays = record {
        rows = c.step_once.ensures.stays.rows;
        memory = c.step_once.ensures.stays.memory;
        sector = subst (λ n. NamesSector n c.step_once.new.machine.hardware.ports.pending) (sym size) c.step_once.ensures.stays.sector;
        size = size ∙ c.step_once.ensures.stays.size;
      };
      trace = record {
        untraced = λ none. absurd (not_none c.args.tracer.now c.in-Some.kept none from);
        can = subst (λ n. CanTrace c.args.map.now (length c.step_once.new.machine.hardware.memory) c.step_once.new.machine.time n c.follow.new.self) (sym size) c.in_err-follow.ensures.can;
        user = same_user c.args.tracer.now c.in-Some.kept c.follow.new.self from c.in_err-follow.ensures.user;
      };
    }

pub returns-in-Some-clause-leaves : goal.returns-in-Some-clause-leaves
returns-in-Some-clause-leaves g c =
    let size = rows_keep_size {T = Unit {0}} g.O.Sink g.D.Sectors c.step_once.new.machine c.args.map.now c.args.out.now c.follow.new.out c.step_once.new.disk c.follow.new.disk c.in-Some.kept c.current_user-current.result c.began-began.result (Ok tt) c.in_ok-follow.ensures.script in
    let from = here g (goal.at.returns-in-Some-clause-leaves g c).In-Some in
    record {
      stays = record {
        rows = c.step_once.ensures.stays.rows;
        memory = c.step_once.ensures.stays.memory;
        sector = subst (λ n. NamesSector n c.step_once.new.machine.hardware.ports.pending) (sym size) c.step_once.ensures.stays.sector;
        size = size ∙ c.step_once.ensures.stays.size;
      };
      trace = record {
        untraced = λ none. absurd (not_none c.args.tracer.now c.in-Some.kept none from);
        can = subst (λ n. CanTrace c.args.map.now (length c.step_once.new.machine.hardware.memory) c.step_once.new.machine.time n c.follow.new.self) (sym size) c.in_ok-follow.ensures.can;
        user = same_user c.args.tracer.now c.in-Some.kept c.follow.new.self from c.in_ok-follow.ensures.user;
      };
    }

-- THE CALLS of the step
pub returns-in_err-stepped-clause-script : goal.returns-in_err-stepped-clause-script
returns-in_err-stepped-clause-script g c =
    let w = err_from_is_err_and c.from_residual.result c.from_residual.ensures.1 in
    rw (w.1, w.2) (step_broken (outside_of c.args.machine.now.rows (g.D.Sectors.size c.args.disk.now)) g.O.Sink g.D.Sectors c.args.map.now c.args.machine.now c.args.tracer.now c.args.out.now c.args.disk.now c.step_once.new.disk
    (λ ss shelf. c.in_err-stepped.ensures.script ss shelf (output g.O.Sink c.args.out.now)))

pub returns-in_err-follow-clause-script : goal.returns-in_err-follow-clause-script
returns-in_err-follow-clause-script g c =
    let w = err_from_is_err_and c.from_residual-in_err-follow.result c.from_residual-in_err-follow.ensures.1 in
    rw (w.1, w.2) (step_follows (outside_of c.args.machine.now.rows (g.D.Sectors.size c.args.disk.now)) g.O.Sink g.D.Sectors c.args.map.now c.args.machine.now c.args.tracer.now c.args.out.now c.args.disk.now
    c.traces_grow.ensures c.journal_rows_follow.ensures c.the_words_tell.ensures c.requires.on c.in-Some.kept (here g (goal.at.returns-in_err-follow-clause-script g c).In-Some) c.step_once.new.machine c.follow.new.out c.step_once.new.disk c.follow.new.disk
    c.current_user-current.result c.began-began.result (Err c.in_err-follow.field-0.0) c.in_ok-stepped.ensures.ends.ran c.current_user-current.ensures (began g (goal.at.returns-in_err-follow-clause-script g c).In-Some)
    (λ ss shelf. c.in_ok-stepped.ensures.script ss shelf (output g.O.Sink c.args.out.now)) c.in_err-follow.ensures.script)

pub returns-in-Some-clause-script : goal.returns-in-Some-clause-script
returns-in-Some-clause-script g c =
    step_follows (outside_of c.args.machine.now.rows (g.D.Sectors.size c.args.disk.now)) g.O.Sink g.D.Sectors c.args.map.now c.args.machine.now c.args.tracer.now c.args.out.now c.args.disk.now
    c.traces_grow.ensures c.journal_rows_follow.ensures c.the_words_tell.ensures c.requires.on c.in-Some.kept (here g (goal.at.returns-in-Some-clause-script g c).In-Some) c.step_once.new.machine c.follow.new.out c.step_once.new.disk c.follow.new.disk
    c.current_user-current.result c.began-began.result (Ok c.stepped_as.result) c.in_ok-stepped.ensures.ends.ran c.current_user-current.ensures (began g (goal.at.returns-in-Some-clause-script g c).In-Some)
    (λ ss shelf. c.in_ok-stepped.ensures.script ss shelf (output g.O.Sink c.args.out.now)) c.in_ok-follow.ensures.script

pub returns-then-counts-clause-script : goal.returns-then-counts-clause-script
returns-then-counts-clause-script g c =
    let kept : KeptUser c.step_once.new.machine Kept = subst (KeptUser c.step_once.new.machine) c.in-Kept.is c.in_ok-stepped.ensures.ends.kept in
    let began : StepBegan (g.D.Sectors.size c.args.disk.now) c.args.machine.now (g.D.Sectors.sectors c.args.disk.now) true =
    subst (λ (s : Stepped). StepBegan (g.D.Sectors.size c.args.disk.now) c.args.machine.now (g.D.Sectors.sectors c.args.disk.now) (turn_began s)) c.in-Kept.is c.in_ok-stepped.ensures.ends.began in
    step_counts (outside_of c.args.machine.now.rows (g.D.Sectors.size c.args.disk.now)) g.O.Sink g.D.Sectors c.args.map.now c.args.machine.now c.args.tracer.now c.args.out.now c.args.disk.now
    c.traces_grow.ensures c.journal_rows_follow.ensures c.the_words_tell.ensures c.requires.on c.step_once.new.machine c.step_once.new.disk c.current_user-current.result Kept c.in_ok-stepped.ensures.ends.ran c.current_user-current.ensures began kept.0
    (λ ss shelf. c.in_ok-stepped.ensures.script ss shelf (output g.O.Sink c.args.out.now))

pub returns-clause-script : goal.returns-clause-script
returns-clause-script g c =
    let same : c.match-stepped.tracer ≡ c.args.tracer.now = elim c.match-stepped.branch [
      | in-Kept+else-counts w ↦ w.tracer-is ∙ w.counts.ensures.same w.if-counts.false
      | in_default w ↦ w.tracer-is
    ] in
    step_plain (outside_of c.args.machine.now.rows (g.D.Sectors.size c.args.disk.now)) g.O.Sink g.D.Sectors c.args.map.now c.args.machine.now c.args.tracer.now c.args.out.now c.args.disk.now c.stepped_as-2.result c.step_once.new.disk
    (sym same ∙ c.in_default-tracer.is) (λ ss shelf. c.in_ok-stepped.ensures.script ss shelf (output g.O.Sink c.args.out.now))
