use Rattle.std.proofs.Common.{◌≡◌, [], length, sym, ap, ◌∙◌, subst}
use Rattle.std.specs.Prelude.{slice_index}
use Rattle.schedule_file.specs.Rows.{Rows}
use Rattle.mips_machine.specs.Machine.{Held, state_of}
use Rattle.mips_machine.specs.Saved.{saved, AreSaved, CanBeSaved}
use Rattle.boot_run.proofs.TakenUpMemory.{started_long}
use Rattle.boot_run.proofs.resuming.resumed_machine.Goals as goal

pub load_state-requires : goal.load_state-requires
load_state-requires c =
    subst (λ (m : Held). AreSaved (length m.hardware.memory) m.rows.inputs c.args.from.now) (sym c.in_ok-machine.ensures.held)
    (subst (λ n. AreSaved n c.args.schedule.inputs c.args.from.now) (sym (started_long c.args.map.now c.memory_frames.result c.args.schedule c.memory_frames.ensures.value)) c.requires)

pub returns-clause-words : goal.returns-clause-words
returns-clause-words c =
    subst (λ (q : Rows). saved q.inputs (state_of c.load_state.new.self []) (slice_index c.args.from.now 5) (slice_index c.args.from.now 6) ≡ c.args.from.now) (ap (λ (m : Held). m.rows) c.in_ok-machine.ensures.held) (c.load_state.ensures.words [])

pub returns-clause-ready : goal.returns-clause-ready
returns-clause-ready c = λ sectors.
    subst (λ (q : Rows). CanBeSaved q.inputs (state_of c.load_state.new.self sectors)) (ap (λ (m : Held). m.rows) c.in_ok-machine.ensures.held) (c.load_state.ensures.ready sectors)

pub returns-clause-rows : goal.returns-clause-rows
returns-clause-rows c = c.load_state.ensures.rows ∙ ap (λ (m : Held). m.rows) c.in_ok-machine.ensures.held

pub returns-clause-memory : goal.returns-clause-memory
returns-clause-memory c =
    c.load_state.ensures.memory ∙ ap (λ (m : Held). length m.hardware.memory) c.in_ok-machine.ensures.held ∙ started_long c.args.map.now c.memory_frames.result c.args.schedule c.memory_frames.ensures.value
