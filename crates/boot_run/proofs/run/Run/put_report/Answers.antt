use Rattle.std.proofs.Common.{◌∙◌, ap, sym, refl, List, length}
use Rattle.c0_tree.specs.declared.tree.Unit.{Unit as Source}
use Rattle.c0_tree.specs.declared.tree.Decl.{Decl}
use Rattle.boot_run.proofs.RoomOfLoaded.{many, inside}
use Rattle.boot_run.proofs.ClosingCalls.{boot_report_calls, trace_report_calls}
use Rattle.boot_run.proofs.run.Run.put_report.Goals as goal

pub put_closing-requires-clause-many : goal.put_closing-requires-clause-many
put_closing-requires-clause-many g c =
    many c.self.inside.boot c.self.inside.layout.map c.self.inside.layout.offsets.items c.self.inside.machine.hardware.memory c.self.inside.count c.self.invariant.2
    ∙ sym (ap (λ (ds : List Decl). length ds) (c.as_slice-decls.ensures.value ∙ ap (λ (u : Source). u.globals.items) c.unit.ensures.same))

pub put_closing-requires-clause-inside : goal.put_closing-requires-clause-inside
put_closing-requires-clause-inside g c =
    inside c.self.inside.boot c.self.inside.layout.map c.self.inside.layout.offsets.items c.self.inside.machine.hardware.memory c.self.inside.count c.self.invariant.2
    (c.parts_are_in_order.ensures c.self.inside.layout.map c.self.invariant.2.range)

-- the calls
pub returns-in-Some-clause-script : goal.returns-in-Some-clause-script
returns-in-Some-clause-script g c =
    trace_report_calls g.O.Sink g.D.Sectors c.args.self.now _ c.self.view_is c.args.out.now c.put_trace_closing.new.out c.args.disk.now c.put_trace_closing.new.disk c.requires.goes_on refl c.self.inside.layout c.self.invariant.2 c.machines_run.ensures
    c.is_some-halted.result c.is_some-halted.ensures {R = Unit {0}} {T = Unit {0}} c.put_trace_closing.result c.as_run.result c.as_run.ensures.blame c.in-Some.tracer c.in-Some.is c.traces_grow.ensures c.journal_rows_follow.ensures c.the_rows_tell.ensures c.a_user_is_told.ensures
    c.self.invariant.3 c.put_trace_closing.ensures

pub returns-clause-script : goal.returns-clause-script
returns-clause-script g c =
    boot_report_calls g.O.Sink g.D.Sectors c.args.self.now _ c.self.view_is c.args.out.now c.put_closing.new.out c.args.disk.now c.put_closing.new.disk c.requires.goes_on refl c.self.inside.layout c.self.invariant.2 c.machines_run.ensures
    c.is_some-halted.result c.is_some-halted.ensures {R = Unit {0}} {T = Unit {0}} c.put_closing.result c.as_run-2.result c.as_run-2.ensures.blame c.in_default.is c.runs_stay_typed.ensures c.the_rows_tell.ensures c.a_user_is_told.ensures c.the_globals_tell.ensures c.unit.ensures.well_formed
    c.as_slice-decls.result.now (c.as_slice-decls.ensures.value ∙ ap (λ (u : Source). u.globals.items) c.unit.ensures.same) c.put_closing.ensures
