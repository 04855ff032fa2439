use Rattle.std.proofs.Common.{[], false, None}
use Rattle.std.proofs.lemmas.Result.{err_from_is_err_and}
use Rattle.cvm_outside.specs.Outside.{output, drive}
use Rattle.cvm_outside.proofs.RowsPut.{same_script}
use Rattle.mips_machine.specs.Machine.{state_of}
use Rattle.cvm_model.specs.Text.{journal_rows_after}
use Rattle.boot_turns.specs.Entries.{call_ends}
use Rattle.boot_turns.proofs.RowsAreScripts.{prints_made, ended_call}
use Rattle.boot_turns.proofs.tracer.Tracer.end.Goals as goal

-- the rows are those of a primitive that is no copy
pub returns-in_err-end_call-clause-script : goal.returns-in_err-end_call-clause-script
returns-in_err-end_call-clause-script g c pages are shelf =
    let h = err_from_is_err_and c.from_residual.result c.from_residual.ensures.1 in
    rw (h.1, h.2) (same_script _ _ _ _ _ (ended_call c.args.map.now (state_of c.args.machine.now []) pages c.args.self.now.user c.args.self.now.steps c.args.answer c.args.call.now c.if-call-eq-VM_COPY.false)
    (prints_made (journal_rows_after false c.args.self.now.steps (call_ends c.args.self.now.user c.args.call.now c.args.answer [])) shelf (drive g.D.Sectors c.args.disk.now) (output g.O.Sink c.args.out.now) (output g.O.Sink c.end_call.new.out) _
    c.in_err-end_call.ensures.prints.put (λ whom e. c.in_err-end_call.ensures.prints.some)))

pub returns-clause-script : goal.returns-clause-script
returns-clause-script g c pages are shelf =
    same_script _ _ _ _ _ (ended_call c.args.map.now (state_of c.args.machine.now []) pages c.args.self.now.user c.args.self.now.steps c.args.answer c.args.call.now c.if-call-eq-VM_COPY.false)
    (prints_made (journal_rows_after false c.args.self.now.steps (call_ends c.args.self.now.user c.args.call.now c.args.answer [])) shelf (drive g.D.Sectors c.args.disk.now) (output g.O.Sink c.args.out.now) (output g.O.Sink c.end_call.new.out) None
    c.in_ok-end_call.ensures.prints.put (λ whom e. absurd (cc)))
