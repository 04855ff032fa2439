-- The row of a primitive that is no copy is that of its entry.
use Rattle.std.proofs.Common.{◌∙◌, rules}
use Rattle.cvm_outside.proofs.RowsPut.{puts_same}
use Rattle.boot_turns.proofs.JournalRows.{set_rows, size_rows, put_rows}
use Rattle.boot_turns.proofs.EntryRowsArePut.{on_any_err, set_is, size_is, put_is, put_text}
use Rattle.boot_turns.proofs.tracer.Tracer.end_call.Goals as goal

pub returns-then-call-eq-VM_SET-clause-prints : goal.returns-then-call-eq-VM_SET-clause-prints
returns-then-call-eq-VM_SET-clause-prints g c =
    record {
      put = search rules;
      steps = search rules;
      some =
          on_any_err c.put.result
          (set_rows c.args.self.now.steps _ _ _ (set_is c.args.self.now.user c.args.call.now c.args.answer c.if-answer-ne1.false c.if-user-self.false c.if-call-eq-VM_SET.true));
    }

pub returns-then-call-eq-VM_RESIZE-clause-prints : goal.returns-then-call-eq-VM_RESIZE-clause-prints
returns-then-call-eq-VM_RESIZE-clause-prints g c =
    record {
      put = search rules;
      steps = search rules;
      some =
          on_any_err c.put-then-call-eq-VM_RESIZE.result
          (size_rows c.args.self.now.steps _ _ (size_is c.args.self.now.user c.args.call.now c.args.answer c.if-answer-ne1.false c.if-user-self.false c.if-call-eq-VM_RESIZE.true));
    }

pub returns-then-call-eq-VM_PUT-clause-prints : goal.returns-then-call-eq-VM_PUT-clause-prints
returns-then-call-eq-VM_PUT-clause-prints g c =
    record {
      put =
          puts_same _ _ _ _ _
          (put_text c.args.self.now.user c.args.self.now.steps c.args.call.now c.args.answer c.as_bytes-then-call-eq-VM_PUT.result.now
          (put_is c.args.self.now.user c.args.call.now c.args.answer c.if-answer-ne1.false c.if-user-self.false c.if-call-eq-VM_PUT.true)
          (c.as_bytes-then-call-eq-VM_PUT.ensures.value ∙ c.as_str-then-call-eq-VM_PUT.ensures.value ∙ c.put_row.ensures))
          c.put-then-call-eq-VM_PUT.ensures.put;
      steps = search rules;
      some =
          on_any_err c.put-then-call-eq-VM_PUT.result
          (put_rows c.args.self.now.steps _ _ _ (put_is c.args.self.now.user c.args.call.now c.args.answer c.if-answer-ne1.false c.if-user-self.false c.if-call-eq-VM_PUT.true));
    }
