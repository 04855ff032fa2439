-- A turn of the user that begins with a trap has its row.
use Rattle.std.proofs.Common.{rules}
use Rattle.boot_turns.proofs.JournalRows.{trap_rows}
use Rattle.boot_turns.proofs.EntryRowsArePut.{on_any_err, trap_is}
use Rattle.boot_turns.proofs.tracer.Tracer.begin.Goals as goal

pub returns-clause-prints : goal.returns-clause-prints
returns-clause-prints g c =
    record {
      put = search rules;
      steps = search rules;
      some = on_any_err c.put.result
          (trap_rows c.args.self.now.steps _ _ _ (trap_is c.args.self.now.user c.args.current c.args.begun.now c.if-current-self.false c.if-not-begun.false c.if-begun-le-EXTERNAL.false));
    }
