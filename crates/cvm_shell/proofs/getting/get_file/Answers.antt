use Rattle.std.proofs.Common.{rules}
use Rattle.std.proofs.lemmas.Result.{err_from_is_err_and}
use Rattle.cvm_outside.specs.Outside.{files}
use Rattle.cvm_shell.proofs.GotFiles.{only_long}
use Rattle.cvm_shell.proofs.GotCalls.{one_got, one_stopped}
use Rattle.cvm_shell.proofs.getting.get_file.Goals as goal

pub returns-in_err-bytes-clause-stops : goal.returns-in_err-bytes-clause-stops
returns-in_err-bytes-clause-stops g c =
    let p = err_from_is_err_and c.from_residual.result c.from_residual.ensures.1 in
    rw (p.1, p.2) (only_long c.in_err-bytes.field-0.0)

pub returns-clause-got : goal.returns-clause-got
returns-clause-got g c = record { tells = c.in_ok-bytes.ensures.bytes; short = search rules; are_bytes = c.are_bytes.ensures }

pub returns-in_err-bytes-clause-gets : goal.returns-in_err-bytes-clause-gets
returns-in_err-bytes-clause-gets g c = λ rest sink disk.
    let p = err_from_is_err_and c.from_residual.result c.from_residual.ensures.1 in
    let e = c.in_err-bytes.ensures in
    rw (p.1, p.2) (one_stopped _ rest (files g.S.Shelf c.args.shelf.now) (files g.S.Shelf c.get.new.self) c.in_err-bytes.field-0.0 sink disk
    (record { files = e.files; bytes = e.bytes; all = e.all; most = e.most; long = e.long; told_long = e.told_long; count = e.count; called = record { calls = e.called; all_calls = e.all_called; gives = e.given }; sure = e.sure }))

pub returns-clause-gets : goal.returns-clause-gets
returns-clause-gets g c = λ rest sink disk.
    let e = c.in_ok-bytes.ensures in
    one_got _ (files g.S.Shelf c.args.shelf.now) (files g.S.Shelf c.get.new.self) c.in_ok-bytes.bytes sink disk
    (record { files = e.files; bytes = e.bytes; all = e.all; most = e.most; long = e.long; told_long = e.told_long; count = e.count; called = record { calls = e.called; all_calls = e.all_called; gives = e.given }; sure = e.sure })
