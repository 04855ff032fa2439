use Rattle.std.proofs.Common.{Ok, Err, ◌∙◌, sym, length, arith}
use Rattle.std.proofs.lemmas.Result.{err_from_is_err_and}
use Rattle.saved_file.specs.Tests.{linked_test}
use Rattle.saved_file.proofs.TestsInARow.{walk_more, walk_end}
use Rattle.saved_file.proofs.reading.links.Goals as goal

pub returns-in_err-link : goal.returns-in_err-link
returns-in_err-link c =
    let p = err_from_is_err_and c.from_residual.result c.from_residual.ensures.1 in
    rw (p.1, p.2)
    (sym (c.loop-position.invariant ∙ walk_more (length c.args.words.now) (linked_test c.args.frames c.args.linked.now c.args.words.now) c.loop-position.position (length c.args.linked.now) (Err c.in_err-link.field-0.0) c.loop-position-test.true (sym c.link.ensures ∙ c.in_err-link.was)))

pub loop-position-preserved : goal.loop-position-preserved
loop-position-preserved c =
    c.loop-position.invariant ∙ walk_more (length c.args.words.now) (linked_test c.args.frames c.args.linked.now c.args.words.now) c.loop-position.position (length c.args.linked.now) (Ok c.in_ok-link.field-0) c.loop-position-test.true (sym c.link.ensures ∙ c.in_ok-link.was)

pub returns : goal.returns
returns c =
    sym (c.loop-position.invariant ∙ walk_end (length c.args.words.now) (linked_test c.args.frames c.args.linked.now c.args.words.now) c.loop-position.position (length c.args.linked.now) (omega (arith, c.loop-position-test.false)))
