use Rattle.std.proofs.Common.{◌∙◌, Err, arith}
use Rattle.std.proofs.lemmas.Bool.Decides.{nat_tests}
use Rattle.std.proofs.lemmas.Result.{err_from_is_err_and}
use Rattle.boot_image.proofs.OneUserMore.{users_more, users_end, users_go_on}
use Rattle.boot_image.proofs.reading.users_are_whole.Goals as goal

pub returns-in_err-others : goal.returns-in_err-others
returns-in_err-others c =
    let p = err_from_is_err_and c.from_residual.result c.from_residual.ensures.1 in
    rw (p.1, p.2)
    (c.loop-count.invariant.left ∙ users_more c.loop-count.position c.loop-count.count-index c.from-size.result c.args.counts.now c.loop-count.rest.now (Err c.in_err-others.field-0.0) c.loop-count-test.true c.from-size.ensures c.in_err-others.ensures.is)

pub loop-count-preserved : goal.loop-count-preserved
loop-count-preserved c = record {
  small = omega (arith, c.loop-count.invariant.small, c.from-size.type_inv);
  left = c.loop-count.invariant.left ∙ users_more c.loop-count.position c.loop-count.count-index c.from-size.result c.args.counts.now c.loop-count.rest.now _ c.loop-count-test.true c.from-size.ensures c.in_ok-others.ensures.is;
}

pub returns-then-is_empty : goal.returns-then-is_empty
returns-then-is_empty c = c.loop-count.invariant.left ∙ users_end c.loop-count.position c.loop-count.count-index c.args.counts.now c.loop-count.rest.now (omega (arith, c.loop-count-test.false)) (let e = c.is_empty.ensures in let f = c.if-is_empty.true in grind (arith, nat_tests))

pub returns-else-is_empty : goal.returns-else-is_empty
returns-else-is_empty c = c.loop-count.invariant.left ∙ users_go_on c.loop-count.position c.loop-count.count-index c.args.counts.now c.loop-count.rest.now (omega (arith, c.loop-count-test.false)) (let e = c.is_empty.ensures in let f = c.if-is_empty.false in grind (arith, nat_tests))
