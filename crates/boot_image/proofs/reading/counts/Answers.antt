use Rattle.std.proofs.Common.{◌+◌, ◌-◌, ◌∙◌, List, ℕ, Ok, Err, sym, ap, arith}
use Rattle.std.proofs.lemmas.Result.{err_from_is_err_and}
use Rattle.boot_image.specs.Reading.{counts_at}
use Rattle.boot_image.proofs.OneUserMore.{counts_more, counts_end}
use Rattle.boot_image.proofs.reading.counts.Goals as goal

pub returns-in_err-count : goal.returns-in_err-count
returns-in_err-count c =
    let p = err_from_is_err_and c.from_residual.result c.from_residual.ensures.1 in
    rw (p.1, p.2)
    (c.loop-user.invariant.left ∙ counts_more c.loop-user.counts.items c.args.most c.args.users c.loop-user.user c.loop-user.rest.now (Err c.in_err-count.field-0.0) c.loop-user-test.true c.loop-user.invariant.counted c.in_err-count.ensures.is)

pub loop-user-preserved : goal.loop-user-preserved
loop-user-preserved c = record {
  counted = omega (arith, c.push.ensures.len, c.loop-user.invariant.counted);
  left =
      c.loop-user.invariant.left
      ∙ counts_more c.loop-user.counts.items c.args.most c.args.users c.loop-user.user c.loop-user.rest.now (Ok (c.in_ok-count.count, c.in_ok-count.others.now)) c.loop-user-test.true c.loop-user.invariant.counted c.in_ok-count.ensures.is
      ∙ ap (λ (l : List ℕ). counts_at l c.args.most (c.args.users - (c.loop-user.user + 1)) c.in_ok-count.others.now) (sym c.push.ensures.items);
}

pub returns : goal.returns
returns c = c.loop-user.invariant.left ∙ counts_end c.loop-user.counts.items c.args.most c.args.users c.loop-user.user c.loop-user.rest.now (omega (arith, c.loop-user-test.false))
