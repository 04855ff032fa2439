use Rattle.std.proofs.Common.{Ok, Err, ◌≡◌, ◌∙◌, ◌+◌, ◌-◌, ℕ, sym, ap, length, arith}
use Rattle.std.proofs.lemmas.Result.{err_from_is_err_and}
use Rattle.saved_file.specs.Tests.{size_test, each, all_tried}
use Rattle.saved_file.proofs.TestsInARow.{walk_more, walk_end}
use Rattle.saved_file.proofs.reading.sizes_fit.Goals as goal

pub loop-user-init : goal.loop-user-init
loop-user-init c =
    let same : c.args.sizes.now.users ≡ c.args.sizes.now.users + 1 - 1 = omega arith in
    ap (λ (k : ℕ). all_tried (length c.args.words.now) (each (size_test c.args.sizes.now.frames c.args.sizes.now.pages c.args.words.now) 1 k)) same

pub returns-in_err-size : goal.returns-in_err-size
returns-in_err-size c =
    let p = err_from_is_err_and c.from_residual.result c.from_residual.ensures.1 in
    rw (p.1, p.2)
    (sym (c.loop-user.invariant ∙ walk_more (length c.args.words.now) (size_test c.args.sizes.now.frames c.args.sizes.now.pages c.args.words.now) c.loop-user.user (c.args.sizes.now.users + 1) (Err c.in_err-size.field-0.0) c.loop-user-test.true (sym c.size.ensures ∙ c.in_err-size.was)))

pub loop-user-preserved : goal.loop-user-preserved
loop-user-preserved c =
    c.loop-user.invariant ∙ walk_more (length c.args.words.now) (size_test c.args.sizes.now.frames c.args.sizes.now.pages c.args.words.now) c.loop-user.user (c.args.sizes.now.users + 1) (Ok c.in_ok-size.field-0) c.loop-user-test.true (sym c.size.ensures ∙ c.in_ok-size.was)

pub returns : goal.returns
returns c =
    sym (c.loop-user.invariant ∙ walk_end (length c.args.words.now) (size_test c.args.sizes.now.frames c.args.sizes.now.pages c.args.words.now) c.loop-user.user (c.args.sizes.now.users + 1) (omega (arith, c.loop-user-test.false)))
