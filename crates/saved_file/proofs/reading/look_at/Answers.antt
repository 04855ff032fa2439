use Rattle.std.proofs.Common.{Ok, Err, ◌∙◌, sym, length}
use Rattle.std.proofs.lemmas.Result.{err_from_is_err_and}
use Rattle.saved_file.specs.Tests.{head_tests, tests_behind}
use Rattle.saved_file.proofs.TestsInARow.{by_row}
use Rattle.saved_file.proofs.reading.look_at.Goals as goal

pub returns-in_err-head : goal.returns-in_err-head
returns-in_err-head c =
    let p = err_from_is_err_and c.from_residual.result c.from_residual.ensures.1 in
    rw (p.1, p.2) (sym (by_row (length c.args.words.now) (head_tests c.args.sizes.now.frames c.args.sizes.now.users (length c.args.inputs.now) c.args.words.now) (tests_behind c.args.sizes.now.frames c.args.sizes.now.users c.args.sizes.now.pages c.args.turns c.args.bytes c.args.linked.now c.args.words.now) (Err c.in_err-head.field-0.0) (sym c.head.ensures.is ∙ c.in_err-head.was)))

pub returns : goal.returns
returns c = sym (by_row (length c.args.words.now) (head_tests c.args.sizes.now.frames c.args.sizes.now.users (length c.args.inputs.now) c.args.words.now) (tests_behind c.args.sizes.now.frames c.args.sizes.now.users c.args.sizes.now.pages c.args.turns c.args.bytes c.args.linked.now c.args.words.now) (Ok c.in_ok-head.field-0) (sym c.head.ensures.is ∙ c.in_ok-head.was) ∙ sym c.behind.ensures)
