-- A field of the first row that isn't right answers for all, and behind a right row comes the next.
use Rattle.std.proofs.Common.{Ok, Err, ◌++◌, ◌∙◌, sym, length}
use Rattle.std.proofs.lemmas.Result.{err_from_is_err_and}
use Rattle.saved_file.specs.Tests.{first_tests, special_tests, count_tests}
use Rattle.saved_file.proofs.TestsInARow.{by_row}
use Rattle.saved_file.proofs.reading.head.Goals as goal

pub returns-in_err-first-clause-is : goal.returns-in_err-first-clause-is
returns-in_err-first-clause-is c =
    let p = err_from_is_err_and c.from_residual.result c.from_residual.ensures.1 in
    rw (p.1, p.2)
    (sym (by_row (length c.args.words.now) (first_tests c.args.sizes.now.frames c.args.sizes.now.users c.args.words.now) (special_tests c.args.words.now ++ count_tests c.args.inputs c.args.words.now) (Err c.in_err-first.field-0.0) (sym c.first.ensures ∙ c.in_err-first.was)))

pub returns-in_err-specials-clause-is : goal.returns-in_err-specials-clause-is
returns-in_err-specials-clause-is c =
    let p = err_from_is_err_and c.from_residual-in_err-specials.result c.from_residual-in_err-specials.ensures.1 in
    rw (p.1, p.2)
    (sym (by_row (length c.args.words.now) (first_tests c.args.sizes.now.frames c.args.sizes.now.users c.args.words.now) (special_tests c.args.words.now ++ count_tests c.args.inputs c.args.words.now) (Ok c.in_ok-first.field-0) (sym c.first.ensures ∙ c.in_ok-first.was)
    ∙ by_row (length c.args.words.now) (special_tests c.args.words.now) (count_tests c.args.inputs c.args.words.now) (Err c.in_err-specials.field-0.0) (sym c.specials.ensures ∙ c.in_err-specials.was)))

pub returns-clause-is : goal.returns-clause-is
returns-clause-is c =
    sym (by_row (length c.args.words.now) (first_tests c.args.sizes.now.frames c.args.sizes.now.users c.args.words.now) (special_tests c.args.words.now ++ count_tests c.args.inputs c.args.words.now) (Ok c.in_ok-first.field-0) (sym c.first.ensures ∙ c.in_ok-first.was)
    ∙ by_row (length c.args.words.now) (special_tests c.args.words.now) (count_tests c.args.inputs c.args.words.now) (Ok c.in_ok-specials.field-0) (sym c.specials.ensures ∙ c.in_ok-specials.was)
    ∙ sym c.counts.ensures.is)
