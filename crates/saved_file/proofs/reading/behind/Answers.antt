-- The first row that isn't passed answers for all, and behind a row that is comes the next.
use Rattle.std.proofs.Common.{Ok, Err, [], ◌∷◌, ◌++◌, ◌∙◌, sym, length}
use Rattle.std.proofs.lemmas.Result.{err_from_is_err_and}
use Rattle.saved_file.specs.Tests.{each, end_test, linked_test, size_test, turns_test}
use Rattle.saved_file.proofs.TestsInARow.{by_row, by_test}
use Rattle.saved_file.proofs.reading.behind.Goals as goal

pub returns-in_err-end : goal.returns-in_err-end
returns-in_err-end c =
    let p = err_from_is_err_and c.from_residual.result c.from_residual.ensures.1 in
    rw (p.1, p.2)
    (sym (by_test (length c.args.words.now) (end_test c.args.sizes.now.frames c.args.bytes c.args.words.now) _ (Err c.in_err-end.field-0.0) (sym c.end.ensures.is ∙ c.in_err-end.was)))

pub returns-in_err-links : goal.returns-in_err-links
returns-in_err-links c =
    let p = err_from_is_err_and c.from_residual-in_err-links.result c.from_residual-in_err-links.ensures.1 in
    rw (p.1, p.2)
    (sym (by_test (length c.args.words.now) (end_test c.args.sizes.now.frames c.args.bytes c.args.words.now) _ (Ok c.in_ok-end.field-0) (sym c.end.ensures.is ∙ c.in_ok-end.was)
    ∙ by_row (length c.args.words.now) (each (linked_test c.args.sizes.now.frames c.args.linked.now c.args.words.now) 0 (length c.args.linked.now)) (each (size_test c.args.sizes.now.frames c.args.sizes.now.pages c.args.words.now) 1 c.args.sizes.now.users ++ turns_test c.args.sizes.now.frames c.args.turns c.args.words.now ∷ []) (Err c.in_err-links.field-0.0) (sym c.links.ensures ∙ c.in_err-links.was)))

pub returns-in_err-sizes_fit : goal.returns-in_err-sizes_fit
returns-in_err-sizes_fit c =
    let p = err_from_is_err_and c.from_residual-in_err-sizes_fit.result c.from_residual-in_err-sizes_fit.ensures.1 in
    rw (p.1, p.2)
    (sym (by_test (length c.args.words.now) (end_test c.args.sizes.now.frames c.args.bytes c.args.words.now) _ (Ok c.in_ok-end.field-0) (sym c.end.ensures.is ∙ c.in_ok-end.was)
    ∙ by_row (length c.args.words.now) (each (linked_test c.args.sizes.now.frames c.args.linked.now c.args.words.now) 0 (length c.args.linked.now)) (each (size_test c.args.sizes.now.frames c.args.sizes.now.pages c.args.words.now) 1 c.args.sizes.now.users ++ turns_test c.args.sizes.now.frames c.args.turns c.args.words.now ∷ []) (Ok c.in_ok-links.field-0) (sym c.links.ensures ∙ c.in_ok-links.was)
    ∙ by_row (length c.args.words.now) (each (size_test c.args.sizes.now.frames c.args.sizes.now.pages c.args.words.now) 1 c.args.sizes.now.users) (turns_test c.args.sizes.now.frames c.args.turns c.args.words.now ∷ []) (Err c.in_err-sizes_fit.field-0.0) (sym c.sizes_fit.ensures ∙ c.in_err-sizes_fit.was)))

pub returns : goal.returns
returns c =
    sym (by_test (length c.args.words.now) (end_test c.args.sizes.now.frames c.args.bytes c.args.words.now) _ (Ok c.in_ok-end.field-0) (sym c.end.ensures.is ∙ c.in_ok-end.was)
    ∙ by_row (length c.args.words.now) (each (linked_test c.args.sizes.now.frames c.args.linked.now c.args.words.now) 0 (length c.args.linked.now)) (each (size_test c.args.sizes.now.frames c.args.sizes.now.pages c.args.words.now) 1 c.args.sizes.now.users ++ turns_test c.args.sizes.now.frames c.args.turns c.args.words.now ∷ []) (Ok c.in_ok-links.field-0) (sym c.links.ensures ∙ c.in_ok-links.was)
    ∙ by_row (length c.args.words.now) (each (size_test c.args.sizes.now.frames c.args.sizes.now.pages c.args.words.now) 1 c.args.sizes.now.users) (turns_test c.args.sizes.now.frames c.args.turns c.args.words.now ∷ []) (Ok c.in_ok-sizes_fit.field-0) (sym c.sizes_fit.ensures ∙ c.in_ok-sizes_fit.was)
    ∙ sym c.turns_are_left.ensures)
