-- The parts were found, or the first fault; and that is the answer.
use Rattle.std.proofs.lemmas.Result.{err_from_is_err_and}
use Rattle.std.proofs.Common.{Err}
use Rattle.boot_image.proofs.AnswersByFound.{answered_parts, gives_fault, gives_memory, gives_image}
use Rattle.boot_image.proofs.reading.image_in.Goals as goal

pub returns-in_err-source : goal.returns-in_err-source
returns-in_err-source c =
    let p = err_from_is_err_and c.from_residual.result c.from_residual.ensures.1 in
    rw (p.1, p.2) (gives_fault _ c.in_err-source.field-0.0 (answered_parts c.args.header.now c.args.counts.now c.args.bytes.now (Err c.in_err-source.field-0.0) c.in_err-source.ensures.is))

pub returns-in_err-from_slice : goal.returns-in_err-from_slice
returns-in_err-from_slice c =
    let p = err_from_is_err_and c.from_residual-in_err-from_slice.result c.from_residual-in_err-from_slice.ensures.1 in
    rw (p.1, p.2) (gives_memory _ _ (answered_parts c.args.header.now c.args.counts.now c.args.bytes.now _ c.in_ok-source.ensures.is))

pub returns-in_err-read_words : goal.returns-in_err-read_words
returns-in_err-read_words c =
    let p = err_from_is_err_and c.from_residual-in_err-read_words.result c.from_residual-in_err-read_words.ensures.1 in
    rw (p.1, p.2) (gives_memory _ _ (answered_parts c.args.header.now c.args.counts.now c.args.bytes.now _ c.in_ok-source.ensures.is))

pub returns-in_err-users_in : goal.returns-in_err-users_in
returns-in_err-users_in c =
    let p = err_from_is_err_and c.from_residual-in_err-users_in.result c.from_residual-in_err-users_in.ensures.1 in
    rw (p.1, p.2) (gives_memory _ _ (answered_parts c.args.header.now c.args.counts.now c.args.bytes.now _ c.in_ok-source.ensures.is))

pub returns : goal.returns
returns c =
    rw (c.in_ok-from_slice.ensures.items, c.in_ok-read_words.ensures.words, c.in_ok-users_in.ensures)
    (gives_image _ _ (answered_parts c.args.header.now c.args.counts.now c.args.bytes.now _ c.in_ok-source.ensures.is))
