-- The fields and parts were found, or the first fault; and that is so of the bytes, and nothing else is.
use Rattle.std.proofs.Common.{arith}
use Rattle.std.proofs.lemmas.Result.{err_from_is_err_and}
use Rattle.object_file.proofs.EveryAnswer.{fault_so, fault_only, object_so, object_only, memory_only}
use Rattle.object_file.proofs.reading.read.Goals as goal

pub returns-in_err-source-clause-answer : goal.returns-in_err-source-clause-answer
returns-in_err-source-clause-answer c =
    let p = err_from_is_err_and c.from_residual.result c.from_residual.ensures.1 in
    rw (p.1, p.2) (fault_so c.args.bytes.now (λ i. omega (arith, c.type_inv.bytes i)) c.in_err-source.field-0.0 c.in_err-source.ensures.header)

pub returns-in_err-source-clause-only : goal.returns-in_err-source-clause-only
returns-in_err-source-clause-only c =
    let p = err_from_is_err_and c.from_residual.result c.from_residual.ensures.1 in
    rw (p.1, p.2) (fault_only c.args.bytes.now c.in_err-source.field-0.0 c.in_err-source.ensures.header)

pub returns-in_err-from_slice-clause-only : goal.returns-in_err-from_slice-clause-only
returns-in_err-from_slice-clause-only c =
    let p = err_from_is_err_and c.from_residual-in_err-from_slice.result c.from_residual-in_err-from_slice.ensures.1 in
    rw (p.1, p.2) (memory_only c.args.bytes.now c.in_ok-source.source.now c.in_ok-source.words.now c.in_ok-source.ensures.header)

pub returns-in_err-read_words-clause-only : goal.returns-in_err-read_words-clause-only
returns-in_err-read_words-clause-only c =
    let p = err_from_is_err_and c.from_residual-in_err-read_words.result c.from_residual-in_err-read_words.ensures.1 in
    rw (p.1, p.2) (memory_only c.args.bytes.now c.in_ok-source.source.now c.in_ok-source.words.now c.in_ok-source.ensures.header)

pub returns-clause-answer : goal.returns-clause-answer
returns-clause-answer c =
    rw (c.in_ok-from_slice.ensures.items, c.in_ok-read_words.ensures.words) (object_so c.args.bytes.now (λ i. omega (arith, c.type_inv.bytes i)) c.in_ok-source.source.now c.in_ok-source.words.now c.in_ok-source.ensures.header)

pub returns-clause-only : goal.returns-clause-only
returns-clause-only c =
    rw (c.in_ok-from_slice.ensures.items, c.in_ok-read_words.ensures.words) (object_only c.args.bytes.now c.in_ok-source.source.now c.in_ok-source.words.now c.in_ok-source.ensures.header)
