-- The header was found, or the first fault; and what is given behind it is the answer.
use Rattle.std.proofs.Common.{List, ℕ, Ok, Err, sym, ap, ◌∙◌, arith}
use Rattle.std.proofs.lemmas.Result.{err_from_is_err_and}
use Rattle.boot_image.specs.Reading.{image_at}
use Rattle.boot_image.proofs.AnswersByFound.{answer_by, gives_fault, gives_behind}
use Rattle.boot_image.proofs.FormatWords.{gives_only, gives_spelled}
use Rattle.boot_image.proofs.reading.read.Goals as goal

pub returns-in_err-header-clause-is : goal.returns-in_err-header-clause-is
returns-in_err-header-clause-is c =
    let p = err_from_is_err_and c.from_residual.result c.from_residual.ensures.1 in
    rw (p.1, p.2) (gives_fault _ c.in_err-header.field-0.0 (answer_by c.args.bytes.now (Err c.in_err-header.field-0.0) c.in_err-header.ensures.is))

pub returns-clause-is : goal.returns-clause-is
returns-clause-is c =
    gives_behind c.image_in.result _ _
    (answer_by c.args.bytes.now (Ok (c.in_ok-header.header, (c.in_ok-header.counts.items, c.in_ok-header.rest.now))) c.in_ok-header.ensures.is
    ∙ ap (λ (l : List ℕ). image_at c.in_ok-header.header l c.in_ok-header.rest.now) (sym c.deref.ensures.0))
    c.image_in.ensures

pub returns-in_err-header-clause-only : goal.returns-in_err-header-clause-only
returns-in_err-header-clause-only c = gives_only c.args.bytes.now c.from_residual.result (returns-in_err-header-clause-is c)

pub returns-clause-spelled : goal.returns-clause-spelled
returns-clause-spelled c = gives_spelled c.args.bytes.now (λ i. omega (arith, c.type_inv.bytes i)) c.image_in.result (returns-clause-is c)

pub returns-clause-only : goal.returns-clause-only
returns-clause-only c = gives_only c.args.bytes.now c.image_in.result (returns-clause-is c)
