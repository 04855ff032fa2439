-- A line goes on with the rows and the first fault, or its fault is the first of the text.
use Rattle.std.proofs.Common.{◌+◌, take, sym, ap, ◌∙◌, arith}
use Rattle.std.specs.Option.{option_or}
use Rattle.std.proofs.lemmas.Result.{err_from_is_err_and}
use Rattle.cvm_text.specs.Lines.{lines_of}
use Rattle.schedule_file.specs.Schedule.{with_line, first_row_fault}
use Rattle.schedule_file.proofs.OneLineMore.{drop_one, rows_one, fault_one, gives_fault, all_read, zero_is}
use Rattle.schedule_file.proofs.schedule.read.Goals as goal

pub returns-in_err-add : goal.returns-in_err-add
returns-in_err-add c =
    let text = c.args.bytes.now in
    let k = c.loop-rest.number in
    let cut = sym c.loop-rest.invariant.left ∙ c.first_line.ensures.lines in
    let first = sym c.loop-rest.invariant.faults ∙ ap (first_row_fault (take k (lines_of text))) c.first_line.ensures.lines ∙ fault_one (lines_of text) k _ _ cut in
    let p = err_from_is_err_and c.from_residual.result c.from_residual.ensures.1 in
    rw (p.1, p.2) (gives_fault text _ _ _ first (rw c.loop-rest.invariant.rows at c.in_err-add.ensures.fault))

pub loop-rest-preserved : goal.loop-rest-preserved
loop-rest-preserved c =
    let lines = lines_of c.args.bytes.now in
    let k = c.loop-rest.number in
    let cut = sym c.loop-rest.invariant.left ∙ c.first_line.ensures.lines in
    let good = rw c.loop-rest.invariant.rows at c.in_ok-add.ensures.ok.0 in
    record {
      left = sym (drop_one lines k _ _ cut);
      faults =
          sym (ap (λ f. option_or f (first_row_fault (take (k + 1) lines) (lines_of c.first_line.result.1.now))) good)
          ∙ sym (fault_one lines k _ _ cut) ∙ sym (ap (first_row_fault (take k lines)) c.first_line.ensures.lines) ∙ c.loop-rest.invariant.faults;
      rows = c.in_ok-add.ensures.ok.1 ∙ ap (λ rows. with_line rows c.first_line.result.0.now) c.loop-rest.invariant.rows ∙ sym (rows_one lines k _ _ cut);
      count = omega arith;
    }

pub returns : goal.returns
returns c =
    all_read c.args.bytes.now c.loop-rest.rest.now c.loop-rest.number c.loop-rest.schedule (zero_is _ (sym c.is_empty.ensures ∙ c.loop-rest-test.false))
    c.loop-rest.invariant.left c.loop-rest.invariant.faults c.loop-rest.invariant.rows
