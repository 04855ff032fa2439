use Rattle.std.proofs.Common.{◌≡◌, ◌+◌, ◌-◌, ◌*◌, refl, arith}
use Rattle.std.specs.Prelude.{slice_index}
use Rattle.std.proofs.lemmas.Result.{err_from_is_err_and}
use Rattle.cvm_outside.proofs.RowsPut.{puts_same}
use Rattle.boot_report.specs.Texts.{memory_row}
use Rattle.boot_report.proofs.TextsInTurn.{rows_none, rows_more, rows_stop, texts-lines}
use Rattle.boot_report.proofs.PagesByLines.{line_is}
use Rattle.boot_report.proofs.memory.put_page.Goals as goal

pub loop-i-init : goal.loop-i-init
loop-i-init g c = rows_none _ _

pub loop-i-preserved : goal.loop-i-preserved
loop-i-preserved g c =
    let size : 64 * c.loop-i.i + 64 - 64 * c.loop-i.i ≡ 64 = omega arith in
    rows_more _ _ _ _ _ _ _ refl c.loop-i.invariant (puts_same _ _ _ _ _ (line_is c.args.page c.loop-i.i _ c.args.words.now size) c.in_ok-put_line.ensures)

pub returns-in_err-put_line : goal.returns-in_err-put_line
returns-in_err-put_line g c =
    let size : 64 * c.loop-i.i + 64 - 64 * c.loop-i.i ≡ 64 = omega arith in
    let h = err_from_is_err_and c.from_residual.result c.from_residual.ensures.1 in
    rw h.1 (puts_same _ _ _ _ _ (texts-lines (λ i. memory_row (1024 * c.args.page + i) (slice_index c.args.words.now i)) 16)
    (rows_stop _ _ 16 _ _ _ _ c.loop-i-test.true c.loop-i.invariant (puts_same _ _ _ _ _ (line_is c.args.page c.loop-i.i _ c.args.words.now size) c.in_err-put_line.ensures)))

pub returns : goal.returns
returns g c =
    let all : c.loop-i.i ≡ 16 = omega arith in
    puts_same _ _ _ _ _ (texts-lines (λ i. memory_row (1024 * c.args.page + i) (slice_index c.args.words.now i)) 16) (rw all at c.loop-i.invariant)
