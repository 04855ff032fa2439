use Rattle.std.proofs.Common.{◌≡◌, ◌+◌, ◌<◌, length, refl, sym, ap, arith}
use Rattle.std.proofs.lemmas.Result.{err_from_is_err_and}
use Rattle.cvm_outside.proofs.RowsPut.{puts_none, puts_same}
use Rattle.boot_report.specs.Texts.{memory_row}
use Rattle.boot_report.proofs.TextsInTurn.{rows_none, rows_more, rows_stop, texts-empty}
use Rattle.boot_report.proofs.memory.put_line.Goals as goal

pub returns-then-are_zero : goal.returns-then-are_zero
returns-then-are_zero g c =
    puts_same _ _ _ _ _ (sym (texts-empty _ 64 (λ i l. let inside : i < length c.args.words.now = omega (arith, l, c.requires.whole) in ap (memory_row (c.args.first + i)) (c.are_zero.ensures.0 c.if-are_zero.true i inside)))) (puts_none _)

pub loop-i-init : goal.loop-i-init
loop-i-init g c = rows_none _ _

pub loop-i-preserved : goal.loop-i-preserved
loop-i-preserved g c = rows_more _ _ _ _ _ _ _ refl c.loop-i.invariant c.in_ok-put_word.ensures

pub returns-in_err-put_word : goal.returns-in_err-put_word
returns-in_err-put_word g c =
    let h = err_from_is_err_and c.from_residual.result c.from_residual.ensures.1 in
    rw h.1 (rows_stop _ _ _ _ _ _ _ (omega arith) c.loop-i.invariant c.in_err-put_word.ensures)

pub returns : goal.returns
returns g c = let all : c.loop-i.i ≡ 64 = omega arith in rw all at c.loop-i.invariant
