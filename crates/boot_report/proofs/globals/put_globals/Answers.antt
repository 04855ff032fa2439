use Rattle.std.proofs.Common.{◌≡◌, ◌+◌, ◌*◌, ◌/◌, ◌≤◌, length, refl, ap, ◌∙◌, arith}
use Rattle.std.specs.Prelude.{slice_index}
use Rattle.std.proofs.lemmas.Result.{err_from_is_err_and}
use Rattle.std.proofs.lemmas.List.{take_all}
use Rattle.layer_map.specs.Map.{globals_at}
use Rattle.cvm_outside.proofs.RowsPut.{puts_none}
use Rattle.boot_report.proofs.GlobalsInTurn.{one_more, one_stops}
use Rattle.boot_report.proofs.globals.put_globals.Goals as goal

pub loop-i-init : goal.loop-i-init
loop-i-init g c = puts_none _

pub loop-i-preserved : goal.loop-i-preserved
loop-i-preserved g c =
    let place : 4 * (c.globals-first.result / 4 + slice_index c.args.offsets.now c.loop-i.i) / 4 ≡ globals_at c.args.map.now + slice_index c.args.offsets.now c.loop-i.i = omega arith in
    one_more _ _ _ _ _ _ _ c.requires.many (omega arith) c.index-decls-i.is (c.word-word.ensures ∙ ap (slice_index c.args.machine.now.hardware.memory) place) _ _ _ c.loop-i.invariant _ _ refl c.in_ok-put_global.ensures

pub returns-in_err-put_global : goal.returns-in_err-put_global
returns-in_err-put_global g c =
    let place : 4 * (c.globals-first.result / 4 + slice_index c.args.offsets.now c.loop-i.i) / 4 ≡ globals_at c.args.map.now + slice_index c.args.offsets.now c.loop-i.i = omega arith in
    let h = err_from_is_err_and c.from_residual.result c.from_residual.ensures.1 in
    rw h.1 (one_stops _ _ _ _ _ _ _ c.requires.many (omega arith) c.index-decls-i.is (c.word-word.ensures ∙ ap (slice_index c.args.machine.now.hardware.memory) place) _ _ _ c.loop-i.invariant _ c.in_err-put_global.ensures)

pub returns : goal.returns
returns g c =
    let few : length c.args.decls.now ≤ c.loop-i.i = omega arith in
    rw (take_all c.loop-i.i c.args.decls.now few) at c.loop-i.invariant
