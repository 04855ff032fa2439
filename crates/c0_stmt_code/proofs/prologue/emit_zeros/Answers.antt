use Rattle.std.proofs.Common.{◌+◌, ◌++◌, Bool, map, ap, ◌∙◌}
use Rattle.mips_table.specs.Encoding.{encoding}
use Rattle.c0_expr_code.specs.SettingIn.{setting_in}
use Rattle.c0_stmt_code.specs.Code.{zero_code}
use Rattle.c0_stmt_code.specs.Emit.{cleared_in}
use Rattle.c0_stmt_code.proofs.PiecesAppended.{appended, zeros_next}
use Rattle.c0_stmt_code.proofs.prologue.emit_zeros.Goals as goal

pub loop-i-preserved : goal.loop-i-preserved
loop-i-preserved c =
    let st = setting_in c.args.setting.now in
    let at = c.args.first + c.loop-i.i in
    appended c.loop-i.code.items c.emit_zero.new.code.items _ _ _ _
    (zeros_next st (cleared_in c.args.body.now) c.args.count c.args.first c.loop-i.i c.loop-i-test.true)
    (c.in_ok-emit_zero.ensures ∙ ap (λ (b : Bool). c.loop-i.code.items ++ map encoding (zero_code st b (c.args.first + c.loop-i.i))) c.is_cleared-cleared.ensures) c.loop-i.invariant
