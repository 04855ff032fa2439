use Rattle.std.proofs.Common.{ℕ, ◌+◌, ◌<◌, ◌++◌, Bool, length, map, ap, ◌∙◌, arith}
use Rattle.mips_table.specs.Encoding.{encoding}
use Rattle.c0_stmt_code.specs.Code.{clear_one}
use Rattle.c0_stmt_code.specs.Emit.{cleared_in}
use Rattle.c0_stmt_code.proofs.PiecesAppended.{appended, clear_next}
use Rattle.c0_stmt_code.proofs.prologue.emit_clear.Goals as goal

pub loop-i-preserved : goal.loop-i-preserved
loop-i-preserved c =
    let less : c.loop-i.i < length c.args.body.now.locals.items = omega (arith, c.len-i-end.ensures, c.loop-i-test.true) in
    appended c.loop-i.code.items c.emit_clear_one.new.code.items _ _ _ _
    (clear_next (cleared_in c.args.body.now) (length c.args.body.now.locals.items) c.args.first c.loop-i.i less)
    (c.in_ok-emit_clear_one.ensures
    ∙ ap (λ (b : Bool). c.loop-i.code.items ++ map encoding (clear_one b (c.args.first + c.loop-i.i))) (c.is_cleared-cleared.ensures ∙ ap (λ (k : ℕ). cleared_in c.args.body.now (k + c.loop-i.i)) c.from.ensures))
    c.loop-i.invariant
