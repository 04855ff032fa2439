use Rattle.std.proofs.Common.{◌≡◌, ℕ, ◌+◌, ◌++◌, map, ap, ◌∙◌, arith}
use Rattle.mips_table.specs.declared.inst.Inst.TheVariants.{Sw}
use Rattle.mips_table.specs.Encoding.{encoding}
use Rattle.c0_expr_code.specs.Code.{access_code, register_of_variable}
use Rattle.c0_expr_code.specs.SettingIn.{setting_in}
use Rattle.c0_stmt_code.specs.Code.{frame_slot}
use Rattle.c0_stmt_code.proofs.PiecesAppended.{appended, params_next}
use Rattle.c0_stmt_code.proofs.prologue.emit_params.Goals as goal

pub loop-i-preserved : goal.loop-i-preserved
loop-i-preserved c =
    let st = setting_in c.args.setting.now in
    let word : 3 + c.from.result ≡ 3 + c.loop-i.i = ap (λ (k : ℕ). 3 + k) c.from.ensures in
    let register : c.register_behind-register.result ≡ register_of_variable c.loop-i.i =
    c.register_behind-register.ensures ∙ ap register_of_variable (omega arith) in
    appended c.loop-i.code.items c.emit_word.new.code.items _ _ _ _ (params_next st c.args.count c.loop-i.i c.loop-i-test.true)
    (c.in_ok-emit_word.ensures
    ∙ ap (λ (f : ℕ). c.loop-i.code.items ++ map encoding (access_code (λ b k. Sw c.register_behind-register.result b k) f (frame_slot st (3 + c.from.result)))) c.new.ensures
    ∙ ap (λ (r : ℕ). c.loop-i.code.items ++ map encoding (access_code (λ b k. Sw r b k) 1 (frame_slot st (3 + c.from.result)))) register
    ∙ ap (λ (w : ℕ). c.loop-i.code.items ++ map encoding (access_code (λ b k. Sw (register_of_variable c.loop-i.i) b k) 1 (frame_slot st w))) word) c.loop-i.invariant
