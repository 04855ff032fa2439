-- An argument's code is appended, and its register is known no longer to be a parameter's.
use Rattle.c0_typed.specs.declared.tree.TypedExpr.{TypedExpr}
use Rattle.std.proofs.Common.{◌≡◌, ◌++◌, ◌∷◌, ◌+◌, ℕ, drop, map, ap, ◌∙◌, sym, subst, arith}
use Rattle.std.proofs.lemmas.List.{drop_more}
use Rattle.mips_table.specs.Encoding.{encoding}
use Rattle.masm.specs.declared.registers.TheConstants.{EXPRESSIONS}
use Rattle.c0_typed.specs.View.{typed_expr_view}
use Rattle.c0_expr_code.specs.declared.facts.Facts.{Facts}
use Rattle.c0_expr_code.specs.declared.setting.CodeSetting.{CodeSetting}
use Rattle.c0_expr_code.specs.Code.{register_of_variable}
use Rattle.c0_expr_code.specs.Facts.{overwritten}
use Rattle.c0_expr_code.specs.SettingIn.{setting_in, setting_with}
use Rattle.c0_stmt_code.specs.TypedCode.{typed_args, typed_value}
use Rattle.c0_stmt_code.proofs.PiecesAppended.{appended, args_next}
use Rattle.c0_stmt_code.proofs.acts.emit_args.Goals as goal

pub loop-i-preserved : goal.loop-i-preserved
loop-i-preserved c =
    let dropped = drop_more c.args.args.now c.loop-i.i c.index-args-i.result c.loop-i-test.true ∙ ap (λ (x : TypedExpr). x ∷ drop (c.loop-i.i + 1) c.args.args.now) (sym c.index-args-i.is) in
    let register : c.register_behind-register.result ≡ register_of_variable c.loop-i.i = c.register_behind-register.ensures ∙ ap register_of_variable (omega arith) in
    let behind : c.with-here.result ≡ setting_with c.loop-i.here (overwritten c.loop-i.here.facts c.loop-i.i) = c.with-here.ensures ∙ ap (λ (f : Facts). setting_with c.loop-i.here f) c.overwritten.ensures in
    let one = appended c.loop-i.code.items c.emit_value.new.code.items _ _ _ _ (args_next (setting_in c.loop-i.here) c.args.args.now c.loop-i.i c.index-args-i.result dropped)
    (c.in_ok-emit_value.ensures ∙ ap (λ (r : ℕ). c.loop-i.code.items ++ map encoding (typed_value (setting_in c.loop-i.here) (typed_expr_view c.index-args-i.result) r EXPRESSIONS)) register) c.loop-i.invariant in
    subst (λ (s : CodeSetting). c.emit_value.new.code.items ++ map encoding (typed_args (setting_in s) (map typed_expr_view (drop (c.loop-i.i + 1) c.args.args.now)) (c.loop-i.i + 1)) ≡ c.args.code.now.items ++ map encoding (typed_args (setting_in c.args.setting.now) (map typed_expr_view c.args.args.now) 0)) (sym behind) one
