-- The answer's place is found behind the call.
use Rattle.std.proofs.Common.{◌≡◌, ◌++◌, ◌∷◌, [], ℕ, map, ap, ◌∙◌, subst}
use Rattle.mips_table.specs.declared.inst.Inst.TheVariants.{Jal}
use Rattle.mips_table.specs.Encoding.{encoding}
use Rattle.c0_typed.specs.View.{typed_expr_view}
use Rattle.c0_expr_code.specs.declared.facts.Facts.{Facts}
use Rattle.c0_expr_code.specs.declared.setting.CodeSetting.{CodeSetting}
use Rattle.c0_expr_code.specs.Emit.{Appends}
use Rattle.c0_expr_code.specs.Facts.{facts_called}
use Rattle.c0_expr_code.specs.SettingIn.{setting_in, setting_with}
use Rattle.c0_stmt_code.specs.Code.{callee_index, links_of}
use Rattle.c0_stmt_code.specs.TypedCode.{typed_answer, typed_args}
use Rattle.c0_stmt_code.proofs.PiecesAppended.{three_appended}
use Rattle.c0_stmt_code.proofs.acts.emit_call.Goals as goal

pub returns : goal.returns
returns c =
    let behind : c.with-behind.result ≡ setting_with c.args.setting.now (facts_called c.args.setting.now.facts) = c.with-behind.ensures ∙ ap (λ (f : Facts). setting_with c.args.setting.now f) c.called.ensures in
    let P : CodeSetting → Type 0 = λ s. Appends c.emit.new.code.items c.emit_answer.new.code.items (typed_answer (setting_in s) (typed_expr_view c.args.place.now)) c.emit_answer.result in
    three_appended c.args.code.now.items c.emit_args.new.code.items c.emit.new.code.items c.emit_answer.new.code.items (typed_args (setting_in c.args.setting.now) (map typed_expr_view c.args.args.now) 0)
    (typed_answer (setting_in (setting_with c.args.setting.now (facts_called c.args.setting.now.facts))) (typed_expr_view c.args.place.now)) (Jal (callee_index (links_of c.args.addresses.now) c.args.kind c.args.number)) c.emit_answer.result
    c.in_ok-emit_args.ensures (c.in_ok-emit.ensures.appended ∙ ap (λ (n : ℕ). c.emit_args.new.code.items ++ encoding (Jal n) ∷ []) c.index_of.ensures.value) (subst P behind c.emit_answer.ensures)
