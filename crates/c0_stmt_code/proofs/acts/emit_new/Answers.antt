-- The answer's place is found behind `new`.
use Rattle.std.proofs.Common.{◌≡◌, ◌%◌, ◌^◌, ◌++◌, ℕ, map, ap, ◌∙◌, subst, arith}
use Rattle.mips_table.specs.Encoding.{encoding}
use Rattle.mips_table.specs.declared.inst.Inst.TheVariants.{Jal}
use Rattle.masm.specs.declared.registers.TheConstants.{ANSWER}
use Rattle.c0_typed.specs.View.{typed_expr_view}
use Rattle.c0_expr_code.specs.declared.facts.Facts.{Facts}
use Rattle.c0_expr_code.specs.declared.setting.CodeSetting.{CodeSetting}
use Rattle.c0_expr_code.specs.Code.{constant_code}
use Rattle.c0_expr_code.specs.Emit.{Appends}
use Rattle.c0_expr_code.specs.Facts.{renewed}
use Rattle.c0_expr_code.specs.SettingIn.{setting_in, setting_with}
use Rattle.c0_stmt_code.specs.Code.{links_of}
use Rattle.c0_stmt_code.specs.TypedCode.{typed_answer}
use Rattle.c0_stmt_code.proofs.PiecesAppended.{three_appended}
use Rattle.c0_stmt_code.proofs.acts.emit_new.Goals as goal

pub returns : goal.returns
returns c =
    let fits : c.args.words ≡ c.args.words % 2 ^ 32 = omega (arith, c.ranges.words) in
    let behind : c.with-behind.result ≡ setting_with c.args.setting.now (renewed c.args.setting.now.facts) = c.with-behind.ensures ∙ ap (λ (f : Facts). setting_with c.args.setting.now f) c.renewed.ensures in
    let P : CodeSetting → Type 0 = λ s. Appends c.emit.new.code.items c.emit_answer.new.code.items (typed_answer (setting_in s) (typed_expr_view c.args.place.now)) c.emit_answer.result in
    three_appended c.args.code.now.items c.emit_constant.new.code.items c.emit.new.code.items c.emit_answer.new.code.items (constant_code ANSWER (c.args.words % 2 ^ 32))
    (typed_answer (setting_in (setting_with c.args.setting.now (renewed c.args.setting.now.facts))) (typed_expr_view c.args.place.now)) (Jal (links_of c.args.addresses.now).new_object) c.emit_answer.result
    (c.in_ok-emit_constant.ensures.appended ∙ ap (λ (q : ℕ). c.args.code.now.items ++ map encoding (constant_code q c.args.words)) c.new.ensures ∙ ap (λ (n : ℕ). c.args.code.now.items ++ map encoding (constant_code ANSWER n)) fits) c.in_ok-emit.ensures.appended (subst P behind c.emit_answer.ensures)
