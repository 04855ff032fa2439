-- The answer's code is that behind all statements.
use Rattle.std.proofs.Common.{◌≡◌, ◌++◌, List, map, ap, ◌∙◌, subst}
use Rattle.mips_table.specs.Encoding.{encoding}
use Rattle.c0_typed.specs.declared.tree.TypedStmt.{TypedStmt}
use Rattle.c0_typed.specs.View.{typed_expr_view, typed_stmts_view}
use Rattle.c0_expr_code.specs.declared.facts.Facts.{Facts}
use Rattle.c0_expr_code.specs.declared.setting.CodeSetting.{CodeSetting}
use Rattle.c0_expr_code.specs.Emit.{Appends}
use Rattle.c0_expr_code.specs.SettingIn.{setting_in, setting_with}
use Rattle.c0_stmt_code.specs.Behind.{facts_behind_all}
use Rattle.c0_stmt_code.specs.Emit.{entry_in, typed_stmts_in}
use Rattle.c0_stmt_code.specs.TypedFunction.{typed_return}
use Rattle.c0_stmt_code.proofs.PiecesAppended.{pieces_appended}
use Rattle.c0_stmt_code.proofs.function.emit_code.Goals as goal

pub returns : goal.returns
returns c =
    let behind : c.with.result ≡ setting_with c.args.setting.now (facts_behind_all c.args.setting.now.in_registers (typed_stmts_view c.args.body.now.stmts.items) c.args.setting.now.facts) =
    c.with.ensures ∙ ap (λ (f : Facts). setting_with c.args.setting.now f)
    (c.facts_behind_all-facts.ensures ∙ ap (λ (l : List TypedStmt). facts_behind_all c.args.setting.now.in_registers (typed_stmts_view l) c.args.setting.now.facts) c.deref-2.ensures.value) in
    let P : CodeSetting → Type 0 = λ s. Appends c.emit_statements.new.code.items c.emit_return.new.code.items (typed_return (setting_in s) c.args.calling (typed_expr_view c.args.body.now.answer)) c.emit_return.result in
    let Q : List TypedStmt → Type 0 = λ l. c.emit_statements.new.code.items ≡ c.emit_entry.new.code.items ++ map encoding (typed_stmts_in c.args.setting.now c.args.addresses.now l) in
    pieces_appended c.args.code.now.items c.emit_entry.new.code.items c.emit_statements.new.code.items c.emit_return.new.code.items (entry_in c.args.setting.now c.args.body.now c.args.params c.args.calling)
    (typed_stmts_in c.args.setting.now c.args.addresses.now c.args.body.now.stmts.items)
    (typed_return (setting_in (setting_with c.args.setting.now (facts_behind_all c.args.setting.now.in_registers (typed_stmts_view c.args.body.now.stmts.items) c.args.setting.now.facts))) c.args.calling (typed_expr_view c.args.body.now.answer)) c.emit_return.result
    c.in_ok-emit_entry.ensures (subst Q c.deref.ensures.value c.in_ok-emit_statements.ensures) (subst P behind c.emit_return.ensures)
