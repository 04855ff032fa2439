-- What is left of the emitters of statements: the arguments of a call, the other branch of an `if`, and the tests, which are patched.
use Rattle.std.proofs.Common.{rules, ◌≡◌, ◌<◌, ◌≤◌, ◌+◌, ◌++◌, ℕ, true, false, List, length, map, max, sym, ap, ◌∙◌, subst, arith, OnOk}
use Rattle.std.specs.Prelude.{All}
use Rattle.c0_typed.specs.declared.tree.TypedExpr.{TypedExpr}
use Rattle.c0_typed.specs.declared.tree.TypedStmt as rust
use Rattle.c0_typed.specs.declared.tree.TypedStmt.{TypedStmt}
use Rattle.c0_typed.specs.declared.tree.TypedStmt.TheFolds as folds
use Rattle.mips_table.specs.Encoding.{encoding}
use Rattle.c0_typed.specs.Size.{typed_need}
use Rattle.c0_typed.specs.Tree.{TStmt, call, loop}
use Rattle.c0_typed.specs.View.{typed_expr_view, typed_stmt_view, typed_stmts_view}
use Rattle.c0_expr_code.specs.declared.facts.Facts.{Facts}
use Rattle.c0_expr_code.specs.declared.setting.CodeSetting.{CodeSetting}
use Rattle.c0_expr_code.specs.Emit.{Appends}
use Rattle.c0_expr_code.specs.SettingIn.{setting_in, setting_told, setting_with}
use Rattle.c0_expr_code.specs.Jumps.{patched}
use Rattle.c0_stmt_code.specs.Code.{links_of}
use Rattle.c0_stmt_code.specs.Behind.{all_changed}
use Rattle.c0_stmt_code.specs.Emit.{skipped_code, while_in}
use Rattle.c0_stmt_code.specs.TypedCode.{typed_otherwise, typed_stmt_code, typed_stmts_code}
use Rattle.c0_stmt_code.specs.TypedFunction.{FitsRegisters}
use Rattle.c0_stmt_code.proofs.TestsGetDistances.{args_stand, otherwise_is, otherwise_fits, from_none, two_longer, jumps_within, choice_words, skipped_long, while_words}
use Rattle.c0_stmt_code.proofs.statement.+statement.Goals.{emit_while-then-start-end, emit_while-else-start-end}
use Rattle.c0_stmt_code.proofs.statement.+statement.Goals as goal

view_call : (k : _) (n : _) (args : _) (p : _) → typed_stmt_view (rust.Call k n args p) ≡ call k n (map typed_expr_view args.items) (typed_expr_view p)
view_call k n args p = search (rules, folds.the_lemmas)

view_while : (e : TypedExpr) (body : _) → typed_stmt_view (rust.While e body) ≡ loop (typed_expr_view e) (typed_stmts_view body.items)
view_while e body = search (rules, folds.the_lemmas)

pub emit_statement-emit_call-requires-clause-args : goal.emit_statement-emit_call-requires-clause-args
emit_statement-emit_call-requires-clause-args t c =
    let same = ap typed_stmt_view c.in-Call.is ∙ view_call c.in-Call.kind c.in-Call.number c.in-Call.args c.in-Call.place in
    let h = subst FitsRegisters same c.requires.stmt in
    let P : List TypedExpr → Type 0 = λ l. All (λ x. typed_need (typed_expr_view x) ≤ 12) l in
    subst P (sym c.deref.ensures.value) (args_stand 12 c.in-Call.args.items h.1)

pub emit_otherwise-returns : goal.emit_otherwise-returns
emit_otherwise-returns t c =
    let is = typed_stmts_code (setting_in c.args.setting.now) (links_of c.args.addresses.now) (typed_stmts_view c.args.no.now) in
    let e = otherwise_is c.args.no.now is (grind arith) in
    subst (λ z. OnOk c.emit_skipped.result (c.emit_skipped.new.code.items ≡ c.args.code.now.items ++ map encoding z)) (sym e) c.emit_skipped.ensures

pub emit_if-patch_all-requires-clause-jumps : goal.emit_if-patch_all-requires-clause-jumps
emit_if-patch_all-requires-clause-jumps t c =
    let st = setting_in c.args.setting.now in
    let e = typed_expr_view c.args.test.now in
    let opened = from_none _ _ _ _ _ c.new-jumps.ensures.items c.in_ok-emit_test.ensures in
    let long = two_longer _ _ _ _ _ c.in_ok-emit_statements.ensures c.in_ok-emit_otherwise.ensures in
    let P : List ℕ → Type 0 = λ l. All (λ j. j < length c.emit_otherwise.new.code.items) l in
    subst P (sym c.deref.ensures.value) (jumps_within c.node_patches_aim.ensures.within st e false c.args.code.now.items c.emit_test.new.code.items c.emit_test.new.jumps.items c.emit_otherwise.new.code.items opened long)

pub emit_if-behind_jump-to-requires : goal.emit_if-behind_jump-to-requires
emit_if-behind_jump-to-requires t c =
    let other = typed_stmts_code (setting_in c.told-2.result) (links_of c.args.addresses.now) (typed_stmts_view c.args.no.now) in
    let long = otherwise_fits c.emit_statements.new.code.items c.emit_otherwise.new.code.items (typed_stmts_view c.args.no.now) other c.in_ok-emit_otherwise.ensures in
    omega (arith, long, c.len-end.ensures)

pub emit_if-patch_all-requires-clause-to : goal.emit_if-patch_all-requires-clause-to
emit_if-patch_all-requires-clause-to t c =
    let other = typed_stmts_code (setting_in c.told-2.result) (links_of c.args.addresses.now) (typed_stmts_view c.args.no.now) in
    let long = otherwise_fits c.emit_statements.new.code.items c.emit_otherwise.new.code.items (typed_stmts_view c.args.no.now) other c.in_ok-emit_otherwise.ensures in
    omega (arith, long, c.len-end.ensures, c.behind_jump-to.ensures)

pub emit_if-returns : goal.emit_if-returns
emit_if-returns t c =
    let st = setting_in c.args.setting.now in
    let yes = setting_in (setting_told c.args.setting.now c.args.test.now true) in
    let no = setting_in (setting_told c.args.setting.now c.args.test.now false) in
    let x = links_of c.args.addresses.now in
    let opened = from_none _ _ _ _ _ c.new-jumps.ensures.items c.in_ok-emit_test.ensures in
    let yes_stand = subst (λ s. c.emit_statements.new.code.items ≡ c.emit_test.new.code.items ++ map encoding (typed_stmts_code (setting_in s) x (typed_stmts_view c.args.yes.now))) c.told.ensures c.in_ok-emit_statements.ensures in
    let no_stand = subst (λ s. c.emit_otherwise.new.code.items ≡ c.emit_statements.new.code.items ++ map encoding (typed_otherwise (typed_stmts_view c.args.no.now) (typed_stmts_code (setting_in s) x (typed_stmts_view c.args.no.now)))) c.told-2.ensures c.in_ok-emit_otherwise.ensures in
    choice_words c.node_patches_aim.ensures.aims st (typed_expr_view c.args.test.now) (typed_stmts_view c.args.no.now) c.args.code.now.items c.emit_test.new.code.items c.emit_statements.new.code.items c.emit_otherwise.new.code.items c.patch_all.new.code.items c.emit_test.new.jumps.items
    (typed_stmts_code yes x (typed_stmts_view c.args.yes.now)) (typed_stmts_code no x (typed_stmts_view c.args.no.now)) c.behind_jump-to.result opened yes_stand no_stand (omega arith) (omega (arith, c.len-end.ensures, c.behind_jump-to.ensures))
    (c.patch_all.ensures ∙ ap (λ l. patched c.behind_jump-to.result l c.emit_otherwise.new.code.items) c.deref.ensures.value)

pub emit_while-patch_all-requires-clause-jumps : goal.emit_while-patch_all-requires-clause-jumps
emit_while-patch_all-requires-clause-jumps t c =
    let st = setting_in c.args.setting.now in
    let e = typed_expr_view c.args.test.now in
    let opened = from_none _ _ _ _ _ c.new-jumps.ensures.items c.in_ok-emit_test.ensures in
    let P : List ℕ → Type 0 = λ l. All (λ j. j < length c.emit_test.new.code.items) l in
    subst P (sym c.deref.ensures.value) (jumps_within c.node_patches_aim.ensures.within st e true c.emit_skipped.new.code.items c.emit_test.new.code.items c.emit_test.new.jumps.items c.emit_test.new.code.items opened (omega arith))

pub emit_while-returns : goal.emit_while-returns
emit_while-returns t c =
    let st = setting_in c.args.setting.now in
    let e = typed_expr_view c.args.test.now in
    let body = typed_stmts_code (setting_in (setting_told c.args.setting.now c.args.test.now true)) (links_of c.args.addresses.now) (typed_stmts_view c.args.body.now) in
    let opened = from_none _ _ _ _ _ c.new-jumps.ensures.items c.in_ok-emit_test.ensures in
    let stand = subst (λ s. c.emit_skipped.new.code.items ≡ c.args.code.now.items ++ map encoding (skipped_code (typed_stmts_code (setting_in s) (links_of c.args.addresses.now) (typed_stmts_view c.args.body.now)))) c.told.ensures c.in_ok-emit_skipped.ensures in
    let long : length c.emit_skipped.new.code.items ≡ length c.args.code.now.items + (length body + 1) = skipped_long c.args.code.now.items c.emit_skipped.new.code.items body stand in
    let at : c.if-start-end.to + max (length body) 1 ≡ length c.emit_skipped.new.code.items = elim c.if-start-end.branch [
      | emit_while-then-start-end w ↦ omega (arith, long, c.len-start.ensures, c.len-end.ensures, w.to-is, w.if-start-end.true)
      | emit_while-else-start-end w ↦ omega (arith, long, c.len-start.ensures, c.len-end.ensures, w.to-is, w.if-start-end.false)
    ] in
    while_words c.node_patches_aim.ensures.aims st e c.args.code.now.items c.emit_skipped.new.code.items c.emit_test.new.code.items c.patch_all.new.code.items c.emit_test.new.jumps.items
    body c.if-start-end.to stand opened (omega arith) at
    (c.patch_all.ensures ∙ ap (λ l. patched c.if-start-end.to l c.emit_test.new.code.items) c.deref.ensures.value)

pub emit_statement-returns-in-While : goal.emit_statement-returns-in-While
emit_statement-returns-in-While t c =
    let same = ap typed_stmt_view c.in-While.is ∙ view_while c.in-While.test c.in-While.body in
    let turning : c.with-turning.result ≡ setting_with c.args.setting.now (all_changed (typed_stmts_view c.in-While.body.items) c.args.setting.now.facts) =
    c.with-turning.ensures ∙ ap (λ (f : Facts). setting_with c.args.setting.now f) (c.all_changed.ensures ∙ ap (λ (l : List TypedStmt). all_changed (typed_stmts_view l) c.args.setting.now.facts) c.deref-in-While.ensures.value) in
    let P : CodeSetting → Type 0 = λ s. Appends c.args.code.now.items c.emit_while.new.code.items (while_in s c.args.addresses.now c.in-While.test c.deref-in-While-2.result.now) c.emit_while.result in
    let Q : List TypedStmt → Type 0 = λ l. Appends c.args.code.now.items c.emit_while.new.code.items (while_in (setting_with c.args.setting.now (all_changed (typed_stmts_view c.in-While.body.items) c.args.setting.now.facts)) c.args.addresses.now c.in-While.test l) c.emit_while.result in
    let R : TStmt → Type 0 = λ s. Appends c.args.code.now.items c.emit_while.new.code.items (typed_stmt_code (setting_in c.args.setting.now) (links_of c.args.addresses.now) s) c.emit_while.result in
    subst R (sym same) (subst Q c.deref-in-While-2.ensures.value (subst P turning c.emit_while.ensures))
