-- Two tests side by side, and one over the other; and what a second test goes by.
use Rattle.std.proofs.Common.{◌≡◌, ◌%◌, ◌^◌, length, not, subst, arith}
use Rattle.c0_typed.specs.View.{typed_expr_view}
use Rattle.c0_expr_code.specs.declared.setting.CodeSetting.{CodeSetting}
use Rattle.c0_expr_code.specs.EmitNodeTest.{open_node, test_node}
use Rattle.c0_expr_code.specs.EmitTest.{AppendsTest, StandsUnpatched}
use Rattle.c0_expr_code.specs.Jumps.{Unpatched, behind_unpatched, joined_unpatched}
use Rattle.c0_expr_code.proofs.OutermostPart.{both_test, either_test}
use Rattle.c0_expr_code.specs.SettingIn.{setting_in}
use Rattle.c0_expr_code.proofs.PatchedIsTestCode.{aims}
use Rattle.c0_expr_code.proofs.UnpatchedTests.{over_it, then, there}
use Rattle.c0_expr_code.proofs.test.+testing.Goals as goal

pub emit_joined-returns : goal.emit_joined-returns
emit_joined-returns t c =
    subst (λ (s : CodeSetting). AppendsTest c.args.code.now c.emit_test-2.new.code c.args.jumps.now c.emit_test-2.new.jumps (joined_unpatched (open_node c.args.setting.now c.args.left.now c.args.wanted c.args.free) (open_node s c.args.right.now c.args.wanted c.args.free)) c.emit_test-2.result) c.told-behind.ensures
    (then c.emit_test-2.result c.args.code.now.items c.emit_test.new.code.items c.emit_test-2.new.code.items c.args.jumps.now.items c.emit_test.new.jumps.items c.emit_test-2.new.jumps.items
    (open_node c.args.setting.now c.args.left.now c.args.wanted c.args.free) (open_node c.told-behind.result c.args.right.now c.args.wanted c.args.free) c.in_ok-emit_test.ensures c.emit_test-2.ensures)

pub emit_over-patch_all-requires-clause-jumps : goal.emit_over-patch_all-requires-clause-jumps
emit_over-patch_all-requires-clause-jumps t c =
    let st = setting_in c.args.setting.now in
    let s = not c.args.wanted in
    there (open_node c.args.setting.now c.args.left.now s c.args.free) (open_node c.told-behind.result c.args.right.now c.args.wanted c.args.free) (λ far. test_node c.args.setting.now c.args.left.now s far c.args.free)
    (aims st (typed_expr_view c.args.left.now) s c.args.free)
    c.args.code.now.items c.emit_test.new.code.items c.emit_test-2.new.code.items c.new-over.result.items c.emit_test.new.jumps.items c.args.jumps.now.items c.emit_test-2.new.jumps.items c.deref.result.now
    c.new-over.ensures.items c.in_ok-emit_test.ensures c.in_ok-emit_test-2.ensures c.deref.ensures.value

pub emit_over-returns : goal.emit_over-returns
emit_over-returns t c =
    let st = setting_in c.args.setting.now in
    let s = not c.args.wanted in
    let to : c.len-end.result ≡ length c.emit_test-2.new.code.items = omega (arith, c.len-end.ensures) in
    subst (λ (s : CodeSetting). StandsUnpatched c.args.code.now.items c.patch_all.new.code.items c.args.jumps.now.items c.emit_test-2.new.jumps.items (behind_unpatched (test_node c.args.setting.now c.args.left.now (not c.args.wanted) (length (open_node s c.args.right.now c.args.wanted c.args.free).code % 2 ^ 16) c.args.free) (open_node s c.args.right.now c.args.wanted c.args.free))) c.told-behind.ensures
    (over_it (open_node c.args.setting.now c.args.left.now s c.args.free) (open_node c.told-behind.result c.args.right.now c.args.wanted c.args.free) (λ far. test_node c.args.setting.now c.args.left.now s far c.args.free)
    (aims st (typed_expr_view c.args.left.now) s c.args.free)
    c.args.code.now.items c.emit_test.new.code.items c.emit_test-2.new.code.items c.new-over.result.items c.emit_test.new.jumps.items c.args.jumps.now.items c.emit_test-2.new.jumps.items c.deref.result.now
    c.new-over.ensures.items c.in_ok-emit_test.ensures c.in_ok-emit_test-2.ensures c.deref.ensures.value
    c.patch_all.new.code.items c.len-end.result to (omega arith) c.patch_all.ensures)

pub emit_test-returns-in-Both : goal.emit_test-returns-in-Both
emit_test-returns-in-Both t c =
    let e = both_test c.args.setting.now c.args.expr.now c.deref-in-Both.result.now c.deref-in-Both-2.result.now _ _ c.args.wanted c.args.free c.in-Both.is c.deref-in-Both.ensures c.deref-in-Both-2.ensures in
    subst (λ (x : Unpatched). AppendsTest c.args.code.now c.emit_both.new.code c.args.jumps.now c.emit_both.new.jumps x c.emit_both.result) e c.emit_both.ensures

pub emit_test-returns-in-Either : goal.emit_test-returns-in-Either
emit_test-returns-in-Either t c =
    let e = either_test c.args.setting.now c.args.expr.now c.deref-in-Either.result.now c.deref-in-Either-2.result.now _ _ c.args.wanted c.args.free c.in-Either.is c.deref-in-Either.ensures c.deref-in-Either-2.ensures in
    subst (λ (x : Unpatched). AppendsTest c.args.code.now c.emit_both-in-Either.new.code c.args.jumps.now c.emit_both-in-Either.new.jumps x c.emit_both-in-Either.result) e c.emit_both-in-Either.ensures
