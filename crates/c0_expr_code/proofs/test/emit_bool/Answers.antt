-- The last word is the branch.
use Rattle.c0_expr_code.specs.EmitNodeTest.{bool_node}
use Rattle.c0_expr_code.specs.SettingIn.{node_in}
use Rattle.c0_expr_code.proofs.UnpatchedTests.{last, not_none, some_plain}
use Rattle.c0_expr_code.proofs.test.emit_bool.Goals as goal

pub note_last-requires : goal.note_last-requires
note_last-requires c =
    not_none c.args.code.now.items c.emit_bool_code.new.code.items c.deref.result.now (bool_node c.args.setting.now c.args.expr.now c.args.wanted c.args.free)
    (some_plain (node_in c.args.setting.now c.args.expr.now) c.args.wanted c.args.free) c.in_ok-emit_bool_code.ensures c.deref.ensures.value

pub returns : goal.returns
returns c =
    last c.note_last.result c.args.code.now.items c.emit_bool_code.new.code.items c.deref.result.now c.args.jumps.now.items c.note_last.new.jumps.items (bool_node c.args.setting.now c.args.expr.now c.args.wanted c.args.free)
    (some_plain (node_in c.args.setting.now c.args.expr.now) c.args.wanted c.args.free) c.in_ok-emit_bool_code.ensures c.deref.ensures.value c.note_last.ensures
