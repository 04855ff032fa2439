-- The last word is the branch.
use Rattle.c0_tree.specs.declared.tree.BinaryOp.TheVariants.{Eq}
use Rattle.c0_expr_code.specs.EmitNodeTest.{registers_node}
use Rattle.c0_expr_code.specs.SettingIn.{node_in}
use Rattle.c0_expr_code.proofs.UnpatchedTests.{last, not_none, some_equality}
use Rattle.c0_expr_code.proofs.test.emit_equality_test.Goals as goal

pub note_last-requires : goal.note_last-requires
note_last-requires c =
    not_none c.args.code.now.items c.emit_equality.new.code.items c.deref.result.now (registers_node c.args.setting.now Eq c.args.left.now c.args.right.now c.args.wanted c.args.free)
    (some_equality (node_in c.args.setting.now c.args.left.now) (node_in c.args.setting.now c.args.right.now) c.args.wanted c.args.free) c.in_ok-emit_equality.ensures c.deref.ensures.value

pub returns : goal.returns
returns c =
    last c.note_last.result c.args.code.now.items c.emit_equality.new.code.items c.deref.result.now c.args.jumps.now.items c.note_last.new.jumps.items (registers_node c.args.setting.now Eq c.args.left.now c.args.right.now c.args.wanted c.args.free)
    (some_equality (node_in c.args.setting.now c.args.left.now) (node_in c.args.setting.now c.args.right.now) c.args.wanted c.args.free) c.in_ok-emit_equality.ensures c.deref.ensures.value c.note_last.ensures
