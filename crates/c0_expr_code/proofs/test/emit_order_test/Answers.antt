-- The last word is the branch.
use Rattle.c0_typed.specs.Sorted.{order_of}
use Rattle.c0_expr_code.specs.EmitNodeTest.{order_node}
use Rattle.c0_expr_code.specs.SettingIn.{node_in}
use Rattle.c0_expr_code.proofs.UnpatchedTests.{last, not_none, some_order}
use Rattle.c0_expr_code.proofs.test.emit_order_test.Goals as goal

pub note_last-requires : goal.note_last-requires
note_last-requires c =
    not_none c.args.code.now.items c.emit_order.new.code.items c.deref.result.now (order_node c.args.setting.now (order_of c.args.order) c.args.left.now c.args.right.now c.args.wanted c.args.free)
    (some_order c.args.order (node_in c.args.setting.now c.args.left.now) (node_in c.args.setting.now c.args.right.now) c.args.wanted c.args.free) c.in_ok-emit_order.ensures c.deref.ensures.value

pub returns : goal.returns
returns c =
    last c.note_last.result c.args.code.now.items c.emit_order.new.code.items c.deref.result.now c.args.jumps.now.items c.note_last.new.jumps.items (order_node c.args.setting.now (order_of c.args.order) c.args.left.now c.args.right.now c.args.wanted c.args.free)
    (some_order c.args.order (node_in c.args.setting.now c.args.left.now) (node_in c.args.setting.now c.args.right.now) c.args.wanted c.args.free) c.in_ok-emit_order.ensures c.deref.ensures.value c.note_last.ensures
