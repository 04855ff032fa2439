-- What the emitters say of a typed test's code, whose branches lead nowhere yet.
use Rattle.std.specs.Prelude.{ℕ, ◌%◌, ◌^◌, Bool, not, List, length, None}
use Rattle.mips_table.specs.declared.inst.Inst.{Inst}
use Rattle.c0_tree.specs.declared.tree.BinaryOp.{BinaryOp}
use Rattle.c0_typed.specs.declared.sorted.Order.{Order}
use Rattle.c0_typed.specs.declared.sorted.Plain.{Plain}
use Rattle.c0_typed.specs.Sorted.{order_of}
use Rattle.c0_typed.specs.declared.tree.TypedExpr.{TypedExpr}
use Rattle.c0_typed.specs.View.{typed_expr_view}
use Rattle.c0_expr_code.specs.declared.setting.CodeSetting.{CodeSetting}
use Rattle.c0_expr_code.specs.Code.{one_code}
use Rattle.c0_expr_code.specs.EmitTest.{test_with}
use Rattle.c0_expr_code.specs.Jumps.{Unpatched, UnpatchedTest, behind_unpatched, both_unpatched, joined_unpatched, last_unpatched}
use Rattle.c0_expr_code.specs.Node.{node_test, order_test}
use Rattle.c0_expr_code.specs.NodeJumps.{node_unpatched}
use Rattle.c0_expr_code.specs.SettingIn.{node_in, setting_in, setting_told}
use Rattle.c0_expr_code.specs.Test.{Testing, compare_test, immediate_test, immediate_test_of, plain_test}

-- a test and its open code in a setting
abbrev pub test_node : CodeSetting → TypedExpr → Testing
test_node s e = node_test (setting_in s) (typed_expr_view e)

abbrev pub open_node : CodeSetting → TypedExpr → UnpatchedTest
open_node s e = node_unpatched (setting_in s) (typed_expr_view e)

-- the code of a bool's test
abbrev pub bool_node : CodeSetting → TypedExpr → Bool → ℕ → List Inst
bool_node s e b r = plain_test (node_in s e) b 0 r

-- the code of the test of a side against a constant
abbrev pub constant_node : CodeSetting → BinaryOp → (k : ℕ) → TypedExpr → Bool → ℕ → List Inst
constant_node s o k e b r = one_code (λ q. test_with (immediate_test o k) b 0 q) (node_in s e) r

-- the code of a comparison by an order, whose right side may be a constant
abbrev pub order_node : CodeSetting → BinaryOp → (left right : TypedExpr) → Bool → ℕ → List Inst
order_node s o a c b r = compare_test (immediate_test_of o (node_in s c).known) o (node_in s a) (node_in s c) b 0 r

-- the open code of a comparison by an order
abbrev pub open_order : CodeSetting → Order → (left right : TypedExpr) → Bool → ℕ → Unpatched
open_order s o a c b r = last_unpatched (order_node s (order_of o) a c b r)

-- the code of a comparison of two registers
abbrev pub registers_node : CodeSetting → BinaryOp → (left right : TypedExpr) → Bool → ℕ → List Inst
registers_node s o a c b r = compare_test None o (node_in s a) (node_in s c) b 0 r

-- both tests go to the target where they are b
abbrev pub joined_node : CodeSetting → (left right : TypedExpr) → Bool → ℕ → Unpatched
joined_node s a c b r = joined_unpatched (open_node s a b r) (open_node (setting_told s a (not b)) c b r)

-- the first test goes over the second where it isn't b
abbrev pub over_node : CodeSetting → (left right : TypedExpr) → Bool → ℕ → Unpatched
over_node s a c b r =
    behind_unpatched (test_node s a (not b) (length (open_node (setting_told s a b) c b r).code % 2 ^ 16) r) (open_node (setting_told s a b) c b r)

-- `||` and `&&`: where the first test alone decides for b both go to the target, and else the first goes over the second
abbrev pub logic_node : CodeSetting → (decides : Bool) → (left right : TypedExpr) → Bool → ℕ → Unpatched
logic_node s decides a c b r = both_unpatched decides b (test_node s a) (open_node s a) (open_node (setting_told s a (not decides)) c) r

-- an operator on two registers, where the whole is an expression too
abbrev pub operation_node : CodeSetting → TypedExpr → Plain → (left right : TypedExpr) → Bool → ℕ → Unpatched
operation_node s e o a c b r = last_unpatched (order_test o (node_in s e) (node_in s a) (node_in s c) b 0 r)
