-- What the emitters of typed expressions say of the code that they append.
use Rattle.std.specs.Prelude.{ℕ, ◌∷◌, ◌++◌, [], Bool, not, List}
use Rattle.mips_table.specs.declared.inst.Inst.{Inst}
use Rattle.mips_table.specs.declared.inst.Inst.TheVariants.{Div}
use Rattle.c0_tree.specs.declared.tree.BinaryOp.{BinaryOp}
use Rattle.c0_typed.specs.declared.tree.Elements.{Elements}
use Rattle.c0_typed.specs.declared.tree.TypedExpr.{TypedExpr}
use Rattle.c0_typed.specs.View.{typed_expr_view}
use Rattle.c0_expr_code.specs.declared.setting.CodeSetting.{CodeSetting}
use Rattle.c0_expr_code.specs.Code.{AddressingMode, Immediate, Made, immediate_of, is_never_zero, logic_code, one_code, operator_code, operator_made, two_code}
use Rattle.c0_expr_code.specs.Emit.{code_with, held_code, logic_skip, taken_inst}
use Rattle.c0_expr_code.specs.Facts.{is_sure_pointer}
use Rattle.c0_expr_code.specs.Node.{divisor_test, element_place, target_place}
use Rattle.c0_expr_code.specs.FrameSetting.{FrameSetting}
use Rattle.c0_expr_code.specs.SettingIn.{node_in, setting_in, setting_told}

-- a parameter or local as value
abbrev pub held_node : CodeSetting → TypedExpr → (d r : ℕ) → List Inst
held_node s e d r = held_code s.in_registers (node_in s e).stands ((node_in s e).place r) d r

-- what a pointer points to
abbrev pub target_node : CodeSetting → (pointer : TypedExpr) → ℕ → AddressingMode
target_node s e r = target_place (setting_in s) (is_sure_pointer s.facts (typed_expr_view e)) (node_in s e) r

-- an element whose index is tested
abbrev pub tested_node : CodeSetting → Elements → (place index : TypedExpr) → ℕ → AddressingMode
tested_node s x p i r = element_place (setting_in s) x ((node_in s p).place r) (node_in s i) r

-- one side, and the operator between it and a constant
abbrev pub side_node : CodeSetting → Immediate → TypedExpr → (d r : ℕ) → List Inst
side_node s i e d r = one_code (λ q. code_with i d q) (node_in s e) r

-- both sides, and the operator between them
abbrev pub sides_nodes : CodeSetting → BinaryOp → (left right : TypedExpr) → (d r : ℕ) → List Inst
sides_nodes s o a b d r = two_code (λ q t. operator_code o d q t) (node_in s a) (node_in s b) r

-- an operator whose right side alone may be a constant
abbrev pub plain_nodes : CodeSetting → BinaryOp → (left right : TypedExpr) → Made
plain_nodes s o a b = operator_made (immediate_of o (node_in s b).known) o (node_in s a) (node_in s b)

-- the quotient, or else the remainder, of two registers, of which the right one is tested unless it is known to be other than 0
abbrev pub quotient_code : FrameSetting → (is_quotient untested : Bool) → (d q t : ℕ) → List Inst
quotient_code st b untested d q t = divisor_test st untested t ++ (Div q t ∷ taken_inst b d ∷ [])

-- that of two expressions
abbrev pub quotient_nodes : CodeSetting → (is_quotient : Bool) → (left right : TypedExpr) → (d r : ℕ) → List Inst
quotient_nodes s is_quotient a b d r =
    two_code (λ q t. quotient_code (setting_in s) is_quotient (is_never_zero (node_in s b).known) d q t) (node_in s a) (node_in s b) r

-- `||`, or else `&&`, of two expressions
abbrev pub logic_nodes : CodeSetting → (is_or : Bool) → (left right : TypedExpr) → (d r : ℕ) → List Inst
logic_nodes s is_or a b d r = logic_code (λ k. logic_skip is_or r k) (node_in s a) (node_in (setting_told s a (not is_or)) b) d r
