-- The setting that the emitters are lent, and the code of a typed tree in it.
use Rattle.std.specs.Prelude.{◌/◌, Bool, slice_index}
use Rattle.c0_typed.specs.declared.tree.TypedExpr.{TypedExpr}
use Rattle.c0_typed.specs.View.{typed_expr_view}
use Rattle.c0_expr_code.specs.declared.setting.CodeSetting.{CodeSetting}
use Rattle.c0_expr_code.specs.Code.{Made}
use Rattle.c0_expr_code.specs.Exits.{exits_of}
use Rattle.c0_expr_code.specs.declared.facts.Facts.{Facts}
use Rattle.c0_expr_code.specs.Facts.{facts_told}
use Rattle.c0_expr_code.specs.Node.{node_made}
use Rattle.c0_expr_code.specs.Scope.{exit_number}
use Rattle.c0_expr_code.specs.FrameSetting.{FrameSetting}

-- the setting
abbrev pub setting_in : CodeSetting → FrameSetting
setting_in s = record {
  in_registers = s.in_registers;
  frame = s.frame;
  exit = λ fault. slice_index (exits_of s.exits) (exit_number fault) / 4;
  facts = s.facts;
}

-- the code, place and constant of a typed expression
abbrev pub node_in : CodeSetting → TypedExpr → Made
node_in s e = node_made (setting_in s) (typed_expr_view e)

-- the setting with other facts, and where a test came out so
abbrev pub setting_with : CodeSetting → Facts → CodeSetting
setting_with s fs = record { in_registers = s.in_registers; frame = s.frame; exits = s.exits; facts = fs }

abbrev pub setting_told : CodeSetting → TypedExpr → Bool → CodeSetting
setting_told s e b = setting_with s (facts_told (typed_expr_view e) b s.facts)
