-- What stands, and the code of the arguments that are to come, are all that is to stand.
use Rattle.std.proofs.Common.{◌≡◌, ◌++◌, drop, map}
use Rattle.mips_table.specs.Encoding.{encoding}
use Rattle.c0_typed.specs.View.{typed_expr_view}
use Rattle.c0_expr_code.specs.SettingIn.{setting_in}
use Rattle.c0_stmt_code.specs.TypedCode.{typed_args}
use Rattle.c0_stmt_code.proofs.acts.emit_args.Given as goal

abbrev pub invariant-loop-i : goal.invariant-loop-i
invariant-loop-i l =
    l.code.items ++ map encoding (typed_args (setting_in l.here) (map typed_expr_view (drop l.i l.args)) l.i) ≡ l.initial.code.items ++ map encoding (typed_args (setting_in l.setting) (map typed_expr_view l.args) 0)
