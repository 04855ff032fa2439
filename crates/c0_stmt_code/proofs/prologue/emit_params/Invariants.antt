-- What stands, and the stores that are to come, are all that is to stand.
use Rattle.std.proofs.Common.{◌≡◌, ◌-◌, ◌++◌, map}
use Rattle.mips_table.specs.Encoding.{encoding}
use Rattle.c0_expr_code.specs.SettingIn.{setting_in}
use Rattle.c0_stmt_code.specs.Code.{params_code}
use Rattle.c0_stmt_code.proofs.prologue.emit_params.Given as goal

abbrev pub invariant-loop-i : goal.invariant-loop-i
invariant-loop-i l =
    l.code.items ++ map encoding (params_code (setting_in l.setting) (l.count - l.i) l.i) ≡ l.initial.code.items ++ map encoding (params_code (setting_in l.setting) l.count 0)
