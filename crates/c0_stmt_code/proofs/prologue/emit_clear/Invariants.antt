-- What stands, and the instructions that are to come, are all that is to stand.
use Rattle.std.proofs.Common.{◌≡◌, ◌+◌, ◌-◌, ◌++◌, length, map}
use Rattle.mips_table.specs.Encoding.{encoding}
use Rattle.c0_stmt_code.specs.Code.{clear_code}
use Rattle.c0_stmt_code.specs.Emit.{cleared_in}
use Rattle.c0_stmt_code.proofs.prologue.emit_clear.Given as goal

abbrev pub invariant-loop-i : goal.invariant-loop-i
invariant-loop-i l =
    l.code.items ++ map encoding (clear_code (cleared_in l.body) (length l.body.locals.items - l.i) (l.first + l.i))
    ≡ l.initial.code.items ++ map encoding (clear_code (cleared_in l.body) (length l.body.locals.items) l.first)
