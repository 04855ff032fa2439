-- What is proved of the code of typed statements and functions.
use Rattle.std.specs.Prelude.{◌≡◌, ℕ, List, Some, slice_get}
use Rattle.masm.specs.declared.registers.CodeAddresses.{CodeAddresses}
use Rattle.c0_tree.specs.Primitives.{CPrimitive}
use Rattle.c0_tree.specs.Tree.{CFunction, CStmts, CUnit}
use Rattle.c0_meaning.specs.Env.{Env}
use Rattle.c0_meaning.specs.Numbered.{AreNumbered}
use Rattle.c0_meaning.specs.Unit.{IsWellFormed}
use Rattle.c0_typed.specs.Typed.{typed_of_function, typed_of_stmts}
use Rattle.c0_expr_code.specs.declared.facts.Facts.{Facts}
use Rattle.c0_expr_code.specs.Scope.{Scope, exit_of, scope_of}
use Rattle.c0_expr_code.specs.FrameSetting.{frame_setting}
use Rattle.c0_expr_code.specs.Laws.{HaveSameNames}
use Rattle.c0_stmt_code.specs.Code.{Links, function_code, links_of, stmts_code}
use Rattle.c0_stmt_code.specs.TypedCode.{typed_stmts_code}
use Rattle.c0_stmt_code.specs.TypedFunction.{CanEmit, typed_function_code}

-- A law: the code of the typed tree of typed statements is that of the statements. Where they are typed there may be other functions and primitives
-- than in the scope, as the code asks for no type of them.
abbrev pub StatementsAreMade : Type 0
StatementsAreMade = (sc : Scope) (fs : Facts) (x : Links) (env : Env) (ss : CStmts) → HaveSameNames env sc.env → AreNumbered env ss
    → stmts_code sc fs x ss ≡ typed_stmts_code (frame_setting sc fs) x (typed_of_stmts sc.env ss)

-- A law: of each function of a well formed unit the code of the typed tree is that of the function, and the emitter can emit it.
pub record FunctionsAreMade : Type 0 where
  pub codes : (primitives : List CPrimitive) (u : CUnit) (n : ℕ) (f : CFunction) (addresses : CodeAddresses) → IsWellFormed primitives u
      → slice_get u.functions n ≡ Some f
      → function_code (scope_of u f addresses) (links_of addresses) f ≡ typed_function_code (exit_of addresses) (links_of addresses) (typed_of_function u f)
  pub emittable : (primitives : List CPrimitive) (u : CUnit) (n : ℕ) (f : CFunction) → IsWellFormed primitives u → slice_get u.functions n ≡ Some f
      → CanEmit (typed_of_function u f)
