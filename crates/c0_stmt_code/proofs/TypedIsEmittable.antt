-- What is typed by numbers meets the demands of the emitters.
use Rattle.std.proofs.Common.{◌≡◌, ℕ, ◌≤◌, List, [], ◌∷◌, length, refl, arith}
use Rattle.std.specs.Prelude.{Some, slice_get}
use Rattle.std.specs.List.{All}
use Rattle.std.proofs.lemmas.List.Elements.{All-nil, All-cons}
use Rattle.c0_tree.specs.Primitives.{CPrimitive}
use Rattle.c0_tree.specs.Size.{need, args_need}
use Rattle.c0_tree.specs.Tree.{CExpr, CStmt, CStmts, CBody, code, asm, CFunction, CUnit}
use Rattle.c0_meaning.specs.Env.{Env}
use Rattle.c0_meaning.specs.Numbered.{IsNumbered, an_assignment, a_call, an_object, a_choice, a_loop, AreNumbered, no_statement, a_statement, NumbersTell}
use Rattle.c0_meaning.specs.Typed.{UnitsAreFaultless}
use Rattle.c0_meaning.specs.Unit.{IsWellFormed}
use Rattle.c0_stmt_code.specs.Emit.{IsEmittable, AreEmittable, IsEmittableBody, IsEmittableFunction}
use Rattle.c0_stmt_code.proofs.PremisesOfFunctions.{FunctionsAre, functions_are}

-- each argument needs no more than all of them
args_fit : (es : List CExpr) → args_need es ≤ 12 → All (λ e. need e ≤ 12) es
args_fit [] k = All-nil (λ e. need e ≤ 12)
args_fit (e ∷ es) k = All-cons (λ e. need e ≤ 12) e es (omega (arith, k)) (args_fit es (omega (arith, k)))

module _ (env : Env) where
  mutual
    emittable : (s : CStmt) → IsNumbered env s → IsEmittable s
    emittable _ (an_assignment {s} {p} {v} {t} left given room) = (omega (arith, room), omega (arith, room))
    emittable _ (a_call {s} {cs} {p} {f} {args} {c} found left given room) = (omega (arith, room), args_fit args (omega (arith, room)))
    emittable _ (an_object {s} {ts} {p} {t} left declared resolved room) = omega (arith, room)
    emittable _ (a_choice {s} {t} {a} {b} test first second) = (test.shallow, all_emittable a first, all_emittable b second)
    emittable _ (a_loop {s} {t} {b} test body) = (test.shallow, all_emittable b body)

    all_emittable : (ss : CStmts) → AreNumbered env ss → AreEmittable ss
    all_emittable _ no_statement = tt
    all_emittable _ (a_statement {s} {rest} h hs) = (emittable s h, all_emittable rest hs)

-- the functions of a unit that is well formed
pub function_emittable : NumbersTell → UnitsAreFaultless → (primitives : List CPrimitive) (u : CUnit) → IsWellFormed primitives u
    → (n : ℕ) (f : CFunction) → slice_get u.functions n ≡ Some f → IsEmittableFunction f
function_emittable numbers faultless primitives u well n f is =
    record { body = body f.body refl; few = are.few n f is }
  where
    are : FunctionsAre primitives u
    are = functions_are numbers faultless primitives u well

    body : (b : CBody) → f.body ≡ b → IsEmittableBody (length f.params) b
    body (code locals stmts answer) e = let typed = are.typed n f locals stmts answer is e in (all_emittable _ stmts typed.0, typed.1.shallow)
    body (asm text span words) e = let asms = are.asms n f text span words is e in (asms.1, asms.3)
