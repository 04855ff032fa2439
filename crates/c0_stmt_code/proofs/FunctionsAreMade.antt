-- The code of the typed tree of a function of a well formed unit is that of the function.
use Rattle.std.specs.Prelude.{slice_get}
use Rattle.std.proofs.Common.{◌≡◌, ℕ, List, ◌++◌, length, map, Some, refl, sym}
use Rattle.std.proofs.lemmas.List.{length-map}
use Rattle.masm.specs.declared.registers.CodeAddresses.{CodeAddresses}
use Rattle.masm.specs.declared.registers.TheConstants.{ANSWER, EXPRESSIONS}
use Rattle.c0_tree.specs.Primitives.{CPrimitive}
use Rattle.c0_tree.specs.Tree.{CExpr, CStmts, CBody, code, asm, CDecl, CFunction, CUnit}
use Rattle.c0_meaning.specs.Ty.{Ty, ty_of}
use Rattle.c0_meaning.specs.Env.{Env, env_of}
use Rattle.c0_meaning.specs.Limits.{locals_of}
use Rattle.c0_meaning.specs.Numbered.{AreNumbered, IsNumberedGiven, NumbersTell}
use Rattle.c0_meaning.specs.Typed.{UnitsAreFaultless}
use Rattle.c0_meaning.specs.Unit.{IsWellFormed}
use Rattle.c0_typed.specs.Leaf.{are_calling, calls_in}
use Rattle.c0_typed.specs.Typed.{typed_of_body, typed_of_function, typed_of_local}
use Rattle.c0_expr_code.specs.FrameSetting.{frame_setting}
use Rattle.c0_expr_code.specs.Laws.{HaveSameNames, NamesAreEnough}
use Rattle.c0_expr_code.specs.Node.{NodesAreMade}
use Rattle.c0_expr_code.specs.Scope.{Scope, exit_of, scope_of}
use Rattle.c0_stmt_code.specs.Code.{Links, facts_behind_stmts, body_code, entry_code, exit_code, first_facts, function_code, links_of}
use Rattle.c0_stmt_code.specs.TypedFunction.{typed_body_code, typed_function_code}
use Rattle.c0_stmt_code.specs.TypedLaws.{StatementsAreMade}
use Rattle.c0_stmt_code.proofs.PremisesOfFunctions.{FunctionsAre, given_in, functions_are}
use Rattle.c0_stmt_code.proofs.TypedReads.{cleared_same, words_same}

-- there are as many locals in the typed tree
count_same : (sc : Scope) (locals : List CDecl) → length locals ≡ length (map (typed_of_local sc.env.structs) locals)
count_same sc locals = sym (length-map locals (typed_of_local sc.env.structs))

module _ (statements : StatementsAreMade) (nodes : NodesAreMade) (names : NamesAreEnough) (sc : Scope) (x : Links) (env : Env) (same : HaveSameNames env sc.env) where
  -- a body whose statements and answer are typed
  statements_code : (params : ℕ) (locals : List CDecl) (stmts : CStmts) (answer : CExpr) (t : Ty) → AreNumbered env stmts → IsNumberedGiven env answer t
      → body_code sc x params (code locals stmts answer) ≡ typed_body_code (frame_setting sc (first_facts sc params)) x params (are_calling stmts) (typed_of_body sc.env (code locals stmts answer))
  statements_code params locals stmts answer t typed given = λ j.
      entry_code (frame_setting sc (first_facts sc params)) (cleared_same sc.env locals stmts answer j) params (count_same sc locals j) (words_same sc.env.structs locals j) (are_calling stmts)
      ++ (statements sc (first_facts sc params) x env stmts same typed j
      ++ ((nodes.nodes sc (facts_behind_stmts sc (first_facts sc params) stmts) answer t (given_in names env sc.env same answer t given)).value ANSWER EXPRESSIONS j ++ exit_code (frame_setting sc (first_facts sc params)) (are_calling stmts)))

pub function_made : StatementsAreMade → NodesAreMade → NamesAreEnough → NumbersTell → UnitsAreFaultless → (primitives : List CPrimitive) (u : CUnit) (n : ℕ) (f : CFunction) (addresses : CodeAddresses)
    → IsWellFormed primitives u → slice_get u.functions n ≡ Some f
    → function_code (scope_of u f addresses) (links_of addresses) f ≡ typed_function_code (exit_of addresses) (links_of addresses) (typed_of_function u f)
function_made statements nodes names numbers faultless primitives u n f addresses well is = by_body f.body refl
  where
    are : FunctionsAre primitives u
    are = functions_are numbers faultless primitives u well

    -- primitives aside, names stand for the same
    same : HaveSameNames (env_of primitives u (f.params ++ locals_of f.body)) (scope_of u f addresses).env
    same = record { structs = refl; globals = refl; locals = refl }

    by_body : (b : CBody) → f.body ≡ b
        → body_code (scope_of u f addresses) (links_of addresses) (length f.params) b
        ≡ typed_body_code (frame_setting (scope_of u f addresses) (first_facts (scope_of u f addresses) (length f.params))) (links_of addresses) (length f.params) (calls_in b) (typed_of_body (scope_of u f addresses).env b)
    by_body (code locals stmts answer) e =
        let typed = are.typed n f locals stmts answer is e in
        statements_code statements nodes names (scope_of u f addresses) (links_of addresses) (env_of primitives u (f.params ++ locals_of f.body)) same (length f.params) locals stmts answer (ty_of f.answer) typed.0 typed.1.value
    by_body (asm text span words) e = refl
