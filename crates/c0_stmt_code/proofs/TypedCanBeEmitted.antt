-- What emitters of typed functions ask for is met by the functions of a well formed unit.
use Rattle.std.specs.Prelude.{IsTrue, slice_get}
use Rattle.std.specs.List.{All}
use Rattle.std.proofs.Common.{◌≡◌, ℕ, ◌≤◌, List, [], ◌∷◌, length, map, Some, refl, ap, arith}
use Rattle.std.proofs.lemmas.List.Elements.{All-nil, All-cons, All-head, All-tail}
use Rattle.c0_tree.specs.Primitives.{CPrimitive}
use Rattle.c0_tree.specs.Size.{need}
use Rattle.c0_tree.specs.Tree.{CExpr, CStmt, assign, call, new, choice, loop, CStmts, done, next, CBody, code, asm, CDecl, CFunction, CUnit}
use Rattle.c0_meaning.specs.Ty.{Ty, is_scalar, ty_of}
use Rattle.c0_meaning.specs.Ty as ty
use Rattle.c0_meaning.specs.Env.{Env, Shape, typed_of}
use Rattle.c0_meaning.specs.Limits.{locals_of, words_of_frame}
use Rattle.c0_meaning.specs.Numbered.{NumbersTell}
use Rattle.c0_meaning.specs.Sound.{shapes}
use Rattle.c0_meaning.specs.Typed.{UnitsAreFaultless}
use Rattle.c0_meaning.specs.TypeAt.{env_in}
use Rattle.c0_meaning.specs.TypedState.{types_of}
use Rattle.c0_meaning.specs.Unit.{IsWellFormed}
use Rattle.c0_meaning.specs.Words.{words, all_words}
use Rattle.c0_typed.specs.Size.{typed_need, NeedsAreFew}
use Rattle.c0_typed.specs.Typed.{typed_of_body, typed_of_expr, typed_of_function, typed_of_stmt, typed_of_stmts}
use Rattle.c0_stmt_code.specs.Emit.{IsEmittable, AreEmittable, IsEmittableBody, FunctionsAreEmittable}
use Rattle.c0_stmt_code.specs.TypedFunction.{FitsRegisters, FitRegisters, CanEmitBody, CanEmit}
use Rattle.c0_stmt_code.proofs.PremisesOfFunctions.{AllScalar, functions_are}
use Rattle.c0_stmt_code.proofs.TypedReads.{words_same}

module _ (needs : NeedsAreFew) (env : Env) where
  -- a typed tree needs no more than the expression
  few : (e : CExpr) (n : ℕ) → need e ≤ n → typed_need (typed_of_expr env e) ≤ n
  few e n h = let k = needs env e in omega (arith, h, k)

  args_fit : (es : List CExpr) → All (λ e. need e ≤ 12) es → All (λ e. typed_need e ≤ 12) (map (typed_of_expr env) es)
  args_fit [] h = All-nil (λ e. typed_need e ≤ 12)
  args_fit (e ∷ es) h =
      All-cons (λ e. typed_need e ≤ 12) (typed_of_expr env e) (map (typed_of_expr env) es) (few e 12 (All-head (λ e. need e ≤ 12) e es h)) (args_fit es (All-tail (λ e. need e ≤ 12) e es h))

  mutual
    fits : (s : CStmt) → IsEmittable s → FitsRegisters (typed_of_stmt env s)
    fits (assign s p v) h = (few p 11 h.0, few v 12 h.1)
    fits (call s p cs f args) h = (few p 12 h.0, args_fit args h.1)
    fits (new s p t ts) h = few p 12 h
    fits (choice s t a b) h = (few t 12 h.0, all_fit a h.1, all_fit b h.2)
    fits (loop s t b) h = (few t 12 h.0, all_fit b h.1)

    all_fit : (ss : CStmts) → AreEmittable ss → FitRegisters (typed_of_stmts env ss)
    all_fit done h = tt
    all_fit (next s rest) h = (fits s h.0, all_fit rest h.1)

-- a scalar has one word
scalar_words : (structs : List Shape) (t : Ty) → IsTrue (is_scalar t) → words structs t ≡ 1
scalar_words structs ty.int h = refl
scalar_words structs ty.bool h = refl
scalar_words structs (ty.pointer t) h = refl
scalar_words structs (ty.named x) h = absurd (cc)
scalar_words structs (ty.array t n) h = absurd (cc)

-- scalars have one each
scalars_count : (structs : List Shape) (ds : List CDecl) → AllScalar (types_of (map typed_of ds)) → all_words structs (map typed_of ds) ≡ length ds
scalars_count structs [] h = refl
scalars_count structs (d ∷ ds) h =
    let one = scalar_words structs (ty_of d.ty) h.0 in
    let rest = scalars_count structs ds h.1 in
    omega (arith, one, rest)

pub can_be_emitted : FunctionsAreEmittable → NeedsAreFew → NumbersTell → UnitsAreFaultless → (primitives : List CPrimitive) (u : CUnit) (n : ℕ) (f : CFunction)
    → IsWellFormed primitives u → slice_get u.functions n ≡ Some f → CanEmit (typed_of_function u f)
can_be_emitted emittable needs numbers faultless primitives u n f well is = by_body f.body refl (emittable primitives u well n f is).body
  where
    by_body : (b : CBody) → f.body ≡ b → IsEmittableBody (length f.params) b → CanEmitBody (length f.params) (words_of_frame (shapes u) f) (typed_of_body (env_in u f) b)
    by_body (code locals stmts answer) e h =
        let params = scalars_count (shapes u) f.params ((functions_are numbers faultless primitives u well).scalars n f is) in
        let same = words_same (shapes u) locals in
        let held = ap (λ (b : CBody). all_words (shapes u) (map typed_of (locals_of b))) e in
        (omega (arith, params, same, held), all_fit needs (env_in u f) stmts h.0, few needs (env_in u f) answer 12 h.1)
    by_body (asm text span words) e h = h
