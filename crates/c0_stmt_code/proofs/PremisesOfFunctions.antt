-- What the proofs here and of runs take from the crates below of lengths, names and functions, as premises.
use Rattle.std.proofs.Common.{◌≡◌, ℕ, ◌+◌, ◌*◌, ◌≤◌, Bool, true, false, List, [], ◌∷◌, ◌++◌, length, inl, zero, suc, refl, ap, subst, arith}
use Rattle.c0_tree.specs.Primitives.{CPrimitive}
use Rattle.c0_tree.specs.Size.{nodes, stmts_nodes, body_nodes}
use Rattle.c0_tree.specs.Tree.{asm, CExpr, CStmts, code, CDecl, CFunction, CUnit}
use Rattle.c0_meaning.specs.Ty.{Ty, is_scalar, ty_of, same_ty}
use Rattle.c0_meaning.specs.Ty as ty
use Rattle.c0_meaning.specs.Asm.{are_allowed_words}
use Rattle.c0_tree.specs.declared.tree.Span.{Span}
use Rattle.c0_meaning.specs.Limits.{locals_of, is_asm, words_held, max_parameters}
use Rattle.c0_meaning.specs.Typed.{IsDeclarable, IsTypedUnit, IsTypedFunction, UnitsAreFaultless}
use Rattle.c0_meaning.specs.Numbered.{IsNumberedGiven, IsNumberedTest, AreNumbered, a_value, a_null, IsNumberedBody, NumbersTell}
use Rattle.c0_meaning.specs.Env.{Env, typed_of, env_of}
use Rattle.c0_meaning.specs.Sound.{shapes}
use Rattle.c0_meaning.specs.TypedState.{types_of}
use Rattle.std.specs.Prelude.{Some, IsTrue, map, slice_get}
use Rattle.c0_expr_code.specs.declared.facts.Facts.{Facts}
use Rattle.c0_expr_code.specs.Scope.{Scope}
use Rattle.c0_expr_code.specs.Code.{operand_code, made, value_code}
use Rattle.c0_expr_code.specs.Test.{test_code}
use Rattle.std.specs.List.{All}
use Rattle.std.proofs.lemmas.List.Elements.{All-head, All-tail}
use Rattle.c0_meaning.specs.DeclaredTypes.{may_pass}
use Rattle.c0_meaning.specs.Unit.{IsWellFormed}
use Rattle.c0_expr_code.specs.Laws.{CodesAreShort, NamesAreEnough, HaveSameNames}

-- how long the code of expressions is
pub record LengthsFit (sc : Scope) : Type 0 where
  pub value : (fs : Facts) (e : CExpr) (d r : ℕ) → length (value_code sc fs e d r) ≤ 14 * nodes e
  pub value_some : sc.in_registers ≡ true → (fs : Facts) (e : CExpr) (d r : ℕ) → 1 ≤ length (value_code sc fs e d r)
  pub operand : (fs : Facts) (e : CExpr) (r : ℕ) → length (operand_code (made sc fs e) r) ≤ 14 * nodes e
  pub place : (fs : Facts) (e : CExpr) (r : ℕ) → length ((made sc fs e).place r).code + 3 ≤ 14 * nodes e
  pub test : (fs : Facts) (e : CExpr) (s : Bool) (far r : ℕ) → length (test_code sc fs e s far r) ≤ 15 * nodes e
  pub test_some : (fs : Facts) (e : CExpr) (s : Bool) (far r : ℕ) → 1 ≤ length (test_code sc fs e s far r)
  pub test_same : (fs : Facts) (e : CExpr) (s : Bool) (far r : ℕ) → length (test_code sc fs e s far r) ≡ length (test_code sc fs e s 0 r)

-- each of these types is a scalar's
abbrev pub AllScalar : List Ty → Type 0
AllScalar [] = Unit {0}
AllScalar (t ∷ ts) = IsTrue (is_scalar t) × AllScalar ts

-- each of these types is int
abbrev pub AreInts : List Ty → Type 0
AreInts [] = Unit {0}
AreInts (t ∷ ts) = (t ≡ ty.int) × AreInts ts

-- what is known of the functions of a unit
pub record FunctionsAre (table : List CPrimitive) (u : CUnit) : Type 0 where
  pub scalars : (n : ℕ) (f : CFunction) → slice_get u.functions n ≡ Some f → AllScalar (types_of (map typed_of f.params))
  pub answers : (n : ℕ) (f : CFunction) → slice_get u.functions n ≡ Some f → IsTrue (is_scalar (ty_of f.answer))
  pub few : (n : ℕ) (f : CFunction) → slice_get u.functions n ≡ Some f → length f.params ≤ 8
  pub typed : (n : ℕ) (f : CFunction) (locals : List CDecl) (stmts : CStmts) (answer : CExpr) → slice_get u.functions n ≡ Some f → f.body ≡ code locals stmts answer
      → AreNumbered (env_of table u (f.params ++ locals_of f.body)) stmts × IsNumberedTest (env_of table u (f.params ++ locals_of f.body)) answer (ty_of f.answer)
  pub nodes : (n : ℕ) (f : CFunction) (locals : List CDecl) (stmts : CStmts) (answer : CExpr) → slice_get u.functions n ≡ Some f → f.body ≡ code locals stmts answer → stmts_nodes stmts + nodes answer ≤ 2000
  pub asms : (n : ℕ) (f : CFunction) (bytes : List ℕ) (span : Span) (words : List ℕ) → slice_get u.functions n ≡ Some f → f.body ≡ asm bytes span words → AreInts (types_of (map typed_of f.params)) × (length f.params ≤ 4) × (ty_of f.answer ≡ ty.int) × IsTrue (are_allowed_words words)

pub lengths_fit : CodesAreShort → (sc : Scope) → LengthsFit sc
lengths_fit h sc = record { value = h.value sc; value_some = λ form fs e d r. h.some sc fs e d r (inl form); operand = h.operand sc; place = h.place sc; test = h.test sc; test_some = h.test_some sc; test_same = λ fs e s far r. h.same sc fs e s far 0 r }

at_number : {A : Type 0} (P : A → Type 0) (xs : List A) (i : ℕ) (x : A) → All P xs → slice_get xs i ≡ Some x → P x
at_number P [] i x a e = cc
at_number P (y ∷ xs) zero x a e = let q : y ≡ x = cc in subst P q (All-head P y xs a)
at_number P (y ∷ xs) (suc i) x a e = at_number P xs i x (All-tail P y xs a) e

-- what may stand where a type is asked may do so wherever structs, globals and variables are the same
pub given_in : (names : NamesAreEnough) (a b : Env) → HaveSameNames a b → (e : CExpr) (t : Ty) → IsNumberedGiven a e t → IsNumberedGiven b e t
given_in names a b same e t (a_value h) = a_value (names a b same e t h)
given_in names a b same _ _ a_null = a_null

-- functions of a unit that is well formed
module _ (numbers : NumbersTell) (faultless : UnitsAreFaultless) (table : List CPrimitive) (u : CUnit) (well : IsWellFormed table u) where
  its_unit : IsTypedUnit table u
  its_unit = (faultless table u).1 well.typed

  its_function : (n : ℕ) (f : CFunction) → slice_get u.functions n ≡ Some f → IsTypedFunction table u f
  its_function n f is = at_number (IsTypedFunction table u) u.functions n f its_unit.functions is

  pub locals_declared : (n : ℕ) (f : CFunction) → slice_get u.functions n ≡ Some f → All (λ d. IsDeclarable (shapes u) d.ty) (locals_of f.body)
  locals_declared n f is = (its_function n f is).signature.locals

  passed : (b : Bool) (t : Ty) → IsTrue (may_pass b t) → IsTrue (is_scalar t)
  passed false t h = h
  passed true ty.int h = refl
  passed true ty.bool h = refl
  passed true (ty.pointer t) h = refl
  passed true (ty.named x) h = absurd (cc)
  passed true (ty.array t n) h = absurd (cc)

  all_passed : (b : Bool) (ds : List CDecl) → All (λ d. IsTrue (may_pass b (ty_of d.ty))) ds → AllScalar (types_of (map typed_of ds))
  all_passed b [] h = tt
  all_passed b (d ∷ ds) h = (passed b (ty_of d.ty) (All-head (λ d. IsTrue (may_pass b (ty_of d.ty))) d ds h), all_passed b ds (All-tail (λ d. IsTrue (may_pass b (ty_of d.ty))) d ds h))

  few_params : (b : Bool) (n : ℕ) → n ≤ max_parameters b → n ≤ 8
  few_params true n h = omega (arith, h)
  few_params false n h = h

  int_is : (t : Ty) → IsTrue (same_ty t ty.int) → t ≡ ty.int
  int_is ty.int h = refl
  int_is ty.bool h = absurd (cc)
  int_is (ty.pointer t) h = absurd (cc)
  int_is (ty.named x) h = absurd (cc)
  int_is (ty.array t n) h = absurd (cc)

  ints_passed : (ds : List CDecl) → All (λ d. IsTrue (may_pass true (ty_of d.ty))) ds → AreInts (types_of (map typed_of ds))
  ints_passed [] h = tt
  ints_passed (d ∷ ds) h = (int_is (ty_of d.ty) (All-head (λ d. IsTrue (may_pass true (ty_of d.ty))) d ds h), ints_passed ds (All-tail (λ d. IsTrue (may_pass true (ty_of d.ty))) d ds h))

  pub functions_are : FunctionsAre table u
  functions_are = record {
    scalars = λ n f is. all_passed (is_asm f.body) f.params (its_function n f is).signature.params_pass;
    answers = λ n f is. passed (is_asm f.body) (ty_of f.answer) (its_function n f is).signature.answer_passes;
    few = λ n f is. few_params (is_asm f.body) (length f.params) (its_function n f is).signature.few;
    typed = λ n f ls stmts answer is e. subst (λ b. IsNumberedBody (env_of table u (f.params ++ locals_of f.body)) (ty_of f.answer) b) e (at_number (λ f. IsNumberedBody (env_of table u (f.params ++ locals_of f.body)) (ty_of f.answer) f.body) u.functions n f (numbers table u well) is);
    nodes = λ n f ls stmts answer is e.
        let k = (its_function n f is).signature.nodes in
        let q = ap (λ b. body_nodes (length (words_held b)) b) e in
        omega (arith, k, q);
    asms = λ n f bytes span words is e.
        let g = (its_function n f is).signature in (
          ints_passed f.params (subst (λ b. All (λ d. IsTrue (may_pass (is_asm b) (ty_of d.ty))) f.params) e g.params_pass),
          subst (λ b. length f.params ≤ max_parameters (is_asm b)) e g.few,
          int_is (ty_of f.answer) (subst (λ b. IsTrue (may_pass (is_asm b) (ty_of f.answer))) e g.answer_passes),
          subst (λ b. IsTrue (are_allowed_words (words_held b))) e (at_number (λ f. IsTrue (are_allowed_words (words_held f.body))) u.functions n f well.allowed is),
        );
  }
