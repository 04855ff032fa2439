-- The first state is typed, and calls from typed states are never stuck.
use Rattle.std.proofs.Common.{◌≡◌, true, List, [], ◌∷◌, map, Option, Some, sym, ap, subst, arith}
use Rattle.std.specs.Prelude.{ℤ, FitsSigned, unwrap_or}
use Rattle.std.specs.Int.{w32}
use Rattle.std.proofs.lemmas.Bool.{and_parts}
use Rattle.c0_tree.specs.Primitives.{CPrimitive, kernel_primitives}
use Rattle.c0_tree.specs.Tree.{CDecl, CUnit}
use Rattle.c0_meaning.specs.Ty.{Ty, ty_of, same_ty}
use Rattle.c0_meaning.specs.Ty as ty
use Rattle.c0_meaning.specs.Env.{Shape, typed_of}
use Rattle.c0_meaning.specs.Limits.{are_three_ints}
use Rattle.c0_meaning.specs.Sound.{shapes}
use Rattle.c0_meaning.proofs.TypeEquality.{equal-same_ty}
use Rattle.c0_meaning.proofs.WellTypedUnits.{units_are_faultless}
use Rattle.c0_meaning.specs.Value.{Value, Values, empty, part}
use Rattle.c0_meaning.specs.Value as value
use Rattle.c0_meaning.specs.TypedState.{StoreTyping, types_of, Fits, AllFit, store_typing, IsScalar, RunIsSafe, AnswersTyped}
use Rattle.c0_meaning.specs.Execution.{Outcome, Done, Failed, NotYet, call_first}
use Rattle.c0_meaning.specs.RunLaws.{FirstIsTyped, CallsAreSafe, DispatchesAreSafe, CallsAnswer, AnswersAnInt, DispatchesAnswer}
use Rattle.c0_tree.specs.declared.primitive.Program.TheVariants.{Kernel}
use Rattle.c0_meaning.proofs.RunsHaveAFirst.{has_first}
use Rattle.c0_meaning.proofs.TypesHaveWords.{zeros_fit}
use Rattle.c0_meaning.proofs.SafeRuns.{first_call_safe, first_call_answers}

pub first_is_typed : FirstIsTyped
first_is_typed primitives u well =
    let typed = (units_are_faultless primitives u).1 well.typed in (
      [],
      record {
        global_values = zeros_fit u.structs typed.structs (store_typing u []) u.globals typed.globals;
        heap_values = tt;
        frames = λ k d h. absurd (omega (arith, h));
      },
      λ i t e. absurd (cc),
    )

pub calls_are_safe : (W E : Type 0) → CallsAreSafe W E
calls_are_safe W E is_right primitives p objects n number f args s world well answers is typed declared fits right =
    first_call_safe W E primitives p is_right well answers objects n number f args s world is typed declared fits right

pub calls_answer : (W E : Type 0) → CallsAnswer W E
calls_answer W E is_right primitives p objects n number f args s world well answers is typed declared fits right =
    first_call_answers W E primitives p is_right well answers objects n number f args s world is typed declared fits right

-- three ints for three parameters of type int
three_ints : (structs : List Shape) (layout : StoreTyping) (ds : List CDecl) (a b c : ℤ) → are_three_ints ds ≡ true → FitsSigned w32 a → FitsSigned w32 b → FitsSigned w32 c
    → AllFit structs layout (types_of (map typed_of ds)) (part (value.int a) (part (value.int b) (part (value.int c) empty)))
three_ints structs layout (x ∷ y ∷ z ∷ []) a b c e f g h =
    let p = and_parts (same_ty (ty_of x.ty) ty.int) _ e in
    let q = and_parts (same_ty (ty_of y.ty) ty.int) (same_ty (ty_of z.ty) ty.int) p.1 in
    subst (λ ts. AllFit structs layout ts (part (value.int a) (part (value.int b) (part (value.int c) empty))))
    (sym (three_types (ty_of x.ty) (ty_of y.ty) (ty_of z.ty) (equal-same_ty (ty_of x.ty) ty.int p.0) (equal-same_ty (ty_of y.ty) ty.int q.0) (equal-same_ty (ty_of z.ty) ty.int q.1)))
    (f, (g, (h, tt)))
  where
    three_types : (t u w : Ty) → t ≡ ty.int → u ≡ ty.int → w ≡ ty.int → t ∷ u ∷ w ∷ [] ≡ ty.int ∷ ty.int ∷ ty.int ∷ []
    three_types t u w p q r = cc
three_ints structs layout [] a b c e f g h = absurd (cc)
three_ints structs layout (x ∷ []) a b c e f g h = absurd (cc)
three_ints structs layout (x ∷ y ∷ []) a b c e f g h = absurd (cc)
three_ints structs layout (x ∷ y ∷ z ∷ w ∷ ds) a b c e f g h = absurd (cc)

pub dispatches_are_safe : (W E : Type 0) → DispatchesAreSafe W E
dispatches_are_safe W E is_right p n cause edata user s world checked answers typed f g h right =
    let d = has_first Kernel p.unit checked in
    let c = and_parts _ _ d.4 in
    let k = and_parts (are_three_ints d.1.params) _ c.1 in
    subst (λ m. RunIsSafe is_right p.unit (call_first p n m (part (value.int cause) (part (value.int edata) (part (value.int user) empty))) s world)) (sym (ap (λ o. unwrap_or o 0) d.2))
    (first_call_safe W E kernel_primitives p is_right checked.well_formed answers typed.0 n d.0 d.1 (part (value.int cause) (part (value.int edata) (part (value.int user) empty))) s world d.3 typed.1 typed.2
    (three_ints (shapes p.unit) (store_typing p.unit typed.0) d.1.params cause edata user k.0 f g h) right)

-- a value of type int is an int
an_int : {W E : Type 0} (u : CUnit) (o : Outcome W E) → AnswersTyped u ty.int o → AnswersAnInt o
an_int u (Done used c) h = by_value h.2.0 h.2.1 h.2.2
  where
    by_value : (v : Value) → c.answer ≡ Some v → Fits (shapes u) (store_typing u h.0) ty.int v → AnswersAnInt (Done used c)
    by_value (value.int z) e f = (z, e, f)
    by_value (value.bool b) e f = absurd f
    by_value value.null e f = absurd f
    by_value (value.at l) e f = absurd f
    by_value (value.group vs) e f = absurd f
an_int u (Failed used f c) h = tt
an_int u (NotYet used c) h = tt

pub dispatches_answer : (W E : Type 0) → DispatchesAnswer W E
dispatches_answer W E is_right p n cause edata user s world checked answers typed f g h right =
    let d = has_first Kernel p.unit checked in
    let c = and_parts _ _ d.4 in
    let k = and_parts (are_three_ints d.1.params) _ c.1 in
    let gives = equal-same_ty (ty_of d.1.answer) ty.int (and_parts (same_ty (ty_of d.1.answer) ty.int) _ k.1).0 in
    let args = part (value.int cause) (part (value.int edata) (part (value.int user) empty)) in
    subst (λ m. AnswersAnInt (call_first p n m args s world)) (sym (ap (λ o. unwrap_or o 0) d.2))
    (an_int p.unit (call_first p n d.0 args s world) (subst (λ t. AnswersTyped p.unit t (call_first p n d.0 args s world)) gives
    (first_call_answers W E kernel_primitives p is_right checked.well_formed answers typed.0 n d.0 d.1 args s world d.3 typed.1 typed.2
    (three_ints (shapes p.unit) (store_typing p.unit typed.0) d.1.params cause edata user k.0 f g h) right)))

-- the answer of a row that is found
pub same_row : (a b : CPrimitive) (v : Value) → ◌≡◌ {A = Option CPrimitive} (Some a) (Some b) → IsScalar a.answer v → IsScalar b.answer v
same_row a b v e h = let q : a ≡ b = cc in subst (λ r. IsScalar r.answer v) q h
