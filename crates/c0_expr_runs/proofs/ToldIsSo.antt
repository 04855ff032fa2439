-- Where a typed test came out so, what it told of variables holds.
use Rattle.std.specs.Prelude.{Ok, get_or, slice_get}
use Rattle.mips_table.specs.Code.{Contents}
use Rattle.std.proofs.Common.{◌≡◌, ◌≢◌, ℕ, zero, suc, ◌*◌, ◌%◌, ◌^◌, Bool, true, false, not, cond, ◌&&◌, nat_lt, Option, Some, None, List, [], ◌∷◌, refl, sym, ap, ◌∙◌, subst}
use Rattle.c0_tree.specs.declared.tree.Span.{Span}
use Rattle.c0_tree.specs.declared.tree.Kind.{Kind}
use Rattle.c0_tree.specs.declared.tree.Kind.TheVariants.{Unresolved, Struct, Field, Global, Local, Function, Primitive}
use Rattle.c0_tree.specs.declared.tree.UnaryOp.TheVariants.{Negate, Not}
use Rattle.c0_tree.specs.declared.tree.BinaryOp.{BinaryOp}
use Rattle.c0_tree.specs.declared.tree.BinaryOp.TheVariants.{Add, Sub, Mul, Div, Rem, Lt, Le, Gt, Ge, Eq, Ne, And, Or}
use Rattle.c0_tree.specs.Tree.{CExpr, num, true_, false_, null, var, field, arrow, index, deref, address, unary, binary}
use Rattle.c0_meaning.specs.Ty.{Ty}
use Rattle.c0_meaning.specs.Ty as ty
use Rattle.c0_meaning.specs.Env.{Env, Shape, Typed}
use Rattle.c0_meaning.specs.Judgement.{IsArithmetic, add, sub, mul, div, rem, IsOrdering, lt, le, gt, ge, IsEquality, eq, ne, IsLogical, and, or}
use Rattle.c0_meaning.specs.Numbered.{variable_at, HasNumberedType, a_number, a_true, a_false, a_variable, a_field, a_target_field, an_element, a_target, an_address, a_negative, a_negation, arithmetic, order, logic, equality, null_left, null_right, IsNumberedGiven, a_value}
use Rattle.c0_meaning.specs.Value.{Location, Value, Values, int, bool, at, group, empty, part, nth, get}
use Rattle.c0_meaning.specs.Value as value
use Rattle.c0_meaning.specs.State.{C0State, variables_of}
use Rattle.c0_meaning.specs.Operators.{same, on_unary, on_binary}
use Rattle.c0_meaning.specs.Evaluation.{costs, at_no_cost, paying, ◌>>=◌, truth, both_sides, value_of}
use Rattle.c0_meaning.specs.TypeAt.{type_at}
use Rattle.c0_meaning.specs.TypedState.{StoreTyping, types_of, Fits, AllFit, AreParts}
use Rattle.c0_typed.specs.declared.tree.Elements.{Elements}
use Rattle.c0_typed.specs.Tree.{TExpr}
use Rattle.c0_typed.specs.Tree as tree
use Rattle.c0_typed.specs.Typed.{elements_in, typed_variable, typed_element, typed_negative, typed_of_expr, written_number}
use Rattle.c0_expr_code.specs.declared.facts.Facts.{Facts}
use Rattle.c0_expr_code.specs.Facts.{variable_in, with_sure, facts_followed, is_zero, facts_told, holds_answer, HaveSameRegisters, SureHold}
use Rattle.c0_expr_code.specs.Scope.{Scope}
use Rattle.c0_expr_runs.specs.Bases.{Bases}
use Rattle.c0_expr_runs.specs.Relation.{layout, StateIsTyped, RegistersHold, ReadyWith}
use Rattle.c0_expr_runs.proofs.SameRegisters.{told_same}
use Rattle.c0_expr_runs.proofs.OnePartMore.{typed_there}
use Rattle.c0_expr_runs.proofs.FollowedAreSure.{paid_ok, bound, free_ok, truth_ok, sure_more, no_some, no_element, no_unary, no_binary, is_local, variable_value, value_followed}

-- the value of a variable fits its type
nth_fits : (structs : List Shape) (layout : StoreTyping) (types : List Ty) (vs : Values) (n : ℕ) (t : Ty) (v : Value) → AllFit structs layout types vs
    → slice_get types n ≡ Some t → nth vs n ≡ Some v → Fits structs layout t v
nth_fits structs layout [] empty n t v h e q = absurd (cc)
nth_fits structs layout (u ∷ types) (part w vs) zero t v h e q =
    let a : u ≡ t = cc in let b : w ≡ v = cc in
    subst (λ z. Fits structs layout z v) a (subst (λ z. Fits structs layout u z) b h.0)
nth_fits structs layout (u ∷ types) (part w vs) (suc n) t v h e q = nth_fits structs layout types vs n t v h.1 e q
nth_fits structs layout [] (part w vs) n t v h e q = absurd h
nth_fits structs layout (u ∷ types) empty n t v h e q = absurd h

variable_fits : (structs : List Shape) (layout : StoreTyping) (types : List Ty) (v : Value) (n : ℕ) (t : Ty) (x : Value) → AreParts structs layout types v
    → slice_get types n ≡ Some t → get v (n ∷ []) ≡ Some x → Fits structs layout t x
variable_fits structs layout types (group vs) n t x h e q = nth_fits structs layout types vs n t x h e (found (nth vs n) q)
  where
    found : (o : Option Value) → Rattle.std.specs.Prelude.option_and_then (λ w. get w []) o ≡ Some x → o ≡ Some x
    found (Some w) q = q
    found None q = absurd (cc)
variable_fits structs layout types (int z) n t x h e q = absurd h
variable_fits structs layout types (bool z) n t x h e q = absurd h
variable_fits structs layout types value.null n t x h e q = absurd h
variable_fits structs layout types (at l) n t x h e q = absurd h

some_same : (o : Option Value) (a b : Value) → o ≡ Some a → o ≡ Some b → a ≡ b
some_same o a b e q = cc

-- the type of a typed variable
local_type : (env : Env) (e : CExpr) (t : Ty) (n : ℕ) → HasNumberedType env e t → variable_in (typed_of_expr env e) ≡ Some n → slice_get (types_of env.locals) n ≡ Some t
local_type env (var x) _ n (a_variable {d = d} h) e =
    let q = is_local env x n e in
    typed_there env.locals n d (ap (λ (m : ℕ). slice_get env.locals m) (sym q.1) ∙ ap (λ (k : Kind). variable_at env k x.number) (sym q.0) ∙ h)
local_type env (index p e i) t n h q = absurd (no_some _ n (no_element (elements_in env.structs (type_at env e)) (typed_of_expr env e) (typed_of_expr env i) (written_number i)) q)
local_type env (unary p o e) t n h q = absurd (no_some _ n (no_unary o (typed_of_expr env e) (written_number e)) q)
local_type env (binary p o a b) t n h q = absurd (no_some _ n (no_binary o (typed_of_expr env a) (typed_of_expr env b)) q)
local_type env (num p m) t n h q = absurd (cc)
local_type env (true_ p) t n h q = absurd (cc)
local_type env (null p) t n h q = elim h [ ]
local_type env (false_ p) t n h q = absurd (cc)
local_type env (field p e f) t n h q = absurd (cc)
local_type env (arrow p e f) t n h q = absurd (cc)
local_type env (deref p e) t n h q = absurd (cc)
local_type env (address p e) t n h q = absurd (cc)

-- what is written as 0 is no pointer, but for `null`
abbrev IsNoPointer : Ty → Type 0
IsNoPointer (ty.pointer t) = ⊥
IsNoPointer _ = Unit {0}

no_zero_variable : (env : Env) (k : Kind) (n : ℕ) (d : Typed) → variable_at env k n ≡ Some d → is_zero (typed_variable env k n) ≡ true → ⊥
no_zero_variable env Local n d h e = absurd (cc)
no_zero_variable env Global n d h e = absurd (cc)
no_zero_variable env Unresolved n d h e = absurd (cc)
no_zero_variable env Struct n d h e = absurd (cc)
no_zero_variable env Field n d h e = absurd (cc)
no_zero_variable env Function n d h e = absurd (cc)
no_zero_variable env Primitive n d h e = absurd (cc)

no_zero_element : (x : Elements) (p i : TExpr) (o : Option ℕ) → is_zero (typed_element x p i o) ≡ true → ⊥
no_zero_element x p i None e = absurd (cc)
no_zero_element x p i (Some c) e = by (nat_lt c x.count) e
  where
    by : (b : Bool) → is_zero (cond b (tree.part p (c * x.bytes % 2 ^ 32)) (tree.element p i x)) ≡ true → ⊥
    by true e = absurd (cc)
    by false e = absurd (cc)

zero_type : (env : Env) (e : CExpr) (t : Ty) → HasNumberedType env e t → is_zero (typed_of_expr env e) ≡ true → IsNoPointer t
zero_type env _ _ (a_number h) e = tt
zero_type env _ _ a_true e = tt
zero_type env _ _ a_false e = tt
zero_type env _ _ (a_variable {x = x} {d = d} h) e = absurd (no_zero_variable env x.kind x.number d h e)
zero_type env _ t (an_element {e = a} {i = i} pl h g) e = absurd (no_zero_element (elements_in env.structs (type_at env a)) (typed_of_expr env a) (typed_of_expr env i) (written_number i) e)
zero_type env _ _ (a_field pl h q) e = absurd (cc)
zero_type env _ _ (a_target_field h q) e = absurd (cc)
zero_type env _ t (a_target h) e = absurd (cc)
zero_type env _ _ (an_address pl away h) e = absurd (cc)
zero_type env _ _ (a_negative h) e = tt
zero_type env _ _ (a_negation h) e = tt
zero_type env _ _ (arithmetic k h g) e = tt
zero_type env _ _ (order k h g) e = tt
zero_type env _ _ (logic k h g) e = tt
zero_type env _ _ (equality k z h g) e = tt
zero_type env _ _ (null_left k g) e = tt
zero_type env _ _ (null_right k h) e = tt

null_fits : (structs : List Shape) (layout : StoreTyping) (t : Ty) → Fits structs layout t value.null → IsNoPointer t → ⊥
null_fits structs layout (ty.pointer t) h g = absurd g
null_fits structs layout ty.int h g = absurd h
null_fits structs layout ty.bool h g = absurd h
null_fits structs layout (ty.named x) h g = absurd h
null_fits structs layout (ty.array t n) h g = absurd h

not_twice : (z b : Bool) → not z ≡ b → z ≡ not b
not_twice true b e = ap not e
not_twice false b e = ap not e

module _ (sc : Scope) (p : Bases) (s : C0State) (is_typed : StateIsTyped sc p s) where
  abbrev Sure : Facts → Type 0
  Sure f = SureHold f (variables_of s.frames)

  -- a test that tells no more than what it followed
  told_variable : (k : Kind) (n : ℕ) (b : Bool) (f : Facts) → Sure f → Sure (facts_told (typed_variable sc.env k n) b f)
  told_variable Local n b f h = h
  told_variable Global n b f h = h
  told_variable Unresolved n b f h = h
  told_variable Struct n b f h = h
  told_variable Field n b f h = h
  told_variable Function n b f h = h
  told_variable Primitive n b f h = h

  told_element : (x : Elements) (p i : TExpr) (o : Option ℕ) (b : Bool) (f : Facts) → Sure (facts_followed (typed_element x p i o) f) → Sure (facts_told (typed_element x p i o) b f)
  told_element x p i None b f h = h
  told_element x p i (Some c) b f h = by (nat_lt c x.count) h
    where
      by : (a : Bool) → Sure (facts_followed (cond a (tree.part p (c * x.bytes % 2 ^ 32)) (tree.element p i x)) f)
          → Sure (facts_told (cond a (tree.part p (c * x.bytes % 2 ^ 32)) (tree.element p i x)) b f)
      by true h = h
      by false h = h

  told_negative : (e : TExpr) (o : Option ℕ) (b : Bool) (f : Facts) → Sure (facts_followed (typed_negative e o) f) → Sure (facts_told (typed_negative e o) b f)
  told_negative e None b f h = h
  told_negative e (Some n) b f h = h

  -- where the sides of a comparison differ
  compared_so : (d z : Bool) (o : Option ℕ) (f : Facts) → (d ≡ true → z ≡ true → (n : ℕ) → o ≡ Some n → get (variables_of s.frames) (n ∷ []) ≢ Some value.null)
      → Sure f → Sure (cond (d && z) (with_sure f o) f)
  compared_so true true (Some n) f says h = sure_more f (variables_of s.frames) n (says refl refl n refl) h
  compared_so true true None f says h = h
  compared_so true false o f says h = h
  compared_so false z o f says h = h

  -- no variable that is no pointer is null
  no_null : (a b : CExpr) (t : Ty) → HasNumberedType sc.env a t → HasNumberedType sc.env b t → is_zero (typed_of_expr sc.env b) ≡ true
      → (n : ℕ) → variable_in (typed_of_expr sc.env a) ≡ Some n → get (variables_of s.frames) (n ∷ []) ≢ Some value.null
  no_null a b t ha hb z n is e =
      null_fits sc.env.structs (layout sc p) t (variable_fits sc.env.structs (layout sc p) (types_of sc.env.locals) (variables_of s.frames) n t value.null is_typed.local_values (local_type sc.env a t n ha is) e)
      (zero_type sc.env b t hb z)

  -- what both sides are
  record Sides (o : BinaryOp) (a b : CExpr) (r : Bool) : Type 0 where
    left : Value
    left_units : ℕ
    left_is : value_of a s ≡ costs left_units (Ok left)
    right : Value
    right_units : ℕ
    right_is : value_of b s ≡ costs right_units (Ok right)
    is : on_binary o left right ≡ Ok (bool r)

  sides : (o : BinaryOp) (a b : CExpr) (k : ℕ) (r : Bool) → paying 1 (value_of a s >>= λ v. value_of b s >>= λ w. at_no_cost (on_binary o v w)) ≡ costs k (Ok (bool r)) → Sides o a b r
  sides o a b k r e =
      let whole = paid_ok 1 (value_of a s >>= λ v. value_of b s >>= λ w. at_no_cost (on_binary o v w)) k (bool r) e in
      let x = bound (value_of a s) (λ v. value_of b s >>= λ w. at_no_cost (on_binary o v w)) whole.0 (bool r) whole.1 in
      let y = bound (value_of b s) (λ w. at_no_cost (on_binary o x.first w)) x.rest (bool r) x.then_is in
      record { left = x.first; left_units = x.units; left_is = x.is; right = y.first; right_units = y.units; right_is = y.is; is = free_ok (on_binary o x.first y.first) y.rest (bool r) y.then_is }

  -- of a pointer and `null`
  differ_null : (v w : Value) → same v w ≡ false → w ≡ value.null → v ≡ value.null → ⊥
  differ_null v w d a b = let e : same value.null value.null ≡ false = ap (λ (x : Value). same x value.null) (sym b) ∙ ap (λ (x : Value). same v x) (sym a) ∙ d in absurd (cc)

  one_answer : (a b : Value) (k n : ℕ) → costs k (Ok a) ≡ costs n (Ok b) → b ≡ a
  one_answer a b k n e = cc

  pointer_differs : (span : Span) (o : BinaryOp) (a : CExpr) (r : Bool) → (h : Sides o a (null span) r) → same h.left h.right ≡ false
      → (n : ℕ) → variable_in (typed_of_expr sc.env a) ≡ Some n → get (variables_of s.frames) (n ∷ []) ≢ Some value.null
  pointer_differs span o a r h d n is e =
      differ_null h.left h.right d (one_answer value.null h.right 1 h.right_units h.right_is) (some_same _ h.left value.null (variable_value sc.env a s n h.left_units h.left is h.left_is) e)

  same_is : (a b : Bool) → ◌≡◌ {A = Rattle.std.specs.Prelude.Result Value Rattle.c0_meaning.specs.Operators.Failure} (Ok (bool a)) (Ok (bool b)) → a ≡ b
  same_is a b e = cc

  is_false : (a b : Bool) → a ≡ b → not b ≡ true → a ≡ false
  is_false a true e n = absurd (cc)
  is_false a false e n = e

  is_unequal : (a b : Bool) → not a ≡ b → b ≡ true → a ≡ false
  is_unequal true b e n = let z : false ≡ true = e ∙ n in absurd (cc)
  is_unequal false b e n = refl

  -- a comparison, by what is known where its sides differ
  equality_told : (span : Span) (o : BinaryOp) → IsEquality o → (a b : CExpr) (f : Facts) (k : ℕ) (r : Bool) → value_of (binary span o a b) s ≡ costs k (Ok (bool r))
      → ((h : Sides o a b r) → same h.left h.right ≡ false → is_zero (typed_of_expr sc.env b) ≡ true → (n : ℕ) → variable_in (typed_of_expr sc.env a) ≡ Some n
      → get (variables_of s.frames) (n ∷ []) ≢ Some value.null)
      → Sure f → Sure (facts_told (typed_of_expr sc.env (binary span o a b)) r f)
  equality_told span _ eq a b f k r is says h =
      let x = sides Eq a b k r is in
      compared_so (not r) (is_zero (typed_of_expr sc.env b)) (variable_in (typed_of_expr sc.env a)) (facts_followed (typed_of_expr sc.env b) (facts_followed (typed_of_expr sc.env a) f))
      (λ d z n q. says x (is_false (same x.left x.right) r (same_is (same x.left x.right) r x.is) d) z n q) (value_followed sc.env s (binary span Eq a b) f k (bool r) is h)
  equality_told span _ ne a b f k r is says h =
      let x = sides Ne a b k r is in
      compared_so r (is_zero (typed_of_expr sc.env b)) (variable_in (typed_of_expr sc.env a)) (facts_followed (typed_of_expr sc.env b) (facts_followed (typed_of_expr sc.env a) f))
      (λ d z n q. says x (is_unequal (same x.left x.right) r (same_is (not (same x.left x.right)) r x.is) d) z n q) (value_followed sc.env s (binary span Ne a b) f k (bool r) is h)

  -- `!`
  negated : (v : Value) (b : Bool) → on_unary Not v ≡ Ok (bool b) → (z : Bool) × (v ≡ bool z) × (not z ≡ b)
  negated (bool z) b e = (z, refl, same_is (not z) b e)
  negated (int z) b e = absurd (cc)
  negated value.null b e = absurd (cc)
  negated (at l) b e = absurd (cc)
  negated (group vs) b e = absurd (cc)

  abbrev Tells : CExpr → Type 0
  Tells e = (f : Facts) (k : ℕ) (b : Bool) → value_of e s ≡ costs k (Ok (bool b)) → Sure f → Sure (facts_told (typed_of_expr sc.env e) b f)

  negation_told : (span : Span) (e : CExpr) → Tells e → Tells (unary span Not e)
  negation_told span e tells f k b is h =
      let r = paid_ok 1 (value_of e s >>= λ v. at_no_cost (on_unary Not v)) k (bool b) is in
      let x = bound (value_of e s) (λ v. at_no_cost (on_unary Not v)) r.0 (bool b) r.1 in
      let z = negated x.first b (free_ok (on_unary Not x.first) x.rest (bool b) x.then_is) in
      subst (λ (y : Bool). Sure (facts_told (typed_of_expr sc.env e) y f)) (not_twice z.0 b z.2) (tells f x.units z.0 (x.is ∙ ap (λ (v : Value). costs x.units (Ok v)) z.1) h)

  -- `&&` and `||`
  answer_same : (a b : Bool) (k n : ℕ) → costs k (Ok (bool a)) ≡ costs n (Ok (bool b)) → a ≡ b
  answer_same a b k n e = cc

  logic_told : (span : Span) (o : BinaryOp) → IsLogical o → (a b : CExpr) → Tells a → Tells b → Tells (binary span o a b)
  logic_told span _ and a b ta tb f k r is h =
      let whole = paid_ok 1 (both_sides And (value_of a s) (value_of b s)) k (bool r) is in
      let x = bound (truth (value_of a s)) (λ z. cond z (value_of b s) (at_no_cost (Ok (bool false)))) whole.0 (bool r) whole.1 in
      let left = truth_ok (value_of a s) x.units x.first x.is in
      by r x.first x.rest left.0 left.1 x.then_is
    where
      by : (r z : Bool) (rest u : ℕ) → value_of a s ≡ costs u (Ok (bool z)) → cond z (value_of b s) (at_no_cost (Ok (bool false))) ≡ costs rest (Ok (bool r))
          → Sure (cond r (facts_told (typed_of_expr sc.env b) true (facts_told (typed_of_expr sc.env a) true f)) (facts_followed (typed_of_expr sc.env a) f))
      by true true rest u left right = tb (facts_told (typed_of_expr sc.env a) true f) rest true right (ta f u true left h)
      by true false rest u left right = let q = answer_same false true 0 rest right in absurd (cc)
      by false z rest u left right = value_followed sc.env s a f u (bool z) left h
  logic_told span _ or a b ta tb f k r is h =
      let whole = paid_ok 1 (both_sides Or (value_of a s) (value_of b s)) k (bool r) is in
      let x = bound (truth (value_of a s)) (λ z. cond z (at_no_cost (Ok (bool true))) (value_of b s)) whole.0 (bool r) whole.1 in
      let left = truth_ok (value_of a s) x.units x.first x.is in
      by r x.first x.rest left.0 left.1 x.then_is
    where
      by : (r z : Bool) (rest u : ℕ) → value_of a s ≡ costs u (Ok (bool z)) → cond z (at_no_cost (Ok (bool true))) (value_of b s) ≡ costs rest (Ok (bool r))
          → Sure (cond r (facts_followed (typed_of_expr sc.env a) f) (facts_told (typed_of_expr sc.env b) false (facts_told (typed_of_expr sc.env a) false f)))
      by false false rest u left right = tb (facts_told (typed_of_expr sc.env a) false f) rest false right (ta f u false left h)
      by false true rest u left right = let q = answer_same true false 0 rest right in absurd (cc)
      by true z rest u left right = value_followed sc.env s a f u (bool z) left h

  arithmetic_told : (span : Span) (o : BinaryOp) → IsArithmetic o → (a b : CExpr) → Tells (binary span o a b)
  arithmetic_told span _ add a b f k r is h = value_followed sc.env s (binary span Add a b) f k (bool r) is h
  arithmetic_told span _ sub a b f k r is h = value_followed sc.env s (binary span Sub a b) f k (bool r) is h
  arithmetic_told span _ mul a b f k r is h = value_followed sc.env s (binary span Mul a b) f k (bool r) is h
  arithmetic_told span _ div a b f k r is h = value_followed sc.env s (binary span Div a b) f k (bool r) is h
  arithmetic_told span _ rem a b f k r is h = value_followed sc.env s (binary span Rem a b) f k (bool r) is h

  order_told : (span : Span) (o : BinaryOp) → IsOrdering o → (a b : CExpr) → Tells (binary span o a b)
  order_told span _ lt a b f k r is h = value_followed sc.env s (binary span Lt a b) f k (bool r) is h
  order_told span _ le a b f k r is h = value_followed sc.env s (binary span Le a b) f k (bool r) is h
  order_told span _ gt a b f k r is h = value_followed sc.env s (binary span Gt a b) f k (bool r) is h
  order_told span _ ge a b f k r is h = value_followed sc.env s (binary span Ge a b) f k (bool r) is h

  tells : (e : CExpr) (t : Ty) → HasNumberedType sc.env e t → Tells e
  tells _ _ (a_negation {s = span} {e = e} h) = negation_told span e (tells e ty.bool h)
  tells _ _ (logic {s = span} {o = o} {a = a} {b = b} k h g) = logic_told span o k a b (tells a ty.bool h) (tells b ty.bool g)
  tells _ _ (equality {s = span} {o = o} {a = a} {b = b} {t = t} q z h g) = λ f k r is. equality_told span o q a b f k r is (λ x d zero n v. no_null a b t h g zero n v)
  tells _ _ (null_left {s = span} {r = inner} {o = o} {b = b} {t = t} q g) = λ f k r is. equality_told span o q (null inner) b f k r is (λ x d zero n v. absurd (cc))
  tells _ _ (null_right {s = span} {r = inner} {o = o} {a = a} {t = t} q h) = λ f k r is. equality_told span o q a (null inner) f k r is (λ x d zero n v. pointer_differs inner o a r x d n v)
  tells _ _ (arithmetic {s = span} {o = o} {a = a} {b = b} k h g) = arithmetic_told span o k a b
  tells _ _ (order {s = span} {o = o} {a = a} {b = b} k h g) = order_told span o k a b
  tells _ _ (a_variable {x = x} {d = d} h) = λ f k r is sure. told_variable x.kind x.number r f sure
  tells _ t (an_element {s = span} {e = a} {i = i} pl h g) = λ f k r is sure.
      told_element (elements_in sc.env.structs (type_at sc.env a)) (typed_of_expr sc.env a) (typed_of_expr sc.env i) (written_number i) r f (value_followed sc.env s (index span a i) f k (bool r) is sure)
  tells _ _ (a_negative {s = span} {e = e} h) = λ f k r is sure. told_negative (typed_of_expr sc.env e) (written_number e) r f (value_followed sc.env s (unary span Negate e) f k (bool r) is sure)
  tells _ _ (a_field {s = span} {e = e} {f = g} pl h q) = λ f k r is sure. value_followed sc.env s (field span e g) f k (bool r) is sure
  tells _ _ (a_target_field {s = span} {e = e} {f = g} h q) = λ f k r is sure. value_followed sc.env s (arrow span e g) f k (bool r) is sure
  tells _ t (a_target {s = span} {e = e} h) = λ f k r is sure. value_followed sc.env s (deref span e) f k (bool r) is sure
  tells _ _ (an_address {s = span} {e = e} pl away h) = λ f k r is sure. value_followed sc.env s (address span e) f k (bool r) is sure
  tells _ _ (a_number h) = λ f k r is sure. sure
  tells _ _ a_true = λ f k r is sure. sure
  tells _ _ a_false = λ f k r is sure. sure

  pub told_so : (e : CExpr) (t : Ty) → HasNumberedType sc.env e t → (f : Facts) (k : ℕ) (b : Bool) → truth (value_of e s) ≡ costs k (Ok b)
      → Sure f → Sure (facts_told (typed_of_expr sc.env e) b f)
  told_so e t h f k b is sure = let r = truth_ok (value_of e s) k b is in tells e t h f r.0 b r.1 sure

  pub given_told_so : (e : CExpr) → IsNumberedGiven sc.env e ty.bool → (f : Facts) (k : ℕ) (b : Bool) → truth (value_of e s) ≡ costs k (Ok b)
      → Sure f → Sure (facts_told (typed_of_expr sc.env e) b f)
  given_told_so _ (a_value {e = e} h) f k b is sure = told_so e ty.bool h f k b is sure

  -- what is known of registers is the same
  registers_same : (f g : Facts) (c : Contents) → HaveSameRegisters g f → RegistersHold sc p f c → RegistersHold sc p g c
  registers_same f g c e h = record {
    params = λ n holds. h.params n (ap (λ (ps : List Bool). nat_lt n 8 && get_or ps n false) (sym e.params) ∙ holds);
    answer = λ n holds. h.answer n (ap (λ (o : Option ℕ). holds_answer o n) (sym e.answer) ∙ holds);
  }

  -- the right side of `&&` or `||`, behind the left side
  pub told_ready : (e : CExpr) (t : Ty) → HasNumberedType sc.env e t → (live : ℕ → Bool) (f : Facts) (k : ℕ) (b : Bool) (c : Contents) → truth (value_of e s) ≡ costs k (Ok b)
      → ReadyWith sc p live f s c → ReadyWith sc p live (facts_told (typed_of_expr sc.env e) b f) s c
  told_ready e t h live f k b c is ready = record {
    ready = ready.ready;
    facts = record {
      registers = λ frame. registers_same f (facts_told (typed_of_expr sc.env e) b f) c (told_same (typed_of_expr sc.env e) b f) (ready.facts.registers frame);
      sure = told_so e t h f k b is ready.facts.sure;
    };
  }
