-- Where an expression has a value or a place, the variables that it followed aren't null.
use Rattle.std.specs.Prelude.{Result, Ok, Err, ok_or, nat_lt}
use Rattle.std.proofs.Common.{◌≡◌, ◌≢◌, inl, inr, ℕ, ◌*◌, ◌%◌, ◌^◌, Bool, true, false, cond, Option, Some, None, [], ◌∷◌, refl, sym, ap, ◌∙◌}
use Rattle.std.proofs.lemmas.Bool.{cases_eq}
use Rattle.std.proofs.lemmas.List.{get_or-set_other}
use Rattle.c0_tree.specs.declared.tree.Kind.{Kind}
use Rattle.c0_tree.specs.declared.tree.Kind.TheVariants.{Unresolved, Struct, Field, Global, Local, Function, Primitive}
use Rattle.c0_tree.specs.declared.tree.UnaryOp.{UnaryOp}
use Rattle.c0_tree.specs.declared.tree.UnaryOp.TheVariants.{Negate, Not}
use Rattle.c0_tree.specs.declared.tree.BinaryOp.{BinaryOp}
use Rattle.c0_tree.specs.declared.tree.BinaryOp.TheVariants.{Add, Sub, Mul, Div, Rem, Lt, Le, Gt, Ge, Eq, Ne, And, Or}
use Rattle.c0_tree.specs.Tree.{CName, CExpr, num, true_, false_, null, var, field, arrow, index, deref, address, unary, binary}
use Rattle.c0_meaning.specs.Env.{Env}
use Rattle.c0_meaning.specs.Value.{locals, Location, Value, int, bool, at, group, below, get}
use Rattle.c0_meaning.specs.Value as value
use Rattle.c0_meaning.specs.State.{C0State, variables_of, read}
use Rattle.c0_meaning.specs.Operators.{Failure, stuck, on_unary, on_binary}
use Rattle.c0_meaning.specs.Evaluation.{Costed, costs, at_no_cost, paying, ◌>>=◌, truth, bool_of, variable_location, pointed_to, element_of, load_from, field_of, pointed, indexed, both_sides, value_of, place_of}
use Rattle.c0_meaning.specs.TypeAt.{type_at}
use Rattle.c0_typed.specs.declared.tree.Elements.{Elements}
use Rattle.c0_typed.specs.Tree.{TExpr, local}
use Rattle.c0_typed.specs.Tree as tree
use Rattle.c0_typed.specs.Typed.{elements_in, typed_variable, typed_element, typed_unary, typed_binary, typed_of_expr, written_number}
use Rattle.c0_expr_code.specs.declared.facts.Facts.{Facts}
use Rattle.c0_expr_code.specs.Facts.{found_sure, variable_in, with_sure, facts_followed, SureHold}

-- what an evaluation that has an answer comes from
pub paid_ok : {A : Type 0} (j : ℕ) (e : Costed A) (k : ℕ) (y : A) → paying j e ≡ costs k (Ok y) → (u : ℕ) × (e ≡ costs u (Ok y))
paid_ok j (costs n (Ok x)) k y h = let q : x ≡ y = cc in (n, ap (λ z. costs n (Ok z)) q)
paid_ok j (costs n (Err f)) k y h = absurd (cc)

pub record Bound {A B : Type 0} (e : Costed A) (f : A → Costed B) (y : B) : Type 0 where
  pub first : A
  pub units : ℕ
  pub is : e ≡ costs units (Ok first)
  pub rest : ℕ
  pub then_is : f first ≡ costs rest (Ok y)

pub bound : {A B : Type 0} (e : Costed A) (f : A → Costed B) (k : ℕ) (y : B) → (e >>= f) ≡ costs k (Ok y) → Bound e f y
bound (costs n (Ok x)) f k y h = let r = paid_ok n (f x) k y h in record { first = x; units = n; is = refl; rest = r.0; then_is = r.1 }
bound (costs n (Err x)) f k y h = absurd (cc)

pub free_ok : {A : Type 0} (r : Result A Failure) (k : ℕ) (y : A) → at_no_cost r ≡ costs k (Ok y) → r ≡ Ok y
free_ok (Ok x) k y h = let q : x ≡ y = cc in ap Ok q
free_ok (Err x) k y h = absurd (cc)

pub truth_ok : (e : Costed Value) (k : ℕ) (b : Bool) → truth e ≡ costs k (Ok b) → (u : ℕ) × (e ≡ costs u (Ok (bool b)))
truth_ok e k b h =
    let r = bound e (λ v. at_no_cost (bool_of v)) k b h in
    (r.units, r.is ∙ ap (λ v. costs r.units (Ok v)) (is_bool r.first b (free_ok (bool_of r.first) r.rest b r.then_is)))
  where
    is_bool : (v : Value) (b : Bool) → bool_of v ≡ Ok b → v ≡ bool b
    is_bool (bool a) b h = let q : a ≡ b = cc in ap bool q
    is_bool (int z) b h = absurd (cc)
    is_bool value.null b h = absurd (cc)
    is_bool (at l) b h = absurd (cc)
    is_bool (group vs) b h = absurd (cc)

-- one variable more
pub sure_more : (f : Facts) (v : Value) (n : ℕ) → get v (n ∷ []) ≢ Some value.null → SureHold f v → SureHold (found_sure f n) v
sure_more f v n ne h m sure = elim (cases_eq m n) [
  | inl e ↦ λ z. ne (ap (λ (k : ℕ). get v (k ∷ [])) (sym e) ∙ z)
  | inr other ↦ h m (sym (get_or-set_other f.sure n m true false other) ∙ sure)
]

-- the variable that a typed expression is
some_is : (a b : ℕ) → ◌≡◌ {A = Option ℕ} (Some a) (Some b) → a ≡ b
some_is a b e = cc

pub no_some : {A : Type 0} (o : Option A) (a : A) → o ≡ None → o ≡ Some a → ⊥
no_some o a e q = cc

pub no_element : (x : Elements) (p i : TExpr) (o : Option ℕ) → variable_in (typed_element x p i o) ≡ None
no_element x p i None = refl
no_element x p i (Some c) = by (nat_lt c x.count)
  where
    by : (b : Bool) → variable_in (cond b (tree.part p (c * x.bytes % 2 ^ 32)) (tree.element p i x)) ≡ None
    by true = refl
    by false = refl

pub no_unary : (o : UnaryOp) (e : TExpr) (n : Option ℕ) → variable_in (typed_unary o e n) ≡ None
no_unary Not e n = refl
no_unary Negate e None = refl
no_unary Negate e (Some n) = refl

pub no_binary : (o : BinaryOp) (a b : TExpr) → variable_in (typed_binary o a b) ≡ None
no_binary Add a b = refl
no_binary Sub a b = refl
no_binary Mul a b = refl
no_binary Div a b = refl
no_binary Rem a b = refl
no_binary Lt a b = refl
no_binary Le a b = refl
no_binary Gt a b = refl
no_binary Ge a b = refl
no_binary Eq a b = refl
no_binary Ne a b = refl
no_binary And a b = refl
no_binary Or a b = refl

module _ (env : Env) where
  -- an expression that is typed as a variable is one
  pub is_local : (x : CName) (n : ℕ) → variable_in (typed_of_expr env (var x)) ≡ Some n → (x.kind ≡ Local) × (x.number ≡ n)
  is_local x n e = by x.kind refl e
    where
      by : (k : Kind) → x.kind ≡ k → variable_in (typed_variable env k x.number) ≡ Some n → (x.kind ≡ Local) × (x.number ≡ n)
      by Local q e = (q, some_is x.number n e)
      by Global q e = absurd (cc)
      by Unresolved q e = absurd (cc)
      by Struct q e = absurd (cc)
      by Field q e = absurd (cc)
      by Function q e = absurd (cc)
      by Primitive q e = absurd (cc)

  -- and its value is what stands there
  pub variable_value : (e : CExpr) (s : C0State) (n k : ℕ) (v : Value) → variable_in (typed_of_expr env e) ≡ Some n → value_of e s ≡ costs k (Ok v)
      → get (variables_of s.frames) (n ∷ []) ≡ Some v
  variable_value (var x) s n k v e h =
      let q = is_local x n e in
      let a = paid_ok 1 (load_from s (at_no_cost (variable_location x.kind x.number))) k v h in
      let b = ap (λ (k : Kind). load_from s (at_no_cost (variable_location k x.number))) (sym q.0) ∙ a.1 in
      let c = bound (at_no_cost (variable_location Local x.number)) (λ l. at_no_cost (ok_or (read s l) stuck)) a.0 v b in
      let place = free_ok (variable_location Local x.number) c.units c.first c.is in
      there c.first place (free_ok (ok_or (read s c.first) stuck) c.rest v c.then_is) q.1
    where
      loaded : (o : Option Value) → ok_or o stuck ≡ Ok v → o ≡ Some v
      loaded (Some w) e = let q : w ≡ v = cc in ap Some q
      loaded None e = absurd (cc)

      there : (l : Location) → variable_location Local x.number ≡ Ok l → ok_or (read s l) stuck ≡ Ok v → x.number ≡ n → get (variables_of s.frames) (n ∷ []) ≡ Some v
      there l place e q =
          let at : ◌≡◌ {A = Location} (record { region = locals; path = x.number ∷ [] }) l = cc in
          ap (λ (m : ℕ). get (variables_of s.frames) (m ∷ [])) (sym q) ∙ ap (λ (m : Location). read s m) at ∙ loaded (read s l) e
  variable_value (index p e i) s n k v q h = absurd (no_some _ n (no_element (elements_in env.structs (type_at env e)) (typed_of_expr env e) (typed_of_expr env i) (written_number i)) q)
  variable_value (unary p o e) s n k v q h = absurd (no_some _ n (no_unary o (typed_of_expr env e) (written_number e)) q)
  variable_value (binary p o a b) s n k v q h = absurd (no_some _ n (no_binary o (typed_of_expr env a) (typed_of_expr env b)) q)
  variable_value (num p m) s n k v q h = absurd (cc)
  variable_value (true_ p) s n k v q h = absurd (cc)
  variable_value (false_ p) s n k v q h = absurd (cc)
  variable_value (null p) s n k v q h = absurd (cc)
  variable_value (field p e f) s n k v q h = absurd (cc)
  variable_value (arrow p e f) s n k v q h = absurd (cc)
  variable_value (deref p e) s n k v q h = absurd (cc)
  variable_value (address p e) s n k v q h = absurd (cc)

  module _ (s : C0State) where
    abbrev Sure : Facts → Type 0
    Sure f = SureHold f (variables_of s.frames)

    -- a pointer that leads somewhere
    followed_target : (e : CExpr) (f : Facts) (k : ℕ) (v : Value) (l : Location) → value_of e s ≡ costs k (Ok v) → pointed_to v ≡ Ok l
        → Sure f → Sure (with_sure f (variable_in (typed_of_expr env e)))
    followed_target e f k v l is to h = by (variable_in (typed_of_expr env e)) refl
      where
        not_null : (w : Value) → w ≡ v → w ≡ value.null → ⊥
        not_null w a b = let q : pointed_to value.null ≡ Ok l = ap pointed_to (sym b ∙ a) ∙ to in absurd (cc)

        same : (o : Option Value) → o ≡ Some v → o ≡ Some value.null → v ≡ value.null
        same o a b = cc

        by : (o : Option ℕ) → variable_in (typed_of_expr env e) ≡ o → Sure (with_sure f o)
        by None q = h
        by (Some n) q = sure_more f (variables_of s.frames) n (λ z. not_null v refl (same _ (variable_value e s n k v q is) z)) h

    followed_variable : (k : Kind) (n : ℕ) (f : Facts) → Sure f → Sure (facts_followed (typed_variable env k n) f)
    followed_variable Local n f h = h
    followed_variable Global n f h = h
    followed_variable Unresolved n f h = h
    followed_variable Struct n f h = h
    followed_variable Field n f h = h
    followed_variable Function n f h = h
    followed_variable Primitive n f h = h

    followed_element : (x : Elements) (p i : TExpr) (o : Option ℕ) (f : Facts) → Sure (facts_followed p f) → Sure (facts_followed i (facts_followed p f)) → Sure (facts_followed (typed_element x p i o) f)
    followed_element x p i None f h g = g
    followed_element x p i (Some c) f h g = by (nat_lt c x.count)
      where
        by : (b : Bool) → Sure (facts_followed (cond b (tree.part p (c * x.bytes % 2 ^ 32)) (tree.element p i x)) f)
        by true = h
        by false = g

    followed_unary : (o : UnaryOp) (e : TExpr) (n : Option ℕ) (f : Facts) → Sure f → Sure (facts_followed e f) → Sure (facts_followed (typed_unary o e n) f)
    followed_unary Not e n f h g = g
    followed_unary Negate e None f h g = g
    followed_unary Negate e (Some n) f h g = h

    -- what is loaded stands at a place
    loaded : (place : Costed Location) (k : ℕ) (v : Value) → paying 1 (load_from s place) ≡ costs k (Ok v) → (u : ℕ) × (l : Location) × (place ≡ costs u (Ok l))
    loaded place k v e =
        let r = paid_ok 1 (load_from s place) k v e in
        let b = bound place (λ l. at_no_cost (ok_or (read s l) stuck)) r.0 v r.1 in
        (b.units, b.first, b.is)

    -- what an expression followed that has a value, or a place
    record Follows (e : CExpr) : Type 0 where
      value : (f : Facts) (k : ℕ) (v : Value) → value_of e s ≡ costs k (Ok v) → Sure f → Sure (facts_followed (typed_of_expr env e) f)
      place : (f : Facts) (k : ℕ) (l : Location) → place_of e s ≡ costs k (Ok l) → Sure f → Sure (facts_followed (typed_of_expr env e) f)

    no_place : (k : ℕ) (l : Location) → paying 1 (at_no_cost (Err stuck)) ≡ costs k (Ok l) → ⊥
    no_place k l e = absurd (cc)

    field_followed : (a : CExpr) → Follows a → (g : CName) (f : Facts) (k : ℕ) (l : Location) → field_of g (place_of a s) ≡ costs k (Ok l) → Sure f → Sure (facts_followed (typed_of_expr env a) f)
    field_followed a fa g f k l e h = let b = bound (place_of a s) (λ l. at_no_cost (Ok (below l g.number))) k l e in fa.place f b.units b.first b.is h

    target_followed : (a : CExpr) → Follows a → (f : Facts) (k : ℕ) (l : Location) → pointed (value_of a s) ≡ costs k (Ok l) → Sure f
        → Sure (with_sure (facts_followed (typed_of_expr env a) f) (variable_in (typed_of_expr env a)))
    target_followed a fa f k l e h =
        let b = bound (value_of a s) (λ v. at_no_cost (pointed_to v)) k l e in
        followed_target a (facts_followed (typed_of_expr env a) f) b.units b.first l b.is (free_ok (pointed_to b.first) b.rest l b.then_is) (fa.value f b.units b.first b.is h)

    arrow_followed : (a : CExpr) → Follows a → (g : CName) (f : Facts) (k : ℕ) (l : Location) → field_of g (pointed (value_of a s)) ≡ costs k (Ok l) → Sure f
        → Sure (with_sure (facts_followed (typed_of_expr env a) f) (variable_in (typed_of_expr env a)))
    arrow_followed a fa g f k l e h = let b = bound (pointed (value_of a s)) (λ l. at_no_cost (Ok (below l g.number))) k l e in target_followed a fa f b.units b.first b.is h

    index_followed : (a i : CExpr) → Follows a → Follows i → (f : Facts) (k : ℕ) (l : Location) → indexed s (place_of a s) (value_of i s) ≡ costs k (Ok l) → Sure f
        → Sure (facts_followed (typed_element (elements_in env.structs (type_at env a)) (typed_of_expr env a) (typed_of_expr env i) (written_number i)) f)
    index_followed a i fa fi f k l e h =
        let b = bound (place_of a s) (λ m. value_of i s >>= λ v. at_no_cost (element_of m (read s m) v)) k l e in
        let c = bound (value_of i s) (λ v. at_no_cost (element_of b.first (read s b.first) v)) b.rest l b.then_is in
        let first = fa.place f b.units b.first b.is h in
        followed_element (elements_in env.structs (type_at env a)) (typed_of_expr env a) (typed_of_expr env i) (written_number i) f first (fi.value (facts_followed (typed_of_expr env a) f) c.units c.first c.is first)

    plain_followed : (a b : CExpr) → Follows a → Follows b → (on : Value → Value → Result Value Failure) (f : Facts) (k : ℕ) (v : Value)
        → (value_of a s >>= λ x. value_of b s >>= λ y. at_no_cost (on x y)) ≡ costs k (Ok v) → Sure f → Sure (facts_followed (typed_of_expr env b) (facts_followed (typed_of_expr env a) f))
    plain_followed a b fa fb on f k v e h =
        let x = bound (value_of a s) (λ x. value_of b s >>= λ y. at_no_cost (on x y)) k v e in
        let y = bound (value_of b s) (λ y. at_no_cost (on x.first y)) x.rest v x.then_is in
        fb.value (facts_followed (typed_of_expr env a) f) y.units y.first y.is (fa.value f x.units x.first x.is h)

    left_followed : (a : CExpr) → Follows a → (rest : Bool → Costed Value) (f : Facts) (k : ℕ) (v : Value) → (truth (value_of a s) >>= rest) ≡ costs k (Ok v) → Sure f
        → Sure (facts_followed (typed_of_expr env a) f)
    left_followed a fa rest f k v e h =
        let x = bound (truth (value_of a s)) rest k v e in
        let y = truth_ok (value_of a s) x.units x.first x.is in
        fa.value f y.0 (bool x.first) y.1 h

    sides_followed : (o : BinaryOp) (a b : CExpr) → Follows a → Follows b → (f : Facts) (k : ℕ) (v : Value) → both_sides o (value_of a s) (value_of b s) ≡ costs k (Ok v) → Sure f
        → Sure (facts_followed (typed_binary o (typed_of_expr env a) (typed_of_expr env b)) f)
    sides_followed And a b fa fb f k v e h = left_followed a fa _ f k v e h
    sides_followed Or a b fa fb f k v e h = left_followed a fa _ f k v e h
    sides_followed Add a b fa fb f k v e h = plain_followed a b fa fb (on_binary Add) f k v e h
    sides_followed Sub a b fa fb f k v e h = plain_followed a b fa fb (on_binary Sub) f k v e h
    sides_followed Mul a b fa fb f k v e h = plain_followed a b fa fb (on_binary Mul) f k v e h
    sides_followed Div a b fa fb f k v e h = plain_followed a b fa fb (on_binary Div) f k v e h
    sides_followed Rem a b fa fb f k v e h = plain_followed a b fa fb (on_binary Rem) f k v e h
    sides_followed Lt a b fa fb f k v e h = plain_followed a b fa fb (on_binary Lt) f k v e h
    sides_followed Le a b fa fb f k v e h = plain_followed a b fa fb (on_binary Le) f k v e h
    sides_followed Gt a b fa fb f k v e h = plain_followed a b fa fb (on_binary Gt) f k v e h
    sides_followed Ge a b fa fb f k v e h = plain_followed a b fa fb (on_binary Ge) f k v e h
    sides_followed Eq a b fa fb f k v e h = plain_followed a b fa fb (on_binary Eq) f k v e h
    sides_followed Ne a b fa fb f k v e h = plain_followed a b fa fb (on_binary Ne) f k v e h

    follows : (e : CExpr) → Follows e
    follows (num p n) = record { value = λ f k v e h. h; place = λ f k l e h. h }
    follows (true_ p) = record { value = λ f k v e h. h; place = λ f k l e h. h }
    follows (false_ p) = record { value = λ f k v e h. h; place = λ f k l e h. h }
    follows (null p) = record { value = λ f k v e h. h; place = λ f k l e h. h }
    follows (var x) = record { value = λ f k v e h. followed_variable x.kind x.number f h; place = λ f k l e h. followed_variable x.kind x.number f h }
    follows (field p a g) = record {
      value = λ f k v e h. let r = loaded (field_of g (place_of a s)) k v e in field_followed a (follows a) g f r.0 r.1 r.2 h;
      place = λ f k l e h. let r = paid_ok 1 (field_of g (place_of a s)) k l e in field_followed a (follows a) g f r.0 l r.1 h;
    }
    follows (arrow p a g) = record {
      value = λ f k v e h. let r = loaded (field_of g (pointed (value_of a s))) k v e in arrow_followed a (follows a) g f r.0 r.1 r.2 h;
      place = λ f k l e h. let r = paid_ok 1 (field_of g (pointed (value_of a s))) k l e in arrow_followed a (follows a) g f r.0 l r.1 h;
    }
    follows (index p a i) = record {
      value = λ f k v e h. let r = loaded (indexed s (place_of a s) (value_of i s)) k v e in index_followed a i (follows a) (follows i) f r.0 r.1 r.2 h;
      place = λ f k l e h. let r = paid_ok 1 (indexed s (place_of a s) (value_of i s)) k l e in index_followed a i (follows a) (follows i) f r.0 l r.1 h;
    }
    follows (deref p a) = record {
      value = λ f k v e h. let r = loaded (pointed (value_of a s)) k v e in target_followed a (follows a) f r.0 r.1 r.2 h;
      place = λ f k l e h. let r = paid_ok 1 (pointed (value_of a s)) k l e in target_followed a (follows a) f r.0 l r.1 h;
    }
    follows (address p a) = record {
      value = λ f k v e h.
          let r = paid_ok 1 (place_of a s >>= λ l. at_no_cost (Ok (at l))) k v e in
          let b = bound (place_of a s) (λ l. at_no_cost (Ok (at l))) r.0 v r.1 in
          (follows a).place f b.units b.first b.is h;
      place = λ f k l e h. absurd (no_place k l e);
    }
    follows (unary p o a) = record {
      value = λ f k v e h.
          let r = paid_ok 1 (value_of a s >>= λ w. at_no_cost (on_unary o w)) k v e in
          let b = bound (value_of a s) (λ w. at_no_cost (on_unary o w)) r.0 v r.1 in
          followed_unary o (typed_of_expr env a) (written_number a) f h ((follows a).value f b.units b.first b.is h);
      place = λ f k l e h. absurd (no_place k l e);
    }
    follows (binary p o a b) = record {
      value = λ f k v e h. let r = paid_ok 1 (both_sides o (value_of a s) (value_of b s)) k v e in sides_followed o a b (follows a) (follows b) f r.0 v r.1 h;
      place = λ f k l e h. absurd (no_place k l e);
    }

    pub value_followed : (e : CExpr) (f : Facts) (k : ℕ) (v : Value) → value_of e s ≡ costs k (Ok v) → Sure f → Sure (facts_followed (typed_of_expr env e) f)
    value_followed e f k v is h = (follows e).value f k v is h

    pub place_followed : (e : CExpr) (f : Facts) (k : ℕ) (l : Location) → place_of e s ≡ costs k (Ok l) → Sure f → Sure (facts_followed (typed_of_expr env e) f)
    place_followed e f k l is h = (follows e).place f k l is h
