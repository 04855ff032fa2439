-- Which constants nodes are.
use Rattle.std.specs.Prelude.{pos, neg_ℤ, FitsSigned, Ok}
use Rattle.std.specs.Int.{int_wrap, w32}
use Rattle.std.proofs.Common.{◌≡◌, ℕ, ◌+◌, ◌-◌, ◌%◌, ◌^◌, ◌≤◌, true, false, Option, Some, None, refl, sym, ap, ◌∙◌, subst, arith}
use Rattle.std.proofs.lemmas.Int.{SFits-int_wrap}
use Rattle.c0_tree.specs.declared.tree.UnaryOp.TheVariants.{Negate, Not}
use Rattle.c0_tree.specs.Tree.{CExpr, num, true_, false_, null, var, field, arrow, index, deref, address, unary, binary}
use Rattle.c0_meaning.specs.Ty.{Ty}
use Rattle.c0_meaning.specs.Ty as ty
use Rattle.c0_meaning.specs.Numbered.{HasNumberedType, a_number, a_true, a_false, a_negative, a_negation}
use Rattle.c0_meaning.specs.TypedState.{Fits}
use Rattle.c0_meaning.specs.State.{C0State}
use Rattle.c0_meaning.specs.Value.{Value, int, bool}
use Rattle.c0_meaning.specs.Value as value
use Rattle.c0_meaning.specs.Operators.{on_unary}
use Rattle.c0_meaning.specs.Evaluation.{Costed, costs, at_no_cost, paying, ◌>>=◌, value_of}
use Rattle.cvm_words.specs.Words.{word_of}
use Rattle.c0_typed.specs.Typed.{typed_of_expr}
use Rattle.c0_expr_code.specs.declared.facts.Facts.{Facts}
use Rattle.c0_expr_code.specs.Scope.{Scope}
use Rattle.c0_expr_code.specs.Code.{right_facts, negated, negative_made, made}
use Rattle.c0_expr_runs.specs.Bases.{Bases, word_of_scalar}
use Rattle.c0_expr_runs.specs.Relation.{layout}
use Rattle.c0_expr_runs.proofs.WordsOfValues.{word_pos, word_negative}
use Rattle.c0_expr_code.proofs.NodeTypes.{variable_not_constant, negative_literal, binary_not_constant}

none_some : {A : Type 0} (o : Option A) (a : A) → o ≡ None → o ≡ Some a → ⊥
none_some o a e q = cc

module _ (sc : Scope) where
  -- the number that is written is what the expression comes to
  pub literal_is : (fs : Facts) (e : CExpr) (c : ℕ) (s : C0State) → (made sc fs e).literal ≡ Some c → value_of e s ≡ costs 1 (Ok (int (pos c)))
  literal_is fs (num p n) c s e = let q : n ≡ c = cc in ap (λ m. costs 1 (Ok (int (pos m)))) q
  literal_is fs (var x) c s e = absurd (none_some _ c (variable_not_constant sc fs x.kind x.number).literal e)
  literal_is fs (unary p Negate a) c s e = absurd (none_some _ c (negative_literal sc (made sc fs a).literal (made sc fs a)) e)
  literal_is fs (unary p Not a) c s e = absurd (cc)
  literal_is fs (binary p o a b) c s e = absurd (none_some _ c (binary_not_constant sc o (made sc fs a) (made sc (right_facts o (typed_of_expr sc.env a) fs) b)).literal e)
  literal_is fs (true_ p) c s e = absurd (cc)
  literal_is fs (false_ p) c s e = absurd (cc)
  literal_is fs (null p) c s e = absurd (cc)
  literal_is fs (field p a f) c s e = absurd (cc)
  literal_is fs (arrow p a f) c s e = absurd (cc)
  literal_is fs (index p a i) c s e = absurd (cc)
  literal_is fs (deref p a) c s e = absurd (cc)
  literal_is fs (address p a) c s e = absurd (cc)

  pub small_literal : (fs : Facts) (e : CExpr) (c : ℕ) → HasNumberedType sc.env e ty.int → (made sc fs e).literal ≡ Some c → FitsSigned w32 (pos c)
  small_literal fs _ c (a_number {n = n} h) e = let q : n ≡ c = cc in subst (λ m. FitsSigned w32 (pos m)) q (record { sfits = omega (arith, h) })
  small_literal fs (var x) c h e = absurd (none_some _ c (variable_not_constant sc fs x.kind x.number).literal e)
  small_literal fs (unary p Negate a) c h e = absurd (none_some _ c (negative_literal sc (made sc fs a).literal (made sc fs a)) e)
  small_literal fs (binary p o a b) c h e = absurd (none_some _ c (binary_not_constant sc o (made sc fs a) (made sc (right_facts o (typed_of_expr sc.env a) fs) b)).literal e)
  small_literal fs (field p a f) c h e = absurd (cc)
  small_literal fs (arrow p a f) c h e = absurd (cc)
  small_literal fs (index p a i) c h e = absurd (cc)
  small_literal fs (deref p a) c h e = absurd (cc)

  module _ (p : Bases) where
    -- an evaluation comes to a value of a known word
    pub record KnownAs (t : Ty) (k : ℕ) (y : Costed Value) : Type 0 where
      pub units : ℕ
      pub value : Value
      pub is : y ≡ costs units (Ok value)
      pub some : 1 ≤ units
      pub fits : Fits sc.env.structs (layout sc p) t value
      pub word_is : word_of_scalar sc p value ≡ k

    negative_word : (n : ℕ) → FitsSigned w32 (pos n) → word_of (int_wrap w32 (neg_ℤ (pos n))) ≡ negated n
    negative_word n h = sym (word_negative (pos n) h) ∙ ap (λ y. (0 + (2 ^ 32 - y)) % 2 ^ 32) (word_pos n h) ∙ omega arith

    pub negative_known : (fs : Facts) (e : CExpr) (s : C0State) (k : ℕ) (o : Option ℕ) → HasNumberedType sc.env e ty.int → (made sc fs e).literal ≡ o
        → (negative_made o (made sc fs e)).known ≡ Some k → KnownAs ty.int k (paying 1 (value_of e s >>= λ v. at_no_cost (on_unary Negate v)))
    negative_known fs e s k None h q g = absurd (cc)
    negative_known fs e s k (Some n) h q g =
        let fits = small_literal fs e n h q in
        let z : negated n ≡ k = cc in
        record {
          units = 1 + (1 + 0);
          value = int (int_wrap w32 (neg_ℤ (pos n)));
          is = ap (λ (z : Costed Value). paying 1 (z >>= λ v. at_no_cost (on_unary Negate v))) (literal_is fs e n s q);
          some = omega arith;
          fits = SFits-int_wrap w32 _;
          word_is = negative_word n fits ∙ z;
        }

    pub known_is : (fs : Facts) (e : CExpr) (t : Ty) (s : C0State) (k : ℕ) → HasNumberedType sc.env e t → (made sc fs e).known ≡ Some k → KnownAs t k (value_of e s)
    known_is fs _ _ s k (a_number {n = n} h) e =
        let q : n ≡ k = cc in
        let fits : FitsSigned w32 (pos n) = record { sfits = omega (arith, h) } in
        record { units = 1; value = int (pos n); is = refl; some = omega arith; fits = fits; word_is = word_pos n fits ∙ q }
    known_is fs _ _ s k a_true e = let q : 1 ≡ k = cc in record { units = 1; value = bool true; is = refl; some = omega arith; fits = tt; word_is = q }
    known_is fs _ _ s k a_false e = let q : 0 ≡ k = cc in record { units = 1; value = bool false; is = refl; some = omega arith; fits = tt; word_is = q }
    known_is fs (var x) t s k h e = absurd (none_some _ k (variable_not_constant sc fs x.kind x.number).known e)
    known_is fs (field p a f) t s k h e = absurd (cc)
    known_is fs (arrow p a f) t s k h e = absurd (cc)
    known_is fs (index p a i) t s k h e = absurd (cc)
    known_is fs (deref p a) t s k h e = absurd (cc)
    known_is fs (address p a) t s k h e = absurd (cc)
    known_is fs _ _ s k (a_negative {e = a} h) e = negative_known fs a s k (made sc fs a).literal h refl e
    known_is fs _ _ s k (a_negation {e = a} h) e = absurd (cc)
    known_is fs (binary p o a b) t s k h e = absurd (none_some _ k (binary_not_constant sc o (made sc fs a) (made sc (right_facts o (typed_of_expr sc.env a) fs) b)).known e)

    pub null_known : (t : Ty) (k : ℕ) → ◌≡◌ {A = Option ℕ} (Some 0) (Some k) → KnownAs (ty.pointer t) k (costs 1 (Ok value.null))
    null_known t k e = let q : 0 ≡ k = cc in record { units = 1; value = value.null; is = refl; some = omega arith; fits = tt; word_is = q }
