-- Variables stand as far as they are live where their words are the same, and where a scalar is put at its place.
use Rattle.std.specs.Prelude.{slice_get, IsTrue}
use Rattle.std.proofs.Common.{◌≡◌, ◌≢◌, inl, inr, Bool, true, ℕ, ◌+◌, ◌<◌, ◌≤◌, ◌⊎◌, nat_eq, List, [], ◌∷◌, Some, sym, ap, ◌∙◌, subst, arith, eq-eqb, ne_eqb, refl}
use Rattle.std.proofs.lemmas.Bool.{cases_eq, cond-true, cond-false}
use Rattle.mips_table.specs.Code.{put}
use Rattle.c0_meaning.specs.Ty.{Ty, is_scalar}
use Rattle.c0_meaning.specs.Ty as ty
use Rattle.c0_meaning.specs.Words.{shape_fields, words}
use Rattle.c0_meaning.specs.Sizes.{words_before}
use Rattle.c0_meaning.specs.Addresses.{words_to_part}
use Rattle.c0_meaning.specs.Value.{Value, value_with}
use Rattle.c0_meaning.specs.TypedState.{types_of, LeadsFrom}
use Rattle.c0_expr_code.specs.Scope.{Scope}
use Rattle.c0_expr_runs.specs.Bases.{Bases, words_of_all, word_of_scalar, LocalsHeld}
use Rattle.c0_expr_runs.proofs.PartsAtOffsets.{one_word, before_room}
use Rattle.c0_expr_runs.proofs.StoredAtPath.{put_word}

pub put_same : (m : ℕ → ℕ) (a v : ℕ) → put m a v a ≡ v
put_same m a v = cond-true (nat_eq a a) v (m a) (eq-eqb a a refl)

pub put_other : (m : ℕ → ℕ) (a v y : ℕ) → y ≢ a → put m a v y ≡ m y
put_other m a v y ne = cond-false (nat_eq y a) v (m y) (ne_eqb y a ne)

module _ (sc : Scope) (p : Bases) (opened : (x : List ℕ) → words sc.env.structs (ty.named x) ≡ words_of_all sc.env.structs (types_of (shape_fields sc.env.structs x))) where
  pub locals_same : (live : ℕ → Bool) (m m' : ℕ → ℕ) (a : ℕ) (ts : List Ty) (v : Value)
      → ((x : ℕ) → a ≤ x → x < a + words_of_all sc.env.structs ts → m' x ≡ m x) → LocalsHeld sc p live m a ts v → LocalsHeld sc p live m' a ts v
  locals_same live m m' a ts v e h = record {
    whole = h.whole;
    held = h.held;
    same = λ n t there is_live k less.
        let r = before_room sc.env.structs ts n t there in
        e (a + words_before sc.env.structs ts n + k) (omega arith) (omega (arith, r, less)) ∙ h.same n t there is_live k less;
  }

  -- a variable of a scalar's type that is a whole path is the word there
  at_path : (a b : ℕ) (ts : List Ty) (path : List ℕ) (u : Ty) (n : ℕ) (t : Ty) (k : ℕ) → LeadsFrom sc.env.structs ts path u → is_scalar u ≡ true
      → b ≡ a + words_to_part sc.env.structs ts path → slice_get ts n ≡ Some t → k < words sc.env.structs t → path ≡ n ∷ []
      → a + words_before sc.env.structs ts n + k ≡ b
  at_path a b ts path u n t k l scalar is there less q =
      let lead : LeadsFrom sc.env.structs ts (n ∷ []) u = subst (λ z. LeadsFrom sc.env.structs ts z u) q l in
      let same : t ≡ u = same_type lead.0 (there_is lead.0 there lead.1) lead.2 in
      let one = one_word sc.env.structs u scalar in
      let size : words sc.env.structs t ≡ words sc.env.structs u = ap (words sc.env.structs) same in
      let place : words_to_part sc.env.structs ts path ≡ words_to_part sc.env.structs ts (n ∷ []) = ap (λ z. words_to_part sc.env.structs ts z) q in
      let first : words_to_part sc.env.structs ts (n ∷ []) ≡ words_before sc.env.structs ts n = omega arith in
      omega (arith, one, size, place, first, is, less)
    where
      there_is : (z : Ty) → slice_get ts n ≡ Some t → slice_get ts n ≡ Some z → t ≡ z
      there_is z e f = cc

      same_type : (z : Ty) → t ≡ z → z ≡ u → t ≡ u
      same_type z e f = e ∙ f

  pub locals_put : (live later : ℕ → Bool) (m m' : ℕ → ℕ) (a b : ℕ) (ts : List Ty) (path : List ℕ) (u : Ty) (v x : Value)
      → LeadsFrom sc.env.structs ts path u → is_scalar u ≡ true → b ≡ a + words_to_part sc.env.structs ts path → m' b ≡ word_of_scalar sc p x
      → ((y : ℕ) → y ≢ b → m' y ≡ m y) → ((n : ℕ) → IsTrue (later n) → IsTrue (live n) ⊎ (path ≡ n ∷ []))
      → LocalsHeld sc p live m a ts v → LocalsHeld sc p later m' a ts (value_with v path x)
  locals_put live later m m' a b ts path u v x l scalar is here others grows h = record {
    whole = put h.whole b (word_of_scalar sc p x);
    held = put_word sc p opened h.whole (put h.whole b (word_of_scalar sc p x)) a b ts path u v x l scalar is (put_same h.whole b (word_of_scalar sc p x))
        (λ y ne. put_other h.whole b (word_of_scalar sc p x) y ne) h.held;
    same = λ n t there is_live k less. elim (cases_eq (a + words_before sc.env.structs ts n + k) b) [
      | inl e ↦ ap m' e ∙ here ∙ sym (ap (put h.whole b (word_of_scalar sc p x)) e ∙ put_same h.whole b (word_of_scalar sc p x))
      | inr ne ↦ others (a + words_before sc.env.structs ts n + k) ne ∙ before n t there k less ne (grows n is_live) ∙ sym (put_other h.whole b (word_of_scalar sc p x) (a + words_before sc.env.structs ts n + k) ne)
    ];
  }
    where
      before : (n : ℕ) (t : Ty) → slice_get ts n ≡ Some t → (k : ℕ) → k < words sc.env.structs t → a + words_before sc.env.structs ts n + k ≢ b
          → IsTrue (live n) ⊎ (path ≡ n ∷ [])
          → m (a + words_before sc.env.structs ts n + k) ≡ h.whole (a + words_before sc.env.structs ts n + k)
      before n t there k less ne (inl was) = h.same n t there was k less
      before n t there k less ne (inr q) = absurd (ne (at_path a b ts path u n t k l scalar is there less q))
