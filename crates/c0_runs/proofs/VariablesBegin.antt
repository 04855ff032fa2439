-- The variables of a function that begins: its arguments, and locals that are 0.
use Rattle.std.specs.Prelude.{IsTrue, replicate, pos, if◌then◌else◌}
use Rattle.std.proofs.Common.{◌≡◌, ℕ, zero, suc, ◌+◌, ◌*◌, ◌<◌, ◌≤◌, Bool, true, false, List, [], ◌∷◌, ◌++◌, length, refl, sym, ap, ◌∙◌, subst, arith}
use Rattle.c0_meaning.specs.Ty.{Ty, is_scalar}
use Rattle.c0_meaning.specs.Ty as ty
use Rattle.c0_meaning.specs.Env.{Typed, Shape}
use Rattle.c0_meaning.specs.Words.{shape_fields, holds, words}
use Rattle.c0_meaning.specs.Value.{Value, int, bool, null, at, group, Values, empty, part, followed_by, repeated, zero_with, zeros_with, zero_within, zero_of, zeros_of}
use Rattle.c0_meaning.specs.TypedState.{StoreTyping, types_of, Fits, AllFit}
use Rattle.c0_expr_code.specs.Scope.{Scope}
use Rattle.c0_expr_runs.specs.Bases.{Bases, words_of_all, word_of_scalar, Held, AllHeld}
use Rattle.c0_runs.specs.Standing.{AreIn}
use Rattle.c0_stmt_code.proofs.PremisesOfFunctions.{AllScalar}

-- a value as it is at the start
abbrev mutual
  IsZero : Value → Type 0
  IsZero (int z) = z ≡ pos 0
  IsZero (bool b) = b ≡ false
  IsZero null = Unit {0}
  IsZero (at l) = ⊥
  IsZero (group vs) = AreZero vs

  AreZero : Values → Type 0
  AreZero empty = Unit {0}
  AreZero (part v vs) = IsZero v × AreZero vs

module _ (structs : List Shape) where
  repeated_zero : (n : ℕ) (v : Value) → IsZero v → AreZero (repeated n v)
  repeated_zero zero v h = tt
  repeated_zero (suc n) v h = (h, repeated_zero n v h)

  with_zero : (f : List ℕ → Value) → ((x : List ℕ) → IsZero (f x)) → (t : Ty) → IsZero (zero_with f t)
  with_zero f h ty.int = refl
  with_zero f h ty.bool = refl
  with_zero f h (ty.pointer t) = tt
  with_zero f h (ty.named x) = h x
  with_zero f h (ty.array t n) = repeated_zero n (zero_with f t) (with_zero f h t)

  withs_zero : (f : List ℕ → Value) → ((x : List ℕ) → IsZero (f x)) → (ds : List Typed) → AreZero (zeros_with f ds)
  withs_zero f h [] = tt
  withs_zero f h (d ∷ ds) = (with_zero f h d.ty, withs_zero f h ds)

  within_zero : (depth : ℕ) (x : List ℕ) → IsZero (zero_within depth structs x)
  within_zero zero x = tt
  within_zero (suc depth) x = by_test (holds structs x x) (λ y. within_zero depth y)
    where
      by_test : (b : Bool) → ((y : List ℕ) → IsZero (zero_within depth structs y)) → IsZero (if b then group empty else group (zeros_with (zero_within depth structs) (shape_fields structs x)))
      by_test true h = tt
      by_test false h = withs_zero (zero_within depth structs) h (shape_fields structs x)

  pub zero_zero : (t : Ty) → IsZero (zero_of structs t)
  zero_zero t = with_zero (zero_within (length structs) structs) (within_zero (length structs)) t

  pub zeros_zero : (ds : List Typed) → AreZero (zeros_of structs ds)
  zeros_zero ds = withs_zero (zero_within (length structs) structs) (within_zero (length structs)) ds

-- values that are 0 stand in words that are 0
module _ (sc : Scope) (p : Bases) (layout : StoreTyping) (opened : (x : List ℕ) → words sc.env.structs (ty.named x) ≡ words_of_all sc.env.structs (types_of (shape_fields sc.env.structs x))) (m : ℕ → ℕ) where
  copies : (n : ℕ) (t : Ty) → words_of_all sc.env.structs (replicate n t) ≡ n * words sc.env.structs t
  copies zero t = omega arith
  copies (suc n) t = let g = copies n t in omega (arith, g)

  mutual
    zero_held : (a : ℕ) (t : Ty) (v : Value) → Fits sc.env.structs layout t v → IsZero v → ((x : ℕ) → a ≤ x → x < a + words sc.env.structs t → m x ≡ 0) → Held sc p m a t v
    zero_held a ty.int (int z) f h e = e a (omega arith) (omega arith) ∙ ap (λ v. word_of_scalar sc p (int v)) (sym h)
    zero_held a ty.bool (bool b) f h e = e a (omega arith) (omega arith) ∙ ap (λ v. word_of_scalar sc p (bool v)) (sym h)
    zero_held a (ty.pointer t) null f h e = e a (omega arith) (omega arith)
    zero_held a (ty.named x) (group vs) f h e = zeros_held a (types_of (shape_fields sc.env.structs x)) vs f h (λ y le lt. let o = opened x in e y le (omega (arith, lt, o)))
    zero_held a (ty.array t n) (group vs) f h e = zeros_held a (replicate n t) vs f h (λ y le lt. let o = copies n t in e y le (omega (arith, lt, o)))
    zero_held a (ty.pointer t) (at l) f h e = absurd h
    zero_held a _ _ f h e = absurd f

    pub zeros_held : (a : ℕ) (ts : List Ty) (vs : Values) → AllFit sc.env.structs layout ts vs → AreZero vs → ((x : ℕ) → a ≤ x → x < a + words_of_all sc.env.structs ts → m x ≡ 0) → AllHeld sc p m a ts vs
    zeros_held a [] empty f h e = tt
    zeros_held a (t ∷ ts) (part v vs) f h e = (zero_held a t v f.0 h.0 (λ x le lt. e x le (omega (arith, lt))), zeros_held (a + words sc.env.structs t) ts vs f.1 h.1 (λ x le lt. e x (omega (arith, le)) (omega (arith, lt))))
    zeros_held a _ _ f h e = absurd f

  -- values, and others behind them
  pub joined_held : (a : ℕ) (ts us : List Ty) (vs ws : Values) → AllHeld sc p m a ts vs → AllHeld sc p m (a + words_of_all sc.env.structs ts) us ws → AllHeld sc p m a (ts ++ us) (followed_by vs ws)
  joined_held a [] us empty ws h g = subst (λ b. AllHeld sc p m b us ws) (omega arith) g
  joined_held a (t ∷ ts) us (part v vs) ws h g = (h.0, joined_held (a + words sc.env.structs t) ts us vs ws h.1 (subst (λ b. AllHeld sc p m b us ws) (omega arith) g))
  joined_held a [] us (part v vs) ws h g = absurd h
  joined_held a (t ∷ ts) us empty ws h g = absurd h

  -- scalars that stand in registers are copied to words one behind the other
  scalar_held : (a : ℕ) (t : Ty) (v : Value) → IsTrue (is_scalar t) → m a ≡ word_of_scalar sc p v → Held sc p m a t v
  scalar_held a ty.int v s h = h
  scalar_held a ty.bool v s h = h
  scalar_held a (ty.pointer t) v s h = h
  scalar_held a (ty.named x) v s h = absurd (cc)
  scalar_held a (ty.array t n) v s h = absurd (cc)

  scalar_words : (t : Ty) → IsTrue (is_scalar t) → words sc.env.structs t ≡ 1
  scalar_words ty.int s = refl
  scalar_words ty.bool s = refl
  scalar_words (ty.pointer t) s = refl
  scalar_words (ty.named x) s = absurd (cc)
  scalar_words (ty.array t n) s = absurd (cc)

  pub scalars_words : (ts : List Ty) → AllScalar ts → words_of_all sc.env.structs ts ≡ length ts
  scalars_words [] s = refl
  scalars_words (t ∷ ts) s = let e = scalars_words ts s.1 in let g = scalar_words t s.0 in omega (arith, e, g)

  pub args_held : (regs : ℕ → ℕ) (a r : ℕ) (ts : List Ty) (vs : Values) → AllScalar ts → AllFit sc.env.structs layout ts vs → AreIn sc p regs r vs → ((j : ℕ) → j < length ts → m (a + j) ≡ regs (r + j)) → AllHeld sc p m a ts vs
  args_held regs a r [] empty s f h e = tt
  args_held regs a r (t ∷ ts) (part v vs) s f h e =
      let one = scalar_words t s.0 in (
        scalar_held a t v s.0 (ap m (omega arith) ∙ e 0 (omega arith) ∙ ap regs (omega arith) ∙ h.0),
        subst (λ b. AllHeld sc p m b ts vs) (omega (arith, one)) (args_held regs (a + 1) (suc r) ts vs s.1 f.1 h.1 (λ j lt. ap m (omega arith) ∙ e (suc j) (omega (arith, lt)) ∙ ap regs (omega arith))),
      )
  args_held regs a r [] (part v vs) s f h e = absurd f
  args_held regs a r (t ∷ ts) empty s f h e = absurd f
