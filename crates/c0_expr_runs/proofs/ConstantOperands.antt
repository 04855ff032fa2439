-- Operators on a value in a register and a constant.
use Rattle.std.specs.Prelude.{ℤ, pos, negsuc, ◌+ℤ◌, ◌-ℤ◌, int_lt, int_le, FitsSigned, bit_xor, Result, Ok}
use Rattle.std.specs.Int.{cast_signed, int_wrap, w32}
use Rattle.std.proofs.Common.{◌≡◌, ◌≢◌, inl, inr, ◌⊎◌, ℕ, zero, suc, ◌+◌, ◌-◌, ◌%◌, ◌^◌, ◌<◌, ◌≤◌, Bool, true, false, not, cond, nat_eq, nat_lt, Some, None, List, [], ◌∷◌, length, refl, sym, ap, ap₂, ◌∙◌, subst, arith, lt-ltb, le-ltb, ne_eqb}
use Rattle.std.proofs.lemmas.Bool.{cases_Bool, eqb-true, ltb-true, ltb-false, cond-true, cond-false}
use Rattle.std.proofs.lemmas.Int.{ints, SFits-int_wrap, to_z-of_z}
use Rattle.std.proofs.Math.IntN.{+ℤ_comm}
use Rattle.mips_table.specs.declared.inst.Inst.{Inst}
use Rattle.mips_table.specs.declared.inst.Inst.TheVariants.{Addiu, Slti, Sltiu, Sltu, Xori}
use Rattle.mips_table.specs.Arith.{sum, difference, less, flag, extended}
use Rattle.mips_table.specs.Device.{Idle}
use Rattle.mips_table.specs.Code.{Contents, reg, with_reg, Behind, World, at_with, CodeAt}
use Rattle.masm.specs.Says.{Gives as Becomes}
use Rattle.c0_tree.specs.declared.tree.BinaryOp.{BinaryOp}
use Rattle.c0_tree.specs.declared.tree.BinaryOp.TheVariants.{Add, Sub, Lt, Le, Ge, Eq, Ne}
use Rattle.c0_meaning.specs.Ty.{Ty, is_scalar}
use Rattle.c0_meaning.specs.Ty as ty
use Rattle.c0_meaning.specs.Value.{Value, int, bool, null, at, group}
use Rattle.c0_meaning.specs.State.{C0State}
use Rattle.c0_meaning.specs.Operators.{Failure, same, on_binary}
use Rattle.c0_meaning.specs.Evaluation.{at_no_cost}
use Rattle.c0_meaning.specs.TypedState.{Fits}
use Rattle.cvm_words.specs.Words.{word_of}
use Rattle.c0_expr_code.specs.Scope.{Scope}
use Rattle.c0_expr_code.specs.Code.{low, is_near, negated, equality_with, immediate}
use Rattle.c0_expr_runs.specs.Bases.{Bases, word_of_scalar}
use Rattle.c0_expr_runs.specs.Relation.{layout, StateIsTyped, Area, Evaluates, HoldsValue}
use Rattle.c0_expr_runs.proofs.CodeRuns.{Machine, said_step}
use Rattle.c0_expr_runs.proofs.WordsOfValues.{word_sum, word_difference, word_less, xor_tests, not_flag, not_less}
use Rattle.c0_expr_runs.proofs.SideBySide.{same_read}
use Rattle.c0_expr_runs.proofs.OperatorsOnRegisters.{FinishesOne, once, twice, same_words}

some_is : {A : Type 0} (b : Bool) (c f : A) → cond b (Some c) None ≡ Some f → (b ≡ true) × (c ≡ f)
some_is true c f e = (refl, cc)
some_is false c f e = absurd (cc)

pub near_some : {A : Type 0} (k : ℕ) (c f : A) → cond (is_near k) (Some c) None ≡ Some f → (extended (k % 2 ^ 16) ≡ k) × (c ≡ f)
near_some k c f e = let h = some_is (is_near k) c f e in (eqb-true (extended (low k)) k h.0, h.1)

either_some : {A : Type 0} (b d : Bool) (c g f : A) → cond b (Some c) (cond d (Some g) None) ≡ Some f → ((b ≡ true) × (c ≡ f)) ⊎ (g ≡ f)
either_some true d c g f e = inl (refl, cc)
either_some false true c g f e = inr (cc)
either_some false false c g f e = absurd (cc)

-- a near word is small or large
near_cases : (k : ℕ) → extended (k % 2 ^ 16) ≡ k → (k < 2 ^ 15) ⊎ (2 ^ 32 - 2 ^ 15 ≤ k)
near_cases k e = elim (cases_Bool (nat_lt (k % 2 ^ 16) (2 ^ 15))) [
  | inl h ↦ let g = cond-true (nat_lt (k % 2 ^ 16) (2 ^ 15)) (k % 2 ^ 16) (k % 2 ^ 16 + (2 ^ 32 - 2 ^ 16)) h in let l = ltb-true (k % 2 ^ 16) (2 ^ 15) h in inl (omega (arith, e, g, l))
  | inr h ↦ let g = cond-false (nat_lt (k % 2 ^ 16) (2 ^ 15)) (k % 2 ^ 16) (k % 2 ^ 16 + (2 ^ 32 - 2 ^ 16)) h in let l = ltb-false (k % 2 ^ 16) (2 ^ 15) h in inr (omega (arith, e, g, l))
]

-- the int after another, where its word is near
after_word : (z : ℤ) → FitsSigned w32 z → (k : ℕ) → k ≡ (word_of z + 1) % 2 ^ 32 → extended (k % 2 ^ 16) ≡ k → cast_signed w32 k ≡ z +ℤ pos 1
after_word z f k e near = ap (cast_signed w32) (by_number z f e (near_cases k near)) ∙ to_z-of_z w32 (z +ℤ pos 1) (fits z f e (near_cases k near))
  where
    by_number : (z : ℤ) → FitsSigned w32 z → k ≡ (word_of z + 1) % 2 ^ 32 → (k < 2 ^ 15) ⊎ (2 ^ 32 - 2 ^ 15 ≤ k) → k ≡ word_of (z +ℤ pos 1)
    by_number (pos n) f e h = let g = f.sfits in omega (arith, ints, e, g)
    by_number (negsuc zero) f e h = omega (arith, ints, e)
    by_number (negsuc (suc n)) f e h = let g = f.sfits in omega (arith, ints, e, g)

    step : (n : ℕ) → negsuc (suc n) +ℤ pos 1 ≡ negsuc n
    step n = omega (arith, ints)

    fits : (z : ℤ) → FitsSigned w32 z → k ≡ (word_of z + 1) % 2 ^ 32 → (k < 2 ^ 15) ⊎ (2 ^ 32 - 2 ^ 15 ≤ k) → FitsSigned w32 (z +ℤ pos 1)
    fits (pos n) f e (inl h) = let g = f.sfits in record { sfits = omega (arith, ints, e, g, h) }
    fits (pos n) f e (inr h) = let g = f.sfits in absurd (omega (arith, ints, e, g, h))
    fits (negsuc zero) f e h = record { sfits = omega (arith, ints) }
    fits (negsuc (suc n)) f e h = let g = f.sfits in subst (FitsSigned w32) (sym (step n)) (record { sfits = omega (arith, g) })

less_after : (x z : ℤ) → int_lt x (z +ℤ pos 1) ≡ int_le x z
less_after x z = grind (arith, ints)

pub less_near : (x z : ℤ) (k : ℕ) → FitsSigned w32 x → FitsSigned w32 z → k ≡ (word_of z + 1) % 2 ^ 32 → extended (k % 2 ^ 16) ≡ k
    → less (word_of x) (extended (k % 2 ^ 16)) ≡ int_le x z
less_near x z k f g e near = ap₂ int_lt (to_z-of_z w32 x f) (ap (cast_signed w32) near ∙ after_word z g k e near) ∙ less_after x z

below_one : (n : ℕ) → nat_lt n 1 ≡ nat_eq n 0
below_one zero = refl
below_one (suc n) = le-ltb (suc n) 1 (omega arith) ∙ sym (ne_eqb (suc n) 0 (λ e. absurd (omega (arith, e))))

above_none : (n : ℕ) → nat_lt 0 n ≡ not (nat_eq n 0)
above_none zero = refl
above_none (suc n) = lt-ltb 0 (suc n) (omega arith) ∙ ap not (sym (ne_eqb (suc n) 0 (λ e. absurd (omega (arith, e)))))

module _ (w : World) (sc : Scope) (p : Bases) (live : ℕ → Bool) (s : C0State) (f : Machine w) (area : Area w sc p) (is_typed : StateIsTyped sc p s) where
  -- a value in a register, and then the code of the operator with a constant
  abbrev pub With : (ℕ → ℕ → List Inst) → (d r : ℕ) → Ty → Ty → (Value → Result Value Failure) → Type 0
  With g d r t z on = FinishesOne w sc p live s f area is_typed (λ q. g d q) d r t z on

  on_number : (g : ℕ → ℕ → List Inst) (d r : ℕ) (z : Ty) (on : Value → Result Value Failure) →
      ((x : ℤ) (q n : ℕ) (a : Contents) (k : Behind) → k.pending ≡ Idle → FitsSigned w32 x → reg a.regs q ≡ word_of x → CodeAt w n (g d q) → Evaluates w sc 5 n (n + length (g d q)) a k (HoldsValue sc p d r d z a) (at_no_cost (on (int x)))) → With g d r ty.int z on
  on_number g d r z on h (int x) q n a k idle fx ex there = h x q n a k idle fx ex there
  on_number g d r z on h (bool b) q n a k idle fx ex there = absurd fx
  on_number g d r z on h null q n a k idle fx ex there = absurd fx
  on_number g d r z on h (at l) q n a k idle fx ex there = absurd fx
  on_number g d r z on h (group vs) q n a k idle fx ex there = absurd fx

  adds : (d r : ℕ) (z : ℤ) → d ≢ 0 → FitsSigned w32 z → extended (word_of z % 2 ^ 16) ≡ word_of z
      → With (λ d q. Addiu d q (low (word_of z)) ∷ []) d r ty.int ty.int (λ x. on_binary Add x (int z))
  adds d r z nz fz near = on_number (λ d q. Addiu d q (low (word_of z)) ∷ []) d r ty.int _ (λ x q n a k idle fx ex there.
      once w sc p live s f area is_typed d r (word_of (int_wrap w32 (x +ℤ z))) n ty.int (int (int_wrap w32 (x +ℤ z))) a k nz refl (SFits-int_wrap w32 _)
      (said_step w f (Addiu d q (low (word_of z))) (Becomes (word_of (int_wrap w32 (x +ℤ z)))) n a k there.0 refl idle (ap₂ sum ex near ∙ word_sum x z fx fz)))

  pub adds_left : (d r : ℕ) (z : ℤ) → d ≢ 0 → FitsSigned w32 z → (g : ℕ → ℕ → List Inst) → immediate Add (word_of z) ≡ Some g
      → With g d r ty.int ty.int (λ x. on_binary Add (int z) x)
  adds_left d r z nz fz g e =
      let h = near_some (word_of z) (λ d q. Addiu d q (low (word_of z)) ∷ []) g e in
      subst (λ g. With g d r ty.int ty.int (λ x. on_binary Add (int z) x)) h.1
      (on_number (λ d q. Addiu d q (low (word_of z)) ∷ []) d r ty.int _ (λ x q n a k idle fx ex there.
      once w sc p live s f area is_typed d r (word_of (int_wrap w32 (z +ℤ x))) n ty.int (int (int_wrap w32 (z +ℤ x))) a k nz refl (SFits-int_wrap w32 _)
      (said_step w f (Addiu d q (low (word_of z))) (Becomes (word_of (int_wrap w32 (z +ℤ x)))) n a k there.0 refl idle (ap₂ sum ex h.0 ∙ word_sum x z fx fz ∙ ap (λ y. word_of (int_wrap w32 y)) (+ℤ_comm x z)))))

  subtracts : (d r : ℕ) (z : ℤ) → d ≢ 0 → FitsSigned w32 z → extended (negated (word_of z) % 2 ^ 16) ≡ negated (word_of z)
      → With (λ d q. Addiu d q (low (negated (word_of z))) ∷ []) d r ty.int ty.int (λ x. on_binary Sub x (int z))
  subtracts d r z nz fz near = on_number (λ d q. Addiu d q (low (negated (word_of z))) ∷ []) d r ty.int _ (λ x q n a k idle fx ex there.
      once w sc p live s f area is_typed d r (word_of (int_wrap w32 (x -ℤ z))) n ty.int (int (int_wrap w32 (x -ℤ z))) a k nz refl (SFits-int_wrap w32 _)
      (said_step w f (Addiu d q (low (negated (word_of z)))) (Becomes (word_of (int_wrap w32 (x -ℤ z)))) n a k there.0 refl idle (ap₂ sum ex near ∙ less_is (word_of x) (word_of z) ∙ word_difference x z fx fz)))
    where
      less_is : (a b : ℕ) → sum a (negated b) ≡ difference a b
      less_is a b = omega arith

  below : (d r : ℕ) (z : ℤ) → d ≢ 0 → FitsSigned w32 z → extended (word_of z % 2 ^ 16) ≡ word_of z
      → With (λ d q. Slti d q (low (word_of z)) ∷ []) d r ty.int ty.bool (λ x. on_binary Lt x (int z))
  below d r z nz fz near = on_number (λ d q. Slti d q (low (word_of z)) ∷ []) d r ty.bool _ (λ x q n a k idle fx ex there.
      once w sc p live s f area is_typed d r (flag (int_lt x z)) n ty.bool (bool (int_lt x z)) a k nz refl tt
      (said_step w f (Slti d q (low (word_of z))) (Becomes (flag (int_lt x z))) n a k there.0 refl idle (ap flag (ap₂ less ex near ∙ word_less x z fx fz))))

  at_most : (d r : ℕ) (z : ℤ) → d ≢ 0 → FitsSigned w32 z → (k : ℕ) → k ≡ (word_of z + 1) % 2 ^ 32 → extended (k % 2 ^ 16) ≡ k
      → With (λ d q. Slti d q (low k) ∷ []) d r ty.int ty.bool (λ x. on_binary Le x (int z))
  at_most d r z nz fz b e near = on_number (λ d q. Slti d q (low b) ∷ []) d r ty.bool _ (λ x q n a k idle fx ex there.
      once w sc p live s f area is_typed d r (flag (int_le x z)) n ty.bool (bool (int_le x z)) a k nz refl tt
      (said_step w f (Slti d q (low b)) (Becomes (flag (int_le x z))) n a k there.0 refl idle (ap flag (ap (λ y. less y (extended (low b))) ex ∙ less_near x z b fx fz e near))))

  at_least : (d r : ℕ) (z : ℤ) → d ≢ 0 → FitsSigned w32 z → extended (word_of z % 2 ^ 16) ≡ word_of z
      → With (λ d q. Slti d q (low (word_of z)) ∷ Xori d d 1 ∷ []) d r ty.int ty.bool (λ x. on_binary Ge x (int z))
  at_least d r z nz fz near = on_number (λ d q. Slti d q (low (word_of z)) ∷ Xori d d 1 ∷ []) d r ty.bool _ (λ x q n a k idle fx ex there.
      twice w sc p live s f area is_typed d r (flag (int_lt x z)) (flag (int_le z x)) n ty.bool (bool (int_le z x)) a k nz refl tt
      (said_step w f (Slti d q (low (word_of z))) (Becomes (flag (int_lt x z))) n a k there.0 refl idle (ap flag (ap₂ less ex near ∙ word_less x z fx fz)))
      (said_step w f (Xori d d 1) (Becomes (flag (int_le z x))) (n + 1) (with_reg a d (flag (int_lt x z))) k there.1.0 refl idle (ap (λ y. bit_xor y 1) (same_read a.regs d (flag (int_lt x z)) nz) ∙ not_flag (int_lt x z) ∙ ap flag (not_less z x))))

  -- what an instruction tells of a difference from 0
  record Tells (i : ℕ → ℕ → Inst) (turn : Bool → Bool) : Type 0 where
    steps : (d q n v : ℕ) (a : Contents) (k : Behind) → k.pending ≡ Idle → w.code n ≡ Some (i d q) → reg a.regs q ≡ v
        → Rattle.mips_table.specs.Code.Reaches w 1 (at_with n a k) (at_with (n + 1) (with_reg a d (flag (turn (nat_eq v 0)))) k)

  tells_equal : Tells (λ d q. Sltiu d q 1) (λ b. b)
  tells_equal = record { steps = λ d q n v a k idle there e. said_step w f (Sltiu d q 1) (Becomes (flag (nat_eq v 0))) n a k there refl idle (ap (λ y. flag (nat_lt y 1)) e ∙ ap flag (below_one v)) }

  tells_other : Tells (λ d q. Sltu d 0 q) not
  tells_other = record { steps = λ d q n v a k idle there e. said_step w f (Sltu d 0 q) (Becomes (flag (not (nat_eq v 0)))) n a k there refl idle (ap (λ y. flag (nat_lt 0 y)) e ∙ ap flag (above_none v)) }

  xor_zero : (a b : ℕ) → nat_eq (bit_xor a b) 0 ≡ nat_eq a b
  xor_zero a b = sym (below_one (bit_xor a b)) ∙ xor_tests a b

  equal_with : (o : BinaryOp) (i : ℕ → ℕ → Inst) (turn : Bool → Bool) → Tells i turn
      → ((x y : Value) → on_binary o x y ≡ Ok (bool (turn (same x y)))) → (d r : ℕ) (t : Ty) (v : Value) → d ≢ 0 → is_scalar t ≡ true
      → Fits sc.env.structs (layout sc p) t v → (g : ℕ → ℕ → List Inst) → equality_with i (word_of_scalar sc p v) ≡ Some g
      → With g d r t ty.bool (λ x. on_binary o x v)
  equal_with o i turn tells on d r t v nz scalar fv g e x q n a k idle fx ex there =
      let is = same_words w sc p live s f area is_typed t x v scalar fx fv in
      subst (λ z. Evaluates w sc 5 n (n + length (g d q)) a k (HoldsValue sc p d r d ty.bool a) (at_no_cost z)) (sym (on x v)) (by_code is (either_some (nat_eq (word_of_scalar sc p v) 0) (nat_lt (word_of_scalar sc p v) (2 ^ 16)) (λ d q. i d q ∷ []) (λ d q. Xori d q (word_of_scalar sc p v) ∷ i d d ∷ []) g e))
    where
      by_code : same x v ≡ nat_eq (word_of_scalar sc p x) (word_of_scalar sc p v)
          → ((nat_eq (word_of_scalar sc p v) 0 ≡ true) × ((λ d q. i d q ∷ []) ≡ g)) ⊎ ((λ d q. Xori d q (word_of_scalar sc p v) ∷ i d d ∷ []) ≡ g)
          → Evaluates w sc 5 n (n + length (g d q)) a k (HoldsValue sc p d r d ty.bool a) (at_no_cost (Ok (bool (turn (same x v)))))
      by_code is (inl h) =
          let zero_is : nat_eq (word_of_scalar sc p x) 0 ≡ same x v = ap (nat_eq (word_of_scalar sc p x)) (sym (eqb-true (word_of_scalar sc p v) 0 h.0)) ∙ sym is in
          let code = subst (λ g. CodeAt w n (g d q)) (sym h.1) there in
          subst (λ g. Evaluates w sc 5 n (n + length (g d q)) a k (HoldsValue sc p d r d ty.bool a) (at_no_cost (Ok (bool (turn (same x v)))))) h.1
          (once w sc p live s f area is_typed d r (flag (turn (nat_eq (word_of_scalar sc p x) 0))) n ty.bool (bool (turn (same x v))) a k nz (ap (λ y. flag (turn y)) zero_is) tt (tells.steps d q n (word_of_scalar sc p x) a k idle code.0 ex))
      by_code is (inr h) =
          let code = subst (λ g. CodeAt w n (g d q)) (sym h) there in
          let u : ℕ = bit_xor (word_of_scalar sc p x) (word_of_scalar sc p v) in
          let zero_is : nat_eq (bit_xor (word_of_scalar sc p x) (word_of_scalar sc p v)) 0 ≡ same x v = xor_zero (word_of_scalar sc p x) (word_of_scalar sc p v) ∙ sym is in
          subst (λ g. Evaluates w sc 5 n (n + length (g d q)) a k (HoldsValue sc p d r d ty.bool a) (at_no_cost (Ok (bool (turn (same x v)))))) h
          (twice w sc p live s f area is_typed d r (bit_xor (word_of_scalar sc p x) (word_of_scalar sc p v)) (flag (turn (nat_eq (bit_xor (word_of_scalar sc p x) (word_of_scalar sc p v)) 0))) n ty.bool (bool (turn (same x v))) a k nz (ap (λ y. flag (turn y)) zero_is) tt
          (said_step w f (Xori d q (word_of_scalar sc p v)) (Becomes (bit_xor (word_of_scalar sc p x) (word_of_scalar sc p v))) n a k code.0 refl idle (ap (λ y. bit_xor y (word_of_scalar sc p v)) ex))
          (tells.steps d d (n + 1) (bit_xor (word_of_scalar sc p x) (word_of_scalar sc p v)) (with_reg a d (bit_xor (word_of_scalar sc p x) (word_of_scalar sc p v))) k idle code.1.0 (same_read a.regs d (bit_xor (word_of_scalar sc p x) (word_of_scalar sc p v)) nz)))

  pub equals_with : (d r : ℕ) (t : Ty) (v : Value) → d ≢ 0 → is_scalar t ≡ true → Fits sc.env.structs (layout sc p) t v → (g : ℕ → ℕ → List Inst)
      → immediate Eq (word_of_scalar sc p v) ≡ Some g → With g d r t ty.bool (λ x. on_binary Eq x v)
  equals_with d r t v nz scalar fv g e = equal_with Eq (λ d q. Sltiu d q 1) (λ b. b) tells_equal (λ x y. refl) d r t v nz scalar fv g e

  pub differs_with : (d r : ℕ) (t : Ty) (v : Value) → d ≢ 0 → is_scalar t ≡ true → Fits sc.env.structs (layout sc p) t v → (g : ℕ → ℕ → List Inst)
      → immediate Ne (word_of_scalar sc p v) ≡ Some g → With g d r t ty.bool (λ x. on_binary Ne x v)
  differs_with d r t v nz scalar fv g e = equal_with Ne (λ d q. Sltu d 0 q) not tells_other (λ x y. refl) d r t v nz scalar fv g e

  pub adds_with : (d r : ℕ) (z : ℤ) → d ≢ 0 → FitsSigned w32 z → (g : ℕ → ℕ → List Inst) → immediate Add (word_of z) ≡ Some g
      → With g d r ty.int ty.int (λ x. on_binary Add x (int z))
  adds_with d r z nz fz g e = let h = near_some (word_of z) (λ d q. Addiu d q (low (word_of z)) ∷ []) g e in subst (λ g. With g d r ty.int ty.int (λ x. on_binary Add x (int z))) h.1 (adds d r z nz fz h.0)

  pub subtracts_with : (d r : ℕ) (z : ℤ) → d ≢ 0 → FitsSigned w32 z → (g : ℕ → ℕ → List Inst) → immediate Sub (word_of z) ≡ Some g
      → With g d r ty.int ty.int (λ x. on_binary Sub x (int z))
  subtracts_with d r z nz fz g e = let h = near_some (negated (word_of z)) (λ d q. Addiu d q (low (negated (word_of z))) ∷ []) g e in subst (λ g. With g d r ty.int ty.int (λ x. on_binary Sub x (int z))) h.1 (subtracts d r z nz fz h.0)

  pub below_with : (d r : ℕ) (z : ℤ) → d ≢ 0 → FitsSigned w32 z → (g : ℕ → ℕ → List Inst) → immediate Lt (word_of z) ≡ Some g
      → With g d r ty.int ty.bool (λ x. on_binary Lt x (int z))
  below_with d r z nz fz g e = let h = near_some (word_of z) (λ d q. Slti d q (low (word_of z)) ∷ []) g e in subst (λ g. With g d r ty.int ty.bool (λ x. on_binary Lt x (int z))) h.1 (below d r z nz fz h.0)

  pub at_most_with : (d r : ℕ) (z : ℤ) → d ≢ 0 → FitsSigned w32 z → (g : ℕ → ℕ → List Inst) → immediate Le (word_of z) ≡ Some g
      → With g d r ty.int ty.bool (λ x. on_binary Le x (int z))
  at_most_with d r z nz fz g e = let h = near_some ((word_of z + 1) % 2 ^ 32) (λ d q. Slti d q (low ((word_of z + 1) % 2 ^ 32)) ∷ []) g e in subst (λ g. With g d r ty.int ty.bool (λ x. on_binary Le x (int z))) h.1 (at_most d r z nz fz ((word_of z + 1) % 2 ^ 32) refl h.0)

  pub at_least_with : (d r : ℕ) (z : ℤ) → d ≢ 0 → FitsSigned w32 z → (g : ℕ → ℕ → List Inst) → immediate Ge (word_of z) ≡ Some g
      → With g d r ty.int ty.bool (λ x. on_binary Ge x (int z))
  at_least_with d r z nz fz g e = let h = near_some (word_of z) (λ d q. Slti d q (low (word_of z)) ∷ Xori d d 1 ∷ []) g e in subst (λ g. With g d r ty.int ty.bool (λ x. on_binary Ge x (int z))) h.1 (at_least d r z nz fz h.0)
