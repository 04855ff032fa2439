-- Words of memory as a kernel's data: ints, one for each word.
use Rattle.std.specs.Prelude.{slice_index, ℤ, Some, None}
use Rattle.std.specs.Int.{w32}
use Rattle.std.proofs.Common.{◌≡◌, ℕ, zero, suc, ◌+◌, ◌<◌, ◌≤◌, ◌^◌, Option, List, [], ◌∷◌, length, refl, sym, ap, ◌∙◌, subst, arith}
use Rattle.std.specs.Option.{option_map}
use Rattle.std.proofs.lemmas.Int.{of_z-to_z, to_z-of_z}
use Rattle.mips_table.specs.Arith.{signed}
use Rattle.c0_tree.specs.declared.primitive.Scalar.{Scalar}
use Rattle.c0_tree.specs.declared.primitive.Scalar.TheVariants as scalar
use Rattle.c0_meaning.specs.RunLaws.{all_scalars}
use Rattle.c0_meaning.specs.Value.{Location, Value, int, bool, null, at, group, Values, empty, part}
use Rattle.c0_meaning.specs.TypedState.{IsScalar, AreScalars}
use Rattle.c0_runs.specs.Setup.{ArePassed, scalar_word}
use Rattle.cvm_model.specs.Kernel.{flat, flats}
use Rattle.cvm_model.specs.KernelMeaning.{ints_of}
use Rattle.layer_contract.specs.Layer.{AreArguments}
use Rattle.unit_runs.specs.Held.{HoldsAt}

-- n words from a on, as ints
abbrev pub ints_from : (ℕ → ℕ) → (a n : ℕ) → Values
ints_from m a zero = empty
ints_from m a (suc n) = part (int (signed (m a))) (ints_from m (a + 1) n)

pub ints_count : (m : ℕ → ℕ) (a n : ℕ) → all_scalars (ints_from m a n) ≡ n
ints_count m a zero = refl
ints_count m a (suc n) = let r = ints_count m (a + 1) n in omega (arith, r)

-- their words are these
pub ints_stand : (address : Location → ℕ) (m : ℕ → ℕ) (a n : ℕ) → ((k : ℕ) → a ≤ k → k < a + n → m k < 2 ^ 32) → HoldsAt m a (flats address (ints_from m a n))
ints_stand address m a zero small i lt = absurd (omega (arith, lt))
ints_stand address m a (suc n) small zero lt = let e : a + 0 ≡ a = omega arith in ap m e ∙ sym (of_z-to_z w32 (m a) (small a (omega arith) (omega arith)))
ints_stand address m a (suc n) small (suc i) lt =
    let e : a + suc i ≡ a + 1 + i = omega arith in
    ap m e ∙ ints_stand address m (a + 1) n (λ k le less. small k (omega (arith, le)) (omega (arith, less))) i (omega (arith, lt))

pub ints_length : (address : Location → ℕ) (m : ℕ → ℕ) (a n : ℕ) → length (flats address (ints_from m a n)) ≡ n
ints_length address m a zero = refl
ints_length address m a (suc n) = let r = ints_length address m (a + 1) n in omega (arith, r)

-- the word of an int or a bool is the one that stands for it
pub scalar_flat : (t : Scalar) (v : Value) → IsScalar t v → flat (λ _. 0) v ≡ scalar_word v ∷ []
scalar_flat scalar.Int (int z) h = refl
scalar_flat scalar.Bool (bool b) h = refl
scalar_flat scalar.Int (bool b) h = absurd h
scalar_flat scalar.Int null h = absurd h
scalar_flat scalar.Int (at l) h = absurd h
scalar_flat scalar.Int (group vs) h = absurd h
scalar_flat scalar.Bool (int z) h = absurd h
scalar_flat scalar.Bool null h = absurd h
scalar_flat scalar.Bool (at l) h = absurd h
scalar_flat scalar.Bool (group vs) h = absurd h

-- an optional list that has a first element
behind_first : (z : ℤ) (o : Option (List ℤ)) (xs : List ℤ) → option_map (λ rest. z ∷ rest) o ≡ Some xs → (rest : List ℤ) × (o ≡ Some rest) × (xs ≡ z ∷ rest)
behind_first z (Some rest) xs e = let q : z ∷ rest ≡ xs = cc in (rest, refl, sym q)
behind_first z None xs e = absurd (cc)

-- arguments that are ints, as registers have them
pub arguments : (ts : List Scalar) (vs : Values) (m : ℕ → ℕ) (regs : List ℕ) (r : ℕ) (xs : List ℤ) → AreScalars ts vs → ints_of vs ≡ Some xs → ((k : ℕ) → slice_index regs k ≡ m k) → ArePassed m r vs → AreArguments regs r xs
arguments [] empty m regs r xs f e same p = let q : [] ≡ xs = cc in subst (AreArguments regs r) q tt
arguments (scalar.Int ∷ ts) (part (int z) vs) m regs r xs f e same p =
    let b = behind_first z (ints_of vs) xs e in
    let place : suc r ≡ r + 1 = omega arith in
    subst (AreArguments regs r) (sym b.2) (
      ap signed (same r ∙ p.0) ∙ to_z-of_z w32 z f.0,
      subst (λ k. AreArguments regs k b.0) place (arguments ts vs m regs (suc r) b.0 f.1 b.1 same p.1),
    )
arguments (scalar.Bool ∷ ts) (part (bool b) vs) m regs r xs f e same p = absurd (cc)
arguments (scalar.Int ∷ ts) (part (bool b) vs) m regs r xs f e same p = absurd f.0
arguments (scalar.Int ∷ ts) (part null vs) m regs r xs f e same p = absurd f.0
arguments (scalar.Int ∷ ts) (part (at l) vs) m regs r xs f e same p = absurd f.0
arguments (scalar.Int ∷ ts) (part (group ws) vs) m regs r xs f e same p = absurd f.0
arguments (scalar.Bool ∷ ts) (part (int z) vs) m regs r xs f e same p = absurd f.0
arguments (scalar.Bool ∷ ts) (part null vs) m regs r xs f e same p = absurd f.0
arguments (scalar.Bool ∷ ts) (part (at l) vs) m regs r xs f e same p = absurd f.0
arguments (scalar.Bool ∷ ts) (part (group ws) vs) m regs r xs f e same p = absurd f.0
arguments [] (part v vs) m regs r xs f e same p = absurd f
arguments (t ∷ ts) empty m regs r xs f e same p = absurd f
