-- The image's code as the code of a flat machine: what stands where, and that it is sound.
use Rattle.std.specs.Prelude.{slice_get, option_map, nat_lt, ◌==◌}
use Rattle.std.specs.List.{All}
use Rattle.std.proofs.Common.{rules, ◌≡◌, ◌⊎◌, inl, inr, ℕ, zero, suc, ◌+◌, ◌-◌, ◌^◌, ◌<◌, ◌≤◌, Bool, true, false, List, [], ◌∷◌, length, Option, Some, None, refl, sym, ap, ◌∙◌, subst, arith, lt-ltb, eqb-true}
use Rattle.std.proofs.lemmas.Bool.{cases_lt, cond-true, cond-false, le-ltb}
use Rattle.std.proofs.lemmas.List.Elements.{All-head, All-tail}
use Rattle.std.proofs.lemmas.Option.{slice_get_within}
use Rattle.mips_table.specs.declared.inst.Inst.{Inst}
use Rattle.mips_table.specs.declared.inst.Inst.TheVariants.{Jal}
use Rattle.mips_table.specs.Encoding.{InRange, encoding}
use Rattle.mips_table.specs.Code.{Program, on_flat, Sound, CodeAt}
use Rattle.masm.specs.Standing.{only_block_at}
use Rattle.layer_map.specs.Map.{layer_words}
use Rattle.user_c0.specs.Image.{start_code, stub_code, exits_code, loops_code, or_else, low_code, image_code}

at_number : {A : Type 0} (P : A → Type 0) (xs : List A) (i : ℕ) (x : A) → All P xs → slice_get xs i ≡ Some x → P x
at_number P [] i x a e = cc
at_number P (y ∷ xs) zero x a e = let q : y ≡ x = cc in subst P q (All-head P y xs a)
at_number P (y ∷ xs) (suc i) x a e = at_number P xs i x (All-tail P y xs a) e

-- instruction by instruction, with the words at which they stand
abbrev pub EachAt : (ℕ → Inst → Type 0) → ℕ → List Inst → Type 0
EachAt P n [] = Unit {0}
EachAt P n (i ∷ is) = P n i × EachAt P (n + 1) is

placed_each : (P : ℕ → Inst → Type 0) (n : ℕ) (is : List Inst) (k : ℕ) (i : Inst) → EachAt P n is → only_block_at n is k ≡ Some i → P k i
placed_each P n [] k i h e = absurd (none e)
  where
    none : {A : Type 0} {a : A} → None ≡ Some a → ⊥
    none q = cc
placed_each P n (j ∷ is) k i h e = by (k == n) refl (placed_each P (n + 1) is k i h.1)
  where
    some_same : {A : Type 0} {a b : A} → Some a ≡ Some b → a ≡ b
    some_same q = cc

    by : (b : Bool) → (k == n) ≡ b → (only_block_at (n + 1) is k ≡ Some i → P k i) → P k i
    by true q rest = subst (λ m. P m i) (sym (eqb-true k n q)) (subst (P n) (some_same (sym (cond-true (k == n) (Some j) (only_block_at (n + 1) is k) q) ∙ e)) h.0)
    by false q rest = rest (sym (cond-false (k == n) (Some j) (only_block_at (n + 1) is k) q) ∙ e)

or_either : (a b : Option Inst) (i : Inst) → or_else a b ≡ Some i → (a ≡ Some i) ⊎ (b ≡ Some i)
or_either (Some j) b i e = inl e
or_either None b i e = inr e

-- what holds of each instruction of the four low parts
pub low_each : (P : ℕ → Inst → Type 0) → EachAt P 0 start_code → EachAt P 2048 stub_code → EachAt P 2058 exits_code → EachAt P 2064 loops_code → (k : ℕ) (i : Inst) → low_code k ≡ Some i → P k i
low_each P a b c d k i e = elim (or_either (only_block_at 0 start_code k) _ i e) [
  | inl q ↦ placed_each P 0 start_code k i a q
  | inr q ↦ elim (or_either (only_block_at 2048 stub_code k) _ i q) [
    | inl r ↦ placed_each P 2048 stub_code k i b r
    | inr r ↦ elim (or_either (only_block_at 2058 exits_code k) _ i r) [
      | inl s ↦ placed_each P 2058 exits_code k i c s
      | inr s ↦ placed_each P 2064 loops_code k i d s
    ]
  ]
]

low_range : (k : ℕ) (i : Inst) → low_code k ≡ Some i → InRange i
low_range = low_each (λ k i. InRange i) (search rules) (search rules) (search rules) (search rules)

low_below : (k : ℕ) (i : Inst) → low_code k ≡ Some i → k < 2074
low_below = low_each (λ k i. k < 2074) (search rules) (search rules) (search rules) (search rules)

abbrev IsNoCall : ℕ → Inst → Type 0
IsNoCall k (Jal m) = ⊥
IsNoCall k i = Unit {0}

low_calls : (k : ℕ) (i : Inst) → low_code k ≡ Some i → IsNoCall k i
low_calls = low_each IsNoCall (tt, tt) (tt, (tt, (tt, (tt, tt)))) (tt, (tt, (tt, (tt, (tt, tt))))) (tt, (tt, (tt, (tt, (tt, (tt, (tt, (tt, (tt, (tt, tt))))))))))

module _ (code : List Inst) where
  -- an instruction that stands somewhere, and where it stands
  pub code_there : (k : ℕ) (i : Inst) → layer_words ≤ k → slice_get code (k - layer_words) ≡ Some i → image_code code k ≡ Some i
  code_there k i le e = cond-false (nat_lt k layer_words) (low_code k) (slice_get code (k - layer_words)) (le-ltb k layer_words le) ∙ e

  pub code_is : (k : ℕ) (i : Inst) → image_code code k ≡ Some i → ((k < layer_words) × (low_code k ≡ Some i)) ⊎ ((layer_words ≤ k) × (slice_get code (k - layer_words) ≡ Some i))
  code_is k i e = elim (cases_lt k layer_words) [
    | inl lt ↦ inl (lt, sym (cond-true (nat_lt k layer_words) (low_code k) (slice_get code (k - layer_words)) (lt-ltb k layer_words lt)) ∙ e)
    | inr le ↦ inr (le, sym (cond-false (nat_lt k layer_words) (low_code k) (slice_get code (k - layer_words)) (le-ltb k layer_words le)) ∙ e)
  ]

  pub no_code : (k : ℕ) → 2074 ≤ k → (k < layer_words) ⊎ (layer_words + length code ≤ k) → image_code code k ≡ None
  no_code k le far = by (image_code code k) refl
    where
      by : (o : Option Inst) → image_code code k ≡ o → image_code code k ≡ None
      by None e = e
      by (Some i) e = absurd (elim (code_is k i e) [
        | inl low ↦ (let lt = low_below k i low.1 in omega (arith, lt, le))
        | inr high ↦ (let lt = slice_get_within code (k - layer_words) i high.1 in let ge = high.0 in elim far [ inl less ↦ omega (arith, less, ge) | inr past ↦ omega (arith, past, lt, ge) ])
      ])

  pub no_variable : (k : ℕ) → 1026 ≤ k → k < 2048 → image_code code k ≡ None
  no_variable k ge lt = by (image_code code k) refl
    where
      apart : (n : ℕ) (i : Inst) → low_code n ≡ Some i → (n < 1026) ⊎ (2048 ≤ n)
      apart = low_each (λ n i. (n < 1026) ⊎ (2048 ≤ n)) (inl (omega arith), tt) (search rules) (search rules) (search rules)

      by : (o : Option Inst) → image_code code k ≡ o → image_code code k ≡ None
      by None e = e
      by (Some i) e = absurd (elim (code_is k i e) [
        | inl low ↦ elim (apart k i low.1) [ inl less ↦ omega (arith, less, ge) | inr more ↦ omega (arith, more, lt) ]
        | inr high ↦ (let le = high.0 in omega (arith, le, lt))
      ])

  module _ (words : ℕ) where
    abbrev pub program : Program
    program = record { code = image_code code; kept = λ k. option_map encoding (image_code code k); words = words; count = 0 }

    -- the code is sound
    pub sound : layer_words + length code ≤ words → words < 2 ^ 26 → All InRange code → Sound (on_flat program)
    sound room small range = record {
      small = small;
      range = λ n i e. elim (code_is n i e) [ inl low ↦ low_range n i low.1 | inr high ↦ at_number InRange code (n - layer_words) i range high.1 ];
      inside = λ n i e. elim (code_is n i e) [
        | inl low ↦ (let lt = low.0 in omega (arith, lt, room))
        | inr high ↦ (let lt = slice_get_within code (n - layer_words) i high.1 in let le = high.0 in omega (arith, lt, le, room))
      ];
      keeps = λ n i e. ap (option_map encoding) e;
    }

    -- a call stands in the unit's code alone
    pub calls_high : (k m : ℕ) → image_code code k ≡ Some (Jal m) → layer_words ≤ k
    calls_high k m e = elim (code_is k (Jal m) e) [ inl low ↦ absurd (low_calls k (Jal m) low.1) | inr high ↦ high.0 ]

    -- the low parts stand
    pub start_stands : CodeAt (on_flat program) 0 start_code
    start_stands = (refl, tt)

    pub stub_stands : CodeAt (on_flat program) 2048 stub_code
    stub_stands = (refl, (refl, (refl, (refl, tt))))

    pub exits_stand : CodeAt (on_flat program) 2058 exits_code
    exits_stand = (refl, (refl, (refl, (refl, (refl, tt)))))

    pub loops_stand : CodeAt (on_flat program) 2064 loops_code
    loops_stand = (refl, (refl, (refl, (refl, (refl, (refl, (refl, (refl, (refl, (refl, tt))))))))))
