-- A served run is a host: it goes on by the program's steps, and the stub passes each call of `trap`.
use Rattle.std.specs.Prelude.{map, slice_get, unwrap_or, ℤ, pos, FitsSigned, codes, nat_lt}
use Rattle.std.specs.Int.{w32}
use Rattle.std.proofs.lemmas.Bool.{ltb-false}
use Rattle.std.proofs.Common.{◌≡◌, ℕ, zero, suc, ◌+◌, ◌^◌, ◌≤◌, Bool, true, false, Option, Some, None, List, [], ◌∷◌, ◌++◌, refl, sym, ap, ◌∙◌, subst, arith, ltb-true}
use Rattle.mips_table.specs.Arith.{signed}
use Rattle.mips_table.specs.Code.{Behind, CodeState, Program, on_flat, Sound, CodeAt, Steps}
use Rattle.mips_table.specs.Simulation.{FlatSimulates}
use Rattle.mips_table.specs.Borders.{FlatCalls}
use Rattle.masm.specs.Laws.{StraightRuns, JumpsLead}
use Rattle.c0_tree.specs.Primitives.{CPrimitive}
use Rattle.c0_tree.specs.declared.primitive.Scalar.TheVariants.{Int}
use Rattle.c0_meaning.specs.Value.{Values, empty, part}
use Rattle.c0_meaning.specs.Value as value
use Rattle.c0_meaning.specs.World.{Called as Answer, PrimitiveMeaning, call_cost}
use Rattle.c0_meaning.specs.UserProgram.{user_primitives, trap}
use Rattle.c0_meaning.specs.TypedState.{AreScalars, IsScalar}
use Rattle.c0_stmt_code.specs.Code.{links_of}
use Rattle.c0_runs.specs.Setup.{Setup, PrimitiveIsCalled, scalar_word}
use Rattle.c0_runs.specs.Runs.{PrimitivePassed, Hosts, price_of}
use Rattle.user_c0.specs.Image.{stub_code}
use Rattle.user_c0.specs.Events.{answer_of}
use Rattle.user_c0.specs.Served.{Served, served}
use Rattle.user_c0.specs.Flat.{Outer}
use Rattle.user_c0.specs.Host.{Here, Told, TRAP_PRICE}
use Rattle.user_c0.proofs.ServedGoesOn.{goes_on, tells_on}
use Rattle.user_c0.proofs.StubTraps.{answers}

-- a word as an int is one of 32 bits
signed_fits : (n : ℕ) → FitsSigned w32 (signed n)
signed_fits n = by_test (nat_lt n (2 ^ 31)) refl
  where
    by_test : (b : Bool) → nat_lt n (2 ^ 31) ≡ b → FitsSigned w32 (signed n)
    by_test true e = rw e (record { sfits = let h = ltb-true n (2 ^ 31) e in omega (arith, h) })
    by_test false e = rw e (record { sfits = let h = ltb-false n (2 ^ 31) e in omega (arith, h) })

zero_fits : FitsSigned w32 (pos 0)
zero_fits = signed_fits 0

-- what is answered next is one
next_fits : (rs : List (Option ℕ)) → FitsSigned w32 (unwrap_or (slice_get (map answer_of rs) 0) (pos 0))
next_fits [] = zero_fits
next_fits (None ∷ rs) = signed_fits 0
next_fits (Some x ∷ rs) = signed_fits x

-- the row of `trap`
abbrev trap_row : CPrimitive
trap_row = record { name = codes "trap"; args = Int ∷ []; answer = Int }

row_is : (number : ℕ) (row : CPrimitive) → slice_get user_primitives number ≡ Some row → (number ≡ 0) × (trap_row ≡ row)
row_is zero row e = (refl, some_same e)
  where
    some_same : {A : Type 0} {a b : A} → Some a ≡ Some b → a ≡ b
    some_same q = cc
row_is (suc n) row e = absurd (none_some e)
  where
    none_some : {A : Type 0} {a : A} → None ≡ Some a → ⊥
    none_some q = cc

-- its argument
argument_is : (args : Values) → AreScalars (Int ∷ []) args → (a : ℤ) × (args ≡ part (value.int a) empty) × FitsSigned w32 a
argument_is (part (value.int a) empty) h = (a, refl, h.0)
argument_is (part (value.int a) (part v vs)) h = absurd (h.1)
argument_is empty h = absurd h
argument_is (part (value.bool b) vs) h = absurd (h.0)
argument_is (part value.null vs) h = absurd (h.0)
argument_is (part (value.at l) vs) h = absurd (h.0)
argument_is (part (value.group g) vs) h = absurd (h.0)

module _ (simulates : FlatSimulates) (traps : FlatCalls) (p : Program) (sound : Sound (on_flat p)) (first : Served)
    (straight : StraightRuns (on_flat p)) (jumps : JumpsLead (on_flat p)) (stub : CodeAt (on_flat p) 2048 stub_code)
    (z : Setup (List ℤ) ℤ Outer) (world : z.w ≡ on_flat p) (table : z.table ≡ user_primitives) (meaning : z.p.meaning ≡ trap) (place : (links_of z.addresses).primitive 0 ≡ 2048) where
  abbrev Pass : (k : ℕ) → CodeState → ℕ → ℕ → CPrimitive → Values → List ℤ → List (List ℤ) → Type 0
  Pass k s to number row args v calls = PrimitivePassed (List ℤ) ℤ Outer (Here p first) (Told first) z TRAP_PRICE k s to number row args v calls

  -- of the one primitive, with its argument
  one : (k : ℕ) (s : CodeState) (to : ℕ) (a : ℤ) (v : List ℤ) (calls : List (List ℤ)) → Here p first k s → Told first k v calls → FitsSigned w32 a
      → PrimitiveIsCalled z.w (links_of z.addresses) trap_row 0 (part (value.int a) empty) to s → Pass k s to 0 trap_row (part (value.int a) empty) v calls
  one k s to a v calls here told fits call =
      let r = answers simulates traps p sound first straight jumps stub k s to a v calls here told (call.at ∙ place) call.arguments.0 fits call.return_at in
      let m : Answer (List ℤ) ℤ = trap 0 (part (value.int a) empty) v in
      let is : trap 0 (part (value.int a) empty) v ≡ z.p.meaning 0 (part (value.int a) empty) v = ap (λ (f : PrimitiveMeaning (List ℤ) ℤ). f 0 (part (value.int a) empty) v) (sym meaning) in
      let few = r.few in
      record {
        steps = r.steps;
        end = r.end;
        here = r.here;
        back = record {
          at = r.at;
          globals_at = r.regs 28 (λ e. absurd (omega (arith, e))) (λ e. absurd (omega (arith, e)));
          frame_end = r.regs 29 (λ e. absurd (omega (arith, e))) (λ e. absurd (omega (arith, e)));
          stack_end = r.regs 30 (λ e. absurd (omega (arith, e))) (λ e. absurd (omega (arith, e)));
          kept = λ i is_kept. ap (λ f. f i) r.memory;
          variables = λ i from to. ap (λ f. f i) r.memory;
          idle = ap (λ (b : Behind). b.pending) r.behind;
        };
        scalar = subst (λ (q : Answer (List ℤ) ℤ). IsScalar Int q.answer) is (subst (λ xs. FitsSigned w32 (unwrap_or (slice_get xs 0) (pos 0))) (sym told.answers) (next_fits (served first k).replies));
        answer = r.answer ∙ ap (λ (q : Answer (List ℤ) ℤ). scalar_word q.answer) is;
        outer = tt;
        within = subst (λ (q : Answer (List ℤ) ℤ). r.steps ≤ price_of TRAP_PRICE (call_cost q)) is (omega (arith, few));
        few = subst (λ (q : Answer (List ℤ) ℤ). (call_cost q).primitive ≤ 4194305) is (omega arith);
        told = subst (λ (q : Answer (List ℤ) ℤ). Told first (k + r.steps) q.world (calls ++ q.entries ∷ [])) is r.told;
      }

  passes : (k : ℕ) (s : CodeState) (to number : ℕ) (row : CPrimitive) (args : Values) (v : List ℤ) (calls : List (List ℤ)) → Here p first k s → Told first k v calls → slice_get z.table number ≡ Some row
      → PrimitiveIsCalled z.w (links_of z.addresses) row number args to s → Pass k s to number row args v calls
  passes k s to number row args v calls here told is call =
      let r = row_is number row (subst (λ t. slice_get t number ≡ Some row) table is) in
      by number row args r.0 r.1 call
    where
      by_args : (args : Values) → PrimitiveIsCalled z.w (links_of z.addresses) trap_row 0 args to s → Pass k s to 0 trap_row args v calls
      by_args args call =
          let a = argument_is args call.scalars in
          subst (λ vs. Pass k s to 0 trap_row vs v calls) (sym a.1) (one k s to a.0 v calls here told a.2 (subst (λ vs. PrimitiveIsCalled z.w (links_of z.addresses) trap_row 0 vs to s) a.1 call))

      by : (number : ℕ) (row : CPrimitive) (args : Values) → number ≡ 0 → trap_row ≡ row → PrimitiveIsCalled z.w (links_of z.addresses) row number args to s → Pass k s to number row args v calls
      by number row args none same call =
          subst (λ n. Pass k s to n row args v calls) (sym none) (subst (λ x. Pass k s to 0 x args v calls) same
          (by_args args (subst (λ x. PrimitiveIsCalled z.w (links_of z.addresses) x 0 args to s) (sym same) (subst (λ n. PrimitiveIsCalled z.w (links_of z.addresses) row n args to s) none call))))

  pub hosts : Hosts (List ℤ) ℤ Outer (Here p first) (Told first) z TRAP_PRICE
  hosts = record {
    goes_on = λ k n s t here steps. goes_on simulates p sound first k n s t here (subst (λ w. Steps w n s t) world steps);
    tells_on = λ k n s t v calls here steps told. tells_on simulates p sound first k n s t v calls here (subst (λ w. Steps w n s t) world steps) told;
    passes = λ k s to number row args v calls here told is call outer room. passes k s to number row args v calls here told is call;
  }
