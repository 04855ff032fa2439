-- Elements of arrays, with the test of the index.
use Rattle.std.specs.Prelude.{Ok, Err, pos, negsuc, if◌then◌else◌}
use Rattle.std.proofs.Common.{◌≡◌, ◌≢◌, inl, inr, ℕ, zero, suc, ◌+◌, ◌*◌, ◌%◌, ◌^◌, ◌<◌, ◌≤◌, Bool, true, false, nat_lt, Some, List, [], ◌∷◌, ◌++◌, length, refl, sym, ap, ap₂, ◌∙◌, subst, arith, length-append, le-ltb}
use Rattle.std.proofs.lemmas.Bool.{cases_Bool, ltb-true, cond-true, cond-false}
use Rattle.std.proofs.Math.Nat.{mul_comm}
use Rattle.mips_table.specs.declared.inst.Inst.{Inst}
use Rattle.mips_table.specs.declared.inst.Inst.TheVariants.{J, Bne, Addu, Sltiu, Sltu}
use Rattle.mips_table.specs.Arith.{sum, flag}
use Rattle.mips_table.specs.Device.{Idle}
use Rattle.mips_table.specs.Code.{Contents, reg, with_reg, Behind, World, at_with, Reaches, CodeAt}
use Rattle.c0_meaning.specs.Ty.{Ty}
use Rattle.c0_meaning.specs.Words.{words}
use Rattle.c0_meaning.specs.Value.{Location, Value, int, bool, null, at, group, below, count}
use Rattle.c0_meaning.specs.State.{C0State}
use Rattle.c0_meaning.specs.Operators.{Bounds, faulted}
use Rattle.c0_meaning.specs.Evaluation.{Costed, at_no_cost, element_of, indexed}
use Rattle.c0_meaning.specs.TypedState.{Fits, PathLeads}
use Rattle.c0_expr_runs.proofs.OnePartMore.{leads_from_on, points_on, length_fits}
use Rattle.masm.specs.Says.{Gives as Becomes}
use Rattle.c0_expr_runs.proofs.CodeRuns.{Machine, joined, later, code_front, code_back, said_step}
use Rattle.cvm_words.specs.Words.{word_of}
use Rattle.c0_expr_code.specs.Scope.{Scope}
use Rattle.c0_expr_runs.specs.Bases.{Bases, types_in, location_word}
use Rattle.c0_expr_code.specs.Code.{AddressingMode, Made, constant_code, operand_code, operand_register, bound_code, scale_code, element_code, tested_address}
use Rattle.c0_expr_runs.specs.Relation.{layout, StateIsTyped, Ready, KeepsRegisters, Area, Evaluates, HoldsValue, HoldsAddress, Source}
use Rattle.c0_expr_runs.proofs.WordsOfValues.{plain, word_pos, word_negsuc, pos_small}
use Rattle.c0_expr_runs.proofs.PartsAtOffsets.{offset_from_on}
use Rattle.c0_expr_runs.proofs.SideBySide.{same_read, other_read, keeps_on, keeps_in, keeps_put, keeps_one, keeps_low, ready_on, source_other, source_kept, binds, arrives, faults, jumps}
use Rattle.c0_expr_runs.proofs.AddressingModes.{found}
use Rattle.c0_expr_runs.proofs.NodesEvaluate.{constant_runs, skips, falls}
use Rattle.c0_expr_runs.proofs.IndexScaled.{all_kept, scales}
use Rattle.c0_meaning.specs.Ty as ty

module _ (w : World) (sc : Scope) (p : Bases) (live : ℕ → Bool) (s : C0State) (f : Machine w) (area : Area w sc p) (is_typed : StateIsTyped sc p s) where
  -- the test
  record Tested (q len n : ℕ) (a : Contents) (k : Behind) : Type 0 where
    core : Contents
    is : reg core.regs 1 ≡ flag (nat_lt (reg a.regs q) len)
    keeps : (r : ℕ) → KeepsRegisters r r a core
    others : (x : ℕ) → x ≢ 1 → reg core.regs x ≡ reg a.regs x
    run : Reaches w 3 (at_with n a k) (at_with (n + length (bound_code q len)) core k)

  tests : (q len n : ℕ) (a : Contents) (k : Behind) → len < 2 ^ 32 → k.pending ≡ Idle → q ≢ 1 → CodeAt w n (bound_code q len) → Tested q len n a k
  tests q len n a k short idle ne code = elim (cases_Bool (nat_lt len (2 ^ 15))) [
    | inl e ↦
        let same : bound_code q len ≡ Sltiu 1 q len ∷ [] = cond-true (nat_lt len (2 ^ 15)) (Sltiu 1 q len ∷ []) (constant_code 1 len ++ (Sltu 1 q 1 ∷ [])) e in
        let there = subst (CodeAt w n) same code in
        let v : ℕ = flag (nat_lt (reg a.regs q) len) in
        let one = said_step w f (Sltiu 1 q len) (Becomes (flag (nat_lt (reg a.regs q) len))) n a k there.0 refl idle (ap (λ y. flag (nat_lt (reg a.regs q) y)) (plain len (ltb-true len (2 ^ 15) e))) in
        let length_is : n + 1 ≡ n + length (bound_code q len) = omega (arith, ap length same) in
        record { core = with_reg a 1 (flag (nat_lt (reg a.regs q) len)); is = refl; keeps = λ r. keeps_one r r (flag (nat_lt (reg a.regs q) len)) a; others = λ x o. other_read a.regs 1 (flag (nat_lt (reg a.regs q) len)) x o; run = subst (λ t. Reaches w 3 (at_with n a k) (at_with t (with_reg a 1 (flag (nat_lt (reg a.regs q) len))) k)) length_is (later w 1 3 _ _ (omega arith) one) }
    | inr e ↦
        let same : bound_code q len ≡ constant_code 1 len ++ (Sltu 1 q 1 ∷ []) = cond-false (nat_lt len (2 ^ 15)) (Sltiu 1 q len ∷ []) (constant_code 1 len ++ (Sltu 1 q 1 ∷ [])) e in
        let there = subst (CodeAt w n) same code in
        let first = constant_runs w sc p live s f area is_typed 1 1 len n a k short idle (λ z. absurd (omega (arith, z))) (code_front w n (constant_code 1 len) (Sltu 1 q 1 ∷ []) there) in
        let b : Contents = first.0 in
        let value : flag (nat_lt (reg first.0.regs q) (reg first.0.regs 1)) ≡ flag (nat_lt (reg a.regs q) len) = ap₂ (λ y z. flag (nat_lt y z)) (first.3 q ne) first.1 in
        let two = said_step w f (Sltu 1 q 1) (Becomes (flag (nat_lt (reg a.regs q) len))) (n + length (constant_code 1 len)) first.0 k (code_back w n (constant_code 1 len) (Sltu 1 q 1 ∷ []) there).0 refl idle value in
        let length_is : n + length (constant_code 1 len) + 1 ≡ n + length (bound_code q len) = omega (arith, ap length same, length-append (constant_code 1 len) (Sltu 1 q 1 ∷ [])) in
        record {
          core = with_reg first.0 1 (flag (nat_lt (reg a.regs q) len));
          is = refl;
          keeps = λ r. keeps_on r r a first.0 (with_reg first.0 1 (flag (nat_lt (reg a.regs q) len))) (all_kept r a first.0 first.2 first.3) (keeps_one r r (flag (nat_lt (reg a.regs q) len)) first.0);
          others = λ x o. other_read first.0.regs 1 (flag (nat_lt (reg a.regs q) len)) x o ∙ first.3 x o;
          run = subst (λ t. Reaches w 3 (at_with n a k) (at_with t (with_reg first.0 1 (flag (nat_lt (reg a.regs q) len))) k)) length_is (joined w 2 1 _ _ _ first.4 two);
        }
  ]

  -- an index that is tested
  pub indexes : (len : ℕ) (t : Ty) (local : Bool) (x : AddressingMode) (m : Made) (r n : ℕ) (c : Contents) (k : Behind) (e : Costed Location) (i : Costed Value) → k.pending ≡ Idle → 8 ≤ r → r < 19 → Ready sc p live s c → Source r x.base →
      CodeAt w n (tested_address sc (words sc.env.structs t) len x m r).code →
      Evaluates w sc 0 n (n + length x.code) c k (HoldsAddress sc p x.base x.displacement r local (ty.array t len) c) e →
      ((b : Contents) → KeepsRegisters r r c b → CodeAt w (n + length x.code) (operand_code m (r + 1)) → Source (r + 1) (operand_register m (r + 1)) × Evaluates w sc 0 (n + length x.code) (n + length x.code + length (operand_code m (r + 1))) b k (HoldsValue sc p (operand_register m (r + 1)) (r + 1) (r + 1) ty.int b) i) →
      Evaluates w sc 10 n (n + length (tested_address sc (words sc.env.structs t) len x m r).code) c k (HoldsAddress sc p r x.displacement r local t c) (indexed s e i)
  indexes len t local x m r n c k e i idle lo hi ready source code h op =
      binds w sc 0 10 n n1 to c k (HoldsAddress sc p x.base x.displacement r local (ty.array t len) c) (HoldsAddress sc p r x.displacement r local t c) e _ h
      (λ l b q. keeps_low r r c b (omega arith) q.keeps)
      (λ l b q.
      let ready_b = ready_on sc p live s c b (keeps_low r r c b (omega arith) q.keeps) ready in
      let o = op b q.keeps operand_there in
      binds w sc 0 10 n1 n2 to b k (HoldsValue sc p (operand_register m (r + 1)) (r + 1) (r + 1) ty.int b) (HoldsAddress sc p r x.displacement r local t c) i _ o.1
      (λ v a g. keeps_low (r + 1) (r + 1) b a (omega arith) g.keeps)
      (λ v a g.
      let there = found w sc p live s f area is_typed b l (ty.array t len) ready_b q.leads q.standing in
      subst (λ y. Evaluates w sc 10 n2 to a k (HoldsAddress sc p r x.displacement r local t c) (at_no_cost (element_of l y v))) (sym there.seen.is)
      (by_value l b q ready_b a o.0 there.seen.value v there.seen.fits g)))
    where
      q : ℕ
      q = operand_register m (r + 1)

      n1 : ℕ
      n1 = n + length x.code

      n2 : ℕ
      n2 = n + length x.code + length (operand_code m (r + 1))

      to : ℕ
      to = n + length (tested_address sc (words sc.env.structs t) len x m r).code

      rest : List Inst
      rest = element_code sc q x.base r (words sc.env.structs t) len

      operand_there : CodeAt w (n + length x.code) (operand_code m (r + 1))
      operand_there = code_front w _ (operand_code m (r + 1)) rest (code_back w n x.code (operand_code m (r + 1) ++ rest) code)

      last_there : CodeAt w n2 rest
      last_there = code_back w _ (operand_code m (r + 1)) rest (code_back w n x.code (operand_code m (r + 1) ++ rest) code)

      tail : List Inst
      tail = Bne 1 0 1 ∷ J (sc.exit Bounds) ∷ (scale_code (words sc.env.structs t) q ++ (Addu r x.base 1 ∷ []))

      n3 : ℕ
      n3 = n2 + length (bound_code q len)

      tail_there : CodeAt w n3 tail
      tail_there = code_back w n2 (bound_code q len) tail last_there

      n4 : ℕ
      n4 = n3 + 2 + length (scale_code (words sc.env.structs t) q)

      scale_there : CodeAt w (n3 + 2) (scale_code (words sc.env.structs t) q ++ (Addu r x.base 1 ∷ []))
      scale_there = let z : n3 + 1 + 1 ≡ n3 + 2 = omega arith in subst (λ y. CodeAt w y (scale_code (words sc.env.structs t) q ++ (Addu r x.base 1 ∷ []))) z tail_there.1.1

      end_is : n4 + 1 ≡ to
      end_is =
          let a = length-append x.code (operand_code m (r + 1) ++ rest) in
          let b = length-append (operand_code m (r + 1)) rest in
          let d = length-append (bound_code q len) tail in
          let g = length-append (scale_code (words sc.env.structs t) q) (Addu r x.base 1 ∷ []) in
          omega (arith, a, b, d, g)

      Out : Location → Contents → Type 0
      Out = HoldsAddress sc p r x.displacement r local t c

      outside : (a : Contents) (v : ℕ) → len < 2 ^ 32 → q ≢ 1 → nat_lt v len ≡ false → reg a.regs q ≡ v
          → Evaluates w sc 10 n2 to a k Out (at_no_cost (Err (faulted Bounds)))
      outside a v short ne out is =
          let test = tests q len n2 a k short idle ne (code_front w n2 (bound_code q len) tail last_there) in
          let zero_is : reg test.core.regs 1 ≡ reg test.core.regs 0 = test.is ∙ ap (λ y. flag (nat_lt y len)) is ∙ ap flag out in
          let go = falls w sc p live s f area is_typed n3 1 0 test.core k idle tail_there.0 zero_is in
          let run = joined w 3 2 _ _ _ test.run (joined w 1 1 _ _ _ go (jumps w f (n3 + 1) (sc.exit Bounds) test.core k idle tail_there.1.0)) in
          faults w sc 10 n2 to a test.core k Out Bounds (keeps_low 0 0 a test.core (omega arith) (test.keeps 0)) (later w 5 10 _ _ (omega arith) run)

      inside : (l : Location) (b : Contents) (g : HoldsAddress sc p x.base x.displacement r local (ty.array t len) c l b) (ready_b : Ready sc p live s b) (a : Contents) (j : ℕ) → Source (r + 1) q → KeepsRegisters (r + 1) (r + 1) b a → nat_lt j len ≡ true → reg a.regs q ≡ j → j < 2 ^ 31 → len < 2 ^ 32 → Evaluates w sc 10 n2 to a k Out (at_no_cost (Ok (below l j)))
      inside l b g ready_b a j src keeps within is low short =
          let ne = source_other (r + 1) q (omega arith) src in
          let test = tests q len n2 a k short idle ne (code_front w n2 (bound_code q len) tail last_there) in
          let one_is : reg test.core.regs 1 ≡ 1 = test.is ∙ ap (λ y. flag (nat_lt y len)) is ∙ ap flag within in
          let go = skips w sc p live s f area is_typed n3 1 0 test.core k idle tail_there.0 (λ z. let z0 : reg test.core.regs 1 ≡ 0 = z in absurd (omega (arith, z0, one_is))) in
          let path : PathLeads sc.env.structs (ty.array t len) (j ∷ []) t = (ltb-true j len within, refl) in
          let leads = leads_from_on sc.env.structs (types_in sc p l.region) l.path (ty.array t len) j t g.leads path in
          let there = found w sc p live s f area is_typed b (below l j) t ready_b leads g.standing in
          let room = there.inside in
          let small = f.sound.small in
          let few : 4 * words sc.env.structs t < 2 ^ 31 = omega (arith, room, small) in
          let scaled = scales w sc p live s f area is_typed (words sc.env.structs t) q (n3 + 2) test.core k idle ne few (let z = test.others q ne ∙ is in omega (arith, z, low)) (code_front w (n3 + 2) (scale_code (words sc.env.structs t) q) (Addu r x.base 1 ∷ []) scale_there) in
          let number : 4 * (words sc.env.structs t * reg test.core.regs q) % 2 ^ 32 ≡ 4 * (words sc.env.structs t * j) % 2 ^ 32 = ap (λ y. 4 * (words sc.env.structs t * y) % 2 ^ 32) (test.others q ne ∙ is) in
          let base_other = source_other r x.base lo source in
          let base : reg scaled.core.regs x.base ≡ reg b.regs x.base = scaled.others x.base base_other ∙ test.others x.base base_other ∙ source_kept r x.base b a lo hi source keeps in
          let v : ℕ = sum (reg b.regs x.base) (4 * (words sc.env.structs t * j) % 2 ^ 32) in
          let add = said_step w f (Addu r x.base 1) (Becomes (sum (reg b.regs x.base) (4 * (words sc.env.structs t * j) % 2 ^ 32))) n4 scaled.core k (code_back w (n3 + 2) (scale_code (words sc.env.structs t) q) (Addu r x.base 1 ∷ []) scale_there).0 refl idle (ap₂ sum base (scaled.is ∙ number)) in
          let a3 : Contents = with_reg scaled.core r (sum (reg b.regs x.base) (4 * (words sc.env.structs t * j) % 2 ^ 32)) in
          let run = joined w 3 6 _ _ _ test.run (joined w 1 5 _ _ _ go (joined w 4 1 _ _ _ scaled.run add)) in
          let run' = subst (λ y. Reaches w (3 + 6) (at_with n2 a k) (at_with y a3 k)) end_is run in
          let on = offset_from_on sc.env.structs (types_in sc p l.region) l.path (ty.array t len) j g.leads in
          let comm : words sc.env.structs t * j ≡ j * words sc.env.structs t = mul_comm (words sc.env.structs t) j in
          let was = g.is in
          let r_is : reg a3.regs r ≡ sum (reg b.regs x.base) (4 * (words sc.env.structs t * j) % 2 ^ 32) = same_read scaled.core.regs r _ (λ z. absurd (omega (arith, z, lo))) in
          let kept : KeepsRegisters r r c a3 = keeps_on r r c b a3 g.keeps (keeps_on r r b a a3 (keeps_in r (r + 1) r b a (omega arith) (omega arith) keeps) (keeps_on r r a test.core a3 (test.keeps r) (keeps_on r r test.core scaled.core a3 (scaled.keeps r) (keeps_put r r _ scaled.core)))) in
          arrives w sc 10 n2 to a a3 k Out (below l j) (record {
            is = ap (λ y. (y + x.displacement) % 2 ^ 32) r_is ∙ address (reg b.regs x.base) x.displacement (words sc.env.structs t * j) (location_word sc p l) (location_word sc p (below l j)) was (omega (arith, on, comm)) (omega (arith, room, small));
            leads = leads;
            away = λ z. points_on sc.env.structs (layout sc p) l.region l.path (ty.array t len) j t (g.away z) path;
            standing = g.standing;
            keeps = kept;
          }) (later w 9 10 _ _ (omega arith) run')
        where
          address : (base shift more from there : ℕ) → (base + shift) % 2 ^ 32 ≡ 4 * from → there ≡ from + more → 4 * there < 2 ^ 32
              → (sum base (4 * more % 2 ^ 32) + shift) % 2 ^ 32 ≡ 4 * there
          address base shift further from there h e small = omega arith

      by_test : (l : Location) (b : Contents) (g : HoldsAddress sc p x.base x.displacement r local (ty.array t len) c l b) (ready_b : Ready sc p live s b) (a : Contents) (j : ℕ) → Source (r + 1) q → KeepsRegisters (r + 1) (r + 1) b a → reg a.regs q ≡ j → j < 2 ^ 31 → len < 2 ^ 32 → (y : Bool) → nat_lt j len ≡ y → Evaluates w sc 10 n2 to a k Out (at_no_cost (if y then Ok (below l j) else Err (faulted Bounds)))
      by_test l b g ready_b a j src keeps is low short true e = inside l b g ready_b a j src keeps e is low short
      by_test l b g ready_b a j src keeps is low short false e = outside a j short (source_other (r + 1) q (omega arith) src) e is

      wide : (n m : ℕ) → 1 ≤ n * m → n ≤ n * m
      wide n zero h = absurd (omega (arith, h))
      wide n (suc m) h = let z = mul_comm n (suc m) in omega (arith, z)

      short_array : (l : Location) (b : Contents) → HoldsAddress sc p x.base x.displacement r local (ty.array t len) c l b → Ready sc p live s b → len < 2 ^ 32
      short_array l b g ready_b =
          let room = (found w sc p live s f area is_typed b l (ty.array t len) ready_b g.leads g.standing).inside in
          let some = wide len (words sc.env.structs t) (area.filled l.region l.path (ty.array t len) g.leads) in
          let small = f.sound.small in
          omega (arith, room, some, small)

      by_value : (l : Location) (b : Contents) (g : HoldsAddress sc p x.base x.displacement r local (ty.array t len) c l b) (ready_b : Ready sc p live s b) (a : Contents) → Source (r + 1) q → (y v : Value) → Fits sc.env.structs (layout sc p) (ty.array t len) y → HoldsValue sc p q (r + 1) (r + 1) ty.int b v a → Evaluates w sc 10 n2 to a k Out (at_no_cost (element_of l (Some y) v))
      by_value l b g ready_b a src (group vs) (int (pos j)) fits h =
          let is : reg a.regs q ≡ j = h.is ∙ word_pos j h.fits in
          let c0 : count vs ≡ len = length_fits sc.env.structs (layout sc p) len t vs fits in
          by_test l b g ready_b a j src h.keeps is (pos_small j h.fits) (short_array l b g ready_b) (nat_lt j (count vs)) (ap (nat_lt j) (sym c0))
      by_value l b g ready_b a src (group vs) (int (negsuc j)) fits h = outside a (word_of (negsuc j)) (short_array l b g ready_b) (source_other (r + 1) q (omega arith) src) (le-ltb (word_of (negsuc j)) len (too_large j h.fits)) h.is
        where
          too_large : (j : ℕ) → Fits sc.env.structs (layout sc p) ty.int (int (negsuc j)) → len ≤ word_of (negsuc j)
          too_large j fits = let big = word_negsuc j fits in
              let room = (found w sc p live s f area is_typed b l (ty.array t len) ready_b g.leads g.standing).inside in
              let some = wide len (words sc.env.structs t) (area.filled l.region l.path (ty.array t len) g.leads) in
              let small = f.sound.small in
              omega (arith, big, room, some, small)
      by_value l b g ready_b a src (group vs) (bool z) fits h = absurd h.fits
      by_value l b g ready_b a src (group vs) null fits h = absurd h.fits
      by_value l b g ready_b a src (group vs) (at z) fits h = absurd h.fits
      by_value l b g ready_b a src (group vs) (group us) fits h = absurd h.fits
      by_value l b g ready_b a src (int z) v fits h = absurd fits
      by_value l b g ready_b a src (bool z) v fits h = absurd fits
      by_value l b g ready_b a src null v fits h = absurd fits
      by_value l b g ready_b a src (at z) v fits h = absurd fits
