-- Places: what is loaded from them, variables, targets of pointers, fields.
use Rattle.std.specs.Prelude.{Ok, ok_or, slice_get, unwrap_or, IsTrue}
use Rattle.std.proofs.Common.{◌≡◌, ◌≢◌, inl, inr, ℕ, ◌+◌, ◌-◌, ◌*◌, ◌%◌, ◌^◌, ◌<◌, ◌≤◌, Bool, true, false, cond, Some, List, [], ◌∷◌, ◌++◌, length, refl, sym, ap, ◌∙◌, subst, arith, length-append}
use Rattle.std.proofs.lemmas.Bool.{cases_Bool, eqb-true, cond-true, cond-false}
use Rattle.mips_table.specs.declared.inst.Inst.{Inst}
use Rattle.mips_table.specs.declared.inst.Inst.TheVariants.{Lw, Addiu, Addu, Lui}
use Rattle.mips_table.specs.Arith.{sum, extended}
use Rattle.mips_table.specs.Device.{Idle}
use Rattle.mips_table.specs.Code.{Contents, reg, with_reg, Behind, World, at_with, Reaches, CodeAt}
use Rattle.c0_meaning.specs.Ty.{Ty, is_scalar}
use Rattle.c0_meaning.specs.Words.{words}
use Rattle.c0_meaning.specs.Value.{Region, globals, heap, locals, Location, at}
use Rattle.c0_meaning.specs.State.{C0State, variables_of, read}
use Rattle.c0_meaning.specs.Operators.{stuck}
use Rattle.c0_meaning.specs.Evaluation.{Costed, costs, at_no_cost, ◌>>=◌, load_from}
use Rattle.c0_meaning.specs.TypedState.{LeadsFrom, PointsTo, types_of}
use Rattle.masm.specs.Says.{Gives as Becomes, Reads}
use Rattle.c0_expr_runs.proofs.CodeRuns.{Machine, joined, later, stays, code_back, said_step}
use Rattle.c0_expr_code.specs.Scope.{Scope}
use Rattle.c0_expr_runs.specs.Bases.{Bases, locals_start, types_in, location_word, word_of_scalar, LocalsHeld}
use Rattle.c0_meaning.specs.Sizes.{words_before}
use Rattle.c0_meaning.specs.Addresses.{words_to, words_to_part}
use Rattle.c0_expr_code.specs.FrameSetting.{bytes_back}
use Rattle.c0_expr_code.specs.Code.{AddressingMode, is_near, low, high, access_code, load_code}
use Rattle.c0_expr_runs.specs.Relation.{layout, StateIsTyped, Ready, KeepsRegisters, Area, Evaluates, HoldsValue, HoldsAddress, Source}
use Rattle.c0_expr_runs.proofs.WordsOfValues.{near_is, far_is}
use Rattle.c0_expr_runs.proofs.PartsAtOffsets.{one_word, room as part_room, room_from, Seen, region_seen, scalar_held}
use Rattle.c0_expr_runs.proofs.SideBySide.{same_read, other_read, keeps_all, keeps_on, keeps_in, keeps_put, keeps_one, keeps_low, source_other, Answered, answered, binds, arrives}
use Rattle.c0_expr_runs.proofs.FramePlaces.{base_of}
use Rattle.c0_meaning.specs.Ty as ty

module _ (w : World) (sc : Scope) (p : Bases) (live : ℕ → Bool) (s : C0State) (f : Machine w) (area : Area w sc p) (is_typed : StateIsTyped sc p s) where
  -- what stands at a location is read, also where that isn't live, and its words are words of memory
  pub record Found (b : Contents) (l : Location) (t : Ty) : Type 0 where
    pub whole : ℕ → ℕ
    pub seen : Seen sc p whole (read s l) (location_word sc p l) t
    pub same : is_scalar t ≡ true → (l.region ≡ locals → IsTrue (live (base_of l.path))) → b.memory (location_word sc p l) ≡ whole (location_word sc p l)
    pub inside : location_word sc p l + words sc.env.structs t ≤ w.words

  -- the same of a variable in the frame, from where the variables begin
  record FoundFrom (m : ℕ → ℕ) (from : ℕ) (path : List ℕ) (t : Ty) : Type 0 where
    whole : ℕ → ℕ
    seen : Seen sc p whole (read s (record { region = locals; path = path })) (from + words_to_part sc.env.structs (types_of sc.env.locals) path) t
    same : is_scalar t ≡ true → IsTrue (live (base_of path))
        → m (from + words_to_part sc.env.structs (types_of sc.env.locals) path) ≡ whole (from + words_to_part sc.env.structs (types_of sc.env.locals) path)
    inside : from + words_to_part sc.env.structs (types_of sc.env.locals) path + words sc.env.structs t ≤ w.words

  -- a live variable's words
  live_same : (m : ℕ → ℕ) (from : ℕ) (path : List ℕ) (t : Ty) → LeadsFrom sc.env.structs (types_of sc.env.locals) path t → is_scalar t ≡ true
      → (h : LocalsHeld sc p live m from (types_of sc.env.locals) (variables_of s.frames)) → IsTrue (live (base_of path))
      → m (from + words_to_part sc.env.structs (types_of sc.env.locals) path) ≡ h.whole (from + words_to_part sc.env.structs (types_of sc.env.locals) path)
  live_same m from [] t l scalar h is_live = absurd l
  live_same m from (i ∷ path) t l scalar h is_live =
      let c : words_to sc.env.structs (unwrap_or (slice_get (types_of sc.env.locals) i) ty.int) path ≡ words_to sc.env.structs l.0 path = ap (λ o. words_to sc.env.structs (unwrap_or o ty.int) path) l.1 in
      let r = part_room sc.env.structs area.opened l.0 path t l.2 in
      let o = one_word sc.env.structs t scalar in
      let at : from + words_to_part sc.env.structs (types_of sc.env.locals) (i ∷ path) ≡ from + words_before sc.env.structs (types_of sc.env.locals) i + words_to sc.env.structs l.0 path = omega (arith, c) in
      ap m at ∙ h.same i l.0 l.1 is_live (words_to sc.env.structs l.0 path) (omega (arith, r, o)) ∙ sym (ap h.whole at)

  by_form : (b : Contents) (path : List ℕ) (t : Ty) → LeadsFrom sc.env.structs (types_of sc.env.locals) path t → (form : Bool) → form ≡ false →
      LocalsHeld sc p live (cond form b.regs b.memory) (cond form 20 (p.frame_end - sc.frame + 3)) (types_of sc.env.locals) (variables_of s.frames) →
      FoundFrom b.memory (cond form 20 (p.frame_end - sc.frame + 3)) path t
  by_form b path t l true e h = absurd (cc)
  by_form b path t l false e h =
      let r = room_from sc.env.structs area.opened (types_of sc.env.locals) path t l in
      let a = area.frame_room in
      let i = area.frame_inside in
      let o = area.frame_holds in
      record {
        whole = h.whole;
        seen = region_seen sc p h.whole (types_of sc.env.locals) path t (variables_of s.frames) (p.frame_end - sc.frame + 3) l is_typed.local_values h.held;
        same = λ scalar is_live. live_same b.memory (p.frame_end - sc.frame + 3) path t l scalar h is_live;
        inside = omega (arith, r, a, i, o);
      }

  found_in : (b : Contents) (g : Region) (path : List ℕ) (t : Ty) → Ready sc p live s b → LeadsFrom sc.env.structs (types_in sc p g) path t
      → (g ≡ locals → sc.in_registers ≡ false) → Found b (record { region = g; path = path }) t
  found_in b globals path t h l o =
      let r = room_from sc.env.structs area.opened (types_of sc.env.globals) path t l in
      let a = area.globals_room in
      record { whole = b.memory; same = λ scalar is_live. refl; seen = region_seen sc p b.memory (types_of sc.env.globals) path t s.global_values p.globals l is_typed.global_values h.global_values; inside = omega (arith, r, a) }
  found_in b heap path t h l o =
      let r = room_from sc.env.structs area.opened p.objects path t l in
      let a = area.heap_room in
      record { whole = b.memory; same = λ scalar is_live. refl; seen = region_seen sc p b.memory p.objects path t s.heap_values p.heap l is_typed.heap_values h.heap_values; inside = omega (arith, r, a) }
  found_in b locals path t h l o =
      let r = by_form b path t l sc.in_registers (o refl) h.local_values in
      record { whole = r.whole; seen = r.seen; same = λ scalar is_live. r.same scalar (is_live refl); inside = r.inside }

  pub found : (b : Contents) (l : Location) (t : Ty) → Ready sc p live s b → LeadsFrom sc.env.structs (types_in sc p l.region) l.path t
      → (l.region ≡ locals → sc.in_registers ≡ false) → Found b l t
  found b l t h g o = found_in b l.region l.path t h g o

  -- an instruction on a place, where it is known what it does at the place's address
  pub record Done (d r v n to : ℕ) (b : Contents) (k : Behind) : Type 0 where
    pub core : Contents
    pub is : reg core.regs d ≡ v
    pub keeps : KeepsRegisters r d b core
    pub memory : core.memory ≡ b.memory
    pub run : Reaches w 3 (at_with n b k) (at_with to core k)

  pub on_place : (i : ℕ → ℕ → Inst) (x : AddressingMode) (d r v n : ℕ) (b : Contents) (k : Behind) → k.pending ≡ Idle → 8 ≤ r → r < 20 → d ≢ 0
      → Source r x.base → CodeAt w n (access_code i r x) →
      ((q m : ℕ) (a : Contents) → w.code m ≡ Some (i q (low x.displacement)) → a.memory ≡ b.memory → sum (reg a.regs q) (extended (low x.displacement)) ≡ (reg b.regs x.base + x.displacement) % 2 ^ 32 → Reaches w 1 (at_with m a k) (at_with (m + 1) (with_reg a d v) k)) →
      Done d r v (n + length x.code) (n + length (access_code i r x)) b k
  on_place i x d r v n b k idle lo hi nz source code law = elim (cases_Bool (is_near x.displacement)) [
    | inl e ↦
        let tail : List Inst = i x.base (low x.displacement) ∷ [] in
        let same : access_code i r x ≡ x.code ++ tail = ap (λ is. x.code ++ is) (cond-true (is_near x.displacement) (i x.base (low x.displacement) ∷ []) _ e) in
        let there = code_back w n x.code (i x.base (low x.displacement) ∷ []) (subst (CodeAt w n) same code) in
        let run = law x.base (n + length x.code) b there.0 refl (near_is x.displacement (reg b.regs x.base) (eqb-true (extended (low x.displacement)) x.displacement e)) in
        let len : n + length x.code + 1 ≡ n + length (access_code i r x) = omega (arith, ap length same, length-append x.code (i x.base (low x.displacement) ∷ [])) in
        record { core = with_reg b d v; is = same_read b.regs d v nz; keeps = keeps_put r d v b; memory = refl; run = subst (λ t. Reaches w 3 (at_with (n + length x.code) b k) (at_with t (with_reg b d v) k)) len (later w 1 3 _ _ (omega arith) run) }
    | inr e ↦
        let tail : List Inst = Lui 1 (high x.displacement) ∷ Addu r x.base 1 ∷ i r (low x.displacement) ∷ [] in
        let same : access_code i r x ≡ x.code ++ (Lui 1 (high x.displacement) ∷ Addu r x.base 1 ∷ i r (low x.displacement) ∷ []) = ap (λ is. x.code ++ is) (cond-false (is_near x.displacement) (i x.base (low x.displacement) ∷ []) (Lui 1 (high x.displacement) ∷ Addu r x.base 1 ∷ i r (low x.displacement) ∷ []) e) in
        let there = code_back w n x.code (Lui 1 (high x.displacement) ∷ Addu r x.base 1 ∷ i r (low x.displacement) ∷ []) (subst (CodeAt w n) same code) in
        let rz : r ≢ 0 = λ z. absurd (omega (arith, z, lo)) in
        let b1 : Contents = with_reg b 1 (high x.displacement * 2 ^ 16) in
        let one = said_step w f (Lui 1 (high x.displacement)) (Becomes (high x.displacement * 2 ^ 16)) (n + length x.code) b k there.0 refl idle refl in
        let base : reg b1.regs x.base ≡ reg b.regs x.base = other_read b.regs 1 (high x.displacement * 2 ^ 16) x.base (source_other r x.base lo source) in
        let whole : sum (reg b1.regs x.base) (reg b1.regs 1) ≡ sum (reg b.regs x.base) (high x.displacement * 2 ^ 16) = ap (λ y. sum y (high x.displacement * 2 ^ 16)) base in
        let b2 : Contents = with_reg b1 r (sum (reg b.regs x.base) (high x.displacement * 2 ^ 16)) in
        let two = said_step w f (Addu r x.base 1) (Becomes (sum (reg b.regs x.base) (high x.displacement * 2 ^ 16))) (n + length x.code + 1) b1 k there.1.0 refl idle whole in
        let address : sum (reg b2.regs r) (extended (low x.displacement)) ≡ (reg b.regs x.base + x.displacement) % 2 ^ 32 = ap (λ y. sum y (extended (low x.displacement))) (same_read b1.regs r (sum (reg b.regs x.base) (high x.displacement * 2 ^ 16)) rz) ∙ far_is x.displacement (reg b.regs x.base) in
        let three = law r (n + length x.code + 1 + 1) b2 there.1.1.0 refl address in
        let len : n + length x.code + 1 + 1 + 1 ≡ n + length (access_code i r x) = omega (arith, ap length same, length-append x.code (Lui 1 (high x.displacement) ∷ Addu r x.base 1 ∷ i r (low x.displacement) ∷ [])) in
        let run = joined w 1 2 _ _ _ one (joined w 1 1 _ _ _ two three) in
        let before : KeepsRegisters r d b b2 = keeps_on r d b b1 b2 (keeps_one r d (high x.displacement * 2 ^ 16) b) (keeps_in r r d b1 b2 (omega arith) hi (keeps_put r r (sum (reg b.regs x.base) (high x.displacement * 2 ^ 16)) b1)) in
        record { core = with_reg b2 d v; is = same_read b2.regs d v nz; keeps = keeps_on r d b b2 (with_reg b2 d v) before (keeps_put r d v b2); memory = refl; run = subst (λ t. Reaches w 3 (at_with (n + length x.code) b k) (at_with t (with_reg b2 d v) k)) len run }
  ]

  -- a location of a place in the frame has a variable that is live; no other is a variable's
  is_live_at : (local : Bool) (l : Location) (t : Ty) → (local ≡ false → PointsTo sc.env.structs (layout sc p) l.region l.path t)
      → (local ≡ true → IsTrue (live (base_of l.path))) → l.region ≡ locals → IsTrue (live (base_of l.path))
  is_live_at true l t away lives e = lives refl
  is_live_at false l t away lives e = absurd (subst (λ g. PointsTo sc.env.structs (layout sc p) g l.path t) e (away refl))

  -- a place as value
  pub loads : (local : Bool) (t : Ty) (x : AddressingMode) (m d r n : ℕ) (c : Contents) (k : Behind) (e : Costed Location) → k.pending ≡ Idle
      → (KeepsRegisters 0 0 c c → (b : Contents) → KeepsRegisters 0 0 c b → Ready sc p live s b) → is_scalar t ≡ true → 8 ≤ r → r < 20 → d ≢ 0 → Source r x.base
      → (local ≡ true → (u : ℕ) (l : Location) → e ≡ costs u (Ok l) → IsTrue (live (base_of l.path))) →
      CodeAt w n (load_code d r x) → Evaluates w sc m n (n + length x.code) c k (HoldsAddress sc p x.base x.displacement r local t c) e → Evaluates w sc (m + 3) n (n + length (load_code d r x)) c k (HoldsValue sc p d r d t c) (load_from s e)
  loads local t x m d r n c k e idle ready scalar lo hi nz source lives code h =
      binds w sc m 3 n (n + length x.code) (n + length (load_code d r x)) c k (Answered w sc (HoldsAddress sc p x.base x.displacement r local t c) e) (HoldsValue sc p d r d t c) e _
      (answered w sc m n (n + length x.code) c k (HoldsAddress sc p x.base x.displacement r local t c) e h)
      (λ l b a. keeps_low r r c b hi a.holds.keeps)
      (λ l b a.
      let q = a.holds in
      let g = found b l t (ready (keeps_all 0 0 c) b (keeps_low r r c b hi q.keeps)) q.leads q.standing in
      let stands = g.same scalar (is_live_at local l t q.away (λ z. lives z a.units l a.is)) in
      let v = g.seen.value in
      let inside : location_word sc p l < w.words = omega (arith, g.inside, one_word sc.env.structs t scalar) in
      let done = on_place (λ y z. Lw d y z) x d r (word_of_scalar sc p v) n b k idle lo hi nz source code
      (λ y z a there same address. said_step w f (Lw d y (low x.displacement)) (Reads (location_word sc p l) (word_of_scalar sc p v)) z a k there refl idle (address ∙ q.is, inside, ap (λ g. g (location_word sc p l)) same ∙ stands ∙ scalar_held sc p g.whole t v (location_word sc p l) scalar g.seen.held)) in
      let arrive : Evaluates w sc 3 (n + length x.code) (n + length (load_code d r x)) b k (HoldsValue sc p d r d t c) (at_no_cost (Ok v)) =
      arrives w sc 3 (n + length x.code) (n + length (load_code d r x)) b done.core k (HoldsValue sc p d r d t c) v
      (record { is = done.is; fits = g.seen.fits; keeps = keeps_on r d c b done.core (keeps_in r r d c b (omega arith) hi q.keeps) done.keeps }) done.run in
      subst (λ o. Evaluates w sc 3 (n + length x.code) (n + length (load_code d r x)) b k (HoldsValue sc p d r d t c) (at_no_cost (ok_or o stuck))) (sym g.seen.is) arrive)

  -- an address as value
  pub addresses : (t : Ty) (x : AddressingMode) (m d r n : ℕ) (c : Contents) (k : Behind) (e : Costed Location) → k.pending ≡ Idle → 8 ≤ r → r < 20 → d ≢ 0
      → Source r x.base →
      CodeAt w n (access_code (λ y z. Addiu d y z) r x) → Evaluates w sc m n (n + length x.code) c k (HoldsAddress sc p x.base x.displacement r false t c) e → Evaluates w sc (m + 3) n (n + length (access_code (λ y z. Addiu d y z) r x)) c k (HoldsValue sc p d r d (ty.pointer t) c) (e >>= λ l. at_no_cost (Ok (at l)))
  addresses t x m d r n c k e idle lo hi nz source code h =
      binds w sc m 3 n (n + length x.code) (n + length (access_code (λ y z. Addiu d y z) r x)) c k (HoldsAddress sc p x.base x.displacement r false t c) (HoldsValue sc p d r d (ty.pointer t) c) e _ h
      (λ l b q. keeps_low r r c b hi q.keeps)
      (λ l b q.
      let done = on_place (λ y z. Addiu d y z) x d r (4 * location_word sc p l) n b k idle lo hi nz source code
      (λ y z a there same address. said_step w f (Addiu d y (low x.displacement)) (Becomes (4 * location_word sc p l)) z a k there refl idle (address ∙ q.is)) in
      arrives w sc 3 (n + length x.code) (n + length (access_code (λ y z. Addiu d y z) r x)) b done.core k (HoldsValue sc p d r d (ty.pointer t) c) (at l)
      (record { is = done.is; fits = q.away refl; keeps = keeps_on r d c b done.core (keeps_in r r d c b (omega arith) hi q.keeps) done.keeps }) done.run)

  -- variables
  first_offset : (types : List Ty) (n : ℕ) (t : Ty) → slice_get types n ≡ Some t
      → words_to_part sc.env.structs types (n ∷ []) ≡ words_before sc.env.structs types n
  first_offset types n t e = omega arith

  pub global_place : (x n r : ℕ) (t : Ty) (c : Contents) (k : Behind) → Ready sc p live s c → slice_get (types_of sc.env.globals) x ≡ Some t
      → Evaluates w sc 0 n (n + 0) c k (HoldsAddress sc p 28 (4 * words_before sc.env.structs (types_of sc.env.globals) x % 2 ^ 32) r false t c) (at_no_cost (Ok (record { region = globals; path = x ∷ [] })))
  global_place x n r t c k ready e =
      let place = first_offset (types_of sc.env.globals) x t e in
      let room = room_from sc.env.structs area.opened (types_of sc.env.globals) (x ∷ []) t (t, e, refl) in
      let a = area.globals_room in
      let small = f.sound.small in
      let g = ready.globals_at in
      arrives w sc 0 n (n + 0) c c k (HoldsAddress sc p 28 (4 * words_before sc.env.structs (types_of sc.env.globals) x % 2 ^ 32) r false t c) (record { region = globals; path = x ∷ [] })
      (record { is = omega (arith, place, room, a, small, g); leads = (t, e, refl); away = λ q. (t, e, refl); standing = λ q. absurd (not_locals q); keeps = keeps_all r r c })
      (stays w _ _ (ap (λ m. at_with m c k) (omega arith)))
    where
      not_locals : globals ≡ locals → ⊥
      not_locals q = absurd (cc)

  pub local_place : (x n r : ℕ) (t : Ty) (c : Contents) (k : Behind) → Ready sc p live s c → sc.in_registers ≡ false
      → slice_get (types_of sc.env.locals) x ≡ Some t
      → Evaluates w sc 0 n (n + 0) c k (HoldsAddress sc p 29 ((bytes_back sc.frame + (12 + 4 * words_before sc.env.structs (types_of sc.env.locals) x)) % 2 ^ 32) r true t c) (at_no_cost (Ok (record { region = locals; path = x ∷ [] })))
  local_place x n r t c k ready form e =
      let place = first_offset (types_of sc.env.locals) x t e in
      let room = room_from sc.env.structs area.opened (types_of sc.env.locals) (x ∷ []) t (t, e, refl) in
      let a = area.frame_room in
      let i = area.frame_inside in
      let o = area.frame_holds in
      let small = f.sound.small in
      let g = ready.frame_at form in
      let begin : locals_start sc p ≡ p.frame_end - sc.frame + 3 = cond-false sc.in_registers 20 (p.frame_end - sc.frame + 3) form in
      arrives w sc 0 n (n + 0) c c k (HoldsAddress sc p 29 ((bytes_back sc.frame + (12 + 4 * words_before sc.env.structs (types_of sc.env.locals) x)) % 2 ^ 32) r true t c) (record { region = locals; path = x ∷ [] })
      (record { is = omega (arith, place, room, a, i, o, small, g, begin); leads = (t, e, refl); away = λ q. let z : true ≡ false = q in absurd (cc); standing = λ q. form; keeps = keeps_all r r c })
      (stays w _ _ (ap (λ m. at_with m c k) (omega arith)))
