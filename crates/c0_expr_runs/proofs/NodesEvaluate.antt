-- The other nodes: constants, variables in registers, targets of pointers, fields, elements, operators.
use Rattle.std.specs.Prelude.{Ok, ok_or, bit_or, slice_get, IsTrue}
use Rattle.std.proofs.Common.{◌≡◌, ◌≢◌, inl, inr, ◌⊎◌, ℕ, ◌+◌, ◌-◌, ◌*◌, ◌/◌, ◌%◌, ◌^◌, ◌<◌, ◌≤◌, Bool, true, false, not, cond, nat_eq, nat_lt, Some, List, [], ◌∷◌, length, refl, sym, ap, ◌∙◌, subst, arith, eq-eqb, ne_eqb}
use Rattle.std.proofs.lemmas.Bool.{cases_Bool, eqb-true, cond-true, cond-false}
use Rattle.mips_table.specs.declared.inst.Inst.TheVariants.{J, Bne, Addu, Addiu, Lui, Ori}
use Rattle.mips_table.specs.Arith.{sum, flag, extended}
use Rattle.mips_table.specs.Effect.{branch}
use Rattle.mips_table.specs.Device.{Idle}
use Rattle.mips_table.specs.Code.{Contents, reg, with_reg, Behind, World, at_with, Reaches, CodeAt}
use Rattle.c0_meaning.specs.Ty.{Ty, is_scalar}
use Rattle.c0_meaning.specs.Words.{shape_fields, words}
use Rattle.c0_tree.specs.Tree.{CName}
use Rattle.c0_meaning.specs.Value.{Region, globals, heap, locals, Location, Value, int, bool, null, at, group, below}
use Rattle.c0_meaning.specs.State.{C0State, variables_of, read}
use Rattle.c0_meaning.specs.Operators.{NullUse, stuck}
use Rattle.c0_meaning.specs.Evaluation.{Costed, costs, at_no_cost, paying, pointed_to, load_from, field_of, pointed}
use Rattle.c0_meaning.specs.TypedState.{types_of, LeadsFrom, PointsTo, Fits, PathLeads}
use Rattle.c0_expr_runs.proofs.OnePartMore.{leads_from_on, points_on}
use Rattle.masm.specs.Says.{Gives as Becomes}
use Rattle.c0_expr_runs.proofs.CodeRuns.{Machine, joined, later, stays, said_step, differ_goes}
use Rattle.c0_expr_code.specs.Scope.{Scope}
use Rattle.c0_expr_code.specs.declared.facts.Facts.{Facts}
use Rattle.c0_expr_code.specs.Facts.{register_holding}
use Rattle.c0_expr_runs.specs.Bases.{Bases, locals_start, types_in, location_word, word_of_scalar, LocalsHeld}
use Rattle.c0_meaning.specs.Sizes.{words_before}
use Rattle.c0_meaning.specs.Addresses.{words_to, words_to_part}
use Rattle.c0_expr_code.specs.Code.{constant_code, is_near, low, to_code}
use Rattle.c0_expr_runs.specs.Relation.{layout, StateIsTyped, Ready, HasWordOf, RegistersHold, ReadyWith, KeepsRegisters, Area, Evaluates, HoldsValue, HoldsAddress}
use Rattle.c0_expr_runs.proofs.WordsOfValues.{halves, word_below, near_is, extended_small}
use Rattle.c0_expr_runs.proofs.PartsAtOffsets.{one_word, offset_from_on, field_offset, before_scalars, room_from, region_seen, scalar_held}
use Rattle.c0_expr_runs.proofs.SideBySide.{same_read, other_read, keeps_all, keeps_on, keeps_put, keeps_low, ready_on, more, node, binds, Answered, answered, arrives, faults, jumps}
use Rattle.c0_expr_runs.proofs.HeldRegisters.{held_in}
use Rattle.c0_expr_runs.proofs.AddressingModes.{found}
use Rattle.c0_meaning.specs.Ty as ty

module _ (w : World) (sc : Scope) (p : Bases) (live : ℕ → Bool) (s : C0State) (f : Machine w) (area : Area w sc p) (is_typed : StateIsTyped sc p s) where
  -- a constant is in a register
  pub constant_runs : (d r v n : ℕ) (c : Contents) (k : Behind) → v < 2 ^ 32 → k.pending ≡ Idle → d ≢ 0 → CodeAt w n (constant_code d v)
      → (b : Contents) × (reg b.regs d ≡ v) × KeepsRegisters r d c b × ((x : ℕ) → x ≢ d → reg b.regs x ≡ reg c.regs x) × Reaches w 2 (at_with n c k) (at_with (n + length (constant_code d v)) b k)
  constant_runs d r v n c k small idle nz code = elim (cases_Bool (nat_lt v (2 ^ 16))) [
    | inl e ↦
        let same : constant_code d v ≡ Ori d 0 v ∷ [] = cond-true (nat_lt v (2 ^ 16)) (Ori d 0 v ∷ []) _ e in
        let there = subst (CodeAt w n) same code in
        let one = said_step w f (Ori d 0 v) (Becomes v) n c k there.0 refl idle refl in
        let len : n + 1 ≡ n + length (constant_code d v) = omega (arith, ap length same) in
        (with_reg c d v, same_read c.regs d v nz, keeps_put r d v c, (λ x ne. other_read c.regs d v x ne), subst (λ t. Reaches w 2 (at_with n c k) (at_with t (with_reg c d v) k)) len (later w 1 2 _ _ (omega arith) one))
    | inr e ↦ by_near (cond-false (nat_lt v (2 ^ 16)) (Ori d 0 v ∷ []) (cond (is_near v) (Addiu d 0 (low v) ∷ []) (Lui d (v / 2 ^ 16 % 2 ^ 16) ∷ Ori d d (low v) ∷ [])) e) (cases_Bool (is_near v))
  ]
    where
      by_near : constant_code d v ≡ cond (is_near v) (Addiu d 0 (low v) ∷ []) (Lui d (v / 2 ^ 16 % 2 ^ 16) ∷ Ori d d (low v) ∷ [])
          → (is_near v ≡ true) ⊎ (is_near v ≡ false)
          → (b : Contents) × (reg b.regs d ≡ v) × KeepsRegisters r d c b × ((x : ℕ) → x ≢ d → reg b.regs x ≡ reg c.regs x) × Reaches w 2 (at_with n c k) (at_with (n + length (constant_code d v)) b k)
      by_near q (inl e) =
          let same : constant_code d v ≡ Addiu d 0 (low v) ∷ [] = q ∙ cond-true (is_near v) (Addiu d 0 (low v) ∷ []) _ e in
          let there = subst (CodeAt w n) same code in
          let near : extended (v % 2 ^ 16) ≡ v = eqb-true (extended (low v)) v e in
          let below = extended_small (v % 2 ^ 16) (omega arith) in
          let one = said_step w f (Addiu d 0 (low v)) (Becomes v) n c k there.0 refl idle (near_is v 0 near ∙ omega (arith, near, small)) in
          let len : n + 1 ≡ n + length (constant_code d v) = omega (arith, ap length same) in
          (with_reg c d v, same_read c.regs d v nz, keeps_put r d v c, (λ x ne. other_read c.regs d v x ne), subst (λ t. Reaches w 2 (at_with n c k) (at_with t (with_reg c d v) k)) len (later w 1 2 _ _ (omega arith) one))
      by_near q (inr e) =
          let same : constant_code d v ≡ Lui d (v / 2 ^ 16 % 2 ^ 16) ∷ Ori d d (low v) ∷ [] = q ∙ cond-false (is_near v) (Addiu d 0 (low v) ∷ []) (Lui d (v / 2 ^ 16 % 2 ^ 16) ∷ Ori d d (low v) ∷ []) e in
          let there = subst (CodeAt w n) same code in
          let c1 : Contents = with_reg c d (v / 2 ^ 16 * 2 ^ 16) in
          let one = said_step w f (Lui d (v / 2 ^ 16 % 2 ^ 16)) (Becomes (v / 2 ^ 16 * 2 ^ 16)) n c k there.0 refl idle (omega (arith, small)) in
          let whole : bit_or (reg c1.regs d) (v % 2 ^ 16) ≡ v = ap (λ y. bit_or y (v % 2 ^ 16)) (same_read c.regs d (v / 2 ^ 16 * 2 ^ 16) nz) ∙ halves v in
          let two = said_step w f (Ori d d (low v)) (Becomes v) (n + 1) c1 k there.1.0 refl idle whole in
          let len : n + 1 + 1 ≡ n + length (constant_code d v) = omega (arith, ap length same) in
          (with_reg c1 d v, same_read c1.regs d v nz, keeps_on r d c c1 (with_reg c1 d v) (keeps_put r d _ c) (keeps_put r d v c1), (λ x ne. other_read c1.regs d v x ne ∙ other_read c.regs d (v / 2 ^ 16 * 2 ^ 16) x ne), subst (λ t. Reaches w 2 (at_with n c k) (at_with t (with_reg c1 d v) k)) len (joined w 1 1 _ _ _ one two))

  pub constant_gives : (d r n v : ℕ) (t : Ty) (x : Value) (c : Contents) (k : Behind) → v < 2 ^ 32 → k.pending ≡ Idle → d ≢ 0
      → CodeAt w n (constant_code d v) → v ≡ word_of_scalar sc p x → Fits sc.env.structs (layout sc p) t x
      → Evaluates w sc 0 n (n + length (constant_code d v)) c k (HoldsValue sc p d r d t c) (paying 1 (at_no_cost (Ok x)))
  constant_gives d r n v t x c k small idle nz code e fits =
      let a = constant_runs d r v n c k small idle nz code in
      node w sc 2 n (n + length (constant_code d v)) c k (HoldsValue sc p d r d t c) (at_no_cost (Ok x)) (omega arith)
      (arrives w sc 2 n _ c a.0 k (HoldsValue sc p d r d t c) x (record { is = a.1 ∙ e; fits = fits; keeps = a.2 }) a.4)

  -- a value that is in register 0 already
  pub nothing_gives : (r n : ℕ) (t : Ty) (x : Value) (c : Contents) (k : Behind) → 0 ≡ word_of_scalar sc p x → Fits sc.env.structs (layout sc p) t x
      → Evaluates w sc 0 n (n + 0) c k (HoldsValue sc p 0 r r t c) (paying 1 (at_no_cost (Ok x)))
  nothing_gives r n t x c k e fits =
      node w sc 0 n (n + 0) c k (HoldsValue sc p 0 r r t c) (at_no_cost (Ok x)) (omega arith)
      (arrives w sc 0 n (n + 0) c c k (HoldsValue sc p 0 r r t c) x (record { is = e; fits = fits; keeps = keeps_all r r c }) (stays w _ _ (ap (λ m. at_with m c k) (omega arith))))

  -- a variable in a register
  in_register : (form : Bool) → form ≡ true → (x : ℕ) (t : Ty) (c : Contents) → slice_get (types_of sc.env.locals) x ≡ Some t
      → words_before sc.env.structs (types_of sc.env.locals) x ≡ x → is_scalar t ≡ true → IsTrue (live x) →
      LocalsHeld sc p live (cond form c.regs c.memory) (cond form 20 (p.frame_end - sc.frame + 3)) (types_of sc.env.locals) (variables_of s.frames) →
      (v : Value) × (read s (record { region = locals; path = x ∷ [] }) ≡ Some v) × Fits sc.env.structs (layout sc p) t v × (c.regs (20 + x) ≡ word_of_scalar sc p v)
  in_register true e x t c h b scalar is_live g =
      let r = region_seen sc p g.whole (types_of sc.env.locals) (x ∷ []) t (variables_of s.frames) 20 (t, h, refl) is_typed.local_values g.held in
      let here : 20 + words_to_part sc.env.structs (types_of sc.env.locals) (x ∷ []) ≡ 20 + x = omega (arith, b) in
      let one = one_word sc.env.structs t scalar in
      let at : 20 + words_before sc.env.structs (types_of sc.env.locals) x + 0 ≡ 20 + x = omega (arith, b) in
      let same : c.regs (20 + x) ≡ g.whole (20 + x) = ap c.regs (sym at) ∙ g.same x t h is_live 0 (omega (arith, one)) ∙ ap g.whole at in
      (r.value, r.is, r.fits, same ∙ ap g.whole (sym here) ∙ scalar_held sc p g.whole t r.value _ scalar r.held)
  in_register false e x t c h b scalar is_live g = absurd (cc)

  pub register_holds : sc.in_registers ≡ true → (x : ℕ) (t : Ty) (c : Contents) → Ready sc p live s c → slice_get (types_of sc.env.locals) x ≡ Some t → IsTrue (live x)
      → (v : Value) × (read s (record { region = locals; path = x ∷ [] }) ≡ Some v) × Fits sc.env.structs (layout sc p) t v × (reg c.regs (20 + x) ≡ word_of_scalar sc p v)
  register_holds form x t c ready h is_live =
      let b = before_scalars sc.env.structs (types_of sc.env.locals) x t (λ n u q. (area.scalars form n u q).0) h in
      let r = in_register sc.in_registers form x t c h b (area.scalars form x t h).0 is_live ready.local_values in
      (r.0, r.1, r.2, cond-false (nat_eq (20 + x) 0) 0 (c.regs (20 + x)) (ne_eqb (20 + x) 0 (λ e. absurd (omega (arith, e)))) ∙ r.3)

  pub register_operand : sc.in_registers ≡ true → (x r n : ℕ) (t : Ty) (c : Contents) (k : Behind) → Ready sc p live s c
      → slice_get (types_of sc.env.locals) x ≡ Some t → IsTrue (live x)
      → Evaluates w sc 0 n (n + 0) c k (HoldsValue sc p (20 + x) r r t c) (paying 1 (load_from s (at_no_cost (Ok (record { region = locals; path = x ∷ [] })))))
  register_operand form x r n t c k ready h is_live =
      let g = register_holds form x t c ready h is_live in
      node w sc 0 n (n + 0) c k (HoldsValue sc p (20 + x) r r t c) (load_from s (at_no_cost (Ok (record { region = locals; path = x ∷ [] })))) (omega arith)
      (subst (λ o. Evaluates w sc 0 n (n + 0) c k (HoldsValue sc p (20 + x) r r t c) (paying 0 (at_no_cost (ok_or o stuck)))) (sym g.1)
      (arrives w sc 0 n (n + 0) c c k (HoldsValue sc p (20 + x) r r t c) g.0 (record { is = g.3; fits = g.2; keeps = keeps_all r r c }) (stays w _ _ (ap (λ m. at_with m c k) (omega arith)))))

  -- the word of a scalar is a word
  flag_small : (b : Bool) → flag b < 2 ^ 32
  flag_small true = omega arith
  flag_small false = omega arith

  address_small : (g : Region) (path : List ℕ) (t : Ty) → PointsTo sc.env.structs (layout sc p) g path t
      → 4 * location_word sc p (record { region = g; path = path }) < 2 ^ 32
  address_small globals path t h = let r = room_from sc.env.structs area.opened (types_of sc.env.globals) path t h in let a = area.globals_room in let small = f.sound.small in omega (arith, r, a, small)
  address_small heap path t h = let r = room_from sc.env.structs area.opened p.objects path t h in let a = area.heap_room in let small = f.sound.small in omega (arith, r, a, small)
  address_small locals path t h = absurd h

  pub word_small : (v : Value) (t : Ty) → Fits sc.env.structs (layout sc p) t v → is_scalar t ≡ true → word_of_scalar sc p v < 2 ^ 32
  word_small (int z) ty.int h e = word_below z h
  word_small (bool b) ty.bool h e = flag_small b
  word_small null (ty.pointer t) h e = omega arith
  word_small (at l) (ty.pointer t) h e = address_small l.region l.path t h
  word_small v (ty.named x) h e = absurd (cc)
  word_small v (ty.array t n) h e = absurd (cc)
  word_small _ _ h e = absurd h

  pub register_value : sc.in_registers ≡ true → (x d r n : ℕ) (t : Ty) (c : Contents) (k : Behind) → k.pending ≡ Idle → d ≢ 0 → Ready sc p live s c
      → slice_get (types_of sc.env.locals) x ≡ Some t → IsTrue (live x) → CodeAt w n (Addu d (20 + x) 0 ∷ [])
      → Evaluates w sc 0 n (n + 1) c k (HoldsValue sc p d r d t c) (paying 1 (load_from s (at_no_cost (Ok (record { region = locals; path = x ∷ [] })))))
  register_value form x d r n t c k idle nz ready h is_live code =
      let g = register_holds form x t c ready h is_live in
      let small = word_small g.0 t g.2 (area.scalars form x t h).0 in
      let add : sum (reg c.regs (20 + x)) 0 ≡ word_of_scalar sc p g.0 = omega (arith, g.3, small) in
      let one = said_step w f (Addu d (20 + x) 0) (Becomes (word_of_scalar sc p g.0)) n c k code.0 refl idle add in
      node w sc 1 n (n + 1) c k (HoldsValue sc p d r d t c) (load_from s (at_no_cost (Ok (record { region = locals; path = x ∷ [] })))) (omega arith)
      (subst (λ o. Evaluates w sc 1 n (n + 1) c k (HoldsValue sc p d r d t c) (paying 0 (at_no_cost (ok_or o stuck)))) (sym g.1)
      (arrives w sc 1 n (n + 1) c (with_reg c d (word_of_scalar sc p g.0)) k (HoldsValue sc p d r d t c) g.0 (record { is = same_read c.regs d (word_of_scalar sc p g.0) nz; fits = g.2; keeps = keeps_put r d (word_of_scalar sc p g.0) c }) one))

  -- a register's word in a register, which may be the same
  pub record Brought (d q r v n : ℕ) (b : Contents) (k : Behind) : Type 0 where
    pub core : Contents
    pub is : reg core.regs d ≡ v
    pub keeps : KeepsRegisters r d b core
    pub run : Reaches w 1 (at_with n b k) (at_with (n + length (to_code d q)) core k)

  pub brings : (d q r v n : ℕ) (b : Contents) (k : Behind) → k.pending ≡ Idle → d ≢ 0 → reg b.regs q ≡ v → v < 2 ^ 32 → CodeAt w n (to_code d q)
      → Brought d q r v n b k
  brings d q r v n b k idle nz e small there = elim (cases_Bool (nat_eq d q)) [
    | inl h ↦
        let len : n ≡ n + length (to_code d q) = omega (arith, ap length (cond-true (nat_eq d q) [] (Addu d q 0 ∷ []) h)) in
        record { core = b; is = ap (reg b.regs) (eqb-true d q h) ∙ e; keeps = keeps_all r d b; run = later w 0 1 _ _ (omega arith) (stays w _ _ (ap (λ m. at_with m b k) len)) }
    | inr h ↦
        let same : to_code d q ≡ Addu d q 0 ∷ [] = cond-false (nat_eq d q) [] (Addu d q 0 ∷ []) h in
        let len : n + 1 ≡ n + length (to_code d q) = omega (arith, ap length same) in
        let code = subst (CodeAt w n) same there in
        let one = said_step w f (Addu d q 0) (Becomes v) n b k code.0 refl idle (let z : reg b.regs q + 0 ≡ v = omega (arith, e) in omega (arith, e, small)) in
        record { core = with_reg b d v; is = same_read b.regs d v nz; keeps = keeps_put r d v b; run = subst (λ m. Reaches w 1 (at_with n b k) (at_with m (with_reg b d v) k)) len one }
  ]

  -- a variable in the frame, whose word a register has too
  has_word : (fs : Facts) (x q : ℕ) (c : Contents) → register_holding fs x ≡ Some q → RegistersHold sc p fs c → HasWordOf sc p c q x × (1 ≤ q)
  has_word fs x q c e h = elim (held_in fs x q e) [
    | inl z ↦ (subst (λ y. HasWordOf sc p c y x) (sym z.1) (h.answer x z.0), let y = z.1 in omega (arith, y))
    | inr z ↦ (subst (λ y. HasWordOf sc p c y x) (sym z.1) (h.params x z.0), let y = z.1 in omega (arith, y))
  ]

  held_word : (fs : Facts) → sc.in_registers ≡ false → (x q : ℕ) (t : Ty) (c : Contents) → ReadyWith sc p live fs s c → register_holding fs x ≡ Some q
      → slice_get (types_of sc.env.locals) x ≡ Some t → is_scalar t ≡ true → IsTrue (live x)
      → (v : Value) × (read s (record { region = locals; path = x ∷ [] }) ≡ Some v) × Fits sc.env.structs (layout sc p) t v × (reg c.regs q ≡ word_of_scalar sc p v)
  held_word fs form x q t c ready e h scalar is_live =
      let l : Location = record { region = locals; path = x ∷ [] } in
      let g = found w sc p live s f area is_typed c (record { region = locals; path = x ∷ [] }) t ready.ready (t, h, refl) (λ z. form) in
      let place : locals_start sc p + words_before sc.env.structs (types_of sc.env.locals) x ≡ location_word sc p (record { region = locals; path = x ∷ [] }) = omega arith in
      let has = has_word fs x q c e (ready.facts.registers form) in
      let is : c.regs q ≡ word_of_scalar sc p g.seen.value = has.0 t h scalar ∙ ap c.memory place ∙ g.same scalar (λ z. is_live) ∙ scalar_held sc p g.whole t g.seen.value _ scalar g.seen.held in
      let some = has.1 in
      (g.seen.value, g.seen.is, g.seen.fits, cond-false (nat_eq q 0) 0 (c.regs q) (ne_eqb q 0 (λ z. absurd (omega (arith, z, some)))) ∙ is)

  pub held_operand : (fs : Facts) → sc.in_registers ≡ false → (x q r n : ℕ) (t : Ty) (c : Contents) (k : Behind) → ReadyWith sc p live fs s c
      → register_holding fs x ≡ Some q → slice_get (types_of sc.env.locals) x ≡ Some t → is_scalar t ≡ true → IsTrue (live x)
      → Evaluates w sc 0 n (n + 0) c k (HoldsValue sc p q r r t c) (paying 1 (load_from s (at_no_cost (Ok (record { region = locals; path = x ∷ [] })))))
  held_operand fs form x q r n t c k ready e h scalar is_live =
      let g = held_word fs form x q t c ready e h scalar is_live in
      node w sc 0 n (n + 0) c k (HoldsValue sc p q r r t c) (load_from s (at_no_cost (Ok (record { region = locals; path = x ∷ [] })))) (omega arith)
      (subst (λ o. Evaluates w sc 0 n (n + 0) c k (HoldsValue sc p q r r t c) (paying 0 (at_no_cost (ok_or o stuck)))) (sym g.1)
      (arrives w sc 0 n (n + 0) c c k (HoldsValue sc p q r r t c) g.0 (record { is = g.3; fits = g.2; keeps = keeps_all r r c }) (stays w _ _ (ap (λ m. at_with m c k) (omega arith)))))

  pub held_value : (fs : Facts) → sc.in_registers ≡ false → (x q d r n : ℕ) (t : Ty) (c : Contents) (k : Behind) → k.pending ≡ Idle → d ≢ 0 → ReadyWith sc p live fs s c
      → register_holding fs x ≡ Some q → slice_get (types_of sc.env.locals) x ≡ Some t → is_scalar t ≡ true → IsTrue (live x) → CodeAt w n (to_code d q)
      → Evaluates w sc 0 n (n + length (to_code d q)) c k (HoldsValue sc p d r d t c) (paying 1 (load_from s (at_no_cost (Ok (record { region = locals; path = x ∷ [] })))))
  held_value fs form x q d r n t c k idle nz ready e h scalar is_live code =
      let g = held_word fs form x q t c ready e h scalar is_live in
      let b = brings d q r (word_of_scalar sc p g.0) n c k idle nz g.3 (word_small g.0 t g.2 scalar) code in
      node w sc 1 n (n + length (to_code d q)) c k (HoldsValue sc p d r d t c) (load_from s (at_no_cost (Ok (record { region = locals; path = x ∷ [] })))) (omega arith)
      (subst (λ o. Evaluates w sc 1 n (n + length (to_code d q)) c k (HoldsValue sc p d r d t c) (paying 0 (at_no_cost (ok_or o stuck)))) (sym g.1)
      (arrives w sc 1 n (n + length (to_code d q)) c b.core k (HoldsValue sc p d r d t c) g.0 (record { is = b.is; fits = g.2; keeps = b.keeps }) b.run))

  -- a branch over one instruction
  pub skips : (n a b : ℕ) (c : Contents) (k : Behind) → k.pending ≡ Idle → w.code n ≡ Some (Bne a b 1) → reg c.regs a ≢ reg c.regs b
      → Reaches w 1 (at_with n c k) (at_with (n + 2) c k)
  skips n a b c k idle code ne =
      let lt = f.sound.inside n _ code in let small = f.sound.small in
      differ_goes w f n c k a b 1 (n + 2) idle code (ap (λ y. branch (4 * n) 1 (not y)) (ne_eqb _ _ ne) ∙ omega arith)

  pub falls : (n a b : ℕ) (c : Contents) (k : Behind) → k.pending ≡ Idle → w.code n ≡ Some (Bne a b 1) → reg c.regs a ≡ reg c.regs b
      → Reaches w 1 (at_with n c k) (at_with (n + 1) c k)
  falls n a b c k idle code e =
      let lt = f.sound.inside n _ code in let small = f.sound.small in
      differ_goes w f n c k a b 1 (n + 1) idle code (ap (λ y. branch (4 * n) 1 (not y)) (eq-eqb _ _ e) ∙ omega arith)

  -- what a pointer points to
  pub pointer_room : (g : Region) (path : List ℕ) (t : Ty) → PointsTo sc.env.structs (layout sc p) g path t
      → (0 < location_word sc p (record { region = g; path = path })) × (4 * location_word sc p (record { region = g; path = path }) < 2 ^ 32)
  pointer_room globals path t h = let r = room_from sc.env.structs area.opened (types_of sc.env.globals) path t h in let a = area.globals_room in let b = area.globals_from in let small = f.sound.small in (omega (arith, b), omega (arith, r, a, small))
  pointer_room heap path t h = let r = room_from sc.env.structs area.opened p.objects path t h in let a = area.heap_room in let b = area.heap_from in let small = f.sound.small in (omega (arith, b), omega (arith, r, a, small))
  pointer_room locals path t h = absurd h

  pointer_leads : (g : Region) (path : List ℕ) (t : Ty) → PointsTo sc.env.structs (layout sc p) g path t
      → LeadsFrom sc.env.structs (types_in sc p g) path t × (g ≡ locals → sc.in_registers ≡ false)
  pointer_leads globals path t h = (h, λ e. absurd (cc))
  pointer_leads heap path t h = (h, λ e. absurd (cc))
  pointer_leads locals path t h = absurd h

  pub targets : (t : Ty) (q r from n : ℕ) (c : Contents) (k : Behind) (e : Costed Value) → k.pending ≡ Idle → r < 20
      → CodeAt w n (Bne q 0 1 ∷ J (sc.exit NullUse) ∷ []) → Evaluates w sc 0 from n c k (HoldsValue sc p q r r (ty.pointer t) c) e
      → Evaluates w sc 2 from (n + 2) c k (HoldsAddress sc p q 0 r false t c) (pointed e)
  targets t q r from n c k e idle hi code h =
      binds w sc 0 2 from n (n + 2) c k (HoldsValue sc p q r r (ty.pointer t) c) (HoldsAddress sc p q 0 r false t c) e _ h (λ v b g. keeps_low r r c b hi g.keeps) by_value
    where
      by_value : (v : Value) (b : Contents) → HoldsValue sc p q r r (ty.pointer t) c v b
          → Evaluates w sc 2 n (n + 2) b k (HoldsAddress sc p q 0 r false t c) (at_no_cost (pointed_to v))
      by_value null b g =
          let go = falls n q 0 b k idle code.0 g.is in
          faults w sc 2 n (n + 2) b b k (HoldsAddress sc p q 0 r false t c) NullUse (keeps_all 0 0 b) (joined w 1 1 _ _ _ go (jumps w f (n + 1) (sc.exit NullUse) b k idle code.1.0))
      by_value (at l) b g =
          let room = pointer_room l.region l.path t g.fits in
          let leads = pointer_leads l.region l.path t g.fits in
          let is = g.is in
          let r0 = room.0 in
          let r1 = room.1 in
          let go = skips n q 0 b k idle code.0 (λ z. absurd (omega (arith, z, is, r0))) in
          arrives w sc 2 n (n + 2) b b k (HoldsAddress sc p q 0 r false t c) l (record { is = omega (arith, is, r1); leads = leads.0; away = λ z. g.fits; standing = leads.1; keeps = g.keeps }) (later w 1 2 _ _ (omega arith) go)
      by_value (int z) b g = absurd g.fits
      by_value (bool z) b g = absurd g.fits
      by_value (group vs) b g = absurd g.fits

  -- of a pointer that isn't null, with no test
  pub targets_surely : (t : Ty) (q r from n : ℕ) (c : Contents) (k : Behind) (e : Costed Value) → r < 20 → ((u : ℕ) → e ≢ costs u (Ok null))
      → Evaluates w sc 0 from n c k (HoldsValue sc p q r r (ty.pointer t) c) e
      → Evaluates w sc 2 from n c k (HoldsAddress sc p q 0 r false t c) (pointed e)
  targets_surely t q r from n c k e hi sure h =
      more w sc (0 + 0) 2 from n c k (HoldsAddress sc p q 0 r false t c) (pointed e) (omega arith)
      (binds w sc 0 0 from n n c k (Answered w sc (HoldsValue sc p q r r (ty.pointer t) c) e) (HoldsAddress sc p q 0 r false t c) e _
      (answered w sc 0 from n c k (HoldsValue sc p q r r (ty.pointer t) c) e h) (λ v b g. keeps_low r r c b hi g.holds.keeps) (λ v b g. by_value v b g.units g.is g.holds))
    where
      by_value : (v : Value) (b : Contents) (u : ℕ) → e ≡ costs u (Ok v) → HoldsValue sc p q r r (ty.pointer t) c v b
          → Evaluates w sc 0 n n b k (HoldsAddress sc p q 0 r false t c) (at_no_cost (pointed_to v))
      by_value null b u is g = absurd (sure u is)
      by_value (at l) b u is g =
          let room = pointer_room l.region l.path t g.fits in
          let leads = pointer_leads l.region l.path t g.fits in
          let word = g.is in
          let r1 = room.1 in
          arrives w sc 0 n n b b k (HoldsAddress sc p q 0 r false t c) l (record { is = omega (arith, word, r1); leads = leads.0; away = λ z. g.fits; standing = leads.1; keeps = g.keeps }) (stays w _ _ refl)
      by_value (int z) b u is g = absurd g.fits
      by_value (bool z) b u is g = absurd g.fits
      by_value (group vs) b u is g = absurd g.fits

  -- a part of a place
  pub part_leads : (b k j r i : ℕ) (local : Bool) (u t : Ty) (c a : Contents) (l : Location) → PathLeads sc.env.structs u (i ∷ []) t
      → words_to sc.env.structs u (i ∷ []) ≡ j → location_word sc p (below l i) + words sc.env.structs t ≤ w.words → HoldsAddress sc p b k r local u c l a
      → HoldsAddress sc p b ((k + 4 * j) % 2 ^ 32) r local t c (below l i) a
  part_leads b k j r i local u t c a l path e room h =
      let on = offset_from_on sc.env.structs (types_in sc p l.region) l.path u i h.leads in
      let is = h.is in
      let small = f.sound.small in
      record {
        is = omega (arith, on, is, e, room, small);
        leads = leads_from_on sc.env.structs (types_in sc p l.region) l.path u i t h.leads path;
        away = λ z. points_on sc.env.structs (layout sc p) l.region l.path u i t (h.away z) path;
        standing = h.standing;
        keeps = h.keeps;
      }

  pub fields : (x : List ℕ) (i : CName) (b m r from n : ℕ) (k : ℕ) (local : Bool) (t : Ty) (c : Contents) (d : Behind) (e : Costed Location) → r < 20
      → Ready sc p live s c → slice_get (types_of (shape_fields sc.env.structs x)) i.number ≡ Some t
      → Evaluates w sc m from n c d (HoldsAddress sc p b k r local (ty.named x) c) e →
      Evaluates w sc m from n c d (HoldsAddress sc p b ((k + 4 * words_before sc.env.structs (types_of (shape_fields sc.env.structs x)) i.number) % 2 ^ 32) r local t c) (field_of i e)
  fields x i b m r from n k local t c d e hi ready h g =
      more w sc (m + 0) m from n c d (HoldsAddress sc p b ((k + 4 * words_before sc.env.structs (types_of (shape_fields sc.env.structs x)) i.number) % 2 ^ 32) r local t c) (field_of i e) (omega arith)
      (binds w sc m 0 from n n c d (HoldsAddress sc p b k r local (ty.named x) c) (HoldsAddress sc p b ((k + 4 * words_before sc.env.structs (types_of (shape_fields sc.env.structs x)) i.number) % 2 ^ 32) r local t c) e _ g
      (λ l a q. keeps_low r r c a hi q.keeps)
      (λ l a q.
      let path : PathLeads sc.env.structs (ty.named x) (i.number ∷ []) t = (t, h, refl) in
      let leads = leads_from_on sc.env.structs (types_in sc p l.region) l.path (ty.named x) i.number t q.leads path in
      let there = found w sc p live s f area is_typed a (below l i.number) t (ready_on sc p live s c a (keeps_low r r c a hi q.keeps) ready) leads q.standing in
      arrives w sc 0 n n a a d (HoldsAddress sc p b ((k + 4 * words_before sc.env.structs (types_of (shape_fields sc.env.structs x)) i.number) % 2 ^ 32) r local t c) (below l i.number)
      (part_leads b k (words_before sc.env.structs (types_of (shape_fields sc.env.structs x)) i.number) r i.number local (ty.named x) t c a l path (field_offset sc.env.structs x i.number t h) there.inside q) (stays w _ _ refl)))
