-- The begin of a function that has a frame: the stack's test, and the frame's words, one store or turn after another.
use Rattle.std.specs.Prelude.{Some, None, nat_lt, IsTrue}
use Rattle.std.proofs.Common.{◌≡◌, ◌≢◌, inl, inr, ℕ, zero, suc, ◌+◌, ◌-◌, ◌*◌, ◌%◌, ◌^◌, ◌<◌, ◌≤◌, ◌⊎◌, Bool, true, false, not, nat_eq, [], ◌∷◌, ◌++◌, length, refl, sym, ap, ◌∙◌, subst, arith, eq-eqb, ne_eqb, lt-ltb, le-ltb, length-append}
use Rattle.std.proofs.lemmas.Bool.{cases_Bool, cond-true, cond-false, ltb-true, ltb-false}
use Rattle.mips_table.specs.declared.inst.Inst.TheVariants.{Addiu, Sltu, Beq, Bne, J, Sw}
use Rattle.mips_table.specs.Arith.{sum, flag}
use Rattle.mips_table.specs.Device.{Idle}
use Rattle.mips_table.specs.Code.{Contents, put, reg, with_reg, Behind, World, Sound, at_with, Reaches, RunLaws, CodeAt}
use Rattle.masm.specs.Says.{Gives, Writes}
use Rattle.masm.specs.Laws.{RunsCompose, StraightRuns, JumpsLead}
use Rattle.c0_meaning.specs.Operators.{StackOut}
use Rattle.c0_expr_code.specs.FrameSetting.{FrameSetting, frame_back}
use Rattle.c0_expr_code.specs.Code.{is_near, low, register_of_variable, access_code}
use Rattle.c0_stmt_code.specs.Code.{MAX_STACK, frame_slot, end_code, stack_test, params_code, zero_code, zeros_code}
use Rattle.c0_runs.proofs.RunStretches.{Stretch, on, of, away, within}
use Rattle.c0_runs.proofs.WorkAsCode.{front, back}
use Rattle.c0_runs.proofs.RegionsApart.{put_same, put_other}
use Rattle.c0_runs.proofs.MemoryAccess.{other_reg, same_read, read_is, place_steps, few_steps, back_is_near, on_place, Wrote, writes}

-- a word of the frame, by its address
pub frame_address : (st : FrameSetting) (e i : ℕ) → st.frame ≤ e → 4 * e < 2 ^ 32 → i ≤ st.frame → (4 * e + (frame_back st + 4 * i) % 2 ^ 32) % 2 ^ 32 ≡ 4 * ((e - st.frame) + i)
frame_address st e i inside small le = omega (arith, inside, small, le)

-- the words of a frame that isn't large are near its end
pub frame_is_near : (st : FrameSetting) (i : ℕ) → i < st.frame → st.frame ≤ 8192 → is_near ((frame_back st + 4 * i) % 2 ^ 32) ≡ true
frame_is_near st i lt few = back_is_near ((frame_back st + 4 * i) % 2 ^ 32) (omega (arith, lt, few)) (omega arith)

module _ (compose : RunsCompose) (w : World) (sound : Sound w) (straight : StraightRuns w) (jumps : JumpsLead w) where
  -- a jump
  pub jumped : (k to : ℕ) (c : Contents) (d : Behind) → d.pending ≡ Idle → w.code k ≡ Some (J to) → Reaches w 1 (at_with k c d) (at_with to c d)
  jumped k to c d idle code =
      let lt = sound.inside k (J to) code in
      let small = sound.small in
      compose.settled w 1 to (at_with k c d) c d idle (jumps.jumped (J to) k to 0 0 c d code refl)

  -- a register becomes register 29 and so many bytes
  pub record Moved (e bytes q : ℕ) (b c : Contents) : Type 0 where
    pub is : reg c.regs q ≡ (4 * e + bytes % 2 ^ 32) % 2 ^ 32
    pub memory : c.memory ≡ b.memory
    pub special : c.special ≡ b.special
    pub others : (x : ℕ) → x ≢ 1 → x ≢ q → c.regs x ≡ b.regs x

  pub ends : (q bytes e k : ℕ) (c : Contents) (d : Behind) → d.pending ≡ Idle → q ≢ 0 → c.regs 29 ≡ 4 * e → CodeAt w k (end_code q bytes) → (c' : Contents) × Moved e bytes q c c' × Reaches w 3 (at_with k c d) (at_with (k + length (end_code q bytes)) c' d)
  ends q bytes e k c d idle qz at code =
      let r = on_place compose w straight (Moved e bytes q c) (λ y x. Addiu q y x) (record { code = []; base = 29; displacement = bytes % 2 ^ 32 }) q k c d idle qz (λ z. absurd (omega (arith, z))) code
      (λ y m a there near address. (
        with_reg a q ((4 * e + bytes % 2 ^ 32) % 2 ^ 32),
        record {
          is = same_read a.regs q ((4 * e + bytes % 2 ^ 32) % 2 ^ 32) qz;
          memory = near.memory;
          special = near.special;
          others = λ x ne me. other_reg a.regs q ((4 * e + bytes % 2 ^ 32) % 2 ^ 32) x me ∙ near.others x ne me;
        },
        straight.next (Addiu q y (low (bytes % 2 ^ 32))) (Gives ((4 * e + bytes % 2 ^ 32) % 2 ^ 32)) m a d there refl idle (address ∙ ap (λ v. (v + bytes % 2 ^ 32) % 2 ^ 32) at),
      )) in
      (r.0, r.1, subst (λ m. Reaches w 3 (at_with m c d) (at_with (k + length (end_code q bytes)) r.0 d)) (omega arith) (compose.later w (place_steps (record { code = []; base = 29; displacement = bytes % 2 ^ 32 })) 3 _ _ (few_steps (record { code = []; base = 29; displacement = bytes % 2 ^ 32 })) r.2))

  -- the stack's test: it leaves by the exit, or goes on with register q as the new frame's end
  pub record Entered (st : FrameSetting) (e q : ℕ) (b c : Contents) : Type 0 where
    pub is : q ≢ 1 → c.regs q ≡ 4 * (e + st.frame)
    pub memory : c.memory ≡ b.memory
    pub special : c.special ≡ b.special
    pub others : (x : ℕ) → x ≢ 1 → x ≢ q → c.regs x ≡ b.regs x

  -- the comparison, in register 1 of which the frame's end may have been
  compared : (st : FrameSetting) (e s q k : ℕ) (c c1 : Contents) (d : Behind) → d.pending ≡ Idle → q ≢ 0 → q ≢ 30 → c1.regs 30 ≡ 4 * s → e ≤ s → s < 2 ^ 27 → st.frame ≤ MAX_STACK → Moved e (4 * st.frame) q c c1 → CodeAt w k (Sltu 1 30 q ∷ Beq 1 0 1 ∷ J (st.exit StackOut) ∷ [])
      → ((s < e + st.frame) → Reaches w 3 (at_with k c1 d) (at_with (st.exit StackOut) (with_reg c1 1 1) d)) × ((e + st.frame ≤ s) → Reaches w 2 (at_with k c1 d) (at_with (k + 3) (with_reg c1 1 0) d))
  compared st e s q k c c1 d idle qz qs stack_end room small fits moved code =
      let value : reg c1.regs q ≡ 4 * (e + st.frame) = let i = moved.is in omega (arith, i, room, small, fits) in (
        λ over.
            let b : Contents = with_reg c1 1 1 in
            let test : flag (nat_lt (reg c1.regs 30) (reg c1.regs q)) ≡ 1 = ap (λ v. flag v) (lt-ltb (reg c1.regs 30) (reg c1.regs q) (omega (arith, value, over, stack_end))) in
            let one = straight.next (Sltu 1 30 q) (Gives 1) k c1 d code.0 refl idle test in
            let two = compose.settled w 1 (k + 1 + 1) (at_with (k + 1) b d) b d idle (jumps.passed (Beq 1 0 1) (k + 1) 1 false b d code.1.0 refl refl) in
            compose.joined w 1 2 _ _ _ one (compose.joined w 1 1 _ _ _ two (jumped (k + 1 + 1) (st.exit StackOut) b d idle code.1.1.0)),
        λ fine.
            let b : Contents = with_reg c1 1 0 in
            let test : flag (nat_lt (reg c1.regs 30) (reg c1.regs q)) ≡ 0 = ap (λ v. flag v) (le-ltb (reg c1.regs 30) (reg c1.regs q) (omega (arith, value, fine, stack_end))) in
            let one = straight.next (Sltu 1 30 q) (Gives 0) k c1 d code.0 refl idle test in
            let two = compose.settled w 1 (k + 1 + 1 + 1) (at_with (k + 1) b d) b d idle (jumps.taken (Beq 1 0 1) (k + 1) 1 true b d code.1.0 refl refl (omega arith)) in
            compose.joined w 1 1 _ _ _ one (subst (λ m. Reaches w 1 (at_with (k + 1) b d) (at_with m b d)) (omega arith) two),
      )

  -- what a fault leaves
  pub record Left (q : ℕ) (b c : Contents) : Type 0 where
    pub memory : c.memory ≡ b.memory
    pub special : c.special ≡ b.special
    pub others : (x : ℕ) → x ≢ 1 → x ≢ q → c.regs x ≡ b.regs x

  pub tested : (st : FrameSetting) (e s q k : ℕ) (c : Contents) (d : Behind) → d.pending ≡ Idle → q ≢ 0 → q ≢ 30 → c.regs 29 ≡ 4 * e → c.regs 30 ≡ 4 * s → e ≤ s → s < 2 ^ 27 → s ≤ e + MAX_STACK → CodeAt w k (stack_test st q)
      → ((s < e + st.frame) → (c' : Contents) × Left q c c' × Reaches w 7 (at_with k c d) (at_with (st.exit StackOut) c' d)) × ((e + st.frame ≤ s) → (c' : Contents) × Entered st e q c c' × Reaches w 5 (at_with k c d) (at_with (k + length (stack_test st q)) c' d))
  tested st e s q k c d idle qz qs at stack_end room small most code = elim (cases_Bool (nat_lt MAX_STACK st.frame)) [
    | inl large ↦
        let lt = ltb-true MAX_STACK st.frame large in
        let same : stack_test st q ≡ (J (st.exit StackOut) ∷ []) ++ (end_code q (4 * st.frame) ++ (Sltu 1 30 q ∷ Beq 1 0 1 ∷ J (st.exit StackOut) ∷ [])) = ap (λ is. is ++ (end_code q (4 * st.frame) ++ (Sltu 1 30 q ∷ Beq 1 0 1 ∷ J (st.exit StackOut) ∷ []))) (cond-true (nat_lt MAX_STACK st.frame) (J (st.exit StackOut) ∷ []) [] large) in
        let there = subst (CodeAt w k) same code in (
          λ over. (c, record { memory = refl; special = refl; others = λ x ne me. refl }, compose.later w 1 7 _ _ (omega arith) (jumped k (st.exit StackOut) c d idle there.0)),
          λ fine. absurd (omega (arith, fine, most, lt)),
        )
    | inr e2 ↦
        let fits = ltb-false MAX_STACK st.frame e2 in
        let same : stack_test st q ≡ end_code q (4 * st.frame) ++ (Sltu 1 30 q ∷ Beq 1 0 1 ∷ J (st.exit StackOut) ∷ []) = ap (λ is. is ++ (end_code q (4 * st.frame) ++ (Sltu 1 30 q ∷ Beq 1 0 1 ∷ J (st.exit StackOut) ∷ []))) (cond-false (nat_lt MAX_STACK st.frame) (J (st.exit StackOut) ∷ []) [] e2) in
        let there = subst (CodeAt w k) same code in
        let m = ends q (4 * st.frame) e k c d idle qz at (front w k (end_code q (4 * st.frame)) (Sltu 1 30 q ∷ Beq 1 0 1 ∷ J (st.exit StackOut) ∷ []) there) in
        let keep : m.0.regs 30 ≡ 4 * s = m.1.others 30 (λ z. absurd (omega (arith, z))) (λ z. qs (sym z)) ∙ stack_end in
        let go = compared st e s q (k + length (end_code q (4 * st.frame))) c m.0 d idle qz qs keep room small (omega (arith, fits)) m.1 (back w k (end_code q (4 * st.frame)) (Sltu 1 30 q ∷ Beq 1 0 1 ∷ J (st.exit StackOut) ∷ []) there) in
        let len : k + length (end_code q (4 * st.frame)) + 3 ≡ k + length (stack_test st q) = omega (arith, ap length same, length-append (end_code q (4 * st.frame)) (Sltu 1 30 q ∷ Beq 1 0 1 ∷ J (st.exit StackOut) ∷ [])) in (
          λ over. (with_reg m.0 1 1, record { memory = m.1.memory; special = m.1.special; others = λ x ne me. other_reg m.0.regs 1 1 x ne ∙ m.1.others x ne me }, compose.later w 6 7 _ _ (omega arith) (compose.joined w 3 3 _ _ _ m.2 (go.0 over))),
          λ fine. (
            with_reg m.0 1 0,
            record {
              is = entered_is fine fits m.0 m.1;
              memory = m.1.memory;
              special = m.1.special;
              others = λ x ne me. other_reg m.0.regs 1 0 x ne ∙ m.1.others x ne me;
            },
            compose.joined w 3 2 _ _ _ m.2 (subst (λ n. Reaches w 2 (at_with (k + length (end_code q (4 * st.frame))) m.0 d) (at_with n (with_reg m.0 1 0) d)) len (go.1 fine)),
          ),
        )
  ]
    where
      entered_is : e + st.frame ≤ s → st.frame ≤ MAX_STACK → (b : Contents) → Moved e (4 * st.frame) q c b → q ≢ 1 → (with_reg b 1 0).regs q ≡ 4 * (e + st.frame)
      entered_is fine fits b m ne = let i = m.is in other_reg b.regs 1 0 q ne ∙ sym (read_is b.regs q qz) ∙ omega (arith, i, fine, fits, small)

  -- words of memory have these values, and the others are as they were
  pub record Filled (at count : ℕ) (value : ℕ → ℕ) (b c : Contents) : Type 0 where
    pub words : (j : ℕ) → j < count → c.memory (at + j) ≡ value j
    pub others : (x : ℕ) → (x < at) ⊎ (at + count ≤ x) → c.memory x ≡ b.memory x
    pub special : c.special ≡ b.special
    pub regs : (x : ℕ) → x ≢ 1 → x ≢ 2 → c.regs x ≡ b.regs x

  -- one word, and then others behind it
  pub filled_on : (at count v : ℕ) (value : ℕ → ℕ) (a b c : Contents) → Wrote compose w straight 1 at v a b → Filled (at + 1) count (λ j. value (suc j)) b c → value 0 ≡ v → Filled at (suc count) value a c
  filled_on at count v value a b c wrote h e = record {
    words = by_number;
    others = λ x side. elim side [
      | inl lt ↦ h.others x (inl (omega (arith, lt))) ∙ ap (λ m. m x) wrote.memory ∙ put_other a.memory at v x (λ q. absurd (omega (arith, q, lt)))
      | inr le ↦ h.others x (inr (omega (arith, le))) ∙ ap (λ m. m x) wrote.memory ∙ put_other a.memory at v x (λ q. absurd (omega (arith, q, le)))
    ];
    special = h.special ∙ wrote.special;
    regs = λ x ne me. h.regs x ne me ∙ wrote.others x ne ne;
  }
    where
      by_number : (j : ℕ) → j < suc count → c.memory (at + j) ≡ value j
      by_number zero lt =
          let here : at + 0 ≡ at = omega arith in
          ap c.memory here ∙ h.others at (inl (omega arith)) ∙ ap (λ m. m at) wrote.memory ∙ put_same a.memory at v ∙ sym e
      by_number (suc j) lt = let here : at + suc j ≡ at + 1 + j = omega arith in ap c.memory here ∙ h.words j (omega (arith, lt))

  -- of so many words of memory those are 0 that are to be cleared, from number i on, and the others outside are as they were
  pub record Zeroed (at count : ℕ) (cleared : ℕ → Bool) (i : ℕ) (b c : Contents) : Type 0 where
    pub words : (j : ℕ) → j < count → IsTrue (cleared (i + j)) → c.memory (at + j) ≡ 0
    pub others : (x : ℕ) → (x < at) ⊎ (at + count ≤ x) → c.memory x ≡ b.memory x
    pub special : c.special ≡ b.special
    pub regs : (x : ℕ) → x ≢ 1 → x ≢ 2 → c.regs x ≡ b.regs x

  -- where all of them are
  pub zeroed_all : (at count : ℕ) (cleared : ℕ → Bool) (i : ℕ) (b c : Contents) → Filled at count (λ j. 0) b c → Zeroed at count cleared i b c
  zeroed_all at count cleared i b c h = record { words = λ j lt wanted. h.words j lt; others = h.others; special = h.special; regs = h.regs }

  -- one word, and then others behind it
  zeroed_on : (at count : ℕ) (cleared : ℕ → Bool) (i : ℕ) (a b c : Contents) → (IsTrue (cleared i) → b.memory at ≡ 0) → ((x : ℕ) → x ≢ at → b.memory x ≡ a.memory x) → b.special ≡ a.special
      → ((x : ℕ) → x ≢ 1 → b.regs x ≡ a.regs x) → Zeroed (at + 1) count cleared (suc i) b c → Zeroed at (suc count) cleared i a c
  zeroed_on at count cleared i a b c here same special regs h = record {
    words = by_number;
    others = λ x side. elim side [
      | inl lt ↦ h.others x (inl (omega (arith, lt))) ∙ same x (λ q. absurd (omega (arith, q, lt)))
      | inr le ↦ h.others x (inr (omega (arith, le))) ∙ same x (λ q. absurd (omega (arith, q, le)))
    ];
    special = h.special ∙ special;
    regs = λ x ne me. h.regs x ne me ∙ regs x ne;
  }
    where
      by_number : (j : ℕ) → j < suc count → IsTrue (cleared (i + j)) → c.memory (at + j) ≡ 0
      by_number zero lt wanted =
          let at_is : at + 0 ≡ at = omega arith in
          let number : i + 0 ≡ i = omega arith in
          ap c.memory at_is ∙ h.others at (inl (omega arith)) ∙ here (subst (λ m. IsTrue (cleared m)) number wanted)
      by_number (suc j) lt wanted =
          let at_is : at + suc j ≡ at + 1 + j = omega arith in
          let number : i + suc j ≡ suc i + j = omega arith in
          ap c.memory at_is ∙ h.words j (omega (arith, lt)) (subst (λ m. IsTrue (cleared m)) number wanted)

  pub filled_none : (at : ℕ) (value : ℕ → ℕ) (c : Contents) → Filled at 0 value c c
  filled_none at value c = record { words = λ j lt. absurd (omega (arith, lt)); others = λ x side. refl; special = refl; regs = λ x ne me. refl }

  module _ (st : FrameSetting) (e : ℕ) (inside : st.frame ≤ e) (small : 4 * e < 2 ^ 32) (fits : e ≤ w.words) (free : (x : ℕ) → e - st.frame ≤ x → x < e → w.kept x ≡ None) where
    -- a register goes to a word of the frame
    pub to_frame : (q i k : ℕ) (c : Contents) (d : Behind) → d.pending ≡ Idle → q ≢ 1 → i < st.frame → c.regs 29 ≡ 4 * e → CodeAt w k (access_code (λ y x. Sw q y x) 1 (frame_slot st i))
        → (c' : Contents) × Wrote compose w straight 1 ((e - st.frame) + i) (reg c.regs q) c c' × Reaches w (place_steps (frame_slot st i)) (at_with k c d) (at_with (k + length (access_code (λ y x. Sw q y x) 1 (frame_slot st i))) c' d)
    to_frame q i k c d idle qz lt at code =
        let r = writes compose w straight q (frame_slot st i) 1 k ((e - st.frame) + i) (reg c.regs q) c d idle (λ z. absurd (omega (arith, z))) (λ z. absurd (omega (arith, z))) qz qz code
        (ap (λ v. (v + (frame_back st + 4 * i) % 2 ^ 32) % 2 ^ 32) at ∙ frame_address st e i inside small (omega (arith, lt))) (omega (arith, lt, inside, fits)) (free ((e - st.frame) + i) (omega arith) (omega (arith, lt, inside))) refl in
        (r.0, r.1, subst (λ m. Reaches w (place_steps (frame_slot st i)) (at_with m c d) (at_with (k + length (access_code (λ y x. Sw q y x) 1 (frame_slot st i))) r.0 d)) (omega arith) r.2)

    -- the parameters go to the frame
    pub params_run : (n i k : ℕ) (c : Contents) (d : Behind) → d.pending ≡ Idle → 3 + i + n ≤ st.frame → i + n ≤ 8 → c.regs 29 ≡ 4 * e → CodeAt w k (params_code st n i)
        → (c' : Contents) × Filled ((e - st.frame) + 3 + i) n (λ j. c.regs (20 + i + j)) c c' × Reaches w (3 * n) (at_with k c d) (at_with (k + length (params_code st n i)) c' d)
    params_run zero i k c d idle room few at code = (c, filled_none ((e - st.frame) + 3 + i) (λ j. c.regs (20 + i + j)) c, subst (λ m. Reaches w 0 (at_with k c d) (at_with m c d)) (omega arith) (compose.none w (at_with k c d)))
    params_run (suc n) i k c d idle room few at code =
        let access = access_code (λ y x. Sw (register_of_variable i) y x) 1 (frame_slot st (3 + i)) in
        let q : register_of_variable i ≡ 20 + i = omega (arith, few) in
        let first = to_frame (register_of_variable i) (3 + i) k c d idle (λ z. absurd (omega (arith, z, q))) (omega (arith, room)) at (front w k (access_code (λ y x. Sw (register_of_variable i) y x) 1 (frame_slot st (3 + i))) (params_code st n (suc i)) code) in
        let kept : first.0.regs 29 ≡ 4 * e = first.1.others 29 (λ z. absurd (omega (arith, z))) (λ z. absurd (omega (arith, z))) ∙ at in
        let rest = params_run n (suc i) (k + length (access_code (λ y x. Sw (register_of_variable i) y x) 1 (frame_slot st (3 + i)))) first.0 d idle (omega (arith, room)) (omega (arith, few)) kept (back w k (access_code (λ y x. Sw (register_of_variable i) y x) 1 (frame_slot st (3 + i))) (params_code st n (suc i)) code) in
        let len : k + length (access_code (λ y x. Sw (register_of_variable i) y x) 1 (frame_slot st (3 + i))) + length (params_code st n (suc i)) ≡ k + length (params_code st (suc n) i) = omega (arith, length-append (access_code (λ y x. Sw (register_of_variable i) y x) 1 (frame_slot st (3 + i))) (params_code st n (suc i))) in
        let value : reg c.regs (register_of_variable i) ≡ c.regs (20 + i + 0) = read_is c.regs (register_of_variable i) (λ z. absurd (omega (arith, z, q))) ∙ ap c.regs (omega (arith, q)) in
        let place : (e - st.frame) + 3 + suc i ≡ (e - st.frame) + (3 + i) + 1 = omega arith in
        let place0 : (e - st.frame) + (3 + i) ≡ (e - st.frame) + 3 + i = omega arith in (
          rest.0,
          subst (λ m. Filled m (suc n) (λ j. c.regs (20 + i + j)) c rest.0) place0 (filled_on ((e - st.frame) + (3 + i)) n (reg c.regs (register_of_variable i)) (λ j. c.regs (20 + i + j)) c first.0 rest.0 first.1
              (params_moved n i c first.0 rest.0 first.1 few (subst (λ m. Filled m n (λ j. first.0.regs (20 + suc i + j)) first.0 rest.0) place rest.1)) (sym value)),
          compose.later w (3 + 3 * n) (3 * suc n) _ _ (omega arith) (compose.joined w 3 (3 * n) _ _ _ (compose.later w (place_steps (frame_slot st (3 + i))) 3 _ _ (few_steps (frame_slot st (3 + i))) first.2) (subst (λ m. Reaches w (3 * n) (at_with (k + length (access_code (λ y x. Sw (register_of_variable i) y x) 1 (frame_slot st (3 + i)))) first.0 d) (at_with m rest.0 d)) len rest.2)),
        )
      where
        params_moved : (n i : ℕ) (c b r : Contents) → Wrote compose w straight 1 ((e - st.frame) + (3 + i)) (reg c.regs (register_of_variable i)) c b → i + suc n ≤ 8 → Filled ((e - st.frame) + (3 + i) + 1) n (λ j. b.regs (20 + suc i + j)) b r → Filled ((e - st.frame) + (3 + i) + 1) n (λ j. c.regs (20 + i + suc j)) b r
        params_moved n i c b r wrote few h = record {
          words = λ j lt. h.words j lt ∙ wrote.others (20 + suc i + j) (λ z. absurd (omega (arith, z))) (λ z. absurd (omega (arith, z))) ∙ ap c.regs (omega arith);
          others = h.others;
          special = h.special;
          regs = h.regs;
        }

    -- of the locals' words those become 0 that are to be cleared, a store each
    zero_run : (cleared : ℕ → Bool) (i k : ℕ) (c : Contents) (d : Behind) → d.pending ≡ Idle → 3 + i < st.frame → c.regs 29 ≡ 4 * e → CodeAt w k (zero_code st (cleared i) i)
        → (c' : Contents) × ((IsTrue (cleared i) → c'.memory ((e - st.frame) + (3 + i)) ≡ 0) × ((x : ℕ) → x ≢ (e - st.frame) + (3 + i) → c'.memory x ≡ c.memory x) × (c'.special ≡ c.special) × ((x : ℕ) → x ≢ 1 → c'.regs x ≡ c.regs x))
        × Reaches w 3 (at_with k c d) (at_with (k + length (zero_code st (cleared i) i)) c' d)
    zero_run cleared i k c d idle room at code = by_test (cleared i) refl code
      where
        by_test : (b : Bool) → cleared i ≡ b → CodeAt w k (zero_code st b i)
            → (c' : Contents) × ((IsTrue (cleared i) → c'.memory ((e - st.frame) + (3 + i)) ≡ 0) × ((x : ℕ) → x ≢ (e - st.frame) + (3 + i) → c'.memory x ≡ c.memory x) × (c'.special ≡ c.special) × ((x : ℕ) → x ≢ 1 → c'.regs x ≡ c.regs x))
            × Reaches w 3 (at_with k c d) (at_with (k + length (zero_code st b i)) c' d)
        by_test true q there =
            let r = to_frame 0 (3 + i) k c d idle (λ z. absurd (omega (arith, z))) room at there in (
              r.0,
              ((λ wanted. ap (λ m. m ((e - st.frame) + (3 + i))) r.1.memory ∙ put_same c.memory ((e - st.frame) + (3 + i)) 0), (λ x ne. ap (λ m. m x) r.1.memory ∙ put_other c.memory ((e - st.frame) + (3 + i)) 0 x ne), r.1.special, (λ x ne. r.1.others x ne ne)),
              compose.later w (place_steps (frame_slot st (3 + i))) 3 _ _ (few_steps (frame_slot st (3 + i))) r.2,
            )
        by_test false q there = (
          c,
          ((λ wanted. absurd (let z : false ≡ true = sym q ∙ wanted in cc)), (λ x ne. refl), refl, (λ x ne. refl)),
          subst (λ m. Reaches w 3 (at_with k c d) (at_with m c d)) (omega arith) (compose.later w 0 3 _ _ (omega arith) (compose.none w (at_with k c d))),
        )

    pub zeros_run : (cleared : ℕ → Bool) (n i k : ℕ) (c : Contents) (d : Behind) → d.pending ≡ Idle → 3 + i + n ≤ st.frame → c.regs 29 ≡ 4 * e → CodeAt w k (zeros_code st cleared n i)
        → (c' : Contents) × Zeroed ((e - st.frame) + (3 + i)) n cleared i c c' × Reaches w (3 * n) (at_with k c d) (at_with (k + length (zeros_code st cleared n i)) c' d)
    zeros_run cleared zero i k c d idle room at code = (c, zeroed_all ((e - st.frame) + (3 + i)) 0 cleared i c c (filled_none ((e - st.frame) + (3 + i)) (λ j. 0) c), subst (λ m. Reaches w 0 (at_with k c d) (at_with m c d)) (omega arith) (compose.none w (at_with k c d)))
    zeros_run cleared (suc n) i k c d idle room at code =
        let first = zero_run cleared i k c d idle (omega (arith, room)) at (front w k (zero_code st (cleared i) i) (zeros_code st cleared n (suc i)) code) in
        let kept : first.0.regs 29 ≡ 4 * e = first.1.3 29 (λ z. absurd (omega (arith, z))) ∙ at in
        let k1 : ℕ = k + length (zero_code st (cleared i) i) in
        let rest = zeros_run cleared n (suc i) (k + length (zero_code st (cleared i) i)) first.0 d idle (omega (arith, room)) kept (back w k (zero_code st (cleared i) i) (zeros_code st cleared n (suc i)) code) in
        let len : k + length (zero_code st (cleared i) i) + length (zeros_code st cleared n (suc i)) ≡ k + length (zeros_code st cleared (suc n) i) = omega (arith, length-append (zero_code st (cleared i) i) (zeros_code st cleared n (suc i))) in
        let place : (e - st.frame) + (3 + suc i) ≡ (e - st.frame) + (3 + i) + 1 = omega arith in (
          rest.0,
          zeroed_on ((e - st.frame) + (3 + i)) n cleared i c first.0 rest.0 first.1.0 first.1.1 first.1.2 first.1.3 (subst (λ m. Zeroed m n cleared (suc i) first.0 rest.0) place rest.1),
          compose.later w (3 + 3 * n) (3 * suc n) _ _ (omega arith) (compose.joined w 3 (3 * n) _ _ _ first.2 (subst (λ m. Reaches w (3 * n) (at_with (k + length (zero_code st (cleared i) i)) first.0 d) (at_with m rest.0 d)) len rest.2)),
        )

    -- the locals' words become 0, in a loop: a turn for each
    module _ (runs : RunLaws) where
      -- a turn's first two steps
      cleared : (b k : ℕ) (c : Contents) (d : Behind) → d.pending ≡ Idle → e - st.frame ≤ b → b < e → c.regs 2 ≡ 4 * b → CodeAt w k (Sw 0 2 0 ∷ Addiu 2 2 4 ∷ Bne 2 29 65533 ∷ [])
          → Stretch runs w 1 2 (at_with k c d) (at_with (k + 2) (with_reg (record c { memory = put c.memory b 0 }) 2 (4 * (b + 1))) d)
      cleared b k c d idle from to at code =
          let c1 : Contents = record c { memory = put c.memory b 0 } in
          let one = straight.next (Sw 0 2 0) (Writes b 0) k c d code.0 refl idle (omega (arith, at, to, small), omega (arith, to, fits), free b from to, refl) in
          let two = straight.next (Addiu 2 2 4) (Gives (4 * (b + 1))) (k + 1) c1 d code.1.0 refl idle (omega (arith, at, to, small)) in
          let way = on runs w 1 1 0 1 (at_with k c d) (at_with (k + 1) c1 d) (at_with (k + 1 + 1) (with_reg c1 2 (4 * (b + 1))) d) (away runs w 1 (at_with k c d) (at_with (k + 1) c1 d) (λ q. absurd (omega (arith, q))) one) (of runs w 1 (at_with (k + 1) c1 d) (at_with (k + 1 + 1) (with_reg c1 2 (4 * (b + 1))) d) two) in
          subst (λ m. Stretch runs w 1 2 (at_with k c d) (at_with m (with_reg c1 2 (4 * (b + 1))) d)) (omega arith) way

      pub loop_run : (n b k : ℕ) (c : Contents) (d : Behind) → d.pending ≡ Idle → e - st.frame ≤ b → b + suc n ≡ e → c.regs 2 ≡ 4 * b → c.regs 29 ≡ 4 * e → CodeAt w k (Sw 0 2 0 ∷ Addiu 2 2 4 ∷ Bne 2 29 65533 ∷ [])
          → (c' : Contents) × Filled b (suc n) (λ j. 0) c c' × Stretch runs w (suc n) (3 * suc n) (at_with k c d) (at_with (k + 3) c' d)
      loop_run zero b k c d idle from sum at end code =
          let c2 : Contents = with_reg (record c { memory = put c.memory b 0 }) 2 (4 * (b + 1)) in
          let first = cleared b k c d idle from (omega (arith, sum)) at code in
          let equal : 4 * (b + 1) ≡ c.regs 29 = omega (arith, sum, end) in
          let test : not (nat_eq (4 * (b + 1)) (c.regs 29)) ≡ false = ap not (eq-eqb (4 * (b + 1)) (c.regs 29) equal) in
          let last = compose.settled w 1 (k + 2 + 1) (at_with (k + 2) c2 d) c2 d idle (jumps.passed (Bne 2 29 65533) (k + 2) 65533 (not (nat_eq (4 * (b + 1)) (c.regs 29))) c2 d (subst (λ m. w.code m ≡ Some (Bne 2 29 65533)) (omega arith) code.1.1.0) refl test) in
          let way = on runs w 1 2 0 1 (at_with k c d) (at_with (k + 2) c2 d) (at_with (k + 2 + 1) c2 d) first (of runs w 1 (at_with (k + 2) c2 d) (at_with (k + 2 + 1) c2 d) last) in
          (c2, word_zero b c, subst (λ m. Stretch runs w 1 3 (at_with k c d) (at_with m c2 d)) (omega arith) way)
        where
          word_zero : (b : ℕ) (c : Contents) → Filled b 1 (λ j. 0) c (with_reg (record c { memory = put c.memory b 0 }) 2 (4 * (b + 1)))
          word_zero b c = record {
            words = λ j lt. let here : b + j ≡ b = omega (arith, lt) in ap (put c.memory b 0) here ∙ put_same c.memory b 0;
            others = λ x side. put_other c.memory b 0 x (λ q. elim side [ inl lt ↦ absurd (omega (arith, lt, q)) | inr le ↦ absurd (omega (arith, le, q)) ]);
            special = refl;
            regs = λ x ne me. other_reg c.regs 2 (4 * (b + 1)) x me;
          }
      loop_run (suc n) b k c d idle from sum at end code =
          let c2 : Contents = with_reg (record c { memory = put c.memory b 0 }) 2 (4 * (b + 1)) in
          let first = cleared b k c d idle from (omega (arith, sum)) at code in
          let differ : 4 * (b + 1) ≢ c.regs 29 = λ q. absurd (omega (arith, sum, end, q)) in
          let test : not (nat_eq (4 * (b + 1)) (c.regs 29)) ≡ true = ap not (ne_eqb (4 * (b + 1)) (c.regs 29) differ) in
          let back_there = compose.settled w 1 k (at_with (k + 2) c2 d) c2 d idle (jumps.taken_back (Bne 2 29 65533) (k + 2) k 3 (not (nat_eq (4 * (b + 1)) (c.regs 29))) c2 d (subst (λ m. w.code m ≡ Some (Bne 2 29 65533)) (omega arith) code.1.1.0) refl test (omega arith) (omega arith) (omega arith)) in
          let way = on runs w 1 2 0 1 (at_with k c d) (at_with (k + 2) c2 d) (at_with k c2 d) first (of runs w 1 (at_with (k + 2) c2 d) (at_with k c2 d) back_there) in
          let rest = loop_run n (b + 1) k c2 d idle (omega (arith, from)) (omega (arith, sum)) refl end code in (
            rest.0,
            words_on n b c rest.0 rest.1,
            within runs w (1 + 0 + suc n) (2 + 1 + 3 * suc n) (suc (suc n)) (3 * suc (suc n)) (at_with k c d) (at_with (k + 3) rest.0 d) (omega arith) (omega arith)
                (on runs w (1 + 0) (2 + 1) (suc n) (3 * suc n) (at_with k c d) (at_with k c2 d) (at_with (k + 3) rest.0 d) way rest.2),
          )
        where
          words_on : (n b : ℕ) (c r : Contents) → Filled (b + 1) (suc n) (λ j. 0) (with_reg (record c { memory = put c.memory b 0 }) 2 (4 * (b + 1))) r → Filled b (suc (suc n)) (λ j. 0) c r
          words_on n b c r h = record {
            words = by_number;
            others = λ x side. elim side [
              | inl lt ↦ h.others x (inl (omega (arith, lt))) ∙ put_other c.memory b 0 x (λ q. absurd (omega (arith, q, lt)))
              | inr le ↦ h.others x (inr (omega (arith, le))) ∙ put_other c.memory b 0 x (λ q. absurd (omega (arith, q, le)))
            ];
            special = h.special;
            regs = λ x ne me. h.regs x ne me ∙ other_reg c.regs 2 (4 * (b + 1)) x me;
          }
            where
              by_number : (j : ℕ) → j < suc (suc n) → r.memory (b + j) ≡ 0
              by_number zero lt = let here : b + 0 ≡ b = omega arith in ap r.memory here ∙ h.others b (inl (omega arith)) ∙ put_same c.memory b 0
              by_number (suc j) lt = let here : b + suc j ≡ b + 1 + j = omega arith in ap r.memory here ∙ h.words j (omega (arith, lt))
