-- The begin of a function that has a frame, whole.
use Rattle.std.specs.Prelude.{None, nat_le}
use Rattle.std.proofs.Common.{◌≡◌, ◌≢◌, inl, inr, ℕ, zero, suc, ◌+◌, ◌-◌, ◌*◌, ◌%◌, ◌^◌, ◌<◌, ◌≤◌, Bool, true, false, List, [], ◌∷◌, ◌++◌, length, refl, sym, ap, ◌∙◌, subst, arith, length-append}
use Rattle.std.proofs.lemmas.Bool.{cases_Bool, cond-true, cond-false, leb-true}
use Rattle.mips_table.specs.declared.inst.Inst.{Inst}
use Rattle.mips_table.specs.declared.inst.Inst.TheVariants.{Addiu, Bne, Sw}
use Rattle.mips_table.specs.Device.{Idle}
use Rattle.mips_table.specs.Code.{Contents, reg, with_reg, Behind, World, Sound, at_with, Reaches, RunLaws, CodeAt}
use Rattle.masm.specs.Says.{Gives}
use Rattle.masm.specs.Laws.{RunsCompose, StraightRuns, JumpsLead}
use Rattle.c0_expr_code.specs.FrameSetting.{FrameSetting, frame_back}
use Rattle.c0_expr_code.specs.Code.{is_near, low, access_code}
use Rattle.c0_stmt_code.specs.Code.{frame_slot, save_code, params_code, zeros_code, zeros_loop, locals_code}
use Rattle.c0_runs.specs.Frames.{FrameMade, FramesAreMade}
use Rattle.c0_runs.proofs.RunStretches.{Stretch, on, of, within}
use Rattle.c0_runs.proofs.WorkAsCode.{front, back}
use Rattle.c0_runs.proofs.RegionsApart.{put_same, put_other}
use Rattle.c0_runs.proofs.MemoryAccess.{other_reg, place_steps, few_steps, on_place}
use Rattle.c0_runs.proofs.FrameMade.{frame_address, frame_is_near, Zeroed, to_frame, params_run, zeros_run, loop_run}

module _ (compose : RunsCompose) (w : World) (sound : Sound w) (straight : StraightRuns w) (jumps : JumpsLead w) (runs : RunLaws) (st : FrameSetting) (e : ℕ) (inside : st.frame ≤ e) (small : 4 * e < 2 ^ 32) (fits : e ≤ w.words) (free : (x : ℕ) → e - st.frame ≤ x → x < e → w.kept x ≡ None) where
  abbrev Cleared : (at count : ℕ) → (cleared : ℕ → Bool) → ℕ → Contents → Contents → Type 0
  Cleared at count cleared i b c = Zeroed compose w sound straight jumps at count cleared i b c

  -- the locals' words, one way or the other: more than eight take a turn each
  pub record LocalsDone (at count : ℕ) (wanted : ℕ → Bool) (i k to : ℕ) (c : Contents) (d : Behind) : Type 0 where
    pub contents : Contents
    pub cleared : Cleared at count wanted i c contents
    pub least : ℕ
    pub paid : count ≤ 8 + least
    pub most : ℕ
    pub few : most ≤ 3 * count + 3
    pub none : count ≡ 0 → most ≡ 0
    pub way : Stretch runs w least most (at_with k c d) (at_with to contents d)

  loop_begins : (wanted : ℕ → Bool) (f n k : ℕ) (c : Contents) (d : Behind) → d.pending ≡ Idle → 3 + f + suc n ≡ st.frame → c.regs 29 ≡ 4 * e → CodeAt w k (zeros_loop st f) → LocalsDone ((e - st.frame) + (3 + f)) (suc n) wanted f k (k + length (zeros_loop st f)) c d
  loop_begins wanted f n k c d idle sum at code =
      let access = access_code (λ y x. Addiu 2 y x) 2 (frame_slot st (3 + f)) in
      let tail : List Inst = Sw 0 2 0 ∷ Addiu 2 2 4 ∷ Bne 2 29 65533 ∷ [] in
      let first = on_place compose w straight (λ c'. (c'.regs 2 ≡ 4 * ((e - st.frame) + (3 + f))) × (c'.memory ≡ c.memory) × (c'.special ≡ c.special) × ((x : ℕ) → x ≢ 1 → x ≢ 2 → c'.regs x ≡ c.regs x)) (λ y x. Addiu 2 y x) (frame_slot st (3 + f)) 2 k c d idle (λ z. absurd (omega (arith, z))) (λ z. absurd (omega (arith, z)))
      (front w k (access_code (λ y x. Addiu 2 y x) 2 (frame_slot st (3 + f))) (Sw 0 2 0 ∷ Addiu 2 2 4 ∷ Bne 2 29 65533 ∷ []) code)
      (λ y m a there near address. (
        with_reg a 2 (4 * ((e - st.frame) + (3 + f))),
        (refl, near.memory, near.special, λ x ne me. other_reg a.regs 2 (4 * ((e - st.frame) + (3 + f))) x me ∙ near.others x ne me),
        straight.next (Addiu 2 y (low ((frame_back st + 4 * (3 + f)) % 2 ^ 32))) (Gives (4 * ((e - st.frame) + (3 + f)))) m a d there refl idle (address ∙ ap (λ v. (v + (frame_back st + 4 * (3 + f)) % 2 ^ 32) % 2 ^ 32) at ∙ frame_address st e (3 + f) inside small (omega (arith, sum))),
      )) in
      let c1 : Contents = first.0 in
      let rest = loop_run compose w sound straight jumps st e inside small fits free runs n ((e - st.frame) + (3 + f)) (k + length (access_code (λ y x. Addiu 2 y x) 2 (frame_slot st (3 + f)))) first.0 d idle (omega arith) (omega (arith, sum, inside)) first.1.0
      (first.1.3 29 (λ z. absurd (omega (arith, z))) (λ z. absurd (omega (arith, z))) ∙ at) (back w k (access_code (λ y x. Addiu 2 y x) 2 (frame_slot st (3 + f))) (Sw 0 2 0 ∷ Addiu 2 2 4 ∷ Bne 2 29 65533 ∷ []) code) in
      let len : k + length (access_code (λ y x. Addiu 2 y x) 2 (frame_slot st (3 + f))) + 3 ≡ k + length (zeros_loop st f) = omega (arith, length-append (access_code (λ y x. Addiu 2 y x) 2 (frame_slot st (3 + f))) (Sw 0 2 0 ∷ Addiu 2 2 4 ∷ Bne 2 29 65533 ∷ [])) in
      let here : k + 0 ≡ k = omega arith in
      let go : Stretch runs w 0 3 (at_with k c d) (at_with (k + length (access_code (λ y x. Addiu 2 y x) 2 (frame_slot st (3 + f)))) first.0 d) = of runs w 3 _ _ (subst (λ m. Reaches w 3 (at_with m c d) (at_with (k + length (access_code (λ y x. Addiu 2 y x) 2 (frame_slot st (3 + f)))) first.0 d)) here (compose.later w (place_steps (frame_slot st (3 + f))) 3 _ _ (few_steps (frame_slot st (3 + f))) first.2)) in
      record {
        contents = rest.0;
        cleared = record {
          words = λ j lt wants. rest.1.words j lt;
          others = λ x side. rest.1.others x side ∙ ap (λ m. m x) first.1.1;
          special = rest.1.special ∙ first.1.2;
          regs = λ x ne me. rest.1.regs x ne me ∙ first.1.3 x ne me;
        };
        least = suc n;
        paid = omega arith;
        most = 3 * suc n + 3;
        few = omega arith;
        none = λ e. absurd (omega (arith, e));
        way = within runs w (0 + suc n) (3 + 3 * suc n) (suc n) (3 * suc n + 3) (at_with k c d) (at_with (k + length (zeros_loop st f)) rest.0 d) (omega arith) (omega arith)
            (on runs w 0 3 (suc n) (3 * suc n) (at_with k c d) (at_with (k + length (access_code (λ y x. Addiu 2 y x) 2 (frame_slot st (3 + f)))) first.0 d) (at_with (k + length (zeros_loop st f)) rest.0 d) go (subst (λ m. Stretch runs w (suc n) (3 * suc n) (at_with (k + length (access_code (λ y x. Addiu 2 y x) 2 (frame_slot st (3 + f)))) first.0 d) (at_with m rest.0 d)) len rest.2));
      }

  pub locals_run : (wanted : ℕ → Bool) (n f k : ℕ) (c : Contents) (d : Behind) → d.pending ≡ Idle → 3 + f + n ≡ st.frame → c.regs 29 ≡ 4 * e → CodeAt w k (locals_code st wanted n f) → LocalsDone ((e - st.frame) + (3 + f)) n wanted f k (k + length (locals_code st wanted n f)) c d
  locals_run wanted n f k c d idle sum at code = elim (cases_Bool (nat_le n 8)) [
    | inl few ↦
        let same : locals_code st wanted n f ≡ zeros_code st wanted n f = cond-true (nat_le n 8) (zeros_code st wanted n f) (zeros_loop st f) few in
        let le = leb-true n 8 few in
        let r = zeros_run compose w sound straight jumps st e inside small fits free wanted n f k c d idle (omega (arith, sum)) at (subst (CodeAt w k) same code) in
        record {
          contents = r.0;
          cleared = r.1;
          least = 0;
          paid = omega (arith, le);
          most = 3 * n;
          few = omega arith;
          none = λ e. omega (arith, e);
          way = of runs w (3 * n) _ _ (subst (λ is. Reaches w (3 * n) (at_with k c d) (at_with (k + length is) r.0 d)) (sym same) r.2);
        }
    | inr many ↦
        let same : locals_code st wanted n f ≡ zeros_loop st f = cond-false (nat_le n 8) (zeros_code st wanted n f) (zeros_loop st f) many in
        let r = by_loop n many sum (subst (CodeAt w k) same code) in
        subst (λ is. LocalsDone ((e - st.frame) + (3 + f)) n wanted f k (k + length is) c d) (sym same) r
  ]
    where
      by_loop : (n : ℕ) → nat_le n 8 ≡ false → 3 + f + n ≡ st.frame → CodeAt w k (zeros_loop st f) → LocalsDone ((e - st.frame) + (3 + f)) n wanted f k (k + length (zeros_loop st f)) c d
      by_loop zero many sum code = absurd (cc)
      by_loop (suc n) many sum code = loop_begins wanted f n k c d idle sum at code

  -- the frame is made, in so many steps; where there are no locals it is near, and its first word takes one
  pub record Framed (calling : Bool) (wanted : ℕ → Bool) (params locals k to : ℕ) (c : Contents) (d : Behind) : Type 0 where
    pub contents : Contents
    pub made : FrameMade st e calling wanted params locals c contents
    pub least : ℕ
    pub paid : locals ≤ 8 + least
    pub most : ℕ
    pub few : most ≤ 3 + 3 * params + 3 * locals + 3
    pub none : locals ≡ 0 → most ≤ 1 + 3 * params
    pub way : Stretch runs w least most (at_with k c d) (at_with to contents d)

  -- the return address is saved, where that is asked
  record Saved (calling : Bool) (k to : ℕ) (c : Contents) (d : Behind) : Type 0 where
    contents : Contents
    is : calling ≡ true → contents.memory (e - st.frame) ≡ c.regs 31
    others : (x : ℕ) → x ≢ e - st.frame → contents.memory x ≡ c.memory x
    special : contents.special ≡ c.special
    regs : (x : ℕ) → x ≢ 1 → contents.regs x ≡ c.regs x
    most : ℕ
    few : most ≤ 3
    near : st.frame ≤ 8192 → most ≤ 1
    run : Reaches w most (at_with k c d) (at_with to contents d)

  saves : (calling : Bool) (k : ℕ) (c : Contents) (d : Behind) → d.pending ≡ Idle → 0 < st.frame → c.regs 29 ≡ 4 * e → CodeAt w k (save_code st calling) → Saved calling k (k + length (save_code st calling)) c d
  saves false k c d idle some at code = record { contents = c; is = λ q. absurd (cc); others = λ x ne. refl; special = refl; regs = λ x ne. refl; most = 0; few = omega arith; near = λ small. omega arith; run = subst (λ m. Reaches w 0 (at_with k c d) (at_with m c d)) (omega arith) (compose.none w (at_with k c d)) }
  saves true k c d idle some at code =
      let r = to_frame compose w sound straight jumps st e inside small fits free 31 0 k c d idle (λ z. absurd (omega (arith, z))) some at code in
      let here : (e - st.frame) + 0 ≡ e - st.frame = omega arith in
      record {
        contents = r.0;
        is = λ q. ap r.0.memory (sym here) ∙ ap (λ m. m ((e - st.frame) + 0)) r.1.memory ∙ put_same c.memory ((e - st.frame) + 0) (reg c.regs 31);
        others = λ x ne. ap (λ m. m x) r.1.memory ∙ put_other c.memory ((e - st.frame) + 0) (reg c.regs 31) x (λ q. ne (q ∙ here));
        special = r.1.special;
        regs = λ x ne. r.1.others x ne ne;
        most = place_steps (frame_slot st 0);
        few = few_steps (frame_slot st 0);
        near = λ small. let one : place_steps (frame_slot st 0) ≡ 1 = cond-true (is_near (frame_slot st 0).displacement) 1 3 (frame_is_near st 0 some small) in omega (arith, one);
        run = r.2;
      }

  pub frames : (calling : Bool) (wanted : ℕ → Bool) (params locals k : ℕ) (c : Contents) (d : Behind) → d.pending ≡ Idle → 3 + params + locals ≡ st.frame → params ≤ 8 → c.regs 29 ≡ 4 * e
      → CodeAt w k (save_code st calling ++ (params_code st params 0 ++ locals_code st wanted locals params)) → Framed calling wanted params locals k (k + length (save_code st calling ++ (params_code st params 0 ++ locals_code st wanted locals params))) c d
  frames calling wanted params locals k c d idle sum few at code =
      let a = save_code st calling in
      let b = params_code st params 0 in
      let l = locals_code st wanted locals params in
      let one = saves calling k c d idle (omega (arith, sum)) at (front w k (save_code st calling) (params_code st params 0 ++ locals_code st wanted locals params) code) in
      let behind = back w k (save_code st calling) (params_code st params 0 ++ locals_code st wanted locals params) code in
      let k1 = k + length (save_code st calling) in
      let two = params_run compose w sound straight jumps st e inside small fits free params 0 k1 one.contents d idle (omega (arith, sum)) (omega (arith, few)) (one.regs 29 (λ z. absurd (omega (arith, z))) ∙ at) (front w k1 (params_code st params 0) (locals_code st wanted locals params) behind) in
      let k2 = k1 + length (params_code st params 0) in
      let three = locals_run wanted locals params k2 two.0 d idle sum (two.1.regs 29 (λ z. absurd (omega (arith, z))) (λ z. absurd (omega (arith, z))) ∙ one.regs 29 (λ z. absurd (omega (arith, z))) ∙ at) (back w k1 (params_code st params 0) (locals_code st wanted locals params) behind) in
      let to : ℕ = k + length (save_code st calling ++ (params_code st params 0 ++ locals_code st wanted locals params)) in
      let len : k2 + length (locals_code st wanted locals params) ≡ to = omega (arith, length-append (save_code st calling) (params_code st params 0 ++ locals_code st wanted locals params), length-append (params_code st params 0) (locals_code st wanted locals params)) in
      let way12 = on runs w 0 one.most 0 (3 * params) (at_with k c d) (at_with k1 one.contents d) (at_with k2 two.0 d) (of runs w one.most _ _ one.run) (of runs w (3 * params) _ _ two.2) in
      let few1 = one.few in
      let few3 = three.few in
      let way = on runs w (0 + 0) (one.most + 3 * params) three.least three.most (at_with k c d) (at_with k2 two.0 d) (at_with (k2 + length (locals_code st wanted locals params)) three.contents d) way12 three.way in
      record {
        contents = three.contents;
        made = record {
          saved = λ q. three.cleared.others (e - st.frame) (inl (omega arith)) ∙ two.1.others (e - st.frame) (inl (omega arith)) ∙ one.is q;
          arguments = λ j lt.
              let here : (e - st.frame) + 3 + j ≡ (e - st.frame) + 3 + 0 + j = omega arith in
              three.cleared.others ((e - st.frame) + 3 + j) (inl (omega (arith, lt))) ∙ ap two.0.memory here ∙ two.1.words j lt ∙ ap one.contents.regs (omega arith) ∙ one.regs (20 + j) (λ z. absurd (omega (arith, z)));
          zeros = λ j lt wants. three.cleared.words j lt wants;
          others = λ x side. elim side [
            | inl lt ↦ three.cleared.others x (inl (omega (arith, lt))) ∙ two.1.others x (inl (omega (arith, lt))) ∙ one.others x (λ q. absurd (omega (arith, lt, q)))
            | inr le ↦ three.cleared.others x (inr (omega (arith, le, sum, inside))) ∙ two.1.others x (inr (omega (arith, le, sum, inside))) ∙ one.others x (λ q. absurd (omega (arith, le, q, sum, inside)))
          ];
          special = three.cleared.special ∙ two.1.special ∙ one.special;
          regs = λ x ne me. three.cleared.regs x ne me ∙ two.1.regs x ne me ∙ one.regs x ne;
        };
        least = three.least;
        paid = three.paid;
        most = one.most + 3 * params + three.most;
        few = omega (arith, few1, few3);
        none = λ e. let near = one.near (omega (arith, e, sum, few)) in let nothing = three.none e in omega (arith, near, nothing);
        way = within runs w (0 + 0 + three.least) (one.most + 3 * params + three.most) three.least (one.most + 3 * params + three.most) (at_with k c d) (at_with to three.contents d) (omega arith) (omega arith)
            (subst (λ m. Stretch runs w (0 + 0 + three.least) (one.most + 3 * params + three.most) (at_with k c d) (at_with m three.contents d)) len way);
      }

-- the law of the frames' begin
pub frames_made : (compose : RunsCompose) (w : World) (sound : Sound w) (straight : StraightRuns w) (jumps : JumpsLead w) (runs : RunLaws) → FramesAreMade w
frames_made compose w sound straight jumps runs st e has calling wanted params locals k c d idle sum few at code =
    let fr = frames compose w sound straight jumps runs st e has.inside has.small has.fits has.free calling wanted params locals k c d idle sum few at code in
    let le = fr.way.high in
    let most = fr.few in
    (fr.contents, fr.made, record { steps = fr.way.own; within = omega (arith, le, most); run = fr.way.run })
