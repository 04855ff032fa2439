-- A body under a condition, a loop and a routine.
use Rattle.std.proofs.Common.{◌≡◌, ◌≢◌, ℕ, ◌+◌, ◌<◌, ◌≤◌, List, [], ◌∷◌, ◌++◌, length, refl, ap, ◌∙◌, arith, eq-eqb, ne_eqb, length-append}
use Rattle.mips_table.specs.declared.inst.Inst.{Inst}
use Rattle.mips_table.specs.declared.inst.Inst.TheVariants.{Beq, Jr}
use Rattle.mips_table.specs.declared.effect.Effect.TheVariants.{Set}
use Rattle.std.proofs.lemmas.List.Elements.{All-append, All-cons, All-nil}
use Rattle.mips_table.specs.Encoding.{InRange}
use Rattle.mips_table.specs.Device.{Idle}
use Rattle.mips_table.specs.Code.{Contents, reg, Behind, World, Sound, at_with, settle, Reaches, CodeAt}
use Rattle.masm.specs.Blocks.{when_code, back_code, loop_code}
use Rattle.masm.specs.Laws.{BlocksInRange, WhenRuns, LoopRuns, ReturnRuns}
use Rattle.masm.proofs.RunsCompose.{joined, later, idle_settle, settled, to_there, code_front, code_back}
use Rattle.masm.proofs.JumpsLead.{led, taken, taken_back, passed}

module _ (w : World) (f : Sound w) where
  module _ (r : ℕ) (body : List Inst) (short : length body < 32768) where
    when_skips : (n : ℕ) (c : Contents) (d : Behind) → CodeAt w n (when_code r body) → d.pending ≡ Idle → reg c.regs r ≡ 0 → Reaches w 1 (at_with n c d) (at_with (n + length (when_code r body)) c d)
    when_skips n c d at idle z =
        let e : n + 1 + length body ≡ n + length (when_code r body) = omega arith in
        to_there w 1 _ _ _ (idle_settle (n + 1 + length body) c d idle ∙ ap (λ m. at_with m c d) e)
        (taken w f _ n (length body) _ c d at.0 refl (eq-eqb (reg c.regs r) 0 z) short)

    when_enters : (n : ℕ) (c : Contents) (d : Behind) → CodeAt w n (when_code r body) → d.pending ≡ Idle → reg c.regs r ≢ 0 → Reaches w 1 (at_with n c d) (at_with (n + 1) c d)
    when_enters n c d at idle z = settled w 1 (n + 1) _ c d idle (passed w f _ n (length body) _ c d at.0 refl (ne_eqb (reg c.regs r) 0 z))

    when_runs : (n m : ℕ) (c : Contents) (d : Behind) (c' : Contents) (d' : Behind) → CodeAt w n (when_code r body) → d.pending ≡ Idle → reg c.regs r ≢ 0 → Reaches w m (at_with (n + 1) c d) (at_with (n + 1 + length body) c' d') → Reaches w (m + 1) (at_with n c d) (at_with (n + length (when_code r body)) c' d')
    when_runs n m c d c' d' at idle z run =
        let e : n + 1 + length body ≡ n + length (when_code r body) = omega arith in
        later w (1 + m) (m + 1) _ _ (omega arith) (joined w 1 m _ _ _ (when_enters n c d at idle z) (to_there w m _ _ _ (ap (λ k. at_with k c' d') e) run))

    pub when_laws : WhenRuns w r body
    when_laws = record { skips = when_skips; enters = when_enters; runs = when_runs }

  module _ (test : List Inst) (r : ℕ) (body : List Inst) (short : length test + length body + 2 ≤ 32768) where
    -- the loop behind its test
    rest : List Inst
    rest = Beq r 0 (length body + 1) ∷ (body ++ back_code (length test + length body) ∷ [])

    size : length (loop_code test r body) ≡ length test + length body + 2
    unfolding rest
    size =
        let a = length-append test rest in
        let b = length-append body (back_code (length test + length body) ∷ []) in
        a ∙ omega (arith, b)

    behind_test : (n : ℕ) → CodeAt w n (loop_code test r body) → CodeAt w (n + length test) rest
    unfolding rest
    behind_test n at = code_back w n test rest at

    loop_test : (n : ℕ) → CodeAt w n (loop_code test r body) → CodeAt w n test
    unfolding rest
    loop_test n at = code_front w n test rest at

    loop_body : (n : ℕ) → CodeAt w n (loop_code test r body) → CodeAt w (n + length test + 1) body
    unfolding rest
    loop_body n at = code_front w (n + length test + 1) body (back_code (length test + length body) ∷ []) (behind_test n at).1

    loop_leaves : (n : ℕ) (c : Contents) (d : Behind) → CodeAt w n (loop_code test r body) → reg c.regs r ≡ 0 → Reaches w 1 (at_with (n + length test) c d) (settle (n + length (loop_code test r body)) c d)
    unfolding rest
    loop_leaves n c d at z =
        let e : n + length test + 1 + (length body + 1) ≡ n + length (loop_code test r body) = omega (arith, size) in
        to_there w 1 _ _ _ (ap (λ m. settle m c d) e) (taken w f _ (n + length test) (length body + 1) _ c d (behind_test n at).0 refl (eq-eqb (reg c.regs r) 0 z) (omega (arith, short)))

    loop_enters : (n : ℕ) (c : Contents) (d : Behind) → CodeAt w n (loop_code test r body) → reg c.regs r ≢ 0 → Reaches w 1 (at_with (n + length test) c d) (settle (n + length test + 1) c d)
    unfolding rest
    loop_enters n c d at z = passed w f _ (n + length test) (length body + 1) _ c d (behind_test n at).0 refl (ne_eqb (reg c.regs r) 0 z)

    loop_again : (n : ℕ) (c : Contents) (d : Behind) → CodeAt w n (loop_code test r body) → Reaches w 1 (at_with (n + length test + 1 + length body) c d) (settle n c d)
    unfolding rest
    loop_again n c d at =
        let end = code_back w (n + length test + 1) body (back_code (length test + length body) ∷ []) (behind_test n at).1 in
        taken_back w f _ (n + length test + 1 + length body) n (length test + length body + 2) _ c d end.0 refl (eq-eqb 0 0 refl) (omega arith) (omega arith) short

    loop_turns : (n p q : ℕ) (c : Contents) (d : Behind) (c' : Contents) (d' : Behind) (c'' : Contents) (d'' : Behind) → CodeAt w n (loop_code test r body) → Reaches w p (at_with n c d) (at_with (n + length test) c' d') → d'.pending ≡ Idle → reg c'.regs r ≢ 0 → Reaches w q (at_with (n + length test + 1) c' d') (at_with (n + length test + 1 + length body) c'' d'') → d''.pending ≡ Idle → Reaches w (p + q + 2) (at_with n c d) (at_with n c'' d'')
    loop_turns n p q c d c' d' c'' d'' at tested idle z ran idle' =
        let enter = settled w 1 (n + length test + 1) _ c' d' idle (loop_enters n c' d' at z) in
        let back = settled w 1 n _ c'' d'' idle' (loop_again n c'' d'' at) in
        later w (p + (1 + (q + 1))) (p + q + 2) _ _ (omega arith) (joined w p (1 + (q + 1)) _ _ _ tested (joined w 1 (q + 1) _ _ _ enter (joined w q 1 _ _ _ ran back)))

    loop_ends : (n p : ℕ) (c : Contents) (d : Behind) (c' : Contents) (d' : Behind) → CodeAt w n (loop_code test r body) → Reaches w p (at_with n c d) (at_with (n + length test) c' d') → d'.pending ≡ Idle → reg c'.regs r ≡ 0 → Reaches w (p + 1) (at_with n c d) (at_with (n + length (loop_code test r body)) c' d')
    loop_ends n p c d c' d' at tested idle z =
        joined w p 1 _ _ _ tested (settled w 1 (n + length (loop_code test r body)) _ c' d' idle (loop_leaves n c' d' at z))

    pub loop_laws : LoopRuns w test r body
    loop_laws = record { test_stands = loop_test; body_stands = loop_body; leaves = loop_leaves; enters = loop_enters; again = loop_again; turns = loop_turns; ends = loop_ends }

  pub returning : (body : List Inst) → ReturnRuns w body
  returning body n m to c d c' d' at run r idle =
      let back = code_back w n body (Jr 31 ∷ []) at in
      joined w m 1 _ _ _ run (settled w 1 to _ c' d' idle (led w f (Jr 31) (n + length body) to 0 0 c' d' back.0 (ap (Set 0 0) r)))

pub in_range : BlocksInRange
in_range = record {
  joined = All-append InRange;
  when = λ r body lt short all. All-cons InRange (Beq r 0 (length body)) body (lt, omega arith, omega (arith, short)) all;
  loop = λ test r body lt short ta ba.
      let back : InRange (back_code (length test + length body)) = (omega arith, omega arith, omega arith) in
      let behind = All-append InRange body (back_code (length test + length body) ∷ []) ba (All-cons InRange (back_code (length test + length body)) [] back (All-nil InRange)) in
      All-append InRange test _ ta (All-cons InRange (Beq r 0 (length body + 1)) (body ++ back_code (length test + length body) ∷ []) (lt, omega arith, omega (arith, short)) behind);
}
