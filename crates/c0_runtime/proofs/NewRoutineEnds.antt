-- The routine `new`: the test of the room, and its two ends.
use Rattle.std.proofs.Common.{◌≡◌, ℕ, zero, suc, ◌+◌, ◌*◌, ◌<◌, ◌≤◌, ◌==◌, nat_lt, List, [], ◌∷◌, ◌++◌, refl, ap, ◌∙◌, subst, inl, arith, lt-ltb, le-ltb}
use Rattle.std.specs.Prelude.{not, None}
use Rattle.mips_table.specs.declared.inst.Inst.{Inst}
use Rattle.mips_table.specs.declared.inst.Inst.TheVariants.{Lw, Sw, Addu, Addiu, Sltu, Bne, Jr}
use Rattle.mips_table.specs.declared.effect.Effect.TheVariants.{Set}
use Rattle.mips_table.specs.Arith.{flag}
use Rattle.mips_table.specs.Code.{put, Contents, Behind, World, Sound, at_with, Steps, Reaches, CodeAt, RunLaws}
use Rattle.mips_table.proofs.PutsChangeOneWord.{put_other}
use Rattle.masm.specs.Says.{Gives, Reads, Writes}
use Rattle.masm.specs.Laws.{RunsCompose, StraightRuns, JumpsLead}
use Rattle.c0_runtime.specs.Code.{test_room_code, bump_heap_code, find_object_code, zero_object_code, new_routine}
use Rattle.c0_runtime.specs.Laws.{RoutineCalled, RoutineReturns, ComesBackIn, HeapIs, IsAsked, IsRefused, ObjectMade, NewRuns}
use Rattle.c0_runtime.proofs.RoutineSteps.{moved, rests, four_above, two_above, flag_set, flag_clear}
use Rattle.c0_runtime.proofs.ClearingLoop.{IsCleared, MayClear, clears}

-- the test's straight part, and what is said of it
abbrev test_code : List Inst
test_code = Lw 3 0 4104 ∷ Lw 4 0 4108 ∷ Addu 5 3 2 ∷ Sltu 1 4 5 ∷ []

-- the contents after it
abbrev tested : (used heap size : ℕ) → Contents → Contents
tested used heap size c = record c { regs = put (put (put (put c.regs 3 used) 4 heap) 5 (used + size)) 1 (flag (nat_lt heap (used + size))) }

-- what the words that are taken lead to
abbrev take_code : List Inst
take_code = bump_heap_code ++ find_object_code

abbrev taken : (used first size : ℕ) → Contents → Contents
taken used first size c = record c {
  regs = put (put (put (put (put (put c.regs 4 (4 * first)) 3 (4 * used)) 2 (4 * (first + used))) 5 (4 * (used + size))) 5
      (4 * (first + used + size))) 3 (4 * (first + used));
  memory = put c.memory 1026 (used + size);
}

module _ (w : World) (f : Sound w) (joins : RunLaws) (runs : RunsCompose) (straight : StraightRuns w) (jumps : JumpsLead w) where
  test_runs : (n to used heap first size : ℕ) (c : Contents) (d : Behind) → CodeAt w n new_routine → RoutineCalled to c d → HeapIs w used heap first c →
      IsAsked size c → Reaches w 4 (at_with n c d) (at_with (n + 4) (tested used heap size c) d)
  test_runs n to used heap first size c d at call h q =
      let small = f.small in let behind = h.behind in let inside = h.inside in let within = h.within in let most = q.most in
      let asked : c.regs 2 ≡ size = q.asked in
      straight.all test_code (Reads 1026 used ∷ Reads 1027 heap ∷ Gives (used + size) ∷ Gives (flag (nat_lt heap (used + size))) ∷ []) n c d
      (runs.front w n test_code (Bne 1 0 11 ∷ (bump_heap_code ++ (find_object_code ++ zero_object_code))) at) refl call.idle
      ((refl, omega arith, h.used_word), ((refl, omega arith, h.heap_word), (omega arith, (refl, tt))))

  branch_at : (n : ℕ) → CodeAt w n new_routine → CodeAt w (n + 4) (Bne 1 0 11 ∷ (bump_heap_code ++ (find_object_code ++ zero_object_code)))
  branch_at n at = runs.back w n test_code (Bne 1 0 11 ∷ (bump_heap_code ++ (find_object_code ++ zero_object_code))) at

  refuse_at : (n : ℕ) → CodeAt w n new_routine → CodeAt w (n + 16) (Addu 2 0 0 ∷ Jr 31 ∷ [])
  refuse_at n at = runs.back w n (test_room_code ++ (bump_heap_code ++ (find_object_code ++ Sw 0 3 0 ∷ Addiu 3 3 4 ∷ Bne 3 5 65533 ∷ Jr 31 ∷ [])))
      (Addu 2 0 0 ∷ Jr 31 ∷ []) at

  refuses : (n to used heap first size : ℕ) (c : Contents) (d : Behind) → CodeAt w n new_routine → RoutineCalled to c d → HeapIs w used heap first c →
      IsAsked size c → heap < used + size → RoutineReturns w 7 n to c d (IsRefused c)
  refuses n to used heap first size c d at call h q lt =
      let c1 = tested used heap size c in
      let back : c.regs 31 ≡ 4 * to = call.back in
      let test = test_runs n to used heap first size c d at call h q in
      let bit = flag_set (nat_lt heap (used + size)) (lt-ltb heap (used + size) lt) in
      let over = rests w runs _ _ (n + 16) c1 d call.idle (omega arith)
      (jumps.taken (Bne 1 0 11) (n + 4) 11 (not (flag (nat_lt heap (used + size)) == 0)) c1 d (branch_at n at).0 refl bit (omega arith)) in
      let none = straight.all (Addu 2 0 0 ∷ []) (Gives 0 ∷ []) (n + 16) c1 d ((refuse_at n at).0, tt) refl call.idle (refl, tt) in
      let c2 : Contents = record c {
        regs = put (put (put (put (put c.regs 3 used) 4 heap) 5 (used + size)) 1
            (flag (nat_lt heap (used + size)))) 2 0;
      } in
      let home = rests w runs (at_with (n + 16 + 1) c2 d) to to c2 d call.idle refl
      (jumps.led (Jr 31) (n + 16 + 1) to 0 0 c2 d (refuse_at n at).1.0 (ap (Set 0 0) back)) in (
        c2,
        record {
          answer = refl;
          words = refl;
          keeps = record {
            regs = λ r lt. put_other (put (put (put (put c.regs 3 used) 4 heap) 5 (used + size)) 1 (flag (nat_lt heap (used + size)))) 2 0 r
                (λ e. absurd (omega (arith, e, lt)))
                ∙ four_above c.regs 3 used 4 heap 5 (used + size) 1 (flag (nat_lt heap (used + size))) r (omega arith) (omega arith) (omega arith)
                (omega arith) lt;
            hi = refl;
            lo = refl;
            special = refl;
          };
        },
        runs.later w (4 + 1 + 1 + 1) 7 _ _ (omega arith) (runs.joined w (4 + 1 + 1) 1 _ _ _
            (runs.joined w (4 + 1) 1 _ _ _ (runs.joined w 4 1 _ _ _ test over) none) home),
      )

  -- the words are taken
  take_runs : (n to used heap first size : ℕ) (c : Contents) (d : Behind) → CodeAt w n new_routine → RoutineCalled to c d → HeapIs w used heap first c →
      IsAsked size c → used + size ≤ heap → Reaches w 7 (at_with (n + 5) (tested used heap size c) d)
      (at_with (n + 12) (taken used first size (tested used heap size c)) d)
  take_runs n to used heap first size c d at call h q le =
      let small = f.small in let behind = h.behind in let inside = h.inside in
      let code = runs.front w (n + 5) take_code zero_object_code (runs.back w n test_room_code (take_code ++ zero_object_code) at) in
      moved w 7 (at_with (n + 5) (tested used heap size c) d) (n + 5 + 7) (n + 12) (taken used first size (tested used heap size c)) d (omega arith)
      (straight.all take_code (Writes 1026 (used + size) ∷ Reads 1028 (4 * first) ∷ Gives (4 * used) ∷ Gives (4 * (first + used)) ∷ Gives
      (4 * (used + size)) ∷ Gives (4 * (first + used + size)) ∷ Gives (4 * (first + used)) ∷ [])
      (n + 5) (tested used heap size c) d code refl call.idle (
        (refl, omega arith, h.count_free, refl),
        (
          (refl, omega arith, h.first_word),
          (omega arith, (omega arith, (omega arith, (omega arith, (omega arith, tt))))),
        ),
      ))

  loop_at : (n : ℕ) → CodeAt w n new_routine → CodeAt w (n + 12) (Sw 0 3 0 ∷ Addiu 3 3 4 ∷ Bne 3 5 65533 ∷ Jr 31 ∷ Addu 2 0 0 ∷ Jr 31 ∷ [])
  loop_at n at = runs.back w n (test_room_code ++ (bump_heap_code ++ find_object_code)) zero_object_code at

  -- what the loop leaves is the new object
  made : (used heap first size : ℕ) (c c' : Contents) → HeapIs w used heap first c → used + size ≤ heap → IsCleared (first + used) size
      (taken used first size (tested used heap size c)) c' → ObjectMade used first size c c'
  made used heap first size c c' h le z =
      let behind = h.behind in
      record {
        answer = z.regs 2 (λ e. absurd (omega (arith, e)));
        zeros = z.zeros;
        used_word = z.others 1026 (inl (omega arith));
        others = λ k ne o. z.others k o ∙ put_other c.memory 1026 (used + size) k ne;
        keeps = record {
          regs = λ r lt. z.regs r (λ e. absurd (omega (arith, e, lt)))
              ∙ two_above (put (put (put (put (tested used heap size c).regs 4 (4 * first)) 3 (4 * used)) 2 (4 * (first + used))) 5
              (4 * (used + size))) 5 (4 * (first + used + size)) 3 (4 * (first + used)) r (omega arith) (omega arith) lt
              ∙ four_above (tested used heap size c).regs 4 (4 * first) 3 (4 * used) 2 (4 * (first + used)) 5 (4 * (used + size)) r (omega arith)
              (omega arith) (omega arith) (omega arith) lt
              ∙ four_above c.regs 3 used 4 heap 5 (used + size) 1 (flag (nat_lt heap (used + size))) r (omega arith) (omega arith) (omega arith)
              (omega arith) lt;
          hi = z.hi;
          lo = z.lo;
          special = z.special;
        };
      }

  makes : (n to used heap first size : ℕ) (c : Contents) (d : Behind) → CodeAt w n new_routine → RoutineCalled to c d → HeapIs w used heap first c →
      IsAsked size c → used + size ≤ heap → ComesBackIn w (3 * size) (13 + 3 * size) n to c d (ObjectMade used first size c)
  makes n to used heap first zero c d at call h q le = let least = q.least in absurd (omega (arith, least))
  makes n to used heap first (suc left) c d at call h q le =
      let size = suc left in
      let c1 = tested used heap (suc left) c in
      let c2 = taken used first (suc left) c1 in
      let back : c.regs 31 ≡ 4 * to = call.back in
      let inside = h.inside in
      let test = test_runs n to used heap first (suc left) c d at call h q in
      let bit = flag_clear (nat_lt heap (used + suc left)) (le-ltb heap (used + suc left) le) in
      let on = rests w runs _ _ (n + 5) c1 d call.idle (omega arith)
      (jumps.passed (Bne 1 0 11) (n + 4) 11 (not (flag (nat_lt heap (used + suc left)) == 0)) c1 d (branch_at n at).0 refl bit) in
      let take = take_runs n to used heap first (suc left) c d at call h q le in
      let code = loop_at n at in
      let may : MayClear w (first + used) (suc left) c2 = record { first = refl; last = refl; inside = omega (arith, inside, le); free = free } in
      let z = clears w f joins runs straight jumps left (n + 12) (first + used) c2 d (code.0, (code.1.0, (code.1.1.0, tt))) call.idle may in
      let kept : z.0.regs 31 ≡ 4 * to = z.1.regs 31 (λ e. absurd (omega (arith, e))) ∙ back in
      let home = rests w runs (at_with (n + 12 + 1 + 1 + 1) z.0 d) to to z.0 d call.idle refl
      (jumps.led (Jr 31) (n + 12 + 1 + 1 + 1) to 0 0 z.0 d code.1.1.1.0 (ap (Set 0 0) kept)) in
      let start = runs.joined w (4 + 1) 7 (at_with n c d) (at_with (n + 5) c1 d) (at_with (n + 12) c2 d)
      (runs.joined w 4 1 (at_with n c d) (at_with (n + 4) c1 d) (at_with (n + 5) c1 d) test on) take in
      let there : n + 12 + 3 ≡ n + 12 + 1 + 1 + 1 = omega arith in
      let cleared = subst (λ k. Steps w (3 * suc left) (at_with (n + 12) c2 d) (at_with k z.0 d)) there z.2 in
      let all = joins.joined w (start.steps + 3 * suc left) home.steps (at_with n c d) (at_with (n + 12 + 1 + 1 + 1) z.0 d) (at_with to z.0 d)
      (joins.joined w start.steps (3 * suc left) (at_with n c d) (at_with (n + 12) c2 d)
      (at_with (n + 12 + 1 + 1 + 1) z.0 d) start.run cleared) home.run in (
        z.0,
        made used heap first (suc left) c z.0 h le z.1,
        record { steps = start.steps + 3 * suc left + home.steps; within = omega (arith, start.within, home.within); run = all },
        omega arith,
      )
    where
      free : (k : ℕ) → k < suc left → w.kept (first + used + k) ≡ None
      free k lt = let e : first + used + k ≡ first + (used + k) = omega arith in ap w.kept e ∙ h.free (used + k) (omega (arith, lt, le))

  pub new_runs : NewRuns w
  new_runs = record { refuses = refuses; makes = makes }
