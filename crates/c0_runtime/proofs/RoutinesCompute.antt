-- The routines that multiply, divide and give the remainder.
use Rattle.std.proofs.Common.{◌≡◌, ◌≢◌, ℕ, ◌+◌, ◌*◌, ◌/◌, ◌==◌, List, [], ◌∷◌, refl, sym, ap, ap₂, ◌∙◌, arith, eq-eqb, ne_eqb}
use Rattle.std.specs.Prelude.{not, Some}
use Rattle.mips_table.specs.declared.inst.Inst.{Inst}
use Rattle.mips_table.specs.declared.inst.Inst.TheVariants.{Bne, J, Jr, Mult, Div, Mflo, Mfhi}
use Rattle.mips_table.specs.declared.effect.Effect.TheVariants.{Set}
use Rattle.mips_table.specs.Arith.{upper, lower, signed_product, signed_quotient, signed_remainder}
use Rattle.mips_table.specs.Device.{Idle}
use Rattle.mips_table.specs.Code.{put, Contents, Behind, World, Sound, at_with, Reaches, CodeAt}
use Rattle.mips_table.proofs.PutsChangeOneWord.{put_other}
use Rattle.masm.specs.Says.{Gives, Widens}
use Rattle.masm.specs.Laws.{RunsCompose, StraightRuns, JumpsLead}
use Rattle.cvm_words.specs.Words.{int_of, quotient, remainder}
use Rattle.c0_tree.specs.declared.tree.BinaryOp.{BinaryOp}
use Rattle.c0_tree.specs.declared.tree.BinaryOp.TheVariants as op
use Rattle.c0_runtime.specs.Laws.{RoutineCalled, RoutineReturns, AreOperands, HasAnswer, IsComputed, MultiplyRuns, DivideRuns}
use Rattle.c0_runtime.proofs.RoutineSteps.{moved, rests}
use Rattle.c0_runtime.proofs.HiAndLoAnswer.{product_word, not_zero, by_other, quotient_word}

-- the contents after hi, lo and register 2 are set
abbrev computed : (hi lo answer : ℕ) → Contents → Contents
computed hi lo answer c = record c { hi = hi; lo = lo; regs = put c.regs 2 answer }

is_computed : (o : BinaryOp) (a b hi lo answer : ℕ) (c : Contents) → HasAnswer o a b answer → IsComputed o a b c (computed hi lo answer c)
is_computed o a b hi lo answer c h = record { answer = h; regs = λ r ne. put_other c.regs 2 answer r ne; words = refl; special = refl }

module _ (w : World) (f : Sound w) (runs : RunsCompose) (straight : StraightRuns w) (jumps : JumpsLead w) where
  -- the return
  home : (n to hi lo answer : ℕ) (c : Contents) (d : Behind) → w.code n ≡ Some (Jr 31) → RoutineCalled to c d → Reaches w 1
      (at_with n (computed hi lo answer c) d) (at_with to (computed hi lo answer c) d)
  home n to hi lo answer c d at call =
      let back : c.regs 31 ≡ 4 * to = call.back in
      rests w runs (at_with n (computed hi lo answer c) d) to to (computed hi lo answer c) d call.idle refl
      (jumps.led (Jr 31) n to 0 0 (computed hi lo answer c) d at (ap (Set 0 0) back))

  pub multiplies : MultiplyRuns w
  multiplies n to a b c d at call h =
      let left : c.regs 20 ≡ a = h.left in let right : c.regs 21 ≡ b = h.right in
      let hi = upper (signed_product a b) in let lo = lower (signed_product a b) in
      let both = straight.all (Mult 20 21 ∷ Mflo 2 ∷ []) (Widens hi lo ∷ Gives lo ∷ []) n c d (at.0, (at.1.0, tt)) refl call.idle
      ((ap₂ (λ x y. upper (signed_product x y)) left right, ap₂ (λ x y. lower (signed_product x y)) left right), (refl, tt)) in
      let out = home (n + 1 + 1) to hi lo lo c d at.1.1.0 call in (
        computed hi lo lo c,
        is_computed op.Mul a b hi lo lo c (_, refl, product_word a b h.left_word h.right_word),
        runs.joined w 2 1 _ _ _ (moved w 2 (at_with n c d) (n + 2) (n + 1 + 1) (computed hi lo lo c) d (omega arith) both) out,
      )

  -- the test of the divisor, where it isn't 0
  goes_on : (n a b exit : ℕ) (rest : List Inst) (c : Contents) (d : Behind) → CodeAt w n (Bne 21 0 1 ∷ J (exit / 4) ∷ rest) → d.pending ≡ Idle →
      AreOperands a b c → b ≢ 0 → Reaches w 1 (at_with n c d) (at_with (n + 1 + 1) c d)
  goes_on n a b exit rest c d at idle h ne =
      let right : c.regs 21 ≡ b = h.right in
      rests w runs _ (n + 1 + 1) (n + 1 + 1) c d idle refl (jumps.taken (Bne 21 0 1) n 1 (not (c.regs 21 == 0)) c d at.0 refl
      (ap not (ne_eqb (c.regs 21) 0 (λ e. ne (sym right ∙ e)))) (omega arith))

  -- and where it is
  leaves : (n a exit : ℕ) (rest : List Inst) (c : Contents) (d : Behind) → CodeAt w n (Bne 21 0 1 ∷ J (exit / 4) ∷ rest) → d.pending ≡ Idle →
      AreOperands a 0 c → Reaches w 2 (at_with n c d) (at_with (exit / 4) c d)
  leaves n a exit rest c d at idle h =
      let right : c.regs 21 ≡ 0 = h.right in
      runs.joined w 1 1 _ _ _
      (rests w runs _ (n + 1) (n + 1) c d idle refl (jumps.passed (Bne 21 0 1) n 1 (not (c.regs 21 == 0)) c d at.0 refl
      (ap not (eq-eqb (c.regs 21) 0 right))))
      (rests w runs _ (exit / 4) (exit / 4) c d idle refl (jumps.jumped (J (exit / 4)) (n + 1) (exit / 4) 0 0 c d at.1.0 refl))

  -- the division itself, and the instruction that takes its answer
  answers : (o : BinaryOp) (n to a b exit answer : ℕ) (i : Inst) (c : Contents) (d : Behind) → CodeAt w n
      (Bne 21 0 1 ∷ J (exit / 4) ∷ Div 20 21 ∷ i ∷ Jr 31 ∷ []) → RoutineCalled to c d → AreOperands a b c → b ≢ 0
      → ((hi lo : ℕ) → hi ≡ signed_remainder a b → lo ≡ signed_quotient a b → Reaches w 1 (at_with (n + 1 + 1 + 1) (record c { hi = hi; lo = lo }) d)
      (at_with (n + 1 + 1 + 1 + 1) (computed hi lo answer c) d))
      → HasAnswer o a b answer → RoutineReturns w 4 n to c d (IsComputed o a b c)
  answers o n to a b exit answer i c d at call h ne takes is =
      let left : c.regs 20 ≡ a = h.left in let right : c.regs 21 ≡ b = h.right in
      let hi = signed_remainder (c.regs 20) (c.regs 21) in let lo = signed_quotient (c.regs 20) (c.regs 21) in
      let test = goes_on n a b exit (Div 20 21 ∷ i ∷ Jr 31 ∷ []) c d at call.idle h ne in
      let one = straight.next (Div 20 21) (Widens hi lo) (n + 1 + 1) c d at.1.1.0 refl call.idle
      (straight.division (Div 20 21) c d (c.regs 20) (c.regs 21) (4 * (n + 1 + 1)) c.hi c.lo (λ e. ne (sym right ∙ e))) in
      let take = takes hi lo (ap₂ signed_remainder left right) (ap₂ signed_quotient left right) in
      let out = home (n + 1 + 1 + 1 + 1) to hi lo answer c d at.1.1.1.1.0 call in (
        computed hi lo answer c,
        is_computed o a b hi lo answer c is,
        runs.joined w (1 + 1 + 1) 1 _ _ _ (runs.joined w (1 + 1) 1 _ _ _ (runs.joined w 1 1 _ _ _ test one) take) out,
      )

  pub divides : DivideRuns w
  divides exit = (
    record {
      divides = λ n to a b c d at call h ne. answers op.Div n to a b exit (signed_quotient a b) (Mflo 2) c d at call h ne
          (λ hi lo eh el. straight.next (Mflo 2) (Gives (signed_quotient a b)) (n + 1 + 1 + 1)
          (record c { hi = hi; lo = lo }) d at.1.1.1.0 refl call.idle el)
          (_, by_other quotient (int_of a) (int_of b) (not_zero b h.right_word ne), quotient_word a b h.left_word);
      faults = λ n a c d at idle h. (refl, leaves n a exit (Div 20 21 ∷ Mflo 2 ∷ Jr 31 ∷ []) c d at idle h);
    },
    record {
      divides = λ n to a b c d at call h ne. answers op.Rem n to a b exit (signed_remainder a b) (Mfhi 2) c d at call h ne
          (λ hi lo eh el. straight.next (Mfhi 2) (Gives (signed_remainder a b)) (n + 1 + 1 + 1)
          (record c { hi = hi; lo = lo }) d at.1.1.1.0 refl call.idle eh)
          (_, by_other remainder (int_of a) (int_of b) (not_zero b h.right_word ne), refl);
      faults = λ n a c d at idle h. (refl, leaves n a exit (Div 20 21 ∷ Mfhi 2 ∷ Jr 31 ∷ []) c d at idle h);
    },
  )
