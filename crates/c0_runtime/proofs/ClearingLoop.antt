-- The loop of `new` that clears an object's words, by induction on their number.
use Rattle.std.proofs.Common.{◌≡◌, ◌≢◌, ℕ, zero, suc, ◌+◌, ◌*◌, ◌<◌, ◌≤◌, ◌==◌, List, [], ◌∷◌, refl, ap, ◌∙◌, subst, ⊎_elim, ◌⊎◌, inl, inr, arith, eq-eqb, ne_eqb}
use Rattle.std.specs.Prelude.{not, None}
use Rattle.mips_table.specs.declared.inst.Inst.{Inst}
use Rattle.mips_table.specs.declared.inst.Inst.TheVariants.{Sw, Addiu, Bne}
use Rattle.mips_table.specs.Device.{Idle}
use Rattle.mips_table.specs.Code.{put, Contents, Behind, World, Sound, at_with, Steps, CodeAt, RunLaws}
use Rattle.mips_table.proofs.PutsChangeOneWord.{put_same, put_other}
use Rattle.masm.specs.Says.{Gives, Writes}
use Rattle.masm.specs.Laws.{RunsCompose, StraightRuns, JumpsLead}
use Rattle.c0_runtime.proofs.RoutineSteps.{rests, one_step}

-- so many words from x on are 0, and all else but register 3 is as before
pub record IsCleared (x size : ℕ) (c c' : Contents) : Type 0 where
  pub zeros : (k : ℕ) → k < size → c'.memory (x + k) ≡ 0
  pub others : (k : ℕ) → (k < x) ⊎ (x + size ≤ k) → c'.memory k ≡ c.memory k
  pub regs : (r : ℕ) → r ≢ 3 → c'.regs r ≡ c.regs r
  pub hi : c'.hi ≡ c.hi
  pub lo : c'.lo ≡ c.lo
  pub special : c'.special ≡ c.special

-- one word is cleared, and the branch follows
abbrev pub loop_words : List Inst
loop_words = Sw 0 3 0 ∷ Addiu 3 3 4 ∷ Bne 3 5 65533 ∷ []

-- register 3 has the first word's address, register 5 that behind the last, and the words may be written
pub record MayClear (w : World) (x size : ℕ) (c : Contents) : Type 0 where
  pub first : c.regs 3 ≡ 4 * x
  pub last : c.regs 5 ≡ 4 * (x + size)
  pub inside : x + size ≤ w.words
  pub free : (k : ℕ) → k < size → w.kept (x + k) ≡ None

-- the contents after one word
abbrev turned : ℕ → Contents → Contents
turned x c = record c { regs = put c.regs 3 (4 * (x + 1)); memory = put c.memory x 0 }

cleared_one : (x : ℕ) (c : Contents) → IsCleared x 1 c (turned x c)
cleared_one x c = record {
  zeros = λ k lt. put_same c.memory x 0 (x + k) (omega arith);
  others = λ k o. put_other c.memory x 0 k (λ e. ⊎_elim (λ h. absurd (omega (arith, e, h))) (λ h. absurd (omega (arith, e, h))) o);
  regs = λ r ne. put_other c.regs 3 _ r ne;
  hi = refl;
  lo = refl;
  special = refl;
}

-- one word, and the others behind it
cleared_more : (x size : ℕ) (c c1 c' : Contents) → IsCleared x 1 c c1 → IsCleared (x + 1) size c1 c' → IsCleared x (suc size) c c'
cleared_more x size c c1 c' a b = record {
  zeros = zeros;
  others = λ k o. ⊎_elim
      (λ h. b.others k (inl (omega (arith, h))) ∙ a.others k (inl h))
      (λ h. b.others k (inr (omega (arith, h))) ∙ a.others k (inr (omega (arith, h))))
      o;
  regs = λ r ne. b.regs r ne ∙ a.regs r ne;
  hi = b.hi ∙ a.hi;
  lo = b.lo ∙ a.lo;
  special = b.special ∙ a.special;
}
  where
    zeros : (k : ℕ) → k < suc size → c'.memory (x + k) ≡ 0
    zeros zero lt = b.others (x + 0) (inl (omega arith)) ∙ a.zeros 0 (omega arith)
    zeros (suc k) lt = let e : x + suc k ≡ x + 1 + k = omega arith in ap c'.memory e ∙ b.zeros k (omega (arith, lt))

module _ (w : World) (f : Sound w) (joins : RunLaws) (runs : RunsCompose) (straight : StraightRuns w) (jumps : JumpsLead w) where
  -- one turn's straight part
  turn : (n x size : ℕ) (c : Contents) (d : Behind) → CodeAt w n loop_words → d.pending ≡ Idle → MayClear w x (suc size) c → Steps w 2
      (at_with n c d) (at_with (n + 1 + 1) (turned x c) d)
  turn n x size c d at idle may =
      let small = f.small in let first = may.first in let inside = may.inside in
      let c1 : Contents = record c { memory = put c.memory x 0 } in
      joins.joined w 1 1 (at_with n c d) (at_with (n + 1) c1 d) (at_with (n + 1 + 1) (turned x c) d)
      (one_step w runs n (n + 1) c d c1 d (λ e. absurd (omega (arith, e)))
      (straight.next (Sw 0 3 0) (Writes x 0) n c d at.0 refl idle (omega arith, omega arith, free, refl)))
      (one_step w runs (n + 1) (n + 1 + 1) c1 d (turned x c) d (λ e. absurd (omega (arith, e)))
      (straight.next (Addiu 3 3 4) (Gives (4 * (x + 1))) (n + 1) c1 d at.1.0 refl idle (omega arith)))
    where
      free : w.kept x ≡ None
      free = let e : x ≡ x + 0 = omega arith in ap w.kept e ∙ may.free 0 (omega arith)

  pub clears : (left n x : ℕ) (c : Contents) (d : Behind) → CodeAt w n loop_words → d.pending ≡ Idle → MayClear w x (suc left) c →
      (c' : Contents) × IsCleared x (suc left) c c' × Steps w (3 * suc left) (at_with n c d) (at_with (n + 3) c' d)
  clears zero n x c d at idle may =
      let last = may.last in
      let same : 4 * (x + 1) ≡ c.regs 5 = omega (arith, last) in
      let first = turn n x 0 c d at idle may in
      let out = rests w runs (at_with (n + 1 + 1) (turned x c) d) _ (n + 3) (turned x c) d idle (omega arith)
      (jumps.passed (Bne 3 5 65533) (n + 1 + 1) 65533 (not (4 * (x + 1) == c.regs 5)) (turned x c) d at.1.1.0 refl
      (ap not (eq-eqb (4 * (x + 1)) (c.regs 5) same))) in (
        turned x c,
        cleared_one x c,
        joins.joined w 2 1 (at_with n c d) (at_with (n + 1 + 1) (turned x c) d) (at_with (n + 3) (turned x c) d) first
            (one_step w runs (n + 1 + 1) (n + 3) (turned x c) d (turned x c) d (λ e. absurd (omega (arith, e))) out),
      )
  clears (suc left) n x c d at idle may =
      let last = may.last in let inside = may.inside in
      let first = turn n x (suc left) c d at idle may in
      let back = rests w runs (at_with (n + 1 + 1) (turned x c) d) _ n (turned x c) d idle refl
      (jumps.taken_back (Bne 3 5 65533) (n + 1 + 1) n 3 (not (4 * (x + 1) == c.regs 5)) (turned x c) d at.1.1.0 refl
      (ap not (ne_eqb (4 * (x + 1)) (c.regs 5) (λ e. absurd (omega (arith, e, last))))) (omega arith) (omega arith) (omega arith)) in
      let rest = clears left n (x + 1) (turned x c) d at idle
      (record {
        first = refl;
        last = last ∙ omega arith;
        inside = omega
            (arith, inside);
        free = λ k lt. let e : x + 1 + k ≡ x + suc k = omega arith in ap w.kept e ∙ may.free (suc k) (omega (arith, lt));
      }) in
      let one = joins.joined w 2 1 (at_with n c d) (at_with (n + 1 + 1) (turned x c) d) (at_with n (turned x c) d) first
      (one_step w runs (n + 1 + 1) n (turned x c) d (turned x c) d (λ e. absurd (omega (arith, e))) back) in
      let count : 3 + 3 * suc left ≡ 3 * suc (suc left) = omega arith in (
        rest.0,
        cleared_more x (suc left) c (turned x c) rest.0 (cleared_one x c) rest.1,
        subst
            (λ k. Steps w k (at_with n c d) (at_with (n + 3) rest.0 d)) count
            (joins.joined w 3 (3 * suc left) (at_with n c d) (at_with n (turned x c) d) (at_with (n + 3) rest.0 d) one rest.2),
      )
