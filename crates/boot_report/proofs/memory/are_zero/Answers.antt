use Rattle.std.proofs.Common.{◌≡◌, ◌≤◌, arith, ap₂}
use Rattle.std.specs.Prelude.{slice_index, bit_or}
use Rattle.std.proofs.lemmas.Bool.{eqb-true, eq-eqb}
use Rattle.std.proofs.lemmas.Nat.{le_or_l, le_or_r}
use borrow.Author.Count.{below_more}
use Rattle.boot_report.proofs.memory.are_zero.Goals as goal

pub loop-i-preserved : goal.loop-i-preserved
loop-i-preserved c =
    let word = slice_index c.args.words.now c.loop-i.i in
    record {
      most = below_more (λ k. slice_index c.args.words.now k ≤ bit_or c.loop-i.seen word) c.loop-i.i
          (λ k l. let le = c.loop-i.invariant.most k l in omega (arith, le, le_or_l c.loop-i.seen word)) (le_or_r c.loop-i.seen word);
      zero = λ h.
          let before : c.loop-i.seen ≡ 0 = c.loop-i.invariant.zero (λ k l. h k (omega (arith, l))) in
          let here : word ≡ 0 = h c.loop-i.i (omega arith) in
          ap₂ bit_or before here;
    }

pub returns : goal.returns
returns c = (
  (λ e i l.
      let none : c.loop-i.seen ≡ 0 = eqb-true c.loop-i.seen 0 e in
      let most = c.loop-i.invariant.most i (omega (arith, l, c.loop-i-test.false)) in
      omega (arith, none, most)),
  (λ h. eq-eqb c.loop-i.seen 0 (c.loop-i.invariant.zero (λ k l. let le = c.loop-i.auto.i-end in h k (omega (arith, l, le))))),
)
