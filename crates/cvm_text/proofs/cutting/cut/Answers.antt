-- The first part ends at the first byte to cut at, and a text without one is one part.
use Rattle.std.proofs.Common.{◌≡◌, ◌==◌, ◌+◌, false, ◌∷◌, take, sym, ap, ◌∙◌, take_all, eq-eqb, ne_eqb}
use Rattle.std.specs.List.{slice_split}
use Rattle.std.proofs.lemmas.List.Elements.{All-more}
use Rattle.std.proofs.lemmas.List.Splits.{slice_split_none}
use Rattle.cvm_text.proofs.FirstByteCuts.{slice_split_read, take_rest_of}
use Rattle.cvm_text.proofs.cutting.cut.Goals as goal

pub returns-then-c-at-clause-split : goal.returns-then-c-at-clause-split
returns-then-c-at-clause-split c =
    let at = c.args.at in
    slice_split_read (λ x. x == at) c.args.text.now c.loop-index.index c.loop-index-test.true (eq-eqb _ _ c.if-c-at.true) c.loop-index.invariant
    ∙ ap (λ t. take c.loop-index.index c.args.text.now ∷ slice_split (λ x. x == at) t) (sym (take_rest_of (c.loop-index.index + 1) c.args.text.now))

pub loop-index-preserved : goal.loop-index-preserved
loop-index-preserved c = All-more (λ x. (x == c.args.at) ≡ false) c.args.text.now c.loop-index.index 0 c.loop-index-test.true c.loop-index.invariant (ne_eqb _ _ c.if-c-at.false)

pub returns-clause-split : goal.returns-clause-split
returns-clause-split c = slice_split_none _ _ (rw (take_all _ _ c.loop-index-test.false) at c.loop-index.invariant)
