-- A label that is not set yet is set, and was not set before.
use Rattle.std.proofs.Common.{◌≡◌, ℕ, List, true, cond, Some, None, sym, ap, ◌∙◌, bytes_eq}
use Rattle.std.specs.Prelude.{is_some}
use Rattle.std.specs.Option.{option_or}
use Rattle.std.specs.Cmp.Lexicographic.{bytes_decides}
use Rattle.std.proofs.lemmas.Map.Text.{hash_map_updates_str}
use Rattle.mips_asm.specs.Text.{colon_parts, labels_in}
use Rattle.mips_asm.specs.Assembled.{has}
use Rattle.mips_asm.specs.Passes.{label_of}
use Rattle.mips_asm.proofs.LabelsSet.{set_step, some_put, twice_new}
use Rattle.mips_asm.proofs.pass.set_labels.Goals as goal

pub loop-label-preserved : goal.loop-label-preserved
loop-label-preserved c =
    let label = c.in-Some.label.now in
    let seen = λ (q : List ℕ). is_some (label_of c.loop-label.positions q) in
    let put = λ (q : List ℕ). hash_map_updates_str label c.loop-label.positions c.insert.new.self (Some c.args.at) c.in-Ok.ensures.updates q in
    let fresh : label_of c.loop-label.positions label ≡ None = sym c.in-None.ensures.value in
    let none = λ (q : List ℕ) (t : bytes_eq label q ≡ true). ap (label_of c.loop-label.positions) (sym ((bytes_decides label q).0 t)) ∙ fresh in (
      λ q. set_step (label_of c.loop-label.positions q) (label_of c.insert.new.self q) (bytes_eq label q) (has (labels_in (colon_parts c.in-Some.after.now)) q) c.args.at (put q) (none q)
          ∙ ap (λ l. option_or (label_of c.loop-label.positions q) (cond (has l q) (Some c.args.at) None)) (sym c.in-Some.ensures.labels) ∙ c.loop-label.invariant.0 q,
      twice_new c.loop-label.twice seen _ label (labels_in (colon_parts c.in-Some.after.now)) (labels_in (colon_parts c.loop-label.rest.now))
          (λ q. some_put (label_of c.loop-label.positions q) (label_of c.insert.new.self q) (bytes_eq label q) c.args.at (put q)) (ap is_some fresh) c.in-Some.ensures.labels
          ∙ c.loop-label.invariant.1,
    )
