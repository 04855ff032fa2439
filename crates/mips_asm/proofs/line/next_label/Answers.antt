-- A name before a colon is the first label, and the labels after it are those of the rest.
use Rattle.std.proofs.Common.{◌∷◌, [], sym, ap, ◌∙◌}
use Rattle.std.specs.Option.{option_map_or}
use Rattle.mips_asm.specs.Text.{colon_parts}
use Rattle.mips_asm.proofs.LabelsAtStart.{labels_next}
use Rattle.mips_asm.proofs.line.next_label.Goals as goal

pub returns-then-is_name-clause-labels : goal.returns-then-is_name-clause-labels
returns-then-is_name-clause-labels c =
    (labels_next c.cut.result.0.now c.trim_start-label.result.now c.args.text.now c.in_ok-rest.rest.now
    (c.cut.ensures.split ∙ ap (λ r. c.cut.result.0.now ∷ option_map_or (λ t. colon_parts t.now) r []) c.in_ok-rest.was)
    c.trim_start-label.ensures (sym c.is_name.ensures ∙ c.if-is_name.true)).0

pub returns-then-is_name-clause-after : goal.returns-then-is_name-clause-after
returns-then-is_name-clause-after c =
    (labels_next c.cut.result.0.now c.trim_start-label.result.now c.args.text.now c.in_ok-rest.rest.now
    (c.cut.ensures.split ∙ ap (λ r. c.cut.result.0.now ∷ option_map_or (λ t. colon_parts t.now) r []) c.in_ok-rest.was)
    c.trim_start-label.ensures (sym c.is_name.ensures ∙ c.if-is_name.true)).1
