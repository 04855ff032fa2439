-- A colon that is left makes the statement unknown or gives it a bad operand.
use Rattle.std.proofs.Common.{◌∷◌, [], sym, ap, ◌∙◌}
use Rattle.std.specs.Option.{option_map_or}
use Rattle.mips_asm.specs.Text.{colon_parts}
use Rattle.mips_asm.proofs.LabelsAtStart.{colon_left_of}
use Rattle.mips_asm.proofs.line.of_content.Goals as goal

pub returns-in-Some : goal.returns-in-Some
returns-in-Some c =
    c.after_colon.ensures
    ∙ sym (colon_left_of c.cut.result.0.now c.args.text.now c.in-Some.field-0.now
    (c.cut.ensures.split ∙ ap (λ r. c.cut.result.0.now ∷ option_map_or (λ t. colon_parts t.now) r []) c.in-Some.is))
