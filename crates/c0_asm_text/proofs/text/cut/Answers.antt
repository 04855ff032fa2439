use Rattle.std.proofs.Common.{◌==◌, ◌+◌, ◌∷◌, List, ℕ, take, sym, ap, ◌∙◌}
use Rattle.std.proofs.lemmas.List.{take_rest}
use Rattle.mips_asm.specs.Text.{asm_lines}
use Rattle.c0_asm_text.proofs.FirstLines.{first_part, only_part}
use Rattle.c0_asm_text.proofs.text.cut.Goals as goal

pub returns-then-len-text-clause-lines : goal.returns-then-len-text-clause-lines
returns-then-len-text-clause-lines c =
    first_part (λ x. x == 10) c.args.text.now c.len_before-len.result c.len_before-len.ensures.value c.if-len-text.true
    ∙ ap (λ (t : List ℕ). take c.len_before-len.result c.args.text.now ∷ asm_lines t) (sym (take_rest c.args.text.now (c.len_before-len.result + 1)))

pub returns-else-len-text-clause-lines : goal.returns-else-len-text-clause-lines
returns-else-len-text-clause-lines c = only_part (λ x. x == 10) c.args.text.now c.len_before-len.result c.len_before-len.ensures.value c.if-len-text.false
