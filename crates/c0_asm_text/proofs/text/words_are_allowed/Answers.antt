-- Line by line.
use Rattle.mips_asm.specs.Text.{asm_lines}
use Rattle.c0_asm_text.proofs.LinesAllowed.{words_allowed}
use Rattle.c0_asm_text.proofs.text.words_are_allowed.Goals as goal

pub returns : goal.returns
returns c = λ text. words_allowed (asm_lines text)
