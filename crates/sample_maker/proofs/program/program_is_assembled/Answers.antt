use Rattle.std.proofs.Common.{refl}
use Rattle.mips_asm.specs.Assembled.{assembled}
use Rattle.mips_asm.specs.Form.{forms, form_of}
use Rattle.mips_asm.specs.Line.{line_meaning, statement}
use Rattle.sample_maker.specs.Program.{program_text}
use Rattle.sample_maker.proofs.program.program_is_assembled.Goals as goal

-- the program is a plain text, so its words are computed
pub returns : goal.returns
unfolding assembled line_meaning statement form_of forms program_text
returns c = refl
