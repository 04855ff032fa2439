-- The words so far and those of the lines that are left are the words of the text.
use Rattle.std.proofs.Common.{◌≡◌, ◌<◌, ◌++◌, ◌^◌, length}
use Rattle.mips_asm.specs.Text.{asm_lines}
use Rattle.mips_asm.specs.Passes.{label_of, line_words_from}
use Rattle.mips_asm.proofs.pass.words.Given as goal

abbrev pub invariant-loop-words : goal.invariant-loop-words
invariant-loop-words l =
    (l.words.items ++ line_words_from (label_of l.positions) l.at (asm_lines l.here) ≡ line_words_from (label_of l.positions) 0 (asm_lines l.text)) × (l.at < 2 ^ 62)

abbrev pub decreases-loop-words : goal.decreases-loop-words
decreases-loop-words l = length l.here
