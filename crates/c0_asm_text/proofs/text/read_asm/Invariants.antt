use Rattle.std.proofs.Common.{◌≡◌, ◌+◌, ◌++◌, ◌≤◌, length}
use Rattle.std.specs.Option.{option_or, IfSome}
use Rattle.mips_asm.specs.Text.{asm_lines}
use Rattle.c0_asm_text.specs.AsmText.{allowed_words, first_bad, text_words, bad_line}
use Rattle.c0_asm_text.proofs.text.read_asm.Given as goal

abbrev pub decreases-loop-reading : goal.decreases-loop-reading
decreases-loop-reading l = length l.here

abbrev pub invariant-loop-reading : goal.invariant-loop-reading
invariant-loop-reading l = record {
  words : l.reading.words.items ++ allowed_words (asm_lines l.here) ≡ text_words l.text;
  bad : option_or l.reading.bad_line (first_bad l.number (asm_lines l.here)) ≡ bad_line l.text;
  near : l.number + length l.here ≤ length l.text + 1;
  within : IfSome l.reading.bad_line (λ n. n ≤ length l.text);
}
