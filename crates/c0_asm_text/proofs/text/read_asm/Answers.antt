use Rattle.std.proofs.Common.{rules, ◌≡◌, ◌≤◌, length, Option, ℕ, true, List, subst, sym}
use Rattle.std.specs.Option.{IfSome}
use Rattle.mips_asm.specs.Text.{asm_lines}
use Rattle.c0_meaning.specs.Asm.{are_allowed_words}
use Rattle.c0_asm_text.specs.AsmText.{line_words, text_words}
use Rattle.c0_asm_text.specs.View.{allowed_line_view}
use Rattle.c0_asm_text.proofs.LinesAllowed.{words_allowed, within_step}
use Rattle.c0_asm_text.proofs.text.read_asm.Goals as goal

pub returns-in_default-clause-within : goal.returns-in_default-clause-within
returns-in_default-clause-within c =
    let bad = c.in_ok-add.ensures.bad in
    let said : allowed_line_view c.in_ok-read_line.field-0 ≡ line_words c.cut.result.0.now = search rules in
    subst (λ (o : Option ℕ). IfSome o (λ n. n ≤ length c.args.text.now)) (sym bad)
    (within_step c.loop-reading.reading.bad_line c.loop-reading.number (length c.loop-reading.here.now) (length c.args.text.now) c.cut.result.0.now (allowed_line_view c.in_ok-read_line.field-0)
    said c.cut.ensures.within c.loop-reading.invariant.near c.loop-reading.invariant.within)

pub returns-in_default-clause-allowed : goal.returns-in_default-clause-allowed
returns-in_default-clause-allowed c = let w : c.add.new.reading.words.items ≡ text_words c.args.text.now = search rules in subst (λ (ws : List ℕ). are_allowed_words ws ≡ true) (sym w) (words_allowed (asm_lines c.args.text.now))
