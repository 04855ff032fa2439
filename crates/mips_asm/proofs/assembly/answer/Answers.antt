-- The passes give what the definition says of the text.
use Rattle.std.proofs.Common.{◌≡◌, [], Some, None, Ok, rules, ap, sym, ◌∙◌, false}
use mathlib.Core.Path.{fun_ext}
use Rattle.mips_asm.specs.Text.{asm_lines}
use Rattle.mips_asm.specs.Assembled.{assembled, fault_or, words_of_lines}
use Rattle.mips_asm.specs.Passes.{fault_from, line_words_from}
use Rattle.mips_asm.proofs.PassesCount.{first_fault_is, words_are}
use Rattle.mips_asm.proofs.assembly.answer.Goals as goal

pub returns-in-Some : goal.returns-in-Some
unfolding assembled
returns-in-Some c =
    let lines = asm_lines c.args.text.now in
    let found : c.in_ok-fault.field-0 ≡ Some c.in-Some.fault = search rules in
    let same = fun_ext c.in_ok-positions.ensures.positions in
    let first = first_fault_is lines [] lines ∙ sym (ap (λ p. fault_from p (λ q. false) 0 1 0 lines) same) ∙ sym c.in_ok-fault.ensures ∙ found in
    ap (λ o. fault_or o (words_of_lines lines [] lines)) first

pub returns : goal.returns
unfolding assembled
returns c =
    let lines = asm_lines c.args.text.now in
    let none : c.in_ok-fault.field-0 ≡ None = search rules in
    let same = fun_ext c.in_ok-positions.ensures.positions in
    let first = first_fault_is lines [] lines ∙ sym (ap (λ p. fault_from p (λ q. false) 0 1 0 lines) same) ∙ sym c.in_ok-fault.ensures ∙ none in
    let all = words_are lines [] lines ∙ sym (ap (λ p. line_words_from p 0 lines) same) ∙ sym c.in_ok-words-in-None.ensures in
    ap (λ o. fault_or o (words_of_lines lines [] lines)) first ∙ ap Ok all
