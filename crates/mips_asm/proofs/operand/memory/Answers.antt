-- Both parts are read.
use Rattle.std.proofs.Common.{rules, SFits, sym, ◌∙◌, ap, Some, drop, take}
use Rattle.std.specs.Prelude.{option_map}
use Rattle.std.specs.Int.{w64}
use Rattle.std.proofs.lemmas.Int.{to_z-of_z}
use Rattle.mips_asm.specs.Operand.{register, in_parentheses, with_base}
use Rattle.mips_asm.specs.Number.{number_value}
use Rattle.mips_asm.specs.Text.{trim}
use Rattle.mips_asm.specs.View.{text_view}
use Rattle.mips_asm.proofs.TextCuts.{take_rest_of}
use Rattle.mips_asm.proofs.FieldReadings.{memory_reading}
use Rattle.mips_asm.proofs.operand.memory.Goals as goal

pub returns : goal.returns
returns c =
    let text = c.args.text.now in
    let len = c.len_before-len.ensures.value in
    let offset = sym (ap (λ n. number_value (trim (take n text))) len) ∙ sym (ap number_value c.trim.ensures) ∙ sym c.number.ensures ∙ c.in_ok-offset.was in
    let part = ap in_parentheses (sym (ap (λ n. drop n text) len) ∙ sym (take_rest_of c.len_before-len.result text))
    ∙ sym c.inside.ensures ∙ ap (option_map text_view) c.in_ok-inside.was in
    let base = sym (ap register c.trim-2.ensures) ∙ sym c.numbered.ensures.value ∙ c.in_ok-base.was in
    let fits : SFits w64 c.in_ok-offset.offset = search rules in
    c.with_base.ensures ∙ ap (λ z. with_base (Some z) (Some c.in_ok-base.base)) (to_z-of_z w64 c.in_ok-offset.offset fits)
    ∙ memory_reading text c.in_ok-offset.offset c.in_ok-base.base _ offset part base
