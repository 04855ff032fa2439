-- The line's own fault comes first, and without one the fault of the lines after it.
use Rattle.std.proofs.Common.{◌≡◌, ◌+◌, ℕ, List, [], ◌∷◌, length, IfSome, ap, sym, ◌∙◌, subst, arith}
use Rattle.std.specs.Prelude.{is_some}
use Rattle.std.specs.Option.{option_map_or}
use Rattle.mips_asm.specs.Text.{asm_lines}
use Rattle.mips_asm.specs.Line.{width}
use Rattle.mips_asm.specs.Passes.{label_of, fault_from}
use Rattle.mips_asm.proofs.FirstLineFault.{found_some, none_there, next_line}
use Rattle.mips_asm.proofs.pass.first_fault.Goals as goal

pub returns-then-is_some : goal.returns-then-is_some
returns-then-is_some c =
    let position = label_of c.args.positions.now in
    let seen = λ (q : List ℕ). is_some (label_of c.loop-seen.seen q) in
    found_some position seen c.loop-seen.start c.loop-seen.number c.loop-seen.at c.cut.result.0.now _ c.in_ok-fault.fault c.in_ok-fault.ensures.fault (sym c.is_some.ensures ∙ c.if-is_some.true)
    ∙ sym (ap (fault_from position seen c.loop-seen.start c.loop-seen.number c.loop-seen.at) c.cut.ensures.split) ∙ c.loop-seen.invariant.0

pub returns-in_default : goal.returns-in_default
returns-in_default c =
    let position = label_of c.args.positions.now in
    let seen = λ (q : List ℕ). is_some (label_of c.loop-seen.seen q) in
    let lines = c.cut.ensures.split ∙ ap (λ r. c.cut.result.0.now ∷ option_map_or (λ t. asm_lines t.now) r []) c.in_default.is in
    let far = c.in_ok-at.ensures.value ∙ ap (λ n. c.loop-seen.at + n) (c.width.ensures ∙ ap width c.read_line.ensures) in
    c.too_long.ensures
    ∙ next_line position seen (λ q. is_some (label_of c.fault_of_line.new.seen q)) c.loop-seen.start c.loop-seen.number c.loop-seen.at c.in_ok-at.at c.cut.result.0.now [] c.in_ok-fault.fault
    c.in_ok-fault.ensures.fault (none_there c.in_ok-fault.fault (sym c.is_some.ensures ∙ c.if-is_some.false)) c.in_ok-fault.ensures.seen far
    ∙ sym (ap (fault_from position seen c.loop-seen.start c.loop-seen.number c.loop-seen.at) lines) ∙ c.loop-seen.invariant.0

pub loop-seen-preserved : goal.loop-seen-preserved
loop-seen-preserved c =
    let position = label_of c.args.positions.now in
    let seen = λ (q : List ℕ). is_some (label_of c.loop-seen.seen q) in
    let lines = c.cut.ensures.split ∙ ap (λ r. c.cut.result.0.now ∷ option_map_or (λ t. asm_lines t.now) r []) c.in-Some.is in
    let far = c.in_ok-at.ensures.value ∙ ap (λ n. c.loop-seen.at + n) (c.width.ensures ∙ ap width c.read_line.ensures) in
    let parts = subst (λ o. IfSome o (λ rest. length c.cut.result.0.now + 1 + length rest.now ≡ length c.loop-seen.here.now)) c.in-Some.is c.cut.ensures.parts in (
      next_line position seen (λ q. is_some (label_of c.fault_of_line.new.seen q)) c.loop-seen.start c.loop-seen.number c.loop-seen.at c.in_ok-at.at c.cut.result.0.now (asm_lines c.in-Some.after.now)
          c.in_ok-fault.fault c.in_ok-fault.ensures.fault (none_there c.in_ok-fault.fault (sym c.is_some.ensures ∙ c.if-is_some.false)) c.in_ok-fault.ensures.seen far
          ∙ sym (ap (fault_from position seen c.loop-seen.start c.loop-seen.number c.loop-seen.at) lines) ∙ c.loop-seen.invariant.0,
      c.in_ok-at.ensures.near,
      omega (arith, parts, c.loop-seen.invariant.2),
      omega (arith, c.loop-seen.invariant.3),
    )
