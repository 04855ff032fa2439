-- Which of the reset, an external interrupt and the instruction comes, said of the state that callers see.
use Rattle.std.proofs.Common.{◌≡◌, ℕ, sym, ap, ◌∙◌, subst}
use Rattle.mips_table.specs.declared.cause.Cause.TheVariants as causes
use Rattle.mips_table.specs.Machine.{Coming, Interrupt, come_to}
use Rattle.mips_step.specs.View.{cpu_of}
use Rattle.mips_machine.specs.Hardware.{Hardware, state_in, instructed, chosen, IsOfComing}
use Rattle.mips_machine.specs.Steps.{outside_of}
use Rattle.mips_machine.proofs.ComingInterrupt.{chosen_reset, chosen_external, chosen_with_sr_0, chosen_without_lines}
use Rattle.mips_machine.proofs.BoardSteps.{hardware_of}
use Rattle.mips_machine.proofs.hardware.Hardware.act.Goals as goal
use Rattle.mips_machine.proofs.hardware.Hardware.act.Goals.{else-special-eq1-via-then-special-eq1+else-self-ne0, else-special-eq1-via-else-special-eq1}

pub returns-then-self-clause-comes : goal.returns-then-self-clause-comes
returns-then-self-clause-comes c time sectors =
    let i = c.self.inside in
    let h : Hardware = hardware_of (cpu_of i.cpu) i.board i.mask i.reset i.off in
    let x = outside_of c.args.schedule.now c.args.count in
    let new = c.interrupt.new.self in
    let P : Hardware → Type 0 = λ v. IsOfComing (chosen x (state_in v time sectors)) (state_in new time sectors) c.interrupt.result in
    let Q : Coming → Type 0 = λ v. IsOfComing v (state_in new time sectors) c.interrupt.result in
    subst P c.self.view_is (subst Q (sym (chosen_reset x (state_in h time sectors) c.if-self.true)) (record { state = ap (λ (v : Hardware). state_in v time sectors) c.interrupt.ensures.hardware; event = c.interrupt.ensures.event }))

pub returns-then-self-ne0-clause-comes : goal.returns-then-self-ne0-clause-comes
returns-then-self-ne0-clause-comes c time sectors =
    let i = c.self.inside in
    let h : Hardware = hardware_of (cpu_of i.cpu) i.board i.mask i.reset i.off in
    let x = outside_of c.args.schedule.now c.args.count in
    let r = c.interrupt-then-self-ne0 in
    let P : Hardware → Type 0 = λ v. IsOfComing (chosen x (state_in v time sectors)) (state_in r.new.self time sectors) r.result in
    let Q : Coming → Type 0 = λ v. IsOfComing v (state_in r.new.self time sectors) r.result in
    let E : ℕ → Type 0 = λ m. state_in r.new.self time sectors ≡ come_to (Interrupt (state_in h time sectors) causes.External m i.cpu.pc) in
    subst P c.self.view_is
    (subst Q (sym (chosen_external x (state_in h time sectors) c.if-self.false (sym c.special.ensures ∙ c.if-special-eq1.true) c.if-self-ne0.true))
    (record { state = subst E c.from-mask.ensures (ap (λ (v : Hardware). state_in v time sectors) r.ensures.hardware); event = r.ensures.event }))

pub returns-clause-comes : goal.returns-clause-comes
returns-clause-comes c time sectors =
    let i = c.self.inside in
    let h : Hardware = hardware_of (cpu_of i.cpu) i.board i.mask i.reset i.off in
    let x = outside_of c.args.schedule.now c.args.count in
    let same : chosen x (state_in h time sectors) ≡ instructed x (state_in h time sectors) =
    elim c.else-special-eq1.branch [
      | else-special-eq1-via-then-special-eq1+else-self-ne0 w ↦ chosen_without_lines x (state_in h time sectors) c.if-self.false w.if-self-ne0.false
      | else-special-eq1-via-else-special-eq1 w ↦ chosen_with_sr_0 x (state_in h time sectors) c.if-self.false (λ e. w.if-special-eq1.false (c.special.ensures ∙ e))
    ] in
    let here : chosen x (state_in c.args.self.now time sectors) ≡ instructed x (state_in c.args.self.now time sectors) =
    let P : Hardware → Type 0 = λ v. chosen x (state_in v time sectors) ≡ instructed x (state_in v time sectors) in subst P c.self.view_is same in
    let Q : Coming → Type 0 = λ v. IsOfComing v (state_in c.execute.new.self time sectors) c.execute.result in
    subst Q (sym here) (c.execute.ensures.comes time sectors)
