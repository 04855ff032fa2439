-- What is kept behind the rows of words that were copied is what the primitive's entries leave.
use Rattle.std.proofs.Common.{◌≡◌, ℕ, List, [], ap, subst, arith}
use Rattle.cvm_outside.specs.Script.{done}
use Rattle.cvm_outside.proofs.RowsPut.{same_script}
use Rattle.layer_map.specs.declared.params.Params.{Params}
use Rattle.boot_turns.specs.RowScripts.{ended_script}
use Rattle.boot_turns.proofs.RowsAreScripts.{ended_copy, ended_far, ended_refused, ended_other}
use Rattle.boot_turns.proofs.tracer.Tracer.end_copy.Goals.{then-answer-ne1-via-then-answer-ne1, then-answer-ne1-via-else-answer-ne1+then-user-self, then-answer-ne1-via-else-answer-ne1+else-user-self+then-first-most, then-answer-ne1-via-else-answer-ne1+else-user-self+else-first-most+then-count-most}
use Rattle.std.specs.Prelude.{OnOk}
use Rattle.mips_machine.specs.Machine.{state_of}
use Rattle.boot_turns.specs.declared.tracer.Tracer.{Tracer}
use Rattle.boot_turns.proofs.StepRowsArePut.{copied_then}
use Rattle.boot_turns.proofs.tracer.Tracer.end_copy.Goals as goal

pub returns-clause-behind : goal.returns-clause-behind
returns-clause-behind g c = λ ss words e told placed.
    subst (λ (t : Tracer). OnOk c.put_words.result (c.put_words.new.self ≡ t))
    (copied_then c.args.map.now (state_of c.args.machine.now ss) c.args.self.now c.args.answer c.args.call.now words c.if-answer-ne1.false c.if-user-self.false c.requires.copy told placed)
    c.put_words.ensures.behind

-- nothing is printed where it gave another answer, copied to another user, or past a user's memory
pub returns-then-answer-ne1-clause-script : goal.returns-then-answer-ne1-clause-script
returns-then-answer-ne1-clause-script g c pages are shelf =
    let most : c.params-most.result.pages ≡ c.args.map.now.params.pages = ap (λ (p : Params). p.pages) c.params-most.ensures.value in
    let none : [] ≡ ended_script c.args.map.now (state_of c.args.machine.now []) pages c.args.self.now.user c.args.self.now.steps c.args.call.now c.args.answer = elim c.then-answer-ne1.branch [
      | then-answer-ne1-via-then-answer-ne1 w ↦ ended_refused c.args.map.now (state_of c.args.machine.now []) pages c.args.self.now.user c.args.self.now.steps c.args.answer c.args.call.now w.if-answer-ne1.true
      | then-answer-ne1-via-else-answer-ne1+then-user-self w ↦ ended_other c.args.map.now (state_of c.args.machine.now []) pages c.args.self.now.user c.args.self.now.steps c.args.answer c.args.call.now c.requires.copy w.if-user-self.true
      | then-answer-ne1-via-else-answer-ne1+else-user-self+then-first-most w ↦ (
          let far = w.if-first-most.true in
          ended_far c.args.map.now (state_of c.args.machine.now []) pages c.args.self.now.user c.args.self.now.steps c.args.answer c.args.call.now c.requires.copy w.if-answer-ne1.false w.if-user-self.false (omega (arith, far, most))
          )
      | then-answer-ne1-via-else-answer-ne1+else-user-self+else-first-most+then-count-most w ↦ (
          let near = w.if-first-most.false in
          let many = w.if-count-most.true in
          ended_far c.args.map.now (state_of c.args.machine.now []) pages c.args.self.now.user c.args.self.now.steps c.args.answer c.args.call.now c.requires.copy w.if-answer-ne1.false w.if-user-self.false (omega (arith, near, many, most))
          )
    ] in
    same_script [] _ _ _ _ none (done _)

pub returns-clause-script : goal.returns-clause-script
returns-clause-script g c pages are shelf =
    let most : c.params-most.result.pages ≡ c.args.map.now.params.pages = ap (λ (p : Params). p.pages) c.params-most.ensures.value in
    let near = c.if-first-most.false in
    let few = c.if-count-most.false in
    same_script _ _ _ _ _ (ended_copy c.args.map.now (state_of c.args.machine.now []) pages c.args.self.now.user c.args.self.now.steps c.args.answer c.args.call.now c.requires.copy c.if-answer-ne1.false c.if-user-self.false (omega (arith, near, few, most))) (c.put_words.ensures.script pages are shelf)
