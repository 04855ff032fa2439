-- What is kept behind a step, and its script, by its branch: a turn of the user, a turn of another, a primitive that returned, or nothing.
use Rattle.std.proofs.Common.{◌≡◌, ℕ, List, [], Bool, true, false, Option, Some, None, refl, sym, ap, ◌∙◌, subst}
use Rattle.std.specs.Prelude.{IsSome}
use Rattle.cvm_outside.proofs.RowsPut.{same_script}
use Rattle.cvm_outside.specs.Outside.{output, drive}
use Rattle.cvm_outside.specs.Script.{done}
use Rattle.cvm_model.specs.Text.{journal_rows_after}
use Rattle.boot_turns.proofs.RowsAreScripts.{prints_made, followed_turn, followed_foreign, followed_none, followed_return}
use Rattle.mips_table.specs.Machine.{State}
use Rattle.mips_machine.specs.Machine.{Held, state_of}
use Rattle.boot_turns.specs.declared.tracer.Entered.{Entered}
use Rattle.boot_turns.specs.declared.tracer.Tracer.{Tracer}
use Rattle.boot_turns.specs.declared.completion.Begun.{Begun}
use Rattle.boot_turns.specs.Completes.{noted_of}
use Rattle.boot_turns.specs.Entries.{turn_begins, HasRows}
use Rattle.boot_turns.specs.Returns.{notes_on, returned}
use Rattle.std.proofs.lemmas.Result.{err_from_is_err_and}
use Rattle.boot_turns.proofs.StepRowsArePut.{own_turn, other_turn, none_returned, kept_then, call_kept}
use Rattle.boot_turns.proofs.tracer.Tracer.follow.Goals.{then-began+then-current-self+else-prove+in_ok-begin, then-began+else-current-self, else-began+in-Some+in_ok-end, else-began+in_default}
use Rattle.boot_turns.proofs.tracer.Tracer.follow.Goals as goal

-- the note is made by the machine, and by the note before
noted_there : (a : Held) (ss : List (List ℕ)) (c d : Option Entered) → d ≡ c → notes_on (state_of a []) d ≡ notes_on (state_of a ss) c
noted_there a ss c d e = ap (λ (c : Option Entered). notes_on (state_of a []) c) e

pub returns-clause-behind : goal.returns-clause-behind
returns-clause-behind g c = λ ss words e told.
    let s : State = state_of c.args.machine.now ss in
    let kept = c.args.self.now in
    let next = notes_on (state_of c.args.machine.now []) c.if-began.self.call in
    c.note_call.ensures ∙ elim c.if-began.branch [
      | then-began+then-current-self+else-prove+in_ok-begin w ↦ (
          let is = own_turn s kept c.args.current c.args.began words w.begun_now.result w.if-began.true w.begun_now.ensures in
          let mid = w.self-is ∙ w.in_ok-begin.ensures.prints.steps in
          kept_then s kept c.args.current c.args.began words (turn_begins kept.user c.args.current w.begun_now.result) is c.if-began.self next mid
          (noted_there c.args.machine.now ss kept.call c.if-began.self.call (ap (λ (t : Tracer). t.call) mid))
          )
      | then-began+else-current-self w ↦ (
          let is = other_turn s kept c.args.current c.args.began words w.if-began.true w.if-current-self.false in
          kept_then s kept c.args.current c.args.began words [] is c.if-began.self next w.self-is (noted_there c.args.machine.now ss kept.call c.if-began.self.call (ap (λ (t : Tracer). t.call) w.self-is))
          )
      | else-began+in-Some+in_ok-end w ↦
          call_kept s kept c.args.current c.args.began words c.args.map.now w.returned_call.result w.in-Some.call w.reg.result w.if-began.false w.returned_call.ensures w.in-Some.is w.reg.ensures told
          c.if-began.self next (λ t p. w.self-is ∙ w.in_ok-end.ensures.behind ss words e t p) (λ h. noted_there c.args.machine.now ss kept.call c.if-began.self.call h)
      | else-began+in_default w ↦ (
          let is = none_returned s kept c.args.current c.args.began words w.returned_call.result w.if-began.false w.returned_call.ensures w.in_default.is in
          kept_then s kept c.args.current c.args.began words [] is c.if-began.self next w.self-is (noted_there c.args.machine.now ss kept.call c.if-began.self.call (ap (λ (t : Tracer). t.call) w.self-is))
          )
    ]

-- a turn that begins with rows is a dispatch, and else a primitive has returned
rows_begun : (a : Held) (noted : Option Entered) (b : Begun) (began : Bool) → began ≡ true → b ≡ noted_of a → b.dispatched ≡ true → HasRows (state_of a []) noted began
rows_begun a noted b began is same d = rw is (ap (λ (n : Begun). n.dispatched) (sym same) ∙ d)

returned_rows : (a : Held) (noted o : Option Entered) (e : Entered) (began : Bool) → began ≡ false → o ≡ returned (state_of a []) noted → o ≡ Some e → HasRows (state_of a []) noted began
returned_rows a noted o e began is same some = rw is (subst IsSome (sym some ∙ same) refl)

pub returns-in_err-begin-clause-rows : goal.returns-in_err-begin-clause-rows
returns-in_err-begin-clause-rows g c =
    let h = err_from_is_err_and c.from_residual.result c.from_residual.ensures.1 in
    rw h.1 (rows_begun c.args.machine.now c.args.self.now.call c.begun_now.result c.args.began c.if-began.true c.begun_now.ensures c.in_err-begin.ensures.puts)

pub returns-in_err-end-clause-rows : goal.returns-in_err-end-clause-rows
returns-in_err-end-clause-rows g c =
    let h = err_from_is_err_and c.from_residual-in_err-end.result c.from_residual-in_err-end.ensures.1 in
    rw h.1 (returned_rows c.args.machine.now c.args.self.now.call c.returned_call.result c.in-Some.call c.args.began c.if-began.false c.returned_call.ensures c.in-Some.is)

-- THE SCRIPT of what follows
pub returns-in_err-begin-clause-script : goal.returns-in_err-begin-clause-script
returns-in_err-begin-clause-script g c pages are shelf =
    let h = err_from_is_err_and c.from_residual.result c.from_residual.ensures.1 in
    rw (h.1, h.2) (same_script _ _ _ _ _ (followed_turn c.args.map.now (state_of c.args.machine.now []) pages c.args.self.now c.args.current c.args.began c.begun_now.result c.if-began.true c.begun_now.ensures)
    (prints_made (journal_rows_after false c.args.self.now.steps (turn_begins c.args.self.now.user c.args.current c.begun_now.result)) shelf (drive g.D.Sectors c.args.disk.now) (output g.O.Sink c.args.out.now) (output g.O.Sink c.begin.new.out) _
    c.in_err-begin.ensures.prints.put (λ whom e. c.in_err-begin.ensures.prints.some)))

pub returns-in_err-end-clause-script : goal.returns-in_err-end-clause-script
returns-in_err-end-clause-script g c pages are shelf =
    let w = err_from_is_err_and c.from_residual-in_err-end.result c.from_residual-in_err-end.ensures.1 in
    rw (w.1, w.2) (same_script _ _ _ _ _
    (followed_return c.args.map.now (state_of c.args.machine.now []) pages c.args.self.now c.args.current c.args.began c.returned_call.result c.in-Some.call c.reg.result c.if-began.false c.returned_call.ensures c.in-Some.is c.reg.ensures)
    (c.in_err-end.ensures.script pages are shelf))

pub returns-clause-script : goal.returns-clause-script
returns-clause-script g c pages are shelf =
    elim c.if-began.branch [
      | then-began+then-current-self+else-prove+in_ok-begin w ↦
          rw (w.out-is, w.disk-is) (same_script _ _ _ _ _ (followed_turn c.args.map.now (state_of c.args.machine.now []) pages c.args.self.now c.args.current c.args.began w.begun_now.result w.if-began.true w.begun_now.ensures)
          (prints_made (journal_rows_after false c.args.self.now.steps (turn_begins c.args.self.now.user c.args.current w.begun_now.result)) shelf (drive g.D.Sectors c.args.disk.now) (output g.O.Sink c.args.out.now) (output g.O.Sink w.begin.new.out) None
          w.in_ok-begin.ensures.prints.put (λ whom e. absurd (cc))))
      | then-began+else-current-self w ↦
          rw (w.out-is, w.disk-is) (same_script [] _ _ _ _ (followed_foreign c.args.map.now (state_of c.args.machine.now []) pages c.args.self.now c.args.current c.args.began w.if-began.true w.if-current-self.false) (done _))
      | else-began+in-Some+in_ok-end w ↦
          rw (w.out-is, w.disk-is) (same_script _ _ _ _ _
          (followed_return c.args.map.now (state_of c.args.machine.now []) pages c.args.self.now c.args.current c.args.began w.returned_call.result w.in-Some.call w.reg.result w.if-began.false w.returned_call.ensures w.in-Some.is w.reg.ensures)
          (w.in_ok-end.ensures.script pages are shelf))
      | else-began+in_default w ↦
          rw (w.out-is, w.disk-is) (same_script [] _ _ _ _ (followed_none c.args.map.now (state_of c.args.machine.now []) pages c.args.self.now c.args.current c.args.began w.returned_call.result w.if-began.false w.returned_call.ensures w.in_default.is) (done _))
    ]
