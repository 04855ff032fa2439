use Rattle.std.proofs.Common.{◌≡◌, ℕ, ◌+◌, ◌*◌, ◌/◌, [], List, None, Ok, Some, refl, ap, ◌∙◌, arith}
use Rattle.std.proofs.lemmas.Result.{err_from_is_err_and}
use Rattle.cvm_outside.specs.Outside.{output, drive}
use Rattle.cvm_outside.proofs.ScriptsFollow.{first}
use Rattle.cvm_outside.proofs.RowsPut.{loop_none, loop_more, loop_stop, same_script}
use Rattle.mips_machine.specs.Machine.{state_of}
use Rattle.cvm_model.specs.Paged.{paged_of}
use Rattle.boot_report.specs.Resident.{word_reads}
use Rattle.boot_report.specs.Stand.{WordStands}
use Rattle.boot_report.specs.Texts.{EntriesFit}
use Rattle.boot_report.specs.Told.{user_word}
use Rattle.boot_turns.specs.declared.tracer.Tracer.{Tracer}
use Rattle.boot_turns.specs.Copies.{copied_kept}
use Rattle.boot_turns.proofs.RowsAreScripts.{word_made}
use Rattle.boot_turns.proofs.UserWordsRead.{word_is, still_told, as_large}
use Rattle.boot_turns.proofs.CopiedRowsArePut.{put_tracer, keeps_puts, keeps_more}
use Rattle.boot_turns.proofs.tracer.Tracer.put_words.Given.{Over}
use Rattle.boot_turns.proofs.tracer.Tracer.put_words.Goals.{After-read_user_word, In_ok-word}
use Rattle.boot_turns.proofs.tracer.Tracer.put_words.Goals as goal

-- the word is one of the user's memory
stands : (g : Over) (c : After-read_user_word g) → WordStands c.args.map.now c.loop-i.self.user (c.args.address / 4 + c.loop-i.i)
stands g c =
    let user = c.loop-i.invariant.user in
    let some = c.requires.can.some in
    let most = c.requires.can.user in
    let inside = c.requires.inside in
    let lt = c.loop-i-test.true in
    record { some = omega (arith, user, some); most = omega (arith, user, most); word = omega (arith, inside, lt) }

-- and it is what the pages show, where they are told
shown : (g : Over) (c : In_ok-word g) → (ss : List (List ℕ)) → g.D.Sectors.sectors c.loop-i.disk ≡ Some ss → EntriesFit c.args.map.now (state_of c.args.machine.now ss) →
    c.in_ok-word.word ≡ user_word c.args.map.now (paged_of c.args.map.now (state_of c.args.machine.now ss)) c.loop-i.self.user (c.args.address / 4 + c.loop-i.i)
shown g c =
    word_is c.args.map.now c.args.machine.now (g.D.Sectors.sectors c.loop-i.disk) c.loop-i.self.user (c.args.address / 4 + c.loop-i.i) c.in_ok-word.word
    (stands g (goal.at.In_ok-word g c).After-read_user_word) c.in_ok-word.ensures.word

pub loop-i-init : goal.loop-i-init
loop-i-init g c = record {
  user = refl;
  steps = refl;
  self = refl;
  sectors = refl;
  size = refl;
  script = λ pages are shelf. loop_none _ _;
}

pub loop-i-preserved : goal.loop-i-preserved
loop-i-preserved g c =
    let next = put_tracer c.args.self.now c.loop-i.self c.put.new.self c.loop-i.i c.loop-i.invariant.self c.in_ok-put.ensures.steps in record {
      user = ap (λ (t : Tracer). t.user) next;
      steps = ap (λ (t : Tracer). t.steps) next;
      self = next;
      sectors = still_told g.D.Sectors c.loop-i.disk c.read_user_word.new.disk (Ok c.in_ok-word.word) c.args.map.now (state_of c.args.machine.now []) c.loop-i.self.user (c.args.address / 4 + c.loop-i.i) c.in_ok-word.ensures.asks ∙ c.loop-i.invariant.sectors;
      size = as_large g.D.Sectors c.loop-i.disk c.read_user_word.new.disk (Ok c.in_ok-word.word) c.args.map.now (state_of c.args.machine.now []) c.loop-i.self.user (c.args.address / 4 + c.loop-i.i) c.in_ok-word.ensures.asks ∙ c.loop-i.invariant.size;
      script = λ pages are shelf. loop_more _ _ _ _ _ _ _ refl (c.loop-i.invariant.script pages are shelf)
          (word_made c.args.map.now c.args.machine.now (g.D.Sectors.sectors c.args.disk.now) (g.D.Sectors.sectors c.loop-i.disk) pages c.args.self.now c.loop-i.self c.args.address c.loop-i.i c.in_ok-word.word c.as_bytes.result.now
          shelf (output g.O.Sink c.loop-i.out) (output g.O.Sink c.put.new.out) (drive g.D.Sectors c.loop-i.disk) (drive g.D.Sectors c.read_user_word.new.disk) None are c.loop-i.invariant.sectors c.loop-i.invariant.user c.loop-i.invariant.steps
          (c.in_ok-word.ensures.asks shelf (output g.O.Sink c.loop-i.out)) (shown g (goal.at.loop-i-preserved g c).In_ok-word) (c.as_bytes.ensures.value ∙ c.as_str.ensures.value ∙ c.put_row.ensures) c.in_ok-put.ensures.put);
    }

pub returns-clause-behind : goal.returns-clause-behind
returns-clause-behind g c = let all : c.loop-i.i ≡ c.args.count = omega arith in c.loop-i.invariant.self ∙ ap (copied_kept c.args.self.now) all

-- what is kept of the trace
pub returns-clause-keeps : goal.returns-clause-keeps
returns-clause-keeps g c = keeps_puts c.args.self.now c.loop-i.self c.loop-i.i c.loop-i.invariant.self

pub returns-in_err-word-clause-keeps : goal.returns-in_err-word-clause-keeps
returns-in_err-word-clause-keeps g c = keeps_puts c.args.self.now c.loop-i.self c.loop-i.i c.loop-i.invariant.self

pub returns-in_err-put-clause-keeps : goal.returns-in_err-put-clause-keeps
returns-in_err-put-clause-keeps g c = keeps_more c.args.self.now c.loop-i.self c.put.new.self (keeps_puts c.args.self.now c.loop-i.self c.loop-i.i c.loop-i.invariant.self) c.in_err-put.ensures.keeps

pub returns-in_err-word-clause-script : goal.returns-in_err-word-clause-script
returns-in_err-word-clause-script g c pages are shelf =
    let h = err_from_is_err_and c.from_residual.result c.from_residual.ensures.1 in
    rw (h.1, h.2) (loop_stop _ _ _ _ _ _ _ c.loop-i-test.true (c.loop-i.invariant.script pages are shelf)
    (first (word_reads c.args.map.now (state_of c.args.machine.now []) c.args.self.now.user (c.args.address / 4 + c.loop-i.i)) _ _ _ _
    (same_script _ _ _ _ _ (ap (λ u. word_reads c.args.map.now (state_of c.args.machine.now []) u (c.args.address / 4 + c.loop-i.i)) c.loop-i.invariant.user) (c.in_err-word.ensures.asks shelf (output g.O.Sink c.loop-i.out)))))

pub returns-in_err-put-clause-script : goal.returns-in_err-put-clause-script
returns-in_err-put-clause-script g c pages are shelf =
    let h = err_from_is_err_and c.from_residual-in_err-put.result c.from_residual-in_err-put.ensures.1 in
    rw (h.1, h.2) (loop_stop _ _ _ _ _ _ _ c.loop-i-test.true (c.loop-i.invariant.script pages are shelf)
    (word_made c.args.map.now c.args.machine.now (g.D.Sectors.sectors c.args.disk.now) (g.D.Sectors.sectors c.loop-i.disk) pages c.args.self.now c.loop-i.self c.args.address c.loop-i.i c.in_ok-word.word c.as_bytes.result.now
    shelf (output g.O.Sink c.loop-i.out) (output g.O.Sink c.put.new.out) (drive g.D.Sectors c.loop-i.disk) (drive g.D.Sectors c.read_user_word.new.disk) _ are c.loop-i.invariant.sectors c.loop-i.invariant.user c.loop-i.invariant.steps
    (c.in_ok-word.ensures.asks shelf (output g.O.Sink c.loop-i.out)) (shown g (goal.at.returns-in_err-put-clause-script g c).In_ok-word) (c.as_bytes.ensures.value ∙ c.as_str.ensures.value ∙ c.put_row.ensures)
    c.in_err-put.ensures.put))

pub returns-clause-script : goal.returns-clause-script
returns-clause-script g c pages are shelf = let all : c.loop-i.i ≡ c.args.count = omega arith in rw all at (c.loop-i.invariant.script pages are shelf)
