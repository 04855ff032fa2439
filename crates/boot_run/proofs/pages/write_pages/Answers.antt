use Rattle.std.proofs.Common.{◌≡◌, refl, ◌∙◌, arith}
use Rattle.std.proofs.lemmas.Result.{err_from_is_err_and}
use Rattle.cvm_outside.proofs.RowsPut.{loop_none, loop_more, loop_stop}
use Rattle.boot_run.proofs.pages.write_pages.Goals as goal

pub loop-q-init : goal.loop-q-init
loop-q-init g c = record { script = λ shelf sink. loop_none _ _; size = refl }

pub loop-q-preserved : goal.loop-q-preserved
loop-q-preserved g c = record {
  script = λ shelf sink. loop_more _ _ _ _ _ _ _ refl (c.loop-q.invariant.script shelf sink) (c.in_ok-write_page.ensures.script shelf sink);
  size = c.write_page.ensures.size ∙ c.loop-q.invariant.size;
}

pub returns-in_err-write_page-clause-script : goal.returns-in_err-write_page-clause-script
returns-in_err-write_page-clause-script g c shelf sink =
    let h = err_from_is_err_and c.from_residual.result c.from_residual.ensures.1 in
    rw h.1 (loop_stop _ _ _ _ _ _ _ c.loop-q-test.true (c.loop-q.invariant.script shelf sink) (c.in_err-write_page.ensures.script shelf sink))

pub returns-clause-script : goal.returns-clause-script
returns-clause-script g c shelf sink = let all : c.loop-q.q ≡ c.args.most = omega arith in rw all at (c.loop-q.invariant.script shelf sink)
