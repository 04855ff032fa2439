use Rattle.std.proofs.Common.{◌≡◌, ◌+◌, [], refl, ◌∙◌, arith, rules}
use Rattle.std.proofs.lemmas.Result.{err_from_is_err_and}
use Rattle.mips_machine.specs.Machine.{state_of}
use Rattle.cvm_outside.specs.Outside.{no_files, output}
use Rattle.cvm_outside.proofs.ScriptsFollow.{first}
use Rattle.cvm_outside.proofs.RowsPut.{loop_none, loop_more, loop_stop, unwritten, same_size}
use Rattle.boot_report.proofs.PagesByLines.{reads_quiet, page_performs}
use Rattle.boot_report.proofs.memory.put_memory.Goals as goal

pub loop-p-init : goal.loop-p-init
loop-p-init g c = record { script = λ shelf. loop_none _ _; sectors = refl; size = refl; whole = refl }

pub returns-in_err-frame : goal.returns-in_err-frame
returns-in_err-frame g c shelf =
    let h = err_from_is_err_and c.from_residual.result c.from_residual.ensures.1 in
    rw (h.1, h.2) (loop_stop _ _ _ _ _ _ _ c.loop-p-test.true (c.loop-p.invariant.script shelf) (first _ _ _ _ _ (c.in_err-frame.ensures.asks shelf (output g.O.Sink c.loop-p.out))))

pub returns-in_err-put_page : goal.returns-in_err-put_page
returns-in_err-put_page g c shelf =
    let h = err_from_is_err_and c.from_residual-in_err-put_page.result c.from_residual-in_err-put_page.ensures.1 in
    rw (h.1, h.2) (loop_stop _ _ _ _ _ _ _ c.loop-p-test.true (c.loop-p.invariant.script shelf)
    (page_performs c.args.map.now c.args.machine.now (g.D.Sectors.sectors c.args.disk.now) (c.args.first + c.loop-p.p) c.loop-p.p c.find_page.new.into _ c.in_ok-frame.frame _ _ _ _ _ _ (c.in_ok-frame.ensures.asks shelf (output g.O.Sink c.loop-p.out)) (rw c.loop-p.invariant.sectors at c.in_ok-frame.ensures.shown) c.words_of_page.ensures.words c.in_err-put_page.ensures))

pub loop-p-preserved : goal.loop-p-preserved
loop-p-preserved g c = record {
  script = λ shelf. loop_more _ _ _ _ _ _ _ refl (c.loop-p.invariant.script shelf)
      (page_performs c.args.map.now c.args.machine.now (g.D.Sectors.sectors c.args.disk.now) (c.args.first + c.loop-p.p) c.loop-p.p c.find_page.new.into _ c.in_ok-frame.frame _ _ _ _ _ _ (c.in_ok-frame.ensures.asks shelf (output g.O.Sink c.loop-p.out)) (rw c.loop-p.invariant.sectors at c.in_ok-frame.ensures.shown) c.words_of_page.ensures.words c.in_ok-put_page.ensures);
  sectors = unwritten _ _ _ _ (reads_quiet c.args.map.now (state_of c.args.machine.now []) (c.args.first + c.loop-p.p)) (c.in_ok-frame.ensures.asks no_files (output g.O.Sink c.loop-p.out)) ∙ c.loop-p.invariant.sectors;
  size = same_size _ _ _ _ (c.in_ok-frame.ensures.asks no_files (output g.O.Sink c.loop-p.out)) ∙ c.loop-p.invariant.size;
  whole = search rules;
}

pub returns : goal.returns
returns g c shelf = let all : c.loop-p.p ≡ c.args.pages = omega arith in rw all at (c.loop-p.invariant.script shelf)
