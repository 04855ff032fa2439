use Rattle.std.proofs.Common.{◌≡◌, ◌+◌, ◌<◌, refl, ◌∙◌, arith}
use Rattle.std.specs.Prelude.{◌==◌}
use Rattle.std.proofs.lemmas.Result.{err_from_is_err_and}
use Rattle.cvm_outside.specs.Outside.{no_files}
use Rattle.cvm_outside.proofs.RowsPut.{loop_none, loop_more, loop_stop_by, unwritten, same_size}
use Rattle.boot_report.proofs.UserScripts.{user_quiet, told_here, somebody}
use Rattle.boot_report.proofs.users.put_users.Goals as goal

pub loop-i-init : goal.loop-i-init
loop-i-init g c = record { script = λ shelf. loop_none _ _; sectors = refl; size = refl }

pub returns-in_err-put_user_rows : goal.returns-in_err-put_user_rows
returns-in_err-put_user_rows g c shelf =
    let most : c.users-i-end.result ≡ c.args.map.now.users = c.users-i-end.ensures.value in
    let lt : c.loop-i.i < c.args.map.now.users = rw most at c.loop-i-test.true in
    let h = err_from_is_err_and c.from_residual.result c.from_residual.ensures.1 in
    rw (h.1, h.2) (loop_stop_by _ _ _ _ _ _ _ (somebody c.in_err-put_user_rows.field-0.0) lt (c.loop-i.invariant.script shelf) (told_here c.args.map.now c.args.machine.now _ _ (c.loop-i.i + 1 == c.args.running) (c.loop-i.i + 1) _ _ _ c.loop-i.invariant.sectors (c.in_err-put_user_rows.ensures shelf)))

pub loop-i-preserved : goal.loop-i-preserved
loop-i-preserved g c = record {
  script = λ shelf. loop_more _ _ _ _ _ _ _ refl (c.loop-i.invariant.script shelf) (told_here c.args.map.now c.args.machine.now _ _ (c.loop-i.i + 1 == c.args.running) (c.loop-i.i + 1) _ _ _ c.loop-i.invariant.sectors (c.in_ok-put_user_rows.ensures shelf));
  sectors = unwritten _ _ _ _ (user_quiet c.args.map.now c.args.machine.now (g.D.Sectors.sectors c.loop-i.disk) (c.loop-i.i + 1 == c.args.running) (c.loop-i.i + 1)) (c.in_ok-put_user_rows.ensures no_files) ∙ c.loop-i.invariant.sectors;
  size = same_size _ _ _ _ (c.in_ok-put_user_rows.ensures no_files) ∙ c.loop-i.invariant.size;
}

pub returns : goal.returns
returns g c shelf =
    let most : c.users-i-end.result ≡ c.args.map.now.users = c.users-i-end.ensures.value in
    let all : c.loop-i.i ≡ c.args.map.now.users = omega (arith, most) in
    rw all at (c.loop-i.invariant.script shelf)
