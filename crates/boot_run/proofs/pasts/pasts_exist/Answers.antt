use Rattle.c0_tree.specs.View.{unit_view}
use Rattle.boot_run.proofs.AbstractRuns.{past_from}
use Rattle.boot_run.proofs.pasts.pasts_exist.Goals as goal

pub returns-clause-loaded : goal.returns-clause-loaded
returns-clause-loaded g c = λ old view turns steps told enough sees.
    let u = unit_view c.args.boot.now.unit in
    let b = c.premises_hold.ensures.loaded old told enough in
    past_from u _ _ _ _ _ view turns steps (c.machines_run.ensures u) (c.traces_grow.ensures u) c.turns_are_counted.ensures b.starts sees

pub returns-clause-rom : goal.returns-clause-rom
returns-clause-rom g c = λ old view turns steps told enough sees.
    let u = unit_view c.args.boot.now.unit in
    let b = c.premises_hold.ensures.rom old told enough in
    past_from u _ _ _ _ _ view turns steps (c.machines_run.ensures u) (c.traces_grow.ensures u) c.turns_are_counted.ensures b.bootable.starts sees
