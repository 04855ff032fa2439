use Rattle.std.proofs.Common.{refl}
use Rattle.std.proofs.lemmas.Result.{err_from_is_err_and}
use Rattle.cvm_shell.proofs.MigratePlans.{migrate_fault, migrated_whole, migrated_accepted}
use Rattle.cvm_shell.proofs.migration.renewed_image.Goals as goal

pub returns-in_err-image-clause-comes : goal.returns-in_err-image-clause-comes
returns-in_err-image-clause-comes g c = λ name.
    let p = err_from_is_err_and c.from_residual.result c.from_residual.ensures.1 in
    rw (p.1, p.2) (migrate_fault c.sources_have_one_answer.ensures g.M.LayerMaker.made name c.args.old.now _ c.in_err-image.field-0.0 refl c.in_err-image.ensures.is)

pub returns-in-Ok-clause-comes : goal.returns-in-Ok-clause-comes
returns-in-Ok-clause-comes g c = λ name.
    migrated_whole c.sources_have_one_answer.ensures g.M.LayerMaker.made name c.args.old.now _ _ c.in_ok-image.ensures.is c.in-Ok.ensures.spelled

pub returns-in-Ok-clause-accepted : goal.returns-in-Ok-clause-accepted
returns-in-Ok-clause-accepted g c =
    migrated_accepted c.migrated_images_are_accepted.ensures g.M.LayerMaker.made c.args.old.now _ _ c.in_ok-image.ensures.is (c.in-Ok.ensures.read_back c.in_ok-image.ensures.spelled)
