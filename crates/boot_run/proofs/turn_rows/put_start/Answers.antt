use Rattle.std.proofs.Common.{◌∙◌}
use Rattle.cvm_outside.proofs.RowsPut.{puts_same}
use Rattle.boot_run.specs.TurnParts.{first_machine}
use Rattle.boot_run.proofs.turn_rows.put_start.Goals as goal

pub returns : goal.returns
returns g c =
    puts_same _ _ _ _ _ (c.as_bytes.ensures.value ∙ c.as_str.ensures.value ∙ c.start_row.ensures (first_machine c.args.boot.now c.args.user) c.first_pages-pages.ensures) c.put.ensures
