use Rattle.std.proofs.Common.{[], ap, ◌∙◌}
use Rattle.std.specs.Prelude.{◌==◌, if◌then◌else◌}
use Rattle.cvm_outside.proofs.RowsPut.{puts_same}
use Rattle.boot_report.proofs.rows.put_hi.Goals as goal

pub returns : goal.returns
returns g c = puts_same _ _ _ _ _ (ap (λ row. if c.args.word == 0 then [] else row) (c.as_bytes.ensures.value ∙ c.as_str.ensures.value ∙ c.hi_row.ensures)) c.put_nonzero.ensures
