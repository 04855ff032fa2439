use Rattle.std.proofs.Common.{[], ◌++◌, ◌*◌, ◌∙◌, sym, codes, ne_eqb}
use Rattle.std.specs.Prelude.{◌==◌}
use Rattle.std.proofs.lemmas.Bool.{cond-false}
use Rattle.cvm_text.specs.Hex.{hex8}
use Rattle.cvm_model.specs.Text.{hex_row}
use Rattle.cvm_outside.proofs.RowsPut.{puts_same}
use Rattle.boot_report.proofs.rows.put_word.Goals as goal

pub returns : goal.returns
returns g c =
    puts_same _ _ _ _ _
    (c.as_bytes.ensures.value ∙ c.as_str.ensures.value ∙ c.mem_row.ensures
    ∙ sym (cond-false (c.args.word == 0) [] (hex_row (codes "mem " ++ hex8 (4 * c.args.number)) c.args.word) (ne_eqb c.args.word 0 c.if-word-eq0.false)))
    c.put.ensures
