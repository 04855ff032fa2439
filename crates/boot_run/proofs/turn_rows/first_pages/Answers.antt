use Rattle.std.proofs.Common.{◌∙◌, ap, sym, length}
use Rattle.std.specs.Prelude.{min}
use Rattle.std.specs.Int.{div_ceil}
use Rattle.boot_run.proofs.FirstRowTellsPages.{first_pages}
use Rattle.boot_run.proofs.turn_rows.first_pages.Goals as goal

pub returns : goal.returns
returns c =
    first_pages c.args.boot.now.users.items c.args.user c.index.result.now c.requires.some c.requires.there c.requires.fits c.index.ensures
    ∙ sym (c.min.ensures ∙ ap (λ n. min n 1024) (c.div_ceil.ensures ∙ ap (λ words. div_ceil (length words) 1024) c.as_slice-words.ensures.value))
