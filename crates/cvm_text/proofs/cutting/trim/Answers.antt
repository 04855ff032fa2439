-- What std's trim gives is the definition's trimmed text.
use Rattle.std.proofs.Common.{refl}
use Rattle.std.proofs.lemmas.Str.Ascii.{trim_ascii_is}
use Rattle.cvm_text.specs.Blanks.{trim_start}
use Rattle.cvm_text.proofs.cutting.trim.Goals as goal

pub returns : goal.returns
returns c = trim_ascii_is c.args.text.now c.trim_ascii.result.now (trim_start c.args.text.now) refl c.trim_ascii.ensures.value
