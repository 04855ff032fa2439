-- What std's trim gives is the definition's trimmed text.
use Rattle.std.proofs.lemmas.Str.Ascii.{trim_ascii_start_is}
use Rattle.cvm_text.proofs.cutting.trim_start.Goals as goal

pub returns : goal.returns
returns c = trim_ascii_start_is c.args.text.now c.trim_ascii_start.result.now c.trim_ascii_start.ensures.value
