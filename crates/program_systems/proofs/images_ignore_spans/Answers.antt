use Rattle.program_systems.proofs.BareImages.{images_ignore_spans}
use Rattle.program_systems.proofs.images_ignore_spans.Goals as goal

pub returns : goal.returns
returns c = images_ignore_spans
