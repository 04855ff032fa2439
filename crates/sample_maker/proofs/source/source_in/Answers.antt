use Rattle.sample_maker.specs.Source.{pattern}
use Rattle.sample_maker.proofs.source.source_in.Goals as goal

pub returns : goal.returns
unfolding pattern
returns c = c.filled_in.ensures
