use Rattle.lookup.specs.Sizes.{size_start}
use Rattle.lookup.proofs.sizes.size_start.Goals as goal

pub returns : goal.returns
unfolding size_start
returns c = c.total_of.ensures
