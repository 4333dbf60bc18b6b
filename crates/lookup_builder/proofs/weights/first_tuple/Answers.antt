use Rattle.lookup_builder.specs.Building.{first_tuple}
use Rattle.lookup_builder.proofs.weights.first_tuple.Goals as goal

pub returns : goal.returns
unfolding first_tuple
returns c = c.total_of.ensures
