use Rattle.lookup_protocol.specs.Height.{lookups_small}
use Rattle.lookup_protocol.proofs.protocol.lookups_small.Goals as goal

pub returns : goal.returns
unfolding lookups_small
returns c = rw (c.tuple_start.ensures.0, c.each_within.ensures)
