use Rattle.lookup_protocol.specs.Height.{tables_within}
use Rattle.lookup_protocol.proofs.protocol.tables_within.Goals as goal

pub returns : goal.returns
unfolding tables_within
returns c = rw (c.all_within.ensures, c.all_within-2.ensures)
