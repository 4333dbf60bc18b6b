use Rattle.lookup.specs.Tests.{nodes_present}
use Rattle.lookup.proofs.tests.nodes_present.Goals as goal

pub returns : goal.returns
unfolding nodes_present
returns c = rw (c.all_below.ensures, c.all_below-2.ensures, c.all_below-3.ensures)
