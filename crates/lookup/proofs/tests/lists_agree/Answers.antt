use Rattle.lookup.specs.Tests.{lists_agree, nodes_present}
use Rattle.lookup.proofs.tests.lists_agree.Goals as goal

pub returns : goal.returns
unfolding lists_agree nodes_present
returns c = rw (c.all_agree.ensures, c.nodes_present.ensures)
