use Rattle.lookup.specs.Tests.{lookups_within}
use Rattle.lookup.proofs.tests.lookups_within.Goals as goal

pub returns : goal.returns
unfolding lookups_within
returns c = rw (c.all_within.ensures, c.each_within.ensures)
