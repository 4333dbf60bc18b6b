use Rattle.lookup.specs.Tests.{lookup_within}
use Rattle.lookup.proofs.tests.lookup_within.Goals as goal

pub returns : goal.returns
unfolding lookup_within
returns c = rw (c.name_length.ensures, c.weight.ensures, c.weight_limit.ensures)
