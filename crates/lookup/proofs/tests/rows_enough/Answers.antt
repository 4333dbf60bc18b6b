use Rattle.lookup.specs.Tests.{rows_enough}
use Rattle.lookup.proofs.tests.rows_enough.Goals as goal

pub returns : goal.returns
unfolding rows_enough
returns c = rw (c.has_lookups.ensures, c.preprocessed_enough.ensures)
