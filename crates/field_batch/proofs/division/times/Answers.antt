use Rattle.field_batch.proofs.DivisionLoops.{times_one}
use Rattle.field_batch.proofs.division.times.Goals as goal

pub returns-then-a-eq1 : goal.returns-then-a-eq1
returns-then-a-eq1 c = (c.requires.2, times_one _ _ _ c.if-a-eq1.true c.requires.2)
