use Rattle.logup_column.proofs.StepsLoops.{denominator_is}
use Rattle.logup_column.proofs.tuple.denominator.Goals as goal

pub returns : goal.returns
returns c = (c.sub.ensures.0, denominator_is _ _ _ _ _ c.sub.ensures.1 c.combine.ensures.1)
