use Rattle.logup_column.proofs.StepsLoops.{denominator_is}
use Rattle.logup_column.proofs.column.denominator_of.Goals as goal

pub returns-then-nodes-le4 : goal.returns-then-nodes-le4
returns-then-nodes-le4 c = (c.sub.ensures.0, denominator_is _ _ _ _ _ c.sub.ensures.1 c.combine_few.ensures.1)
