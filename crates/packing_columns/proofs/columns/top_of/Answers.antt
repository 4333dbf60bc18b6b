use Rattle.packing_columns.proofs.ColumnsLoops.{top_is}
use Rattle.packing_columns.proofs.columns.top_of.Goals as goal

pub returns : goal.returns
returns c =
    top_is _ _ _ _ _ c.requires.1 c.denominator_of-sum.ensures c.numerator_of-top.ensures c.max.ensures
