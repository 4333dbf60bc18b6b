use Rattle.balance.proofs.TablesLoops.{shape_is}
use Rattle.balance.proofs.tables.shape_of.Goals as goal

pub returns : goal.returns
returns c = shape_is _ _ c.size.ensures.0 c.size-2.ensures.0 c.size-3.ensures.0 c.size-4.ensures.0
