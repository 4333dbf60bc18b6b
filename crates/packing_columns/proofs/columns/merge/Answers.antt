use Rattle.packing_columns.specs.inner.Columns.{merge}
use Rattle.packing_columns.proofs.columns.merge.Goals as goal

pub returns : goal.returns
unfolding merge
returns c = cc
