use Rattle.packing_columns.specs.inner.Columns.{column_degree}
use Rattle.packing_columns.proofs.columns.column_degree.Goals as goal

pub returns : goal.returns
unfolding column_degree
returns c = c.max.ensures
