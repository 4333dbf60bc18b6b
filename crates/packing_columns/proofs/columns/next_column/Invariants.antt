use Rattle.packing_columns.proofs.ColumnsLoops.{Filling}
use Rattle.packing_columns.specs.inner.Columns.{plan_source}
use Rattle.packing_columns.proofs.columns.next_column.Given as goal

abbrev pub invariant-loop-end : goal.invariant-loop-end
invariant-loop-end l = Filling (plan_source l.nodes l.degrees l.lookups l.names l.multiplicities l.limit) l.order l.k l.open l.end
