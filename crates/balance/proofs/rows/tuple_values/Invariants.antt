use Rattle.balance.proofs.RowsLoops.{TupleValuesLoop}
use Rattle.balance.proofs.rows.tuple_values.Given as goal

abbrev pub invariant-loop-j : goal.invariant-loop-j
invariant-loop-j l = TupleValuesLoop l.vals l.nodes l.j l.out
