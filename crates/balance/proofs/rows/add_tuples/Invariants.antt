use Rattle.std.specs.Prelude.{Some}
use Rattle.balance.specs.inner.LookupStarts.{as_parts}
use Rattle.balance_slots.specs.inner.Chain.{plain_work}
use Rattle.balance.proofs.RowsLoops.{AddTuplesLoop}
use Rattle.balance.proofs.rows.add_tuples.Given as goal

abbrev pub invariant-loop-k : goal.invariant-loop-k
invariant-loop-k l = AddTuplesLoop l.p l.seed l.starts (as_parts l.lookups) l.vals l.initial.heads l.initial.workspace (plain_work l.initial.workspace (Some l.initial.v)) l.k l.at l.heads l.workspace l.v
