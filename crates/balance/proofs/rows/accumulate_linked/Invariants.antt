use Rattle.std.specs.Prelude.{Some}
use Rattle.balance.specs.inner.LookupStarts.{as_parts, source}
use Rattle.expression.specs.Window.{as_traces}
use Rattle.balance_slots.specs.inner.Chain.{plain_work}
use Rattle.balance.proofs.RowsLoops.{RowsLoop}
use Rattle.balance.proofs.rows.accumulate_linked.Given as goal

abbrev pub invariant-loop-r : goal.invariant-loop-r
invariant-loop-r l = RowsLoop l.p l.seed l.starts (source (as_traces l.traces) l.nodes (as_parts l.lookups)) l.initial.heads l.initial.workspace (plain_work l.initial.workspace (Some l.initial.v)) l.r l.heads
    l.workspace l.v
