use Prim.Native.Nat.{◌-◌}
use Rattle.logup_column.specs.inner.Source.{as_source, node_values}
use Rattle.logup_rows.proofs.TraceLoops.{RowsLoop}
use Rattle.logup_rows.proofs.trace.all_rows.Given as goal

abbrev pub invariant-loop-r : goal.invariant-loop-r
invariant-loop-r l =
    let s = as_source l.table l.challenges in
    RowsLoop l.p l.w s.lookups s.challenges (node_values l.p s) l.width 0 l.table.traces.shape.height l.initial.out l.out l.progress l.at l.r

abbrev pub decreases-loop-r : goal.decreases-loop-r
decreases-loop-r l = l.table.traces.shape.height - l.r
