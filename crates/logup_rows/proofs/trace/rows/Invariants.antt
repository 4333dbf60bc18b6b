use Prim.Native.Nat.{◌-◌}
use Rattle.logup_column.specs.inner.Source.{as_source, node_values}
use Rattle.logup_rows.proofs.TraceLoops.{RowsLoop}
use Rattle.logup_rows.proofs.trace.rows.Given as goal

abbrev pub invariant-loop-j : goal.invariant-loop-j
invariant-loop-j l =
    let s = as_source l.table l.challenges in
    RowsLoop l.p l.w s.lookups s.challenges (node_values l.p s) l.width l.from l.k l.initial.out l.out l.progress l.at l.j

abbrev pub decreases-loop-j : goal.decreases-loop-j
decreases-loop-j l = l.k - l.j
