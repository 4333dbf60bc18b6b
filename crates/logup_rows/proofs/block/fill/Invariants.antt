use lib.ListN.{replicate}
use mathlib.Core.Path.{◌≡◌}
use Prim.Native.Nat.{◌-◌}
use Rattle.logup_column.specs.inner.Source.{as_source, node_values}
use Rattle.logup_rows.proofs.FillLoops.{FillLoop}
use Rattle.logup_rows.proofs.block.fill.Given as goal

abbrev pub invariant-loop-j : goal.invariant-loop-j
invariant-loop-j l =
    let s = as_source l.table l.challenges in
    FillLoop l.p l.w s.lookups s.challenges (node_values l.p s) l.size l.from l.k l.initial.term_multiplicities l.initial.term_denominators
    l.term_multiplicities l.term_denominators l.verdict l.at l.j
    × (l.vals ≡ replicate 1024 0) × (l.next_vals ≡ replicate 1024 0)

abbrev pub decreases-loop-j : goal.decreases-loop-j
decreases-loop-j l = l.k - l.j
