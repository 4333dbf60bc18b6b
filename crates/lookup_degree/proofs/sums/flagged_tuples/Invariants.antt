use Rattle.lookup_degree.specs.laws.Rising.{Rising}
use Rattle.expression.specs.Words.{word}
use Prim.Native.Nat.{◌+◌, ◌≤◌}
use Rattle.lookup_degree.proofs.sums.flagged_tuples.Given as goal

abbrev pub invariant-loop-k : goal.invariant-loop-k
invariant-loop-k l = Rising (λ k. word l.nodes (word l.flags (l.start + k)) + word l.degrees (l.first + k)) l.n l.k l.top × (l.top ≤ 8589934590)
