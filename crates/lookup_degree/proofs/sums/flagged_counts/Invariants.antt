use Rattle.lookup_degree.specs.laws.Rising.{Rising}
use Rattle.expression.specs.Words.{word}
use Prim.Native.Nat.{◌+◌}
use Rattle.lookup_degree.proofs.sums.flagged_counts.Given as goal

abbrev pub invariant-loop-k : goal.invariant-loop-k
invariant-loop-k l = Rising (λ k. word l.nodes (word l.flags (l.start + k)) + word l.nodes (word l.multiplicities (l.first + k))) l.n l.k l.top
