use Rattle.lists.specs.laws.Turns.{Summing}
use Rattle.expression.specs.Words.{word}
use Prim.Native.Nat.{◌+◌}
use Rattle.lookup_degree.proofs.sums.denominator.Given as goal

abbrev pub invariant-loop-k : goal.invariant-loop-k
invariant-loop-k l = Summing (λ k. word l.degrees (l.first + k)) 4294967295 l.n l.k l.sum
