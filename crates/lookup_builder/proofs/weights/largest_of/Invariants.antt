use Rattle.std.proofs.Common.{length}
use Rattle.expression.specs.Words.{word}
use Rattle.lookup_degree.specs.laws.Rising.{Rising}
use Rattle.lookup_builder.proofs.weights.largest_of.Given as goal

abbrev pub invariant-loop-weight : goal.invariant-loop-weight
invariant-loop-weight l = Rising (word l.weights) (length l.weights) l.weight-index l.top
