use Rattle.std.proofs.Common.{length}
use Rattle.expression.specs.Words.{word}
use Rattle.lists.specs.laws.Turns.{Summing}
use Rattle.lookup_builder.proofs.weights.sum_of.Given as goal

abbrev pub invariant-loop-weight : goal.invariant-loop-weight
invariant-loop-weight l = Summing (word l.weights) 4294967295 (length l.weights) l.weight-index l.sum
