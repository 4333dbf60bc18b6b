use Rattle.lists.specs.laws.Turns.{sum-begins, sum_turn}
use borrow.Author.Rules.{rules}
use Rattle.lookup_builder.proofs.weights.sum_of.Goals as goal

pub loop-weight-init : goal.loop-weight-init
loop-weight-init c = sum-begins

pub loop-weight-preserved : goal.loop-weight-preserved
loop-weight-preserved c = sum_turn c.from-sum.result c.loop-weight.invariant (search rules) (search rules) c.from-sum.ensures
