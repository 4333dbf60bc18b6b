use Rattle.lists.specs.laws.Turns.{sum-begins, sum_turn}
use mathlib.Core.Path.{◌∙◌}
use borrow.Author.Rules.{rules}
use Rattle.lookup_degree.proofs.sums.denominator.Goals as goal

pub loop-k-init : goal.loop-k-init
loop-k-init c = sum-begins

pub loop-k-preserved : goal.loop-k-preserved
loop-k-preserved c = sum_turn c.from-sum.result c.loop-k.invariant (search rules) (search rules) (c.from-sum.ensures ∙ c.word_at.ensures)
