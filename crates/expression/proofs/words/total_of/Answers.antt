use Rattle.lists.specs.laws.Turns.{sum-begins, sum_turn}
use borrow.Author.Rules.{rules}
use Rattle.expression.proofs.words.total_of.Goals as goal

pub loop-i-init : goal.loop-i-init
loop-i-init c = sum-begins

pub loop-i-preserved : goal.loop-i-preserved
loop-i-preserved c = sum_turn c.word_at.result c.loop-i.invariant (search rules) (search rules) c.word_at.ensures
