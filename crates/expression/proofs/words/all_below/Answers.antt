use mathlib.Core.Path.{refl}
use Rattle.expression.specs.Words.{all_below}
use Rattle.lists.specs.laws.Turns.{test_begins, test_turn, test_ends}
use borrow.Author.Rules.{rules}
use Rattle.expression.proofs.words.all_below.Goals as goal

pub loop-i-init : goal.loop-i-init
loop-i-init c = test_begins

pub loop-i-preserved : goal.loop-i-preserved
loop-i-preserved c = test_turn c.loop-i.invariant (search rules) refl

pub returns : goal.returns
unfolding all_below
returns c = test_ends c.loop-i.invariant (search rules)
