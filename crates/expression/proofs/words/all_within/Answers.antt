use mathlib.Core.Path.{refl}
use Rattle.expression.specs.Words.{all_within}
use Rattle.lists.specs.laws.Turns.{test_begins, test_turn, test_ends}
use borrow.Author.Rules.{rules}
use Rattle.expression.proofs.words.all_within.Goals as goal

pub loop-x-init : goal.loop-x-init
loop-x-init c = test_begins

pub loop-x-preserved : goal.loop-x-preserved
loop-x-preserved c = test_turn c.loop-x.invariant (search rules) refl

pub returns : goal.returns
unfolding all_within
returns c = test_ends c.loop-x.invariant (search rules)
