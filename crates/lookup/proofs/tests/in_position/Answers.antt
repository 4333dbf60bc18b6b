use Rattle.lookup.specs.Tests.{in_position}
use Rattle.lists.specs.laws.Turns.{test_begins, test_turn, test_ends}
use borrow.Author.Rules.{rules}
use Rattle.lookup.proofs.tests.in_position.Goals as goal

pub loop-i-init : goal.loop-i-init
loop-i-init c = test_begins

pub loop-i-preserved : goal.loop-i-preserved
loop-i-preserved c = test_turn c.loop-i.invariant (search rules) (rw c.column.ensures)

pub returns : goal.returns
unfolding in_position
returns c = test_ends c.loop-i.invariant (search rules)
