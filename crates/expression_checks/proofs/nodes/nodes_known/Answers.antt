use Rattle.expression.specs.Tests.{nodes_known}
use Rattle.lists.specs.laws.Turns.{test_begins, test_turn, test_ends}
use borrow.Author.Rules.{rules}
use Rattle.expression_checks.proofs.nodes.nodes_known.Goals as goal

pub loop-i-init : goal.loop-i-init
loop-i-init c = test_begins

pub loop-i-preserved : goal.loop-i-preserved
loop-i-preserved c = test_turn c.loop-i.invariant (search rules) (rw (c.node_known-ok.ensures, c.node_at.ensures))

pub returns : goal.returns
unfolding nodes_known
returns c = test_ends c.loop-i.invariant (search rules)
