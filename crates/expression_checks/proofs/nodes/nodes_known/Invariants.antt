use Rattle.expression.specs.Tests.{node_known}
use Rattle.expression.specs.Node.{node}
use Rattle.lists.specs.laws.Turns.{Testing}
use Rattle.expression_checks.proofs.nodes.nodes_known.Given as goal

abbrev pub invariant-loop-i : goal.invariant-loop-i
invariant-loop-i l = Testing (λ j. node_known l.shape l.publics j (node l.nodes j)) l.n l.i l.ok
