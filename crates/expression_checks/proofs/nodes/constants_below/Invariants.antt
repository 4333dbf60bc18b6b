use Rattle.expression.specs.Tests.{constant_below}
use Rattle.expression.specs.Node.{node}
use Rattle.lists.specs.laws.Turns.{Testing}
use Rattle.expression_checks.proofs.nodes.constants_below.Given as goal

abbrev pub invariant-loop-i : goal.invariant-loop-i
invariant-loop-i l = Testing (λ j. constant_below l.p (node l.nodes j)) l.n l.i l.ok
