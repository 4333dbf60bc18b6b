use Rattle.expression_checks.proofs.DegreesLoops.{begins, turn, ends}
use borrow.Author.Rules.{rules}
use native.Mathlib.Omega.{arith}
use Rattle.expression_checks.proofs.degrees.fill_degrees.Goals as goal

pub loop-i-init : goal.loop-i-init
loop-i-init c = begins (search rules) (search rules)

pub loop-i-preserved : goal.loop-i-preserved
loop-i-preserved c =
    turn c.node_at.result c.node_degree-d.result c.min.result c.loop-i.invariant (search rules) c.node_at.ensures c.node_degree-d.ensures (omega (arith, c.min.ensures), λ h. omega (arith, c.min.ensures))

pub returns : goal.returns
returns c = ends c.loop-i.invariant (search rules)
