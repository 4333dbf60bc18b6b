use Rattle.expression_checks.proofs.DegreesLoops.{Rating}
use Rattle.expression_checks.proofs.degrees.fill_degrees.Given as goal

abbrev pub invariant-loop-i : goal.invariant-loop-i
invariant-loop-i l = Rating l.t l.nodes l.most l.n l.ds l.ok l.i
