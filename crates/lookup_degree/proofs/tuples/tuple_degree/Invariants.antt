use Rattle.lookup_degree.proofs.Loops.{Topping}
use Rattle.expression.specs.Words.{word}
use Rattle.lookup_degree.proofs.tuples.tuple_degree.Given as goal

abbrev pub invariant-loop-node : goal.invariant-loop-node
invariant-loop-node l = Topping (word l.degrees) l.nodes l.node-index l.top
