use Rattle.lookup_degree.proofs.Loops.{Degreed}
use Rattle.expression.specs.Words.{word}
use Rattle.lookup_degree.proofs.tuples.tuple_degrees.Given as goal

abbrev pub invariant-loop-j : goal.invariant-loop-j
invariant-loop-j l = Degreed (word l.degrees) l.tuples l.elements l.j l.start l.initial.out l.out
