use lib.Dec.{eqb}
use Rattle.lookup.specs.Lookups.{column}
use Rattle.lists.specs.laws.Turns.{Testing}
use Rattle.lookup.proofs.tests.in_position.Given as goal

abbrev pub invariant-loop-i : goal.invariant-loop-i
invariant-loop-i l = Testing (λ j. eqb (column l.lookups j) j) l.n l.i l.ok
