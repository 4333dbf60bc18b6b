use Rattle.lookup.specs.Tests.{lookup_within}
use Rattle.lists.specs.laws.Turns.{Testing}
use Rattle.lookup.proofs.tests.each_within.Given as goal

abbrev pub invariant-loop-i : goal.invariant-loop-i
invariant-loop-i l = Testing (lookup_within l.limits l.lookups) l.n l.i l.ok
