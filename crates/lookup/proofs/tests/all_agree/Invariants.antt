use Rattle.lookup.specs.Tests.{lengths_agree}
use Rattle.lists.specs.laws.Turns.{Testing}
use Rattle.lookup.proofs.tests.all_agree.Given as goal

abbrev pub invariant-loop-i : goal.invariant-loop-i
invariant-loop-i l = Testing (lengths_agree l.lookups) l.n l.i l.ok
