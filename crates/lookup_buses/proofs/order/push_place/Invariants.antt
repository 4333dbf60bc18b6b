use Rattle.lookup_buses.proofs.Loops.{Pushing}
use Rattle.lookup_buses.proofs.order.push_place.Given as goal

abbrev pub invariant-loop-i : goal.invariant-loop-i
invariant-loop-i l = Pushing l.places l.k l.n l.start l.i l.end l.initial.order l.order
