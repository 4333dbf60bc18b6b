use Rattle.lookup_buses.proofs.Loops.{Arranging}
use Rattle.lookup_buses.proofs.order.arrange.Given as goal

abbrev pub invariant-loop-k : goal.invariant-loop-k
invariant-loop-k l = Arranging l.places l.n l.k l.end l.initial.order l.order
