use Rattle.lookup_buses.proofs.Loops.{Searched}
use Rattle.lookup.specs.Lookups.{lookup_count}
use Rattle.lookup.specs.Buses.{alone_at, name_at, same_bus}
use Rattle.lookup_buses.proofs.order.place_of.Given as goal

abbrev pub invariant-loop-j : goal.invariant-loop-j
invariant-loop-j l = Searched (same_bus (alone_at l.packing l.lookups) (name_at l.lookups l.names) l.i) (lookup_count l.lookups) l.j
