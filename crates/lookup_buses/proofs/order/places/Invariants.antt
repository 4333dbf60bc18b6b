use Rattle.lookup_buses.proofs.Loops.{Placing}
use Rattle.lookup_buses.specs.Order.{place}
use Rattle.lookup.specs.Lookups.{lookup_count}
use Rattle.lookup.specs.Buses.{alone_at, name_at}
use Rattle.lookup_buses.proofs.order.places.Given as goal

abbrev pub invariant-loop-i : goal.invariant-loop-i
invariant-loop-i l = Placing (place (alone_at l.packing l.lookups) (name_at l.lookups l.names) (lookup_count l.lookups)) (lookup_count l.lookups) l.i l.initial.out l.out
