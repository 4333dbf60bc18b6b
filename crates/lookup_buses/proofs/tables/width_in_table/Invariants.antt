use Rattle.lookup_buses.specs.laws.NoneYet.{NoneYet}
use Rattle.lookup.specs.Lookups.{bus_lookups}
use Rattle.lookup_buses.specs.Widths.{width_in_lookup}
use Rattle.lookup_buses.proofs.tables.width_in_table.Given as goal

abbrev pub invariant-loop-i : goal.invariant-loop-i
invariant-loop-i l = NoneYet (width_in_lookup l.bus (bus_lookups l.lookups l.names l.tuples)) l.i
