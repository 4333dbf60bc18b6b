use Rattle.lookup_degree.specs.laws.Rising.{Rising}
use Rattle.lookup_buses.specs.Widths.{widest_in_lookup}
use Rattle.lookup.specs.Lookups.{lookup_count, bus_lookups}
use Rattle.lookup_buses.proofs.tables.widest_in_table.Given as goal

abbrev pub invariant-loop-i : goal.invariant-loop-i
invariant-loop-i l = Rising (widest_in_lookup (bus_lookups l.lookups l.names l.tuples)) (lookup_count l.lookups) l.i l.top
