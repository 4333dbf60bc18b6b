use Rattle.lookup_buses.specs.laws.NoneYet.{NoneYet}
use Rattle.lookup_buses.specs.CheckBusWidths.{lent_bus_tables, table_at}
use Rattle.lookup_buses.specs.Widths.{width_in_table}
use Rattle.lookup_buses.proofs.tables.expected.Given as goal

abbrev pub invariant-loop-t : goal.invariant-loop-t
invariant-loop-t l = NoneYet (λ t. width_in_table l.bus (table_at (lent_bus_tables l.lookups l.names l.tuples l.sizes) t)) l.t
