use Rattle.lookup_degree.specs.laws.Rising.{Rising}
use Rattle.lookup_buses.specs.Widths.{widest_in_table}
use Rattle.lookup.specs.Sizes.{table_count}
use Rattle.lookup_buses.specs.CheckBusWidths.{lent_bus_tables, table_at, bus_sizes}
use Rattle.lookup_buses.proofs.tables.widest.Given as goal

abbrev pub invariant-loop-t : goal.invariant-loop-t
invariant-loop-t l = Rising (λ t. widest_in_table (table_at (lent_bus_tables l.lookups l.names l.tuples l.sizes) t)) (table_count bus_sizes l.sizes) l.t l.top
