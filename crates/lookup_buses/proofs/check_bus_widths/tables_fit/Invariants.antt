use Rattle.lookup_buses.proofs.Finds.{Held}
use Rattle.lookup_buses.specs.CheckBusWidths.{lent_bus_tables, table_at, table_fits}
use Rattle.lookup_buses.proofs.check_bus_widths.tables_fit.Given as goal

abbrev pub invariant-loop-t : goal.invariant-loop-t
invariant-loop-t l = Held (λ t. table_fits l.limits (table_at (lent_bus_tables l.lookups l.names l.tuples l.sizes) t)) l.t
