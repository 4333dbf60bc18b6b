use Rattle.lookup_buses.specs.laws.NoneYet.{NoneYet}
use Rattle.lookup_buses.specs.CheckBusWidths.{lent_bus_tables, table_at, tables_of}
use Rattle.lookup_buses.specs.Widths.{table_refusal}
use Rattle.lookup_buses.proofs.tables.bus_widths.Given as goal

abbrev pub invariant-loop-t : goal.invariant-loop-t
invariant-loop-t l =
    let all = lent_bus_tables l.lookups l.names l.tuples l.sizes in
    NoneYet (λ t. table_refusal (tables_of all) (table_at all t)) l.t
