use Rattle.lookup_buses.specs.laws.NoneYet.{NoneYet}
use Rattle.expression.specs.Words.{word}
use Rattle.lookup.specs.Lookups.{bus_lookups}
use Rattle.lookup_buses.specs.CheckBusWidths.{lent_bus_tables, tables_of}
use Rattle.lookup_buses.specs.Widths.{by_bus, lookup_refusal}
use Rattle.lookup_buses.proofs.tables.table_verdict.Given as goal

abbrev pub invariant-loop-i : goal.invariant-loop-i
invariant-loop-i l =
    let own = bus_lookups l.own_lookups l.own_names l.own_tuples in
    NoneYet (λ k. lookup_refusal (tables_of (lent_bus_tables l.lookups l.names l.tuples l.sizes)) own (word (by_bus own) k)) l.i-index
