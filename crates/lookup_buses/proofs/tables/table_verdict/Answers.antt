use Rattle.std.proofs.lemmas.List.{get_or-take}
use Rattle.lookup_buses.proofs.Finds.{bus_verdict, bus-below}
use Rattle.lookup_buses.specs.laws.NoneYet.{none_begins, none_ends, refused_stops, accepted_turn}
use Rattle.lookup_buses.specs.CheckBusWidths.{lent_bus_tables, tables_of}
use Rattle.lookup_buses.specs.Widths.{table_refusal}
use borrow.Author.Rules.{rules}
use Rattle.std.proofs.lemmas.Result.{err_from_is_err_and}
use Rattle.lookup_buses.proofs.tables.table_verdict.Goals as goal

pub loop-i-init : goal.loop-i-init
loop-i-init c = none_begins

pub lookup_verdict-requires : goal.lookup_verdict-requires
lookup_verdict-requires c =
    (c.requires.0, c.requires.1, bus-below c.args.own_lookups.now c.args.own_names.now c.args.own_tuples.now c.loop-i.i-index (search rules) c.order-ordered.ensures (get_or-take _ _ c.loop-i.i-index 0 (search rules)))

pub returns-in_err-lookup_verdict : goal.returns-in_err-lookup_verdict
unfolding table_refusal
returns-in_err-lookup_verdict c =
    let p = err_from_is_err_and c.from_residual.result c.from_residual.ensures.1 in
    rw (p.1, p.2) (refused_stops c.loop-i.invariant (search rules) (bus_verdict (tables_of (lent_bus_tables c.args.lookups.now c.args.names.now c.args.tuples.now c.args.sizes.now)) c.args.own_lookups.now c.args.own_names.now c.args.own_tuples.now c.loop-i.i-index c.order-ordered.ensures (get_or-take _ _ c.loop-i.i-index 0 (search rules)) c.lookup_verdict.ensures) c.in_err-lookup_verdict.was)

pub loop-i-preserved : goal.loop-i-preserved
loop-i-preserved c =
    accepted_turn c.loop-i.invariant (bus_verdict (tables_of (lent_bus_tables c.args.lookups.now c.args.names.now c.args.tuples.now c.args.sizes.now)) c.args.own_lookups.now c.args.own_names.now c.args.own_tuples.now c.loop-i.i-index c.order-ordered.ensures (get_or-take _ _ c.loop-i.i-index 0 (search rules)) c.lookup_verdict.ensures) c.in_ok-lookup_verdict.was

pub returns : goal.returns
unfolding table_refusal
returns c = none_ends c.loop-i.invariant (search rules) (search rules)
