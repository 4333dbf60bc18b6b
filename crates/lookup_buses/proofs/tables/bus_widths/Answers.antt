use Rattle.lookup_buses.specs.laws.NoneYet.{none_begins, none_ends, refused_stops, accepted_turn}
use Rattle.lookup_buses.specs.CheckBusWidths.{lent_bus_tables, tables_of}
use Rattle.lookup_buses.specs.laws.Tables.{owned}
use Rattle.lookup_buses.specs.Widths.{table_refusal, widths_refusal}
use mathlib.Core.Path.{◌∙◌, ap}
use borrow.Author.Rules.{rules}
use Rattle.std.proofs.lemmas.Result.{err_from_is_err_and}
use Rattle.lookup_buses.proofs.tables.bus_widths.Goals as goal

pub loop-t-init : goal.loop-t-init
loop-t-init c = none_begins

pub table_verdict-requires : goal.table_verdict-requires
table_verdict-requires c = (c.requires, owned c.requires c.loop-t-test.true c.table_at-own.ensures)

pub returns-in_err-table_verdict : goal.returns-in_err-table_verdict
unfolding widths_refusal tables_of
returns-in_err-table_verdict c =
    let p = err_from_is_err_and c.from_residual.result c.from_residual.ensures.1 in
    rw (p.1, p.2) (refused_stops c.loop-t.invariant (search rules) (c.table_verdict.ensures ∙ ap (table_refusal (tables_of (lent_bus_tables c.args.lookups.now c.args.names.now c.args.tuples.now c.args.sizes.now))) c.table_at-own.ensures) c.in_err-table_verdict.was)

pub loop-t-preserved : goal.loop-t-preserved
loop-t-preserved c = accepted_turn c.loop-t.invariant (c.table_verdict.ensures ∙ ap (table_refusal (tables_of (lent_bus_tables c.args.lookups.now c.args.names.now c.args.tuples.now c.args.sizes.now))) c.table_at-own.ensures) c.in_ok-table_verdict.was

pub returns : goal.returns
unfolding widths_refusal tables_of
returns c = none_ends c.loop-t.invariant (search rules) (search rules)
