use Rattle.lookup_buses.proofs.Finds.{width_stops, width_turn}
use Rattle.lookup_buses.specs.laws.NoneYet.{none_begins, none_ends}
use Rattle.lookup_buses.specs.CheckBusWidths.{tables_of}
use Rattle.lookup_buses.specs.laws.Tables.{owned}
use Rattle.lookup_buses.specs.Widths.{width_in_table, expected}
use mathlib.Core.Path.{◌∙◌, sym, ap}
use borrow.Author.Rules.{rules}
use Rattle.lookup_buses.proofs.tables.expected.Goals as goal

pub loop-t-init : goal.loop-t-init
loop-t-init c = none_begins

pub width_in_table-width-requires : goal.width_in_table-width-requires
width_in_table-width-requires c = owned c.requires c.loop-t-test.true c.table_at-own.ensures

pub returns-then-is_some : goal.returns-then-is_some
unfolding expected tables_of
returns-then-is_some c =
    width_stops c.width_in_table-width.result c.loop-t.invariant (search rules) (c.width_in_table-width.ensures ∙ ap (width_in_table c.args.bus.now) c.table_at-own.ensures) (sym c.is_some.ensures ∙ c.if-is_some.true)

pub loop-t-preserved : goal.loop-t-preserved
loop-t-preserved c =
    width_turn c.width_in_table-width.result c.loop-t.invariant (c.width_in_table-width.ensures ∙ ap (width_in_table c.args.bus.now) c.table_at-own.ensures) (sym c.is_some.ensures ∙ c.if-is_some.false)

pub returns : goal.returns
unfolding expected tables_of
returns c = none_ends c.loop-t.invariant (search rules) (search rules)
