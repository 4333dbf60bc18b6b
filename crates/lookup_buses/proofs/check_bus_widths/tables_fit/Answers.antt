use Rattle.lookup_buses.proofs.Finds.{held_begins, held_turn, held_stops}
use Rattle.lookup_buses.specs.CheckBusWidths.{table_fits}
use mathlib.Core.Path.{◌∙◌, ap}
use borrow.Author.Rules.{rules}
use Rattle.lookup_buses.proofs.check_bus_widths.tables_fit.Goals as goal

pub loop-t-init : goal.loop-t-init
loop-t-init c = held_begins

pub returns-then-not-table_fits : goal.returns-then-not-table_fits
returns-then-not-table_fits c =
    held_stops c.loop-t.invariant (search rules) (c.table_fits.ensures ∙ ap (table_fits c.args.limits) c.table_at-own.ensures) c.if-not-table_fits.true

pub loop-t-preserved : goal.loop-t-preserved
loop-t-preserved c =
    held_turn c.loop-t.invariant (c.table_fits.ensures ∙ ap (table_fits c.args.limits) c.table_at-own.ensures) c.if-not-table_fits.false
