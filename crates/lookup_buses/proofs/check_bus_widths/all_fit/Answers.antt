use Rattle.lookup_buses.proofs.Fits.{spanned, all_yes, all_no}
use Rattle.lookup_buses.specs.CheckBusWidths.{lent_bus_tables}
use mathlib.Core.Path.{◌∙◌, sym}
use Rattle.lookup_buses.proofs.check_bus_widths.all_fit.Goals as goal

pub tables_fit-requires : goal.tables_fit-requires
tables_fit-requires c =
    (c.requires, spanned c.args.limits (lent_bus_tables c.args.lookups.now c.args.names.now c.args.tuples.now c.args.sizes.now) c.requires (sym c.lists_fit.ensures ∙ c.if-lists_fit.true))

pub returns-then-lists_fit : goal.returns-then-lists_fit
returns-then-lists_fit c =
    all_yes c.args.limits (lent_bus_tables c.args.lookups.now c.args.names.now c.args.tuples.now c.args.sizes.now) c.lists_fit.ensures c.if-lists_fit.true c.tables_fit.ensures

pub returns-else-lists_fit : goal.returns-else-lists_fit
returns-else-lists_fit c =
    c.if-lists_fit.false ∙ all_no c.args.limits (lent_bus_tables c.args.lookups.now c.args.names.now c.args.tuples.now c.args.sizes.now) c.lists_fit.ensures c.if-lists_fit.false
