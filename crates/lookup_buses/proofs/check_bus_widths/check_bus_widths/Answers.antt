use Rattle.lookup_buses.proofs.Fits.{choice_unknown, choices_known}
use Rattle.lookup_buses.specs.CheckBusWidths.{lent_bus_tables, in_numbers}
use Rattle.expression.specs.laws.Tested.{limits_sane}
use mathlib.Core.Path.{ap}
use Rattle.lookup_buses.proofs.check_bus_widths.check_bus_widths.Goals as goal

pub returns-then-not-known : goal.returns-then-not-known
returns-then-not-known c =
    let args = c.args in
    ap in_numbers (choice_unknown args.choices (lent_bus_tables args.lookups.now args.names.now args.tuples.now args.sizes.now) c.known.ensures c.if-not-known.true)

pub widths_within-requires : goal.widths_within-requires
widths_within-requires c = rw c.limits_of.ensures (limits_sane _)

pub returns : goal.returns
returns c =
    let args = c.args in
    ap in_numbers (choices_known args.choices (lent_bus_tables args.lookups.now args.names.now args.tuples.now args.sizes.now) c.known.ensures c.if-not-known.false c.limits_of.ensures c.widths_within.ensures)
