use Rattle.lookup_buses.proofs.Finds.{named, tuples_in, verdict-local, verdict-bus}
use Rattle.lookup_buses.specs.CheckBusWidths.{lent_bus_tables, tables_of}
use Rattle.lookup_buses.specs.Widths.{expected}
use mathlib.Core.Path.{◌∙◌, ap}
use Rattle.lookup_buses.proofs.tables.lookup_verdict.Goals as goal

pub returns-then-not-on_bus : goal.returns-then-not-on_bus
returns-then-not-on_bus c = verdict-local _ _ _ _ _ c.on_bus.ensures c.if-not-on_bus.true

pub name_of-name-requires : goal.name_of-name-requires
name_of-name-requires c = (named c.requires.1, c.requires.2)

pub tuples_verdict-requires : goal.tuples_verdict-requires
tuples_verdict-requires c = (c.requires.1.few, c.requires.2, tuples_in c.args.i c.requires.1 c.requires.2)

pub returns : goal.returns
returns c =
    let tables = tables_of (lent_bus_tables c.args.lookups.now c.args.names.now c.args.tuples.now c.args.sizes.now) in
    verdict-bus tables c.args.own_lookups.now c.args.own_names.now c.args.own_tuples.now c.args.i c.on_bus.ensures c.if-not-on_bus.false
    (c.expected-width.ensures ∙ ap (expected tables) c.name_of-name.ensures) c.tuples_verdict.ensures
