use Rattle.lookup_buses.proofs.Finds.{widest-local, widest-bus, tuples_in}
use Rattle.lookup_buses.proofs.lookup_widths.widest_in_lookup.Goals as goal

pub widest_tuple-requires : goal.widest_tuple-requires
widest_tuple-requires c = (c.requires.0.few, c.requires.1, tuples_in c.args.i c.requires.0 c.requires.1)

pub returns-then-on_bus : goal.returns-then-on_bus
returns-then-on_bus c =
    widest-bus c.args.lookups.now c.args.names.now c.args.tuples.now c.args.i c.on_bus.ensures c.if-on_bus.true c.widest_tuple.ensures

pub returns-else-on_bus : goal.returns-else-on_bus
returns-else-on_bus c = widest-local _ _ _ _ c.on_bus.ensures c.if-on_bus.false
