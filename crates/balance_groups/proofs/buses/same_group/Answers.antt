use Rattle.std.proofs.Common.{not, ap}
use Rattle.balance_groups.proofs.AccumulateLoops.{name_in, name_is, same_group-local, same_group_not, same_group-named}
use Rattle.balance_groups.proofs.buses.same_group.Goals as goal

pub returns-then-not-on_bus : goal.returns-then-not-on_bus
returns-then-not-on_bus c = same_group-local _ _ _ _ c.on_bus.ensures (ap not c.if-not-on_bus.true)

pub returns-then-not-on_bus-2 : goal.returns-then-not-on_bus-2
returns-then-not-on_bus-2 c = same_group_not _ _ _ _ c.on_bus.ensures (ap not c.if-not-on_bus.false) c.on_bus-2.ensures (ap not c.if-not-on_bus-2.true)

pub slice_bounds-same_bytes-end : goal.slice_bounds-same_bytes-end
slice_bounds-same_bytes-end c =
    name_in c.args.lookups.now c.args.names.now c.args.m c.requires.0 c.requires.1 c.requires.3 c.name_length.ensures

pub slice_bounds-same_bytes-end-2 : goal.slice_bounds-same_bytes-end-2
slice_bounds-same_bytes-end-2 c =
    name_in c.args.lookups.now c.args.names.now c.args.k c.requires.0 c.requires.2 c.requires.4 c.name_length-2.ensures

pub returns : goal.returns
returns c =
    same_group-named c.args.lookups.now c.args.names.now c.args.m c.args.k c.on_bus.ensures (ap not c.if-not-on_bus.false)
    c.on_bus-2.ensures (ap not c.if-not-on_bus-2.false) (name_is c.args.lookups.now c.args.names.now c.args.m c.requires.3 c.name_length.ensures) (name_is c.args.lookups.now c.args.names.now c.args.k c.requires.4 c.name_length-2.ensures) c.same_bytes.ensures
