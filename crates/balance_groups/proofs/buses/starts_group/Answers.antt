use Rattle.balance_groups.proofs.AccumulateLoops.{starts_group-bus, starts_group-local}
use Rattle.balance_groups.proofs.buses.starts_group.Goals as goal

pub returns-then-buses : goal.returns-then-buses
returns-then-buses c = starts_group-bus _ _ _ c.if-buses.true c.on_bus.ensures c.first_of_bus.ensures

pub returns : goal.returns
returns c = starts_group-local _ _ _ c.if-buses.false c.on_bus-2.ensures
