use native.Mathlib.Omega.{arith}
use Rattle.balance_groups.proofs.AccumulateLoops.{first_of_bus_loop_begins, first_of_bus_loop_turn, first_of_bus_loop_stops, first_of_bus_loop_ends}
use Rattle.balance_groups.proofs.buses.first_of_bus.Goals as goal

pub loop-k-init : goal.loop-k-init
loop-k-init c = first_of_bus_loop_begins

pub loop-k-preserved : goal.loop-k-preserved
loop-k-preserved c =
    first_of_bus_loop_turn c.loop-k.invariant c.loop-k-test.true c.same_group.ensures c.if-same_group.false c.name_length.ensures (omega arith)

pub returns-then-same_group : goal.returns-then-same_group
returns-then-same_group c = first_of_bus_loop_stops c.loop-k.invariant c.loop-k-test.true c.same_group.ensures c.if-same_group.true

pub returns : goal.returns
returns c = first_of_bus_loop_ends c.loop-k.invariant c.loop-k-test.false
