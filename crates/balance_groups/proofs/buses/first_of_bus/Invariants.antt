use Rattle.balance_groups.proofs.AccumulateLoops.{FirstOfBusLoop}
use Rattle.balance_groups.proofs.buses.first_of_bus.Given as goal

abbrev pub invariant-loop-k : goal.invariant-loop-k
invariant-loop-k l = FirstOfBusLoop l.lookups l.names l.m l.k l.at
