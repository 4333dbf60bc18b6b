use Rattle.balance_slots.proofs.GroupRefusalLoops.{LeastLoop}
use Rattle.balance_slots.proofs.group_refusal.least.Given as goal

abbrev pub invariant-loop-k : goal.invariant-loop-k
invariant-loop-k l = LeastLoop l.workspace l.n l.k l.b
