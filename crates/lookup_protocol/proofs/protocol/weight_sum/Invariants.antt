use Rattle.lookup_protocol.proofs.laws.Height.{Weighed}
use Rattle.lookup_protocol.proofs.protocol.weight_sum.Given as goal

abbrev pub invariant-loop-i : goal.invariant-loop-i
invariant-loop-i l = Weighed l.lookups l.i l.sum
