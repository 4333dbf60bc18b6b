use Rattle.lookup_protocol.proofs.laws.Height.{WeightSoFar}
use Rattle.lookup_protocol.proofs.protocol.height_sum.Given as goal

abbrev pub invariant-loop-t : goal.invariant-loop-t
invariant-loop-t l = WeightSoFar l.lookups l.counts l.heights l.t l.at l.sum
