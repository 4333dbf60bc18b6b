use Rattle.lookup_protocol.proofs.laws.Height.{SmallSoFar}
use Rattle.lookup_protocol.proofs.protocol.all_small.Given as goal

abbrev pub invariant-loop-t : goal.invariant-loop-t
invariant-loop-t l = SmallSoFar l.limits l.lookups l.counts l.t l.at l.ok
