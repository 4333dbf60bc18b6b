use Rattle.logup_terms.proofs.TermsLoops.{ExclusiveLoop}
use Rattle.logup_terms.proofs.compute.sum_branches.Given as goal

abbrev pub invariant-loop-k : goal.invariant-loop-k
invariant-loop-k l = ExclusiveLoop l.p l.w l.powers l.alpha l.own l.widths l.multiplicities l.flags l.nodes l.vals l.n l.t l.at l.k
