use Rattle.logup_terms.proofs.TermsLoops.{AdditiveLoop}
use Rattle.logup_terms.proofs.compute.compute_combined_sum_terms.Given as goal

abbrev pub invariant-loop-k : goal.invariant-loop-k
invariant-loop-k l = AdditiveLoop l.p l.w l.powers l.alpha l.own l.widths l.multiplicities l.nodes l.vals l.n l.t l.at l.k
