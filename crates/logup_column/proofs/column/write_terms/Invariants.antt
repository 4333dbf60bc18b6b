use Rattle.logup_column.specs.inner.Kinds.{is_exclusive, branch_of}
use Rattle.logup_column.proofs.TermsLoops.{TermsLoop}
use Rattle.logup_column.proofs.column.write_terms.Given as goal

abbrev pub invariant-loop-k : goal.invariant-loop-k
invariant-loop-k l = TermsLoop l.p l.w l.powers l.alpha l.own l.widths l.multiplicities l.nodes l.vals (is_exclusive l.kind) (branch_of l.kind) l.initial.term_multiplicities l.initial.term_denominators l.n l.term_multiplicities l.term_denominators l.at l.zero l.k
