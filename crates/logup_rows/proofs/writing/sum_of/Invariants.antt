use Rattle.logup_rows.proofs.SumLoops.{SumLoop}
use Rattle.logup_rows.proofs.writing.sum_of.Given as goal

abbrev pub invariant-loop-k : goal.invariant-loop-k
invariant-loop-k l = SumLoop l.p l.quotients l.at l.n l.sum l.k
