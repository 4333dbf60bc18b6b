use Rattle.logup_rows.proofs.SumLoops.{FractionsLoop}
use Rattle.logup_rows.proofs.writing.write_row.Given as goal

abbrev pub invariant-loop-i : goal.invariant-loop-i
invariant-loop-i l = FractionsLoop l.p l.lookups l.quotients l.start l.initial.out l.n l.out l.sum l.at l.i
