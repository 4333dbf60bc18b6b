use Rattle.logup_rows.proofs.SumLoops.{WriteRowsLoop}
use Rattle.logup_rows.proofs.writing.write_rows.Given as goal

abbrev pub invariant-loop-j : goal.invariant-loop-j
invariant-loop-j l = WriteRowsLoop l.p l.lookups l.quotients l.size l.k l.initial.accumulator l.width l.initial.out l.out l.accumulator l.start l.at l.j
