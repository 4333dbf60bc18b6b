use Rattle.logup_column.proofs.CombineLoops.{CombineLoop}
use Rattle.logup_column.proofs.tuple.combine_few.Given as goal

abbrev pub invariant-loop-j : goal.invariant-loop-j
invariant-loop-j l = CombineLoop l.p l.w l.powers l.vals l.nodes l.k l.j l.sum
