use Rattle.logup_column.proofs.FlagsLoops.{StartLoop}
use Rattle.logup_column.proofs.column.start_of.Given as goal

abbrev pub invariant-loop-j : goal.invariant-loop-j
invariant-loop-j l = StartLoop l.widths l.nodes l.to l.at l.j
