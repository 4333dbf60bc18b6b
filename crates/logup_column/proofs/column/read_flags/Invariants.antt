use lib.ListN.{length}
use Rattle.logup_column.proofs.FlagsLoops.{FlagsLoop}
use Rattle.logup_column.proofs.column.read_flags.Given as goal

abbrev pub invariant-loop-k : goal.invariant-loop-k
invariant-loop-k l = FlagsLoop l.flags l.vals (length l.flags) l.over l.ones l.chosen l.k
