use Rattle.logup_column.proofs.RuleLoops.{TupleLoop}
use Rattle.logup_column.proofs.rule.write_tuple.Given as goal

abbrev pub invariant-loop-j : goal.invariant-loop-j
invariant-loop-j l = TupleLoop l.nodes l.initial.out l.out l.j
