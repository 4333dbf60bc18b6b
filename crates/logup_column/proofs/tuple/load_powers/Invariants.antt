use Rattle.logup_column.proofs.PowersLoops.{LoadLoop}
use Rattle.logup_column.proofs.tuple.load_powers.Given as goal

abbrev pub invariant-loop-e : goal.invariant-loop-e
invariant-loop-e l = LoadLoop l.table l.i l.initial.powers l.powers l.e
