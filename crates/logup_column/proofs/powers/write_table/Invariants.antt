use Rattle.logup_column.proofs.TableLoops.{TableLoop}
use Rattle.logup_column.proofs.powers.write_table.Given as goal

abbrev pub invariant-loop-i : goal.invariant-loop-i
invariant-loop-i l = TableLoop l.p l.w l.challenges l.n l.initial.table l.table l.i
