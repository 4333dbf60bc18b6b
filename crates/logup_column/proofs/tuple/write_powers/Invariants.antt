use Rattle.field.specs.Ext.{ext_words}
use Rattle.logup_column.proofs.PowersLoops.{PowersLoop}
use Rattle.logup_column.proofs.tuple.write_powers.Given as goal

abbrev pub invariant-loop-e : goal.invariant-loop-e
invariant-loop-e l = PowersLoop l.p l.w (ext_words l.beta) l.initial.out l.out l.e l.power
