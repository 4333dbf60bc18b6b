use Rattle.logup_column.proofs.FlagsLoops.{start_loop_in, start_loop_turn}
use mathlib.Core.Path.{refl}
use native.Mathlib.Omega.{arith}
use Rattle.logup_column.proofs.column.start_of.Goals as goal

pub overflow_add-at : goal.overflow_add-at
overflow_add-at c = omega (arith, start_loop_in c.loop-j.invariant c.loop-j-test.true refl)

pub loop-j-preserved : goal.loop-j-preserved
loop-j-preserved c = start_loop_turn c.loop-j.invariant c.loop-j-test.true refl
