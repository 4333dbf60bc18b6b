use mathlib.Core.Path.{refl}
use native.Mathlib.Omega.{arith}
use Rattle.logup_column.proofs.PowersLoops.{powers_loop_begins, powers_loop_turn}
use Rattle.logup_column.proofs.tuple.write_powers.Goals as goal

pub loop-e-init : goal.loop-e-init
loop-e-init c = powers_loop_begins (omega (arith, c.requires.0.big)) c.requires.3 refl

pub loop-e-preserved : goal.loop-e-preserved
loop-e-preserved c =
    powers_loop_turn _ c.loop-e.invariant c.loop-e-test.true c.store.ensures c.mul-power.ensures
