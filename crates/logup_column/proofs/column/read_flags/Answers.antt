use mathlib.Core.Path.{◌≡◌, refl, ◌∙◌}
use mathlib.Core.Bool.{cond}
use native.Mathlib.Omega.{arith}
use lib.Dec.{eqb}
use Rattle.std.specs.Prelude.{Some}
use Rattle.logup_column.proofs.FlagsLoops.{flags_loop_begins, flags_loop_turn, bit_of, taken, kept}
use Rattle.logup_column.proofs.column.read_flags.Goals as goal
use Rattle.logup_column.proofs.column.read_flags.Goals.{then-f-eq1, else-f-eq1}

pub loop-k-init : goal.loop-k-init
loop-k-init c = flags_loop_begins refl (omega arith)

pub loop-k-preserved : goal.loop-k-preserved
loop-k-preserved c =
    let e : c.if-f-eq1.chosen ≡ cond (eqb c.value-f.result 1) (Some c.loop-k.k) c.loop-k.chosen = elim c.if-f-eq1.branch [
      | then-f-eq1 w ↦ taken _ _ w.if-f-eq1.true w.chosen-is
      | else-f-eq1 w ↦ kept _ _ w.if-f-eq1.false w.chosen-is
    ] in
    flags_loop_turn c.loop-k.invariant c.loop-k-test.true c.value-f.ensures refl (c.from-ones.ensures ∙ bit_of _) e
