use mathlib.Core.Path.{ap}
use mathlib.Core.Bool.{◌&&◌}
use Prim.Native.Nat.{ℕ}
use lib.Dec.{eqb}
use Rattle.lists.specs.laws.Turns.{test_begins, test_turn}
use borrow.Author.Rules.{rules}
use Rattle.lookup_builder.proofs.fits.globals_single.Goals as goal

pub loop-j-init : goal.loop-j-init
loop-j-init c = test_begins

pub loop-j-preserved : goal.loop-j-preserved
loop-j-preserved c =
    test_turn c.loop-j.invariant (search rules) (ap (λ (n : ℕ). c.loop-j.ok && eqb n 1) c.tuple_number.ensures)
