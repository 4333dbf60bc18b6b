use Rattle.field.specs.Word.{mul_m}
use Prim.Native.Nat.{◌<◌}
use mathlib.Core.Path.{◌≡◌}
use Rattle.field.proofs.word.inv_nonzero.Given as goal

abbrev pub invariant-loop-x : goal.invariant-loop-x
invariant-loop-x l = (0 < l.x) × (l.x < l.p) × (l.t < l.p) × (mul_m l.p l.a l.t ≡ l.x)

abbrev pub decreases-loop-x : goal.decreases-loop-x
decreases-loop-x l = l.x
