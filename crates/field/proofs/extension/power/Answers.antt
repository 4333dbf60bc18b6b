use mathlib.Core.Path.{refl, ap}
use Prim.Native.Nat.{◌/◌}
use native.Mathlib.Omega.{arith}
use Rattle.field.specs.Ext.{ext_words}
use Rattle.field.proofs.laws.Powers.{squaring_begins, squaring_even, squaring_odd, squaring_ends}
use Rattle.field.proofs.extension.power.Goals as goal
use Rattle.field.proofs.extension.power.Goals.{then-k-eq1, else-k-eq1}

pub loop-k-init : goal.loop-k-init
loop-k-init c = squaring_begins c.args.n (omega arith) c.requires.2

pub loop-k-preserved : goal.loop-k-preserved
loop-k-preserved c =
    elim c.if-k-eq1.branch [
      | then-k-eq1 w ↦ squaring_odd c.loop-k.invariant (omega arith) (c.loop-k.k / 2) c.mul-x.ensures (omega arith) (ap ext_words w.r-is) w.mul-r.ensures
      | else-k-eq1 w ↦ squaring_even c.loop-k.invariant (omega arith) (c.loop-k.k / 2) c.mul-x.ensures (omega arith) (ap ext_words w.r-is)
    ]

pub returns : goal.returns
returns c = (c.loop-k.invariant.word_r, squaring_ends c.loop-k.invariant (omega arith) refl (omega arith))
