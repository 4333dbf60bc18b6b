use mathlib.Core.Path.{refl}
use Rattle.packing_columns.specs.inner.Layout.{counts_hold}
use Rattle.packing_columns.proofs.layout.counts_hold.Goals as goal

pub returns : goal.returns
unfolding counts_hold
returns c = refl
