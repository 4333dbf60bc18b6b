use mathlib.Core.Path.{refl}
use Rattle.lookup.specs.Refusals.{shape_of}
use Rattle.lookup.proofs.refusals.shape_of.Goals as goal

pub returns : goal.returns
unfolding shape_of
returns c = refl
