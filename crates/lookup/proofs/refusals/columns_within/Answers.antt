use mathlib.Core.Path.{refl}
use Rattle.lookup.specs.Refusals.{columns_within}
use Rattle.lookup.proofs.refusals.columns_within.Goals as goal

pub returns : goal.returns
unfolding columns_within
returns c = refl
