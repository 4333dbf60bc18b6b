use mathlib.Core.Path.{refl}
use Rattle.lookup.specs.Tests.{has_lookups}
use Rattle.lookup.proofs.tests.has_lookups.Goals as goal

pub returns : goal.returns
unfolding has_lookups
returns c = refl
