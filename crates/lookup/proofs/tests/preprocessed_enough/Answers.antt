use mathlib.Core.Path.{refl}
use Rattle.lookup.specs.Tests.{preprocessed_enough}
use Rattle.lookup.proofs.tests.preprocessed_enough.Goals as goal

pub returns : goal.returns
unfolding preprocessed_enough
returns c = refl
