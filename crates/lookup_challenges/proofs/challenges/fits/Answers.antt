use mathlib.Core.Path.{refl}
use Rattle.lookup_challenges.specs.Prefixes.{prefixes_fit}
use Rattle.lookup_challenges.proofs.challenges.fits.Goals as goal

pub returns : goal.returns
unfolding prefixes_fit
returns c = refl
