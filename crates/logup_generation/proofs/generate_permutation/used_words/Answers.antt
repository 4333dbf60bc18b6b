use mathlib.Core.Path.{refl}
use Rattle.logup.specs.Rows.{used}
use Rattle.logup_generation.proofs.generate_permutation.used_words.Goals as goal

pub returns : goal.returns
unfolding used
returns c = refl
