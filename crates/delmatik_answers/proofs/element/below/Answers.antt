use Rattle.delmatik_answers.specs.Element.{four_below}
use mathlib.Core.Path.{refl}
use Rattle.delmatik_answers.proofs.element.below.Goals as goal

pub returns : goal.returns
unfolding four_below
returns c = refl
