use mathlib.Core.Bool.{and_assoc}
use Rattle.field.specs.Element.{is_zero}
use Rattle.field.proofs.extension.is_zero.Goals as goal

pub returns : goal.returns
unfolding is_zero
returns c = simp and_assoc c.eq.ensures
