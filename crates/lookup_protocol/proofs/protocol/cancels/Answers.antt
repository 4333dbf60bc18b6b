use Rattle.field.specs.Element.{is_zero}
use mathlib.Core.Path.{refl}
use Rattle.lookup_protocol.proofs.protocol.cancels.Goals as goal

pub returns : goal.returns
unfolding is_zero
returns c = refl
