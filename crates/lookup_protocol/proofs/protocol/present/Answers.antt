use mathlib.Core.Path.{refl}
use Rattle.lookup_protocol.specs.Terminals.{present}
use Rattle.lookup_protocol.proofs.protocol.present.Goals as goal

pub returns : goal.returns
unfolding present
returns c = refl
