use mathlib.Core.Path.{refl}
use Rattle.lookup_protocol.specs.Terminals.{terminal}
use Rattle.lookup_protocol.proofs.protocol.terminal.Goals as goal

pub returns : goal.returns
unfolding terminal
returns c = refl
