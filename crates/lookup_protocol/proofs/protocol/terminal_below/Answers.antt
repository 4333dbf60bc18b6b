use Rattle.lookup_protocol.specs.Terminals.{terminal_below}
use Rattle.lookup_protocol.proofs.protocol.terminal_below.Goals as goal

pub returns : goal.returns
unfolding terminal_below
returns c = rw c.present.ensures
