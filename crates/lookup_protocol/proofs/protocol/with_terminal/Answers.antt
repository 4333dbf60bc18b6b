use Rattle.lookup_protocol.proofs.laws.Terminals.{terminal-word}
use Rattle.lookup_protocol.specs.Terminals.{with_terminal}
use Rattle.lookup_protocol.proofs.protocol.with_terminal.Goals as goal

pub add-requires : goal.add-requires
add-requires c = (
  c.requires.0,
  c.requires.1,
  terminal-word c.args.terminals.now c.args.i c.present.ensures c.if-present.true c.requires.3 c.terminal.ensures,
)

pub returns-then-present : goal.returns-then-present
unfolding with_terminal
returns-then-present c = (
  c.add.ensures.0,
  rw (← c.present.ensures, c.if-present.true, ← c.terminal.ensures) c.add.ensures.1,
)

pub returns-else-present : goal.returns-else-present
unfolding with_terminal
returns-else-present c = (c.requires.1, rw (← c.present.ensures, c.if-present.false))
