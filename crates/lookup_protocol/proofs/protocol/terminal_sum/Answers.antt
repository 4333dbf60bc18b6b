use lib.ListN.{length}
use Prim.Native.Nat.{◌/◌}
use Rattle.lists.specs.laws.Tests.{every_true}
use Rattle.lookup_protocol.proofs.laws.Terminals.{begins, turn}
use Rattle.lookup_protocol.specs.Terminals.{terminal_below}
use borrow.Author.Rules.{rules}
use Rattle.lookup_protocol.proofs.protocol.terminal_sum.Goals as goal

pub loop-i-init : goal.loop-i-init
loop-i-init c = begins c.requires.0

pub with_terminal-sum-requires : goal.with_terminal-sum-requires
with_terminal-sum-requires c = (
  c.requires.0,
  c.loop-i.invariant.word4,
  search rules,
  every_true (terminal_below c.args.p c.args.terminals.now) (length c.args.terminals.now / 5) _ c.requires.1 (search rules),
)

pub loop-i-preserved : goal.loop-i-preserved
loop-i-preserved c = turn c.loop-i.invariant (search rules) c.with_terminal-sum.ensures
