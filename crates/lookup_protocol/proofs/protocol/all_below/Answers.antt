use Rattle.lists.specs.laws.Turns.{test_begins, test_turn}
use borrow.Author.Rules.{rules}
use Rattle.lookup_protocol.proofs.protocol.all_below.Goals as goal

pub loop-i-init : goal.loop-i-init
loop-i-init c = test_begins

pub loop-i-preserved : goal.loop-i-preserved
loop-i-preserved c = test_turn c.loop-i.invariant (search rules) (rw c.terminal_below-ok.ensures)
