use Rattle.balance_slots.proofs.ChainsLoops.{unlink_begins, unlink_turn}
use borrow.Author.Rules.{rules}
use Rattle.balance_slots.proofs.link.unlink_slots.Goals as goal

pub loop-i-init : goal.loop-i-init
loop-i-init c = unlink_begins (search rules)

pub loop-i-preserved : goal.loop-i-preserved
loop-i-preserved c = unlink_turn c.loop-i.invariant (search rules)
