use Rattle.balance_slots.proofs.GroupRefusalLoops.{least_loop_begins, least_loop_turn}
use borrow.Author.Rules.{rules}
use Rattle.balance_slots.proofs.group_refusal.least.Goals as goal

pub loop-k-init : goal.loop-k-init
loop-k-init c = least_loop_begins

pub loop-k-preserved : goal.loop-k-preserved
loop-k-preserved c = least_loop_turn c.loop-k.invariant (search rules) c.better-b.ensures
