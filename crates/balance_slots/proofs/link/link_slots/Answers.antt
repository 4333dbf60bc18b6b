use Rattle.balance_slots.proofs.ChainsLoops.{link_loop_begins}
use Rattle.balance_slots.proofs.link.link_slots.Goals as goal

pub loop-i-init : goal.loop-i-init
loop-i-init c = link_loop_begins c.requires.0 c.requires.1
