use Rattle.lookup_buses.proofs.Loops.{placing_begins, placing_turn}
use borrow.Author.Rules.{rules}
use Rattle.lookup_buses.proofs.order.places.Goals as goal

pub loop-i-init : goal.loop-i-init
loop-i-init c = placing_begins

pub loop-i-preserved : goal.loop-i-preserved
loop-i-preserved c = placing_turn c.loop-i.invariant (search rules) (search rules) c.place_of.ensures
