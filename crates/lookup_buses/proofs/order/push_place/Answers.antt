use Rattle.lookup_buses.proofs.Loops.{pushing_begins, pushing_room, pushing_yes, pushing_no}
use borrow.Author.Rules.{rules}
use Rattle.lookup_buses.proofs.order.push_place.Goals as goal
use Rattle.lookup_buses.proofs.order.push_place.Goals.{then-places-i, else-places-i}

pub loop-i-init : goal.loop-i-init
loop-i-init c = pushing_begins (search rules)

pub bounds-order-end : goal.bounds-order-end
bounds-order-end c = pushing_room c.loop-i.invariant (search rules) c.if-places-i.true

pub loop-i-preserved : goal.loop-i-preserved
loop-i-preserved c =
    elim c.if-places-i.branch [
      | then-places-i w ↦ pushing_yes c.loop-i.invariant (search rules) w.if-places-i.true w.order-is w.end-is
      | else-places-i w ↦ pushing_no c.loop-i.invariant (search rules) w.if-places-i.false w.order-is w.end-is
    ]
