use Rattle.balance_slots.proofs.ChainsLoops.{walk_begins, walk_turn, walk_less, found_next}
use mathlib.Core.Path.{refl}
use mathlib.Core.Bool.{true, false}
use Rattle.balance_slots.proofs.find.find.Goals as goal
use Rattle.balance_slots.proofs.find.find.Goals.{then-holds, else-holds}

pub loop-cur-init : goal.loop-cur-init
loop-cur-init c =
    walk_begins c.requires.0 c.requires.1 c.requires.2 c.requires.3 c.find_slot-found.ensures c.hash-h.ensures refl refl

pub loop-cur-smaller : goal.loop-cur-smaller
loop-cur-smaller c = walk_less c.loop-cur.invariant c.loop-cur-test.true refl

pub loop-cur-preserved : goal.loop-cur-preserved
loop-cur-preserved c =
    walk_turn c.loop-cur.invariant c.loop-cur-test.true refl (elim c.if-holds.branch [
      | then-holds w ↦ found_next _ _ _ _ true c.holds.ensures w.if-holds.true w.found-is
      | else-holds w ↦ found_next _ _ _ _ false c.holds.ensures w.if-holds.false w.found-is
    ]) refl
