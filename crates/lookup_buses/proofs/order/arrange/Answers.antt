use Rattle.lookup_buses.proofs.Loops.{arranging_begins, arranging_fits, arranging_turn}
use borrow.Author.Rules.{rules}
use Rattle.lookup_buses.proofs.order.arrange.Goals as goal

pub loop-k-init : goal.loop-k-init
loop-k-init c = arranging_begins

pub push_place-end-requires : goal.push_place-end-requires
push_place-end-requires c = (search rules, search rules, arranging_fits c.loop-k.invariant (search rules))

pub loop-k-preserved : goal.loop-k-preserved
loop-k-preserved c =
    arranging_turn c.loop-k.invariant (search rules) (search rules) c.push_place-end.ensures
