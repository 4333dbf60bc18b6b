use Rattle.lookup_buses.proofs.Finds.{item_is, item-below}
use Rattle.lookup_degree.specs.laws.Rising.{rise_begins, rise_turn}
use borrow.Author.Rules.{rules}
use Rattle.lookup_buses.proofs.lookup_widths.widest_tuple.Goals as goal

pub loop-width-init : goal.loop-width-init
loop-width-init c = rise_begins

pub loop-width-preserved : goal.loop-width-preserved
loop-width-preserved c =
    rise_turn _ c.loop-width.invariant (item-below c.tuple_start-start.result c.args.tuples.now c.tuple_count.ensures (search rules)) c.max-top.ensures (item_is c.args.lookups.now c.args.tuples.now c.args.i c.loop-width.width-index _ c.tuple_start-start.ensures.0 (search rules))
