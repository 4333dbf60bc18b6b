use Rattle.lookup_buses.proofs.Loops.{search_turn, search_hits, search_ends, place-alone, place-bus}
use borrow.Author.Rules.{rules}
use Rattle.lookup_buses.proofs.order.place_of.Goals as goal

pub returns-then-alone : goal.returns-then-alone
returns-then-alone c = place-alone _ _ _ _ c.alone.ensures c.if-alone.true

pub returns-then-same_bus : goal.returns-then-same_bus
returns-then-same_bus c =
    place-bus _ _ _ _ c.alone.ensures c.if-alone.false (search_hits c.loop-j.invariant (search rules) c.same_bus.ensures c.if-same_bus.true)

pub loop-j-preserved : goal.loop-j-preserved
loop-j-preserved c = search_turn c.loop-j.invariant (search rules) c.same_bus.ensures c.if-same_bus.false

pub returns : goal.returns
returns c = place-bus _ _ _ _ c.alone.ensures c.if-alone.false (search_ends c.loop-j.invariant (search rules))
