use Rattle.balance_slots.proofs.SlotsLoops.{search_turn, search_hits, search_ends}
use borrow.Author.Rules.{rules}
use Rattle.balance_slots.specs.inner.Work.{match_at}
use Rattle.balance_slots.proofs.slot_find.find_slot.Goals as goal

pub returns-then-holds : goal.returns-then-holds
unfolding match_at
returns-then-holds c = search_hits c.loop-k.invariant (search rules) c.holds.ensures c.if-holds.true

pub loop-k-preserved : goal.loop-k-preserved
unfolding match_at
loop-k-preserved c = search_turn c.loop-k.invariant (search rules) c.holds.ensures c.if-holds.false

pub returns : goal.returns
returns c = search_ends c.loop-k.invariant (search rules)
