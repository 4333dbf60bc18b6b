use Rattle.lists.specs.laws.Same.{same_turn, same_ends, same_differs, same_lengths}
use borrow.Author.Rules.{rules}
use Rattle.balance_slots.proofs.slot_find.same_words.Goals as goal

pub returns-then-x-y : goal.returns-then-x-y
returns-then-x-y c = same_lengths _ _ c.if-x-y.true

pub returns-then-x-i : goal.returns-then-x-i
returns-then-x-i c = same_differs c.loop-i.invariant (search rules) c.if-x-i.true

pub loop-i-preserved : goal.loop-i-preserved
loop-i-preserved c = same_turn c.loop-i.invariant (search rules) (search rules)

pub returns : goal.returns
returns c = same_ends c.loop-i.invariant (search rules)
