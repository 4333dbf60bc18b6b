use Rattle.balance_slots.proofs.DecimalLoops.{agree_turn, agree_differs, agree_longer, agree-ends}
use borrow.Author.Rules.{rules}
use Rattle.balance_slots.proofs.decimal.tuple_less.Goals as goal

pub returns-then-y-i : goal.returns-then-y-i
returns-then-y-i c = agree_longer c.loop-i.invariant (search rules) c.if-y-i.true

pub returns-then-x-i : goal.returns-then-x-i
returns-then-x-i c =
    agree_differs c.loop-i.invariant (search rules) (search rules) c.if-x-i.true c.word_less.ensures

pub loop-i-preserved : goal.loop-i-preserved
loop-i-preserved c = agree_turn c.loop-i.invariant (search rules) (search rules) (search rules)

pub returns : goal.returns
returns c = agree-ends c.loop-i.invariant (search rules)
