use Rattle.lookup_degree.proofs.Loops.{topping_turn, topping_ends}
use borrow.Author.Rules.{rules}
use Rattle.lookup_degree.proofs.tuples.tuple_degree.Goals as goal

pub loop-node-preserved : goal.loop-node-preserved
loop-node-preserved c =
    topping_turn c.loop-node.invariant (search rules) (search rules) c.word_at.ensures (search rules)

pub returns : goal.returns
returns c = topping_ends c.loop-node.invariant (search rules)
