use Rattle.balance.proofs.RowsLoops.{value_turn, value-ends}
use mathlib.Core.Path.{refl}
use borrow.Author.Rules.{rules}
use Rattle.balance.proofs.rows.tuple_values.Goals as goal

pub loop-j-preserved : goal.loop-j-preserved
loop-j-preserved c = value_turn c.loop-j.invariant (search rules) c.word_at.ensures refl

pub returns : goal.returns
returns c = value-ends c.loop-j.invariant (search rules)
