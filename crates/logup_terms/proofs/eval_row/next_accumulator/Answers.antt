use Rattle.logup_column.specs.laws.Lookup.{element-word}
use Rattle.logup_terms.specs.inner.ConstraintRow.{next_accumulator}
use borrow.Author.Tests.{lt-ltb, le-ltb}
use Rattle.logup_terms.proofs.eval_row.next_accumulator.Goals as goal

pub returns-then-height-r : goal.returns-then-height-r
unfolding next_accumulator
returns-then-height-r c = (c.requires.3, rw (le-ltb _ _ c.if-height-r.true))

pub returns : goal.returns
unfolding next_accumulator
returns c = (element-word _ c.requires.0 c.load.ensures, rw (lt-ltb _ _ c.if-height-r.false) c.load.ensures)
