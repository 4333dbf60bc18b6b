use Rattle.lists.specs.laws.Count.{eqb_true}
use borrow.Author.Tests.{ne_eqb}
use Rattle.delmatik_answers.proofs.terminal.marked_terminal.Goals as goal

pub returns-then-mark-eq0 : goal.returns-then-mark-eq0
returns-then-mark-eq0 c = rw (eqb_true c.if-mark-eq0.true)

pub returns : goal.returns
returns c = rw (ne_eqb _ _ c.if-mark-eq0.false)
