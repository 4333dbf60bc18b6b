use Rattle.lists.specs.Count.{every}
use Rattle.expression.specs.Words.{all_below}
use Rattle.logup_constraints.proofs.eval_all.terminal_below.Goals as goal

pub returns-in-Some : goal.returns-in-Some
unfolding all_below every
returns-in-Some c = rw c.in-Some.is
