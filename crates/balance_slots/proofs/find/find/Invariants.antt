use Rattle.balance_slots.proofs.ChainsLoops.{ChainLoop}
use Rattle.balance_slots.proofs.find.find.Given as goal

abbrev pub invariant-loop-cur : goal.invariant-loop-cur
invariant-loop-cur l = ChainLoop l.heads l.workspace l.t l.linked l.n l.cur l.found

abbrev pub decreases-loop-cur : goal.decreases-loop-cur
decreases-loop-cur l = l.cur
