use Rattle.balance_slots.proofs.ChainsLoops.{HashLoop}
use Rattle.balance_slots.proofs.hash.hash.Given as goal

abbrev pub invariant-loop-j : goal.invariant-loop-j
invariant-loop-j l = HashLoop l.point l.factor l.s l.at l.n l.j l.h
