use Rattle.balance_slots.proofs.ChainsLoops.{LinkLoop}
use Rattle.balance_slots.proofs.link.link_slots.Given as goal

abbrev pub invariant-loop-i : goal.invariant-loop-i
invariant-loop-i l = LinkLoop l.seed l.initial.heads l.initial.workspace l.n l.i l.heads l.workspace
