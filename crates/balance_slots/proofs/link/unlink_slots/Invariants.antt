use Rattle.balance_slots.proofs.ChainsLoops.{UnlinkLoop}
use Rattle.balance_slots.proofs.link.unlink_slots.Given as goal

abbrev pub invariant-loop-i : goal.invariant-loop-i
invariant-loop-i l = UnlinkLoop l.initial.workspace l.n l.i l.workspace
