use Rattle.balance_slots.proofs.SlotsLoops.{FindSlotLoop}
use Rattle.balance_slots.proofs.slot_find.find_slot.Given as goal

abbrev pub invariant-loop-k : goal.invariant-loop-k
invariant-loop-k l = FindSlotLoop l.workspace l.t l.first l.n l.k
