use Rattle.balance_slots.proofs.SlotsLoops.{PutSlotLoop}
use Rattle.balance_slots.proofs.slot.put_slot.Given as goal

abbrev pub invariant-loop-j : goal.invariant-loop-j
invariant-loop-j l = PutSlotLoop l.initial.out l.t l.j l.out
