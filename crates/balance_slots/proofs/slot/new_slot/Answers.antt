use Rattle.balance_slots.proofs.SlotsLoops.{new_is}
use Rattle.balance_slots.proofs.slot.new_slot.Goals as goal

pub returns : goal.returns
returns c = new_is _ _ _ _ c.put_slot.ensures
