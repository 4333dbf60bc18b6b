use mathlib.Core.Path.{refl}
use Rattle.balance_slots.proofs.SlotsLoops.{added_is}
use Rattle.balance_slots.proofs.slot.add_count.Goals as goal

pub returns : goal.returns
returns c = added_is _ _ _ _ c.from.ensures c.from-2.ensures refl c.reduce.ensures.1
