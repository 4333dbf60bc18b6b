use Rattle.balance_slots.proofs.SlotsLoops.{holds_is}
use mathlib.Core.Path.{refl}
use Rattle.balance_slots.proofs.slot_find.holds.Goals as goal

pub returns-then-width-n : goal.returns-then-width-n
returns-then-width-n c = holds_is _ _ _ refl c.if-width-n.true c.same_words.ensures
