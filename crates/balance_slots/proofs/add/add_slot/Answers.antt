use Rattle.balance_slots.proofs.ChainsLoops.{new_chained, new_linkable, new_linked}
use Rattle.balance_slots.proofs.add.add_slot.Goals as goal

pub returns-then-linked-n : goal.returns-then-linked-n
returns-then-linked-n c =
    new_chained _ _ _ c.requires.0 c.requires.1 c.requires.3 c.new_slot.ensures

pub link-requires : goal.link-requires
link-requires c =
    new_linkable _ _ _ c.requires.0 c.requires.1 c.if-linked-n.false c.requires.3 c.new_slot.ensures

pub returns : goal.returns
returns c =
    new_linked _ _ _ c.requires.0 c.requires.1 c.if-linked-n.false c.requires.3 c.new_slot.ensures c.link.ensures
