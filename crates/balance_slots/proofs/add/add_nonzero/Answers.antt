use Rattle.balance_slots.proofs.ChainsLoops.{add_nonzero_found, add_nonzero-full, add_nonzero_new}
use Rattle.balance_slots.proofs.add.add_nonzero.Goals as goal

pub returns-then-k-n : goal.returns-then-k-n
returns-then-k-n c =
    add_nonzero_found _ _ _ c.requires.2 c.find-k.ensures c.if-k-n.true c.add_count.ensures

pub returns-then-workspace-n-lt-SLOT_WORDS : goal.returns-then-workspace-n-lt-SLOT_WORDS
returns-then-workspace-n-lt-SLOT_WORDS c =
    add_nonzero-full _ _ _ c.requires.2 c.find-k.ensures c.if-k-n.false c.if-workspace-n-lt-SLOT_WORDS.true c.clear.ensures c.clear-then-workspace-n-lt-SLOT_WORDS.ensures

pub returns : goal.returns
returns c =
    add_nonzero_new _ _ _ c.requires.2 c.find-k.ensures c.if-k-n.false c.if-workspace-n-lt-SLOT_WORDS.false c.add_slot-linked.ensures
