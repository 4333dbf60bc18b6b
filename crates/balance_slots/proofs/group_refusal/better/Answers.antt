use Rattle.balance_slots.proofs.GroupRefusalLoops.{better_zero, better_less, better_kept, better_first}
use borrow.Author.Rules.{rules}
use Rattle.balance_slots.proofs.group_refusal.better.Goals as goal

pub returns-then-workspace-k-eq0 : goal.returns-then-workspace-k-eq0
returns-then-workspace-k-eq0 c = better_zero _ _ _ (search rules) c.if-workspace-k-eq0.true

pub returns-then-not-slot_less : goal.returns-then-not-slot_less
returns-then-not-slot_less c = better_kept _ _ c.requires.1 c.if-workspace-k-eq0.false c.in-Some.is c.slot_less.ensures c.if-not-slot_less.true

pub returns-else-not-slot_less : goal.returns-else-not-slot_less
returns-else-not-slot_less c = better_less _ _ c.if-workspace-k-eq0.false c.in-Some.is c.slot_less.ensures c.if-not-slot_less.false

pub returns-in_default : goal.returns-in_default
returns-in_default c = better_first _ _ c.if-workspace-k-eq0.false c.in_default.is
