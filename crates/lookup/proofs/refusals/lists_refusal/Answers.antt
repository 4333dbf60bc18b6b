use Rattle.lookup.specs.Refusals.{lists_refusal}
use Rattle.lookup.proofs.refusals.lists_refusal.Goals as goal

pub returns-then-lists_agree : goal.returns-then-lists_agree
unfolding lists_refusal
returns-then-lists_agree c = rw (← c.lists_agree.ensures, c.if-lists_agree.true)

pub returns-else-lists_agree : goal.returns-else-lists_agree
unfolding lists_refusal
returns-else-lists_agree c = rw (← c.lists_agree.ensures, c.if-lists_agree.false)
