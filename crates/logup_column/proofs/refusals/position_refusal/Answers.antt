use Rattle.logup_column.specs.inner.Refusals.{position_refusal}
use Rattle.logup_column.proofs.refusals.position_refusal.Goals as goal

pub returns-then-agree-in_position : goal.returns-then-agree-in_position
unfolding position_refusal
returns-then-agree-in_position c = rw (← c.lists_agree-agree.ensures, ← c.in_position.ensures, c.if-agree-in_position.true)

pub returns-else-agree-in_position : goal.returns-else-agree-in_position
unfolding position_refusal
returns-else-agree-in_position c = rw (← c.lists_agree-agree.ensures, ← c.in_position.ensures, c.if-agree-in_position.false)
