use Rattle.balance_slots.proofs.GroupRefusalLoops.{refusal-full, refusal-named, refusal_none}
use mathlib.Core.Path.{◌∙◌}
use Rattle.balance_slots.proofs.group_refusal.group_refusal.Goals as goal

pub returns-in_default : goal.returns-in_default
returns-in_default c = refusal-full _ _ _ c.in_default.is

pub returns-in-Some-least : goal.returns-in-Some-least
returns-in-Some-least c = refusal-named _ _ c.in-Some.is c.least.ensures.0 c.in-Some-least.is (c.from-net.ensures ∙ c.word_at.ensures)

pub returns-in-None : goal.returns-in-None
returns-in-None c = refusal_none _ _ c.in-Some.is c.least.ensures.0 c.in-None.is
