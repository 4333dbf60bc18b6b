use mathlib.Core.Path.{ap}
use Rattle.expression.specs.Refusal.{numbers}
use Rattle.expression.specs.laws.Tested.{limits_sane}
use Rattle.logup_column.specs.laws.Tested.{field_of}
use Rattle.logup_constraints.proofs.Deciding.{choice_unknown, choices_known}
use Rattle.logup_constraints.proofs.eval_all.eval_all.Goals as goal

pub returns-then-not-known-known_rule : goal.returns-then-not-known-known_rule
returns-then-not-known-known_rule c = ap numbers (choice_unknown _ _ _ _ _ _ _ c.known.ensures c.known_rule.ensures c.if-not-known-known_rule.true)

pub eval_trace-requires : goal.eval_trace-requires
eval_trace-requires c = (
  rw c.limits_of.ensures (limits_sane _),
  rw (c.prime_of.ensures, c.w_of.ensures) (field_of _),
)

pub returns : goal.returns
returns c =
    ap numbers (choices_known _ _ _ _ _ _ _ c.known.ensures c.known_rule.ensures c.if-not-known-known_rule.false
    c.limits_of.ensures c.prime_of.ensures c.w_of.ensures c.eval_trace.ensures)
