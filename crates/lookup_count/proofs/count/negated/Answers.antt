use Rattle.expression.specs.laws.Tested.{limits_sane}
use Rattle.lookup_count.specs.Count.{negated, negated_at, in_numbers}
use Rattle.lookup_count.proofs.count.negated.Goals as goal

pub returns-then-not-known : goal.returns-then-not-known
unfolding negated_at
returns-then-not-known c = rw (← c.known.ensures, c.if-not-known.true)

pub negation-requires : goal.negation-requires
negation-requires c = rw c.limits_of.ensures (limits_sane _).nodes

pub returns : goal.returns
unfolding negated negated_at
returns c =
    let made = c.negation.ensures in
    rw (
      ← c.known.ensures,
      c.if-not-known.false,
      ← c.limits_of.ensures,
    ) (λ i. in_numbers (record { answer = made.0 i; nodes = made.1 i }))
