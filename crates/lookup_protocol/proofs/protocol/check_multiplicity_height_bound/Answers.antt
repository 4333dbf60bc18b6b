use mathlib.Core.Path.{ap}
use Rattle.expression.specs.Refusal.{numbers}
use Rattle.expression.specs.laws.Tested.{limits_sane}
use Rattle.lookup_protocol.specs.Height.{height_at}
use Rattle.lookup_protocol.proofs.protocol.check_multiplicity_height_bound.Goals as goal

pub returns-then-not-known : goal.returns-then-not-known
unfolding height_at
returns-then-not-known c = rw (← c.known.ensures, c.if-not-known.true)

pub height_refusal-requires : goal.height_refusal-requires
height_refusal-requires c = rw c.limits_of-limits.ensures (limits_sane _)

pub returns : goal.returns
unfolding height_at
returns c =
    rw (
      ← c.known.ensures,
      c.if-not-known.false,
      ← c.limits_of-limits.ensures,
      ← c.prime_of.ensures,
    ) (ap numbers c.height_refusal.ensures)
