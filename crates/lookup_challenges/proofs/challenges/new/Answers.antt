use Rattle.field.proofs.laws.Known.{known-prime, w_below}
use Rattle.expression.specs.laws.Tested.{limits_sane}
use Rattle.lookup_challenges.specs.Prefixes.{prefixes_at}
use Rattle.lookup_challenges.specs.laws.Prefixes.{outcome_is}
use Rattle.lookup_challenges.proofs.challenges.new.Goals as goal

pub returns-then-not-known : goal.returns-then-not-known
unfolding prefixes_at
returns-then-not-known c = rw (← c.known.ensures, c.if-not-known.true)

pub prefixes-requires : goal.prefixes-requires
prefixes-requires c =
    rw (c.prime_of.ensures, c.w_of.ensures, c.limits_of.ensures) (limits_sane _, known-prime _, w_below _)

pub returns : goal.returns
unfolding prefixes_at
returns c =
    rw (
      ← c.known.ensures,
      c.if-not-known.false,
      ← c.limits_of.ensures,
      ← c.prime_of.ensures,
      ← c.w_of.ensures,
    ) (outcome_is _ _ _ _ _ _ _ _ c.prefixes.ensures)
