use Rattle.std.proofs.Common.{not, ap, sym, subst}
use Rattle.field.specs.inner.Requires.{KnownPrime}
use Rattle.field.proofs.laws.Known.{known-prime}
use Rattle.expression.specs.Limits.{Sane}
use Rattle.expression.specs.laws.Tested.{limits_sane}
use Rattle.balance_entry.proofs.DebugUtilLoops.{unknown, at_choices}
use Rattle.balance_entry.proofs.debug_util.check_lookups.Goals as goal

pub returns-then-not-known : goal.returns-then-not-known
returns-then-not-known c = unknown _ _ _ c.known.ensures (ap not c.if-not-known.true)

pub check_within-requires : goal.check_within-requires
check_within-requires c = (subst Sane (sym c.limits_of.ensures) (limits_sane _), subst KnownPrime (sym c.prime_of.ensures) (known-prime _))

pub returns : goal.returns
returns c =
    at_choices _ _ _ c.known.ensures (ap not c.if-not-known.false) c.limits_of.ensures c.prime_of.ensures c.check_within.ensures
