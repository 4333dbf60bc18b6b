use mathlib.Core.Path.{◌∙◌, ap}
use lib.IntN.{nat_abs}
use Rattle.field.proofs.laws.Known.{known-prime}
use Rattle.expression.specs.laws.Tested.{limits_sane}
use Rattle.lookup_count.specs.Count.{from_i32, from_i32_at, in_numbers}
use Rattle.lookup_count.proofs.Signed.{read, magnitude_is, sign_is, from_is}
use Rattle.lookup_count.proofs.count.from_i32.Goals as goal

pub returns-then-not-known : goal.returns-then-not-known
unfolding from_i32_at
returns-then-not-known c = rw (← c.known.ensures, c.if-not-known.true)

pub constant-requires : goal.constant-requires
constant-requires c =
    rw (c.prime_of.ensures, c.limits_of.ensures) (known-prime _, (limits_sane _).nodes)

pub returns : goal.returns
unfolding from_i32 from_i32_at
returns c =
    let made = from_is c.limits_of.result _ c.unsigned_abs.result c.prime_of.result c.args.nodes.now c.args.used c.args.x
    (sign_is c.args.x c.ranges.x) (c.unsigned_abs.ensures.value ∙ ap nat_abs (read c.args.x c.ranges.x) ∙ magnitude_is c.args.x)
    c.constant.ensures in
    rw (
      ← c.known.ensures,
      c.if-not-known.false,
      ← c.limits_of.ensures,
      ← c.prime_of.ensures,
    ) (λ i. in_numbers (record { answer = made.0 i; nodes = made.1 i }))
