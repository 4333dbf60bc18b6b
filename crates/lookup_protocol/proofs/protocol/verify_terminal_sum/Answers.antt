use mathlib.Core.Path.{ap}
use Rattle.field.proofs.laws.Known.{known-prime}
use Rattle.expression.specs.Refusal.{numbers}
use Rattle.lookup_protocol.specs.Terminals.{terminals_at}
use Rattle.lookup_protocol.proofs.protocol.verify_terminal_sum.Goals as goal

pub returns-then-not-known : goal.returns-then-not-known
unfolding terminals_at
returns-then-not-known c = rw (← c.known.ensures, c.if-not-known.true)

pub terminals_refusal-requires : goal.terminals_refusal-requires
terminals_refusal-requires c = rw c.prime_of.ensures (known-prime _)

pub returns : goal.returns
unfolding terminals_at
returns c =
    rw (
      ← c.known.ensures,
      c.if-not-known.false,
      ← c.limits_of-limits.ensures,
      ← c.prime_of.ensures,
    ) (ap numbers c.terminals_refusal.ensures)
