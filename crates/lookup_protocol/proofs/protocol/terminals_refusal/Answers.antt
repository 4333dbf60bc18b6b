use Rattle.lookup_protocol.specs.Terminals.{terminals_refusal}
use Rattle.lookup_protocol.proofs.protocol.terminals_refusal.Goals as goal

pub returns-then-not-whole-few : goal.returns-then-not-whole-few
unfolding terminals_refusal
returns-then-not-whole-few c = rw c.if-not-whole-few.true

pub returns-then-not-all_below : goal.returns-then-not-all_below
unfolding terminals_refusal
returns-then-not-all_below c =
    rw (
      c.if-not-whole-few.false,
      ← c.all_below.ensures,
      c.if-not-all_below.true,
    )

pub returns-then-cancels : goal.returns-then-cancels
unfolding terminals_refusal
returns-then-cancels c =
    rw (
      c.if-not-whole-few.false,
      ← c.all_below.ensures,
      c.if-not-all_below.false,
      ← c.terminal_sum.ensures,
      ← c.cancels.ensures,
      c.if-cancels.true,
    )

pub returns-else-cancels : goal.returns-else-cancels
unfolding terminals_refusal
returns-else-cancels c =
    rw (
      c.if-not-whole-few.false,
      ← c.all_below.ensures,
      c.if-not-all_below.false,
      ← c.terminal_sum.ensures,
      ← c.cancels.ensures,
      c.if-cancels.false,
    )
