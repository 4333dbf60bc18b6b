use Rattle.lookup.specs.Refusals.{nodes_refusal}
use Rattle.lookup.proofs.refusals.nodes_refusal.Goals as goal

pub returns-then-not-nodes_known : goal.returns-then-not-nodes_known
unfolding nodes_refusal
returns-then-not-nodes_known c later = rw (← c.nodes_known.ensures, c.if-not-nodes_known.true)

pub returns-then-not-degrees_low : goal.returns-then-not-degrees_low
unfolding nodes_refusal
returns-then-not-degrees_low c later =
    rw (
      ← c.nodes_known.ensures,
      c.if-not-nodes_known.false,
      ← c.degrees_low.ensures,
      c.if-not-degrees_low.true,
    )

pub returns : goal.returns
unfolding nodes_refusal
returns c later =
    rw (
      ← c.nodes_known.ensures,
      c.if-not-nodes_known.false,
      ← c.degrees_low.ensures,
      c.if-not-degrees_low.false,
    )
