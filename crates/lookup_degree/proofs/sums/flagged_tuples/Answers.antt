use Rattle.lookup_degree.specs.laws.Rising.{rise_begins, rise_turn}
use Rattle.expression.specs.Words.{word}
use Prim.Native.Nat.{◌+◌}
use native.Mathlib.Omega.{arith}
use mathlib.Core.Path.{◌∙◌, ap, ap₂}
use borrow.Author.Rules.{rules}
use Rattle.lookup_degree.proofs.sums.flagged_tuples.Goals as goal

pub loop-k-init : goal.loop-k-init
loop-k-init c = (rise_begins, search rules)

pub loop-k-preserved : goal.loop-k-preserved
loop-k-preserved c = (
  rise_turn _ c.loop-k.invariant.0 (search rules) c.max-top.ensures (ap₂ ◌+◌ (c.from-flag.ensures ∙ c.word_at-in-loop-k-2.ensures ∙ ap (word c.args.nodes.now) c.word_at-in-loop-k.ensures) (c.from-tuple.ensures ∙ c.word_at.ensures)),
  omega (
    arith,
    c.max-top.ensures,
    c.loop-k.invariant.1,
  ),
)
