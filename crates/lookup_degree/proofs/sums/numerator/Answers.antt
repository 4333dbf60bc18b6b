use Rattle.lookup_degree.specs.laws.Rising.{rise_begins, rise_turn}
use Rattle.lookup_degree.proofs.Loops.{one_of}
use Rattle.expression.specs.Words.{word}
use Prim.Native.Nat.{ℕ, ◌+◌, ◌-◌}
use native.Mathlib.Omega.{arith}
use mathlib.Core.Path.{◌∙◌, ap, ap₂}
use borrow.Author.Rules.{rules}
use Rattle.lookup_degree.proofs.sums.numerator.Goals as goal

pub loop-k-init : goal.loop-k-init
loop-k-init c = rise_begins

pub overflow_sub-sum : goal.overflow_sub-sum
overflow_sub-sum c =
    omega (
      arith,
      one_of (λ k. word c.args.degrees.now (c.args.first + k)) c.args.n c.loop-k.k c.args.sum c.requires.4 c.loop-k-test.true (c.from-tuple.ensures ∙ c.word_at.ensures),
    )

pub loop-k-preserved : goal.loop-k-preserved
loop-k-preserved c =
    rise_turn _ c.loop-k.invariant (search rules) c.max-top.ensures (ap₂ (λ (x y : ℕ). x + (c.args.sum - y)) (c.from-multiplicity.ensures
    ∙ c.word_at-in-loop-k-2.ensures ∙ ap (word c.args.nodes.now) c.word_at-in-loop-k.ensures) (c.from-tuple.ensures ∙ c.word_at.ensures))
