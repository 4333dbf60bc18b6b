use Rattle.lookup_degree.specs.inner.At.{denominator_at}
use Rattle.expression.specs.Words.{word}
use Rattle.lists.specs.Count.{total}
use Prim.Native.Nat.{ℕ, ◌+◌}
use native.Mathlib.Omega.{arith}
use mathlib.Core.Path.{◌∙◌, ap₂}
use Rattle.lookup_degree.proofs.lookups.denominator_of.Goals as goal

pub returns : goal.returns
unfolding denominator_at
returns c = (
  c.denominator.ensures.0 ∙ ap₂ (λ (a b : ℕ). total (λ k. word c.args.tuples.now (a + k)) b) c.tuple_start-first.ensures.0 c.tuple_count-n.ensures,
  omega (
    arith,
    c.denominator.ensures.1,
    c.tuple_count-n.ensures,
    c.requires.tuples,
  ),
)
