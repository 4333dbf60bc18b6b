use Rattle.lookup_degree.specs.inner.At.{additive_at}
use Prim.Native.Nat.{ℕ, ◌+◌, max}
use mathlib.Core.Path.{◌∙◌, ap₂}
use Rattle.lookup_degree.proofs.lookups.additive_degree.Goals as goal

pub returns : goal.returns
unfolding additive_at
returns c = c.max.ensures ∙ ap₂ (λ (a b : ℕ). max (1 + a) b) c.denominator_of-sum.ensures.0 c.numerator_of-top.ensures
