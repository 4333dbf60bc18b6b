use Prim.Native.Nat.{ℕ, ◌+◌, ◌*◌}
use mathlib.Core.Path.{◌≡◌, ◌∙◌}
use native.Mathlib.Omega.{arith}
use Rattle.lists.specs.Count.{total}
use Rattle.expression.specs.Words.{word}
use Rattle.lookup.specs.Lookups.{element_start}
use Rattle.lookup.proofs.starts.element_start.Goals as goal

-- a record of one word
single : (i : ℕ) → 1 * i + 0 ≡ i
single i = omega arith

pub returns : goal.returns
unfolding element_start
returns c = (
  c.total_of.ensures.0 ∙ (λ k. total (λ (i : ℕ). word c.args.tuples.now (single i k)) c.args.j),
  c.total_of.ensures.1,
)
