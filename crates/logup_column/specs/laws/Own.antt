-- A lookup's own parts: what stands in them is what the definitions read of lookup 0.
use Rattle.std.specs.Prelude.{◌≡◌, ℕ, ◌+◌, ◌-◌, ◌≤◌, length, take, drop}
use Rattle.std.proofs.Common.{sym, ◌∙◌, zero-add, add-one}
use Rattle.std.proofs.Math.Path.{ap, ap₂}
use mathlib.Core.List.{List, map}
use native.Mathlib.Omega.{arith}
use Rattle.lists.specs.Count.{total}
use Rattle.lists.specs.laws.Count.{total-le}
use Rattle.expression.specs.Words.{word}
use Rattle.lookup.specs.Lookups.{tuple_count, tuple_start, multiplicity_start, flag_start, element_start, tuple_width, multiplicity_node, flag_node, tuple_nodes}
use Rattle.logup.specs.Tuple.{tuple}
use Rattle.logup.specs.Column.{multiplicity, flag}
use Rattle.logup_column.specs.inner.Own.{lists, own_place, Fits}

pub start-next : (widths : List ℕ) (k : ℕ) → element_start widths (k + 1) ≡ element_start widths k + word widths k
unfolding element_start total
start-next widths k = rw (add-one k)

-- the nodes of tuple k are in the node list
pub start_in : {own widths mults nodes : List ℕ} (k : ℕ) → Fits own widths mults nodes → k ≤ tuple_count own 0 → element_start widths k ≤ length nodes
unfolding element_start
start_in {own} {widths} k s h = omega (arith, s.elements, total-le (word widths) k (tuple_count own 0) h)

module _ (own widths mults flags nodes vals alpha beta : List ℕ) where
  pub own-multiplicity : (k : ℕ) → word vals (word mults k) ≡ multiplicity (own_place own widths mults flags nodes vals alpha beta) k
  unfolding multiplicity multiplicity_node multiplicity_start total
  own-multiplicity k = ap (λ (n : ℕ). word vals (word mults n)) (sym (zero-add k))

  pub own-flag : (k : ℕ) → word vals (word flags k) ≡ flag (own_place own widths mults flags nodes vals alpha beta) k
  unfolding flag flag_node flag_start total
  own-flag k = ap (λ (n : ℕ). word vals (word flags n)) (sym (zero-add k))

  -- the middle of the node list
  pub own-tuple : (k s r : ℕ) → s ≡ element_start widths k → r ≡ word widths k
      → map (word vals) (take (s + r - s) (drop s nodes)) ≡ tuple (lists own widths mults flags nodes) vals 0 k
  unfolding tuple tuple_nodes tuple_width tuple_start total
  own-tuple k s r e g =
      ap₂ (λ (m a : ℕ). map (word vals) (take m (drop a nodes))) (n ∙ g ∙ ap (word widths) (sym (zero-add k))) (e ∙ ap (element_start widths) (sym (zero-add k)))
    where
      n : s + r - s ≡ r
      n = omega arith
