-- The values of the nodes on a row, as they stand in the 1,024.
use Rattle.std.specs.Prelude.{◌≡◌, refl, List, ◌++◌, ℕ, ◌+◌, ◌-◌, ◌≤◌, length, take, drop, replicate}
use Rattle.std.proofs.Common.{sym, subst, ap, ap₂, ◌∙◌, zero-le, arith, length-append, drop_at}
use Rattle.std.proofs.lemmas.List.{length-replicate, replicate-append-replicate}
use borrow.Rule.Slice.PartMut.{put_mid}
use Rattle.lists.specs.laws.Filled.{filled_none, filled-part}
use Rattle.expression.specs.Node.{node_count}
use Rattle.expression.specs.Window.{Traces}
use Rattle.expression.specs.Values.{row_values}
use Rattle.expression.specs.Requires.{Below, Evaluable}
use Rattle.expression.specs.laws.Values.{values-part, row_values-below, row_values-length}

module _ {b : List ℕ} (p : ℕ) (nodes : List ℕ) (t : Traces) (r : ℕ) (e : b ≡ row_values p nodes t r ++ replicate (1024 - node_count nodes) 0) where
  pub vals_are : take (node_count nodes - 0) b ≡ row_values p nodes t r
  vals_are = let k : node_count nodes - 0 ≡ node_count nodes = omega arith in rw k (values-part p nodes t r (1024 - node_count nodes) e)

  pub vals-below : Evaluable p t nodes → Below p (take (node_count nodes - 0) b)
  vals-below v = subst (Below p) (sym vals_are) (row_values-below r v)

  pub values-within : node_count nodes ≤ length b
  values-within = omega (arith, ap length e, length-append (row_values p nodes t r) (replicate (1024 - node_count nodes) 0), row_values-length p nodes t r)

  -- the values that the nodes filled are zero again, so that all are
  pub cleared : {z : List ℕ} → z ≡ replicate (length (take (node_count nodes - 0) (drop 0 b))) 0 → node_count nodes ≤ 1024
      → put_mid 0 (node_count nodes - 0) b z ≡ replicate 1024 0
  cleared {z} ez h =
      (filled-part z filled_none zero-le values-within (ap length zeros ∙ length-replicate (node_count nodes) 0 ∙ omega arith) refl).is
      ∙ ap₂ (◌++◌ {A = ℕ}) zeros (ap (drop (node_count nodes)) e ∙ drop_at (row_values p nodes t r) (replicate (1024 - node_count nodes) 0) (node_count nodes) (row_values-length p nodes t r))
      ∙ replicate-append-replicate (node_count nodes) (1024 - node_count nodes) 0 ∙ ap (λ (n : ℕ). replicate n 0) whole
    where
      zeros : z ≡ replicate (node_count nodes) 0
      zeros = ez ∙ ap (λ (n : ℕ). replicate n 0) (ap length vals_are ∙ row_values-length p nodes t r)

      whole : node_count nodes + (1024 - node_count nodes) ≡ 1024
      whole = omega arith
