-- The sum of the height bound is below 2⁶³: sixteen tables add at most 128 × (2³² - 1) × 2²⁰ each.
use Rattle.std.specs.Prelude.{◌≡◌, refl, List, ℕ, zero, suc, ◌+◌, ◌*◌, ◌<◌, ◌≤◌, length}
use Rattle.std.proofs.Common.{subst, zero-le, arith}
use Rattle.lists.specs.Count.{total}
use Rattle.expression.specs.laws.Tested.{limits_sane}
use Rattle.lookup.specs.Lookups.{lookup_count, weight}
use Rattle.lookup_protocol.specs.Height.{weight_sum, table_weight, height_sum}
use Rattle.lookup_protocol.specs.HeightSum.{HeightSumFits}
use Rattle.lookup_protocol.specs.inner.Requires.{FewWeights}
use Rattle.lookup_protocol.proofs.laws.Height.{Weighed, weighed_none, weighed-next, weighed-all, weight-fits, counted-tested}

-- the sum of the first i weights of a table
weighed : {lookups : List ℕ} → FewWeights lookups → (i : ℕ) → i ≤ lookup_count lookups → (sum : ℕ) × Weighed lookups i sum
weighed f zero h = (0, weighed_none)
weighed {lookups} f (suc i) h =
    let w = weighed f i (omega arith) in
    let e : i + 1 ≡ suc i = omega arith in
    (w.0 + weight lookups i, subst (λ (n : ℕ). Weighed lookups n (w.0 + weight lookups i)) e (weighed-next f w.1 (omega arith) refl))

weights-few : {lookups : List ℕ} → FewWeights lookups → weight_sum lookups ≤ 549755813760
weights-few {lookups} f =
    let w = weighed f (lookup_count lookups) (omega arith) in
    let s = weighed-all f w.1 (omega arith) in
    omega (arith, s.0, s.1)

tables-few : (f : ℕ → ℕ) (n : ℕ) → ((t : ℕ) → t < n → f t ≤ 576460752169205760) → total f n ≤ n * 576460752169205760
unfolding total
tables-few f zero h = zero-le
tables-few f (suc n) h = omega (arith, h n (omega arith), tables-few f n (λ t l. h t (omega arith)))

pub height_sum-fits : HeightSumFits
unfolding height_sum table_weight
height_sum-fits profile lookups counts heights h =
    let k = counted-tested lookups counts heights (limits_sane profile) refl h in
    let each : (t : ℕ) → t < length counts → table_weight lookups counts heights t ≤ 576460752169205760 =
    λ t l. weight-fits (weights-few (k.0.1 t l)) (k.1.1 t) in
    omega (arith, tables-few (table_weight lookups counts heights) (length counts) each, k.0.0.few.few_tables)
