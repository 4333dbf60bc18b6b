-- The weights that building writes are whole, and within their limits.
use Rattle.std.specs.Prelude.{◌≡◌, refl, Bool, not, ◌||◌, List, ℕ, zero, suc, ◌+◌, ◌*◌, ◌<◌, ◌≤◌}
use Rattle.std.proofs.Common.{◌∙◌, zero-le, arith, eqb-true}
use Rattle.std.proofs.Math.Bool.{true, false, cond}
use Rattle.std.proofs.Math.Dec.{eqb}
use Rattle.lists.specs.Count.{total}
use Rattle.lists.specs.laws.Joined.{joined_at}
use Rattle.expression.specs.Words.{word, low_half, high_half}
use Rattle.expression.specs.Values.{bit}
use Rattle.lookup.specs.Lookups.{lookup_words, lookup_word, weight, tuple_count}
use Rattle.lookup.specs.Tests.{weight_limit}
use Rattle.lookup_degree.specs.laws.Greatest.{greatest-le}
use Rattle.lookup_builder.specs.Building.{interaction_count, tuple_number, first_tuple, is_local, weight_sum, weight_top, built_weight, built_words, built}
use Rattle.lookup_builder.specs.BuiltWeights.{BuiltWeights}
use Rattle.lookup_builder.specs.declared.answer.Kinds.{Kinds}

total-le : (f : ℕ → ℕ) (n : ℕ) → ((k : ℕ) → f k ≤ 4294967295) → total f n ≤ n * 4294967295
unfolding total
total-le f zero h = zero-le
total-le f (suc n) h = omega (arith, h n, total-le f n h)

-- a sum of n weights is within the limit of a local of n tuples
local-within : (n s : ℕ) → s ≤ n * 4294967295 → s ≤ cond (eqb n 0) 4294967295 (n * 4294967295)
local-within n s h = go (eqb n 0) refl
  where
    go : (b : Bool) → eqb n 0 ≡ b → s ≤ cond b 4294967295 (n * 4294967295)
    go true e = omega (arith, eqb-true n 0 e)
    go false e = h

module _ (k : Kinds) (interactions weights : List ℕ) (h : (j : ℕ) → word weights j ≤ 4294967295) (i : ℕ) (l : i < interaction_count k) where
  at_word : (f : ℕ) → f < lookup_words → lookup_word (built k interactions weights) i f ≡ word (built_words k interactions weights i) f
  unfolding built
  at_word f q =
      joined_at (built_words k interactions weights) lookup_words (interaction_count k) i f (λ j. unfold built_words in refl) l q

  whole-weight : weight (built k interactions weights) i ≡ built_weight k interactions weights i
  whole-weight =
      let w : ℕ = built_weight k interactions weights i in
      let low : lookup_word (built k interactions weights) i 2 ≡ low_half w = at_word 2 (omega arith) ∙ (unfold built_words in refl) in
      let high : lookup_word (built k interactions weights) i 8 ≡ high_half w = at_word 8 (omega arith) ∙ (unfold built_words in refl) in
      omega (arith, low, high)

  within-limit : built_weight k interactions weights i ≤ weight_limit (built k interactions weights) i
  unfolding weight_limit built_weight
  within-limit =
      let scope : lookup_word (built k interactions weights) i 0 ≡ bit (not (is_local k i)) = at_word 0 (omega arith) ∙ (unfold built_words in refl) in
      let count : tuple_count (built k interactions weights) i ≡ tuple_number interactions i = at_word 5 (omega arith) ∙ (unfold built_words in refl) in
      rw (scope, count) (go (is_local k i))
    where
      go : (b : Bool) → cond b (weight_sum interactions weights i) (weight_top interactions weights i)
          ≤ cond (not (eqb (bit (not b)) 0) || eqb (tuple_number interactions i) 0) 4294967295 (tuple_number interactions i * 4294967295)
      go true = unfold weight_sum in local-within (tuple_number interactions i) (weight_sum interactions weights i) (total-le (λ j. word weights (first_tuple interactions i + j)) (tuple_number interactions i) (λ j. h (first_tuple interactions i + j)))
      go false = unfold weight_top in greatest-le (λ j. word weights (first_tuple interactions i + j)) (tuple_number interactions i) 4294967295 (λ j q. h (first_tuple interactions i + j))

pub built-weights : BuiltWeights
built-weights k interactions weights h i l =
    let whole = whole-weight k interactions weights h i l in
    record { whole = whole; within = rw whole (within-limit k interactions weights h i l) }
