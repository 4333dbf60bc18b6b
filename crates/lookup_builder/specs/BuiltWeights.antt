-- The weights that building writes, as a statement. SPECIFICATION, section 6.3: "the exact sum of its tuples' weights", "64 tuples make at most
-- 64 × (2³² - 1)", which is within the limit of 2.4. Its proof is laws/BuiltWeights.antt.
use Rattle.std.specs.Prelude.{◌≡◌, List, ℕ, ◌<◌, ◌≤◌}
use Rattle.expression.specs.Words.{word}
use Rattle.lookup.specs.Lookups.{weight}
use Rattle.lookup.specs.Tests.{weight_limit}
use Rattle.lookup_builder.specs.Building.{interaction_count, built_weight, built}
use Rattle.lookup_builder.specs.declared.answer.Kinds.{Kinds}

-- the weight that is read from the words of lookup i is the one that was built, and no weight is over its limit: no refusal 1 for it
pub record BuiltWhole (k : Kinds) (interactions weights : List ℕ) (i : ℕ) : Type 0 where
  pub whole : weight (built k interactions weights) i ≡ built_weight k interactions weights i
  pub within : weight (built k interactions weights) i ≤ weight_limit (built k interactions weights) i

-- for weights of 32 bits
abbrev pub BuiltWeights : Type 0
BuiltWeights =
    (k : Kinds) (interactions weights : List ℕ) → ((j : ℕ) → word weights j ≤ 4294967295) → (i : ℕ) → i < interaction_count k
    → BuiltWhole k interactions weights i
