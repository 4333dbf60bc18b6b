-- Building (`from_interactions`). SPECIFICATION, section 6.3: "locals, then globals, then exclusives". The interactions come in that order,
-- two words each: the length of the name, and the number of tuples. Beside them a weight for each tuple, one interaction after the other.
use Rattle.std.specs.Prelude.{Bool, cond, not, List, [], ◌∷◌, ℕ, ◌+◌, ◌*◌, leb, ltb}
use Rattle.std.proofs.Math.Option.{Option, some}
use Rattle.lists.specs.Count.{total, first, joined}
use Rattle.expression.specs.Words.{word, low_half, high_half}
use Rattle.expression.specs.Values.{bit}
use Rattle.expression.specs.declared.refusal.Refusal.{Refusal}
use Rattle.lookup.specs.Lookups.{tuple_count, tuple_width}
use Rattle.lookup_degree.specs.Sums.{greatest}
use Rattle.lookup_buses.specs.Widths.{tuple_refusal}
use Rattle.lookup_builder.specs.declared.answer.Kinds.{Kinds}

-- the words of an interaction
abbrev pub interaction_words : ℕ
interaction_words = 2

abbrev pub interaction_count : Kinds → ℕ
interaction_count k = k.locals + k.globals + k.exclusives

abbrev pub name_bytes : List ℕ → ℕ → ℕ
name_bytes interactions i = word interactions (interaction_words * i)

abbrev pub tuple_number : List ℕ → ℕ → ℕ
tuple_number interactions i = word interactions (interaction_words * i + 1)

-- the number of interaction i's first tuple among all tuples
unfoldable pub first_tuple : List ℕ → ℕ → ℕ
first_tuple interactions i = total (tuple_number interactions) i

abbrev pub is_local : Kinds → ℕ → Bool
is_local k i = ltb i k.locals

abbrev pub is_exclusive : Kinds → ℕ → Bool
is_exclusive k i = leb (k.locals + k.globals) i

-- a local's: "the exact sum of its tuples' weights"
unfoldable pub weight_sum : List ℕ → List ℕ → ℕ → ℕ
weight_sum interactions weights i = total (λ k. word weights (first_tuple interactions i + k)) (tuple_number interactions i)

-- an exclusive's: "the largest of its tuples'"; a global has one tuple, whose weight is its own
unfoldable pub weight_top : List ℕ → List ℕ → ℕ → ℕ
weight_top interactions weights i = greatest (λ k. word weights (first_tuple interactions i + k)) (tuple_number interactions i)

unfoldable pub built_weight : Kinds → List ℕ → List ℕ → ℕ → ℕ
built_weight k interactions weights i = cond (is_local k i) (weight_sum interactions weights i) (weight_top interactions weights i)

-- the words of lookup i, in column i: scope, name length, weight, column, exclusive, tuples, multiplicities, flags, and the weight's high half
unfoldable pub built_words : Kinds → List ℕ → List ℕ → ℕ → List ℕ
built_words k interactions weights i =
    bit (not (is_local k i))
    ∷ cond (is_local k i) 0 (name_bytes interactions i)
    ∷ low_half (built_weight k interactions weights i)
    ∷ i
    ∷ bit (is_exclusive k i)
    ∷ tuple_number interactions i
    ∷ tuple_number interactions i
    ∷ cond (is_exclusive k i) (tuple_number interactions i) 0
    ∷ high_half (built_weight k interactions weights i)
    ∷ []

unfoldable pub built : Kinds → List ℕ → List ℕ → List ℕ
built k interactions weights = joined (built_words k interactions weights) 0 (interaction_count k)

-- refusal 6, SPECIFICATION, section 6.3: "the width of its first tuple is expected"
unfoldable pub local_refusal : List ℕ → List ℕ → ℕ → Option Refusal
local_refusal lookups tuples i = first (λ k. tuple_refusal i (some (tuple_width lookups tuples i 0)) (tuple_width lookups tuples i k)) (tuple_count lookups i)

unfoldable pub locals_refusal : ℕ → List ℕ → List ℕ → Option Refusal
locals_refusal n lookups tuples = first (local_refusal lookups tuples) n
