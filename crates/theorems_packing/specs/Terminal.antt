-- The terminal of the packed table. SPECIFICATION, section 1.1: "Lookups on one bus share a pair". Where they do, packing changes no
-- terminal; types.rs of p3-lookup, `pack_same_bus`: "The per-bus rational sum, and every committed terminal, is unchanged."
use Rattle.std.specs.Prelude.{◌≡◌, cond, ℕ, suc, T, length}
use mathlib.Core.List.{List, [], ◌∷◌, ◌++◌, flat_map}
use Rattle.field.specs.Element.{zero4, sum4}
use Rattle.theorems_logup.specs.Sets.{Pair}
use Rattle.expression.specs.Choices.{known, known_rule}
use Rattle.expression.specs.declared.choices.Choices.{Choices}
use Rattle.expression.specs.declared.sizes.Limits.{Limits}
use Rattle.lookup.specs.Lookups.{Lookup, lookup_count, lookup_at, lookups_of}
use Rattle.lookup.specs.Table.{Table, values_of}
use Rattle.logup.specs.Rule.{lookups_under}
use Rattle.logup.specs.Rows.{fraction_at}
use Rattle.logup.specs.Generation.{Generation, generation_at, accepts}
use Rattle.theorems_packing.specs.Packed.{packed_table, NotOverweight}
use Rattle.theorems_packing.specs.Passes.{Tested}
use Rattle.theorems_packing.specs.Same.{on_the_bus}

-- an alpha and a beta of four words each
pub record FourWords (q : Pair (List ℕ)) : Type 0 where
  pub alpha_four : length q.alpha ≡ 4
  pub beta_four : length q.beta ≡ 4

-- a pair for the bus of each name, and a pair for each local: for local 0, local 1, .. of the list
pub record SharedPairs : Type 0 where
  pub bus : List ℕ → Pair (List ℕ)
  pub own : ℕ → Pair (List ℕ)
  pub bus_four : (name : List ℕ) → FourWords (bus name)
  pub own_four : (n : ℕ) → FourWords (own n)

-- the pair of each lookup of a list, before which there were n locals
unfoldable pub pairs_from : SharedPairs → ℕ → List Lookup → List (Pair (List ℕ))
pairs_from c n [] = []
pairs_from c n (x ∷ xs) = cond x.local (c.own n ∷ pairs_from c (suc n) xs) (c.bus x.name ∷ pairs_from c n xs)

-- SPECIFICATION, section 2.8: "for lookup 0 alpha, then beta, then those of lookup 1, and so on"
unfoldable pub challenges_of : SharedPairs → Table → List ℕ
challenges_of c t = flat_map (λ (q : Pair (List ℕ)). q.alpha ++ q.beta) (pairs_from c 0 (lookups_of t.lookups))

-- Where generation accepts a table, and packing has no refusal 7, generation accepts the packed table too, at the same pairs and with the same buffer, and the answers are the
-- same: the same terminal, or none for both.
abbrev pub SameTerminal : Generation → Type 0
SameTerminal generation =
    (limit : ℕ) (t : Table) (c : SharedPairs) (buffer : List ℕ) → NotOverweight limit t
    → T (accepts (generation t (challenges_of c t) buffer).answer)
    → (generation (packed_table limit t) (challenges_of c (packed_table limit t)) buffer).answer
    ≡ (generation t (challenges_of c t) buffer).answer

-- of the entry point `generate` at every known field, profile and rule
abbrev pub KnownSameTerminal : Type 0
KnownSameTerminal = (c : Choices) (rule : ℕ) → T (known c) → T (known_rule rule) → SameTerminal (generation_at c rule)

-- the sum of the fractions of all lookups on one bus, over all rows, as a rule reads the tuples
unfoldable pub bus_sum : ℕ → ℕ → ℕ → Table → List ℕ → List ℕ → List ℕ
bus_sum rule p w t challenges bus =
    sum4 p
    (λ r. sum4 p
    (λ i. cond (on_the_bus bus (lookup_at t.lookups i))
    (fraction_at p w (lookups_under rule t.lookups) challenges (values_of p t) r i) zero4)
    (lookup_count t.lookups.lookups))
    t.traces.shape.height

-- "The per-bus rational sum": bus by bus, under either rule, and whether or not generation accepts
abbrev pub SameBusSum : Type 0
SameBusSum =
    (rule : ℕ) (m : Limits) (p w limit : ℕ) (t : Table) (c : SharedPairs) (bus : List ℕ) → Tested m p t
    → bus_sum rule p w (packed_table limit t) (challenges_of c (packed_table limit t)) bus ≡ bus_sum rule p w t (challenges_of c t) bus
