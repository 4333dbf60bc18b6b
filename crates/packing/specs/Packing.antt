-- Packing (`pack_same_bus`). SPECIFICATION, section 6.2.
use Rattle.std.specs.Prelude.{Bool, false, cond, not, ◌&&◌, ◌||◌, List, [], ◌∷◌, ◌++◌, map, ℕ, suc, ◌+◌, leb, ltb}
use Rattle.lists.specs.Same.{same_list}
use Rattle.lookup.specs.Lookups.{Lookups, Lookup, lookup_count, lookup_at}
use Rattle.lookup_degree.specs.Degree.{lookup_degree}
use Rattle.lookup_buses.specs.Order.{arranged}

-- "Locals and exclusives always stand alone."
abbrev pub passes : Lookup → Bool
passes l = l.local || l.exclusive

-- an additive lookup on the bus of this name
abbrev pub additive_on : List ℕ → Lookup → Bool
additive_on bus l = not (passes l) && same_list bus l.name

-- two additive lookups of one bus
abbrev pub on_one_bus : Lookup → Lookup → Bool
on_one_bus a b = not (passes a) && additive_on a.name b

-- "first locals and exclusives, in list order", then "bus by bus, a bus by its first additive lookup"
unfoldable pub in_order : Lookups → List Lookup
in_order l = map (lookup_at l) (arranged (λ i. passes (lookup_at l i)) (λ i. (lookup_at l i).name) (lookup_count l.lookups))

-- the column that carries the tuples of a, then those of b: a merge "adds weights"
abbrev pub merged : Lookup → Lookup → Lookup
merged a b =
    record {
      local = a.local;
      name = a.name;
      weight = a.weight + b.weight;
      column = a.column;
      exclusive = a.exclusive;
      tuples = a.tuples ++ b.tuples;
      multiplicities = a.multiplicities ++ b.multiplicities;
      flags = a.flags ++ b.flags;
    }

-- "where both are additive, on one bus, and the merged lookup's degree (6.1, t = 0) is at most the limit"; `deg` is the nodes' degree
abbrev pub joins : (ℕ → ℕ) → ℕ → Lookup → Lookup → Bool
joins deg limit a b = on_one_bus a b && leb (lookup_degree deg (merged a b)) limit

-- "One column is open at a time": c is the open column; what does not join it closes it, and opens the next
unfoldable pub fill : (ℕ → ℕ) → ℕ → Lookup → List Lookup → List Lookup
fill deg limit c [] = c ∷ []
fill deg limit c (l ∷ ls) = cond (joins deg limit c l) (fill deg limit (merged c l) ls) (c ∷ fill deg limit l ls)

unfoldable pub filled : (ℕ → ℕ) → ℕ → List Lookup → List Lookup
filled deg limit [] = []
filled deg limit (l ∷ ls) = fill deg limit l ls

-- a lookup in column k
abbrev pub numbered : ℕ → Lookup → Lookup
numbered k l =
    record {
      local = l.local;
      name = l.name;
      weight = l.weight;
      column = k;
      exclusive = l.exclusive;
      tuples = l.tuples;
      multiplicities = l.multiplicities;
      flags = l.flags;
    }

-- "Columns are numbered by position": from k on
unfoldable pub renumbered : ℕ → List Lookup → List Lookup
renumbered k [] = []
renumbered k (l ∷ ls) = numbered k l ∷ renumbered (suc k) ls

unfoldable pub packed : (ℕ → ℕ) → ℕ → Lookups → List Lookup
packed deg limit l = renumbered 0 (filled deg limit (in_order l))

-- refusal 7: weights only add up, so that a merge was over where its column is. A local is no merge: its weight may be larger.
unfoldable pub overweight : List Lookup → Bool
overweight [] = false
overweight (l ∷ ls) = (not l.local && ltb 4294967295 l.weight) || overweight ls
