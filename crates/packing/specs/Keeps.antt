-- What packing keeps of a table's lookups, as a statement. SPECIFICATION, section 6.2. Its proof is laws/Keeps.antt.
use Rattle.std.specs.Prelude.{◌≡◌, ◌⊎◌, ℕ, ◌<◌, ◌≤◌, length}
use mathlib.Core.List.{List, [], ◌++◌, flat_map, Memᴰ}
use Rattle.lookup.specs.Lookups.{Lookups, Lookup, lookup_count, lookup_at, lookups_of}
use Rattle.lookup_degree.specs.Sums.{sum_of}
use Rattle.lookup_degree.specs.Degree.{lookup_degree}
use Rattle.lookup_buses.specs.Order.{keep}
use Rattle.packing.specs.Packing.{passes, additive_on, numbered, renumbered, packed}

-- "A lookup that is over the limit by itself stands alone": a column is within the limit, or it is one of the lookups under its new number
abbrev pub Lawful : (ℕ → ℕ) → ℕ → Lookups → Lookup → Type 0
Lawful deg limit l x =
    (lookup_degree deg x ≤ limit) ⊎ ((i : ℕ) × (j : ℕ) × (i < lookup_count l.lookups) × (x ≡ numbered j (lookup_at l i)))

pub record PackingKeeps (deg : ℕ → ℕ) (limit : ℕ) (l : Lookups) : Type 0 where
  -- every bus has the same tuples with the same multiplicities, in order, before and after: "in list order within a bus"
  pub tuples : (bus : List ℕ)
      → flat_map (λ (x : Lookup). x.tuples) (keep (additive_on bus) (packed deg limit l))
      ≡ flat_map (λ (x : Lookup). x.tuples) (keep (additive_on bus) (lookups_of l))
  pub multiplicities : (bus : List ℕ)
      → flat_map (λ (x : Lookup). x.multiplicities) (keep (additive_on bus) (packed deg limit l))
      ≡ flat_map (λ (x : Lookup). x.multiplicities) (keep (additive_on bus) (lookups_of l))
  -- "first locals and exclusives, in list order", untouched but for their columns, and no other column is of their kind
  pub others : (columns : List Lookup) × (packed deg limit l ≡ renumbered 0 (keep passes (lookups_of l) ++ columns)) × (keep passes columns ≡ [])
  -- a merge "adds weights", and tuples neither come nor go
  pub weights : sum_of (λ (x : Lookup). x.weight) (packed deg limit l) ≡ sum_of (λ (x : Lookup). x.weight) (lookups_of l)
  pub count : sum_of (λ (x : Lookup). length x.tuples) (packed deg limit l) ≡ sum_of (λ (x : Lookup). length x.tuples) (lookups_of l)
  pub within : (x : Lookup) → Memᴰ x (packed deg limit l) → Lawful deg limit l x

-- for every degree of the nodes, every limit and every list of lookups
abbrev pub PackingKeepsAll : Type 0
PackingKeepsAll = (deg : ℕ → ℕ) (limit : ℕ) (l : Lookups) → PackingKeeps deg limit l
