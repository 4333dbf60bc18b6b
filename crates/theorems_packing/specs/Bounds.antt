-- What packing leaves as it is at the entry points over several tables: the sum of the height bound, and the widths of the buses.
use Rattle.std.specs.Prelude.{◌≡◌, true, List, ◌↔◌, ℕ, ◌<◌, length}
use Rattle.std.proofs.Math.Option.{none}
use Rattle.lookup.specs.Lookups.{bus_lookups}
use Rattle.lookup.specs.Table.{Table}
use Rattle.lookup.specs.Tests.{lookups_fit}
use Rattle.lookup_buses.specs.Widths.{Tables, widths_refusal, widest}
use Rattle.lookup_protocol.specs.Height.{table_lookups, weight_sum, height_sum}
use Rattle.theorems_packing.specs.Packed.{packed_table}

-- SPECIFICATION, section 6.2: a merge "adds weights"
abbrev pub SameWeightSum : Type 0
SameWeightSum = (limit : ℕ) (t : Table) → weight_sum (packed_table limit t).lookups.lookups ≡ weight_sum t.lookups.lookups

-- the lists of the height bound hold the lookups of these tables
pub record HoldsLookups (tables : ℕ → Table) (lookups counts : List ℕ) (n : ℕ) : Type 0 where
  pub count : length counts ≡ n
  pub each : (t : ℕ) → t < n → table_lookups lookups counts t ≡ (tables t).lookups.lookups

-- the tables, each packed with a limit of its own
abbrev pub packed_tables : (ℕ → ℕ) → (ℕ → Table) → ℕ → Table
packed_tables limit tables t = packed_table (limit t) (tables t)

-- SPECIFICATION, section 7.2: "The sum over all lookups of weight × height" is the same, for any tables
abbrev pub SameHeightSum : Type 0
SameHeightSum =
    (n : ℕ) (limit : ℕ → ℕ) (tables : ℕ → Table) (lookups counts lookups' counts' heights : List ℕ)
    → HoldsLookups tables lookups counts n → HoldsLookups (packed_tables limit tables) lookups' counts' n
    → height_sum lookups' counts' heights ≡ height_sum lookups counts heights

-- what `check_bus_widths` reads of n tables
abbrev pub bus_tables : ℕ → (ℕ → Table) → Tables
bus_tables n tables =
    record { count = n; table = λ t. bus_lookups (tables t).lookups.lookups (tables t).lookups.names (tables t).lookups.tuples }

-- SPECIFICATION, section 7.1: "All tuples on one bus, over all tables, must have one width." The packed tables have refusal 6 exactly
-- where the tables have it, and "the width of the widest tuple on any bus" is the same. Which lookup 6 names may differ.
pub record SameWidthsOf (n : ℕ) (limit : ℕ → ℕ) (tables : ℕ → Table) : Type 0 where
  pub refusal : (widths_refusal (bus_tables n tables) ≡ none) ↔ (widths_refusal (bus_tables n (packed_tables limit tables)) ≡ none)
  pub widest_same : widest (bus_tables n (packed_tables limit tables)) ≡ widest (bus_tables n tables)

abbrev pub SameWidths : Type 0
SameWidths =
    (n : ℕ) (limit : ℕ → ℕ) (tables : ℕ → Table) → ((t : ℕ) → t < n → lookups_fit (tables t).lookups ≡ true) → SameWidthsOf n limit tables
