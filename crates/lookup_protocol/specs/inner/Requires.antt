-- What the code asks of its lists: what `tables_fit` tests.
use Rattle.std.specs.Prelude.{◌≡◌, List, ℕ, ◌*◌, ◌<◌, ◌≤◌, length}
use Rattle.lookup.specs.Lookups.{lookup_words, lookup_count, weight, tuple_start}
use Rattle.lookup.specs.Sizes.{size, size_start}
use Rattle.lookup.specs.Tests.{weight_limit}
use Rattle.lookup_protocol.specs.Height.{count_sizes, lookup_count_size}

-- few tables of few lookups
pub record FewLookups (counts : List ℕ) : Type 0 where
  pub few_tables : length counts ≤ 16
  pub few_lookups : (t : ℕ) → size count_sizes counts lookup_count_size t ≤ 64

-- .. and the lookups' words are theirs
pub record LookupsCounted (lookups counts : List ℕ) : Type 0 where
  pub few : FewLookups counts
  pub whole : length lookups ≡ lookup_words * size_start count_sizes counts lookup_count_size (length counts)

-- one table's lookups: few, with few tuples, and no weight is over its limit
pub record FewWeights (lookups : List ℕ) : Type 0 where
  pub few_lookups : lookup_count lookups ≤ 64
  pub few_tuples : tuple_start lookups (lookup_count lookups) ≤ 64
  pub weight : (i : ℕ) → i < lookup_count lookups → weight lookups i ≤ weight_limit lookups i

-- the lookups of all tables, the number of each table's, and the heights
pub record HeightLists : Type 0 where
  pub lookups : List ℕ
  pub counts : List ℕ
  pub heights : List ℕ

abbrev pub height_lists : List ℕ → List ℕ → List ℕ → HeightLists
height_lists lookups counts heights = record { lookups = lookups; counts = counts; heights = heights }
