-- What the code asks of its lists, and what its loops make.
use Rattle.std.proofs.Math.Option.{Option, none, some}
use Rattle.std.specs.Prelude.{List, ℕ, ◌*◌, ◌<◌, ◌≤◌, ◌≡◌, eqb, length, Some, None}
use Rattle.std.specs.Prelude as Std
use Rattle.expression.specs.Words.{word}
use Rattle.lookup.specs.Lookups.{Lookups, lookup_words, lookup_count, name_start, tuple_start}
use Rattle.lookup.specs.Sizes.{table_count, size_start}
use Rattle.lookup_buses.specs.Order.{keep, by_place, numbers}
use Rattle.lookup_buses.specs.CheckBusWidths.{BusTables, bus_sizes, lookup_count_size, name_bytes_size, tuple_count_size, table_at}

-- the lookups of place k, and all of them by place, by number, from a list of places
unfoldable pub of_place : List ℕ → ℕ → ℕ → List ℕ
of_place places k n = keep (λ (i : ℕ). eqb (word places i) k) (numbers n)

unfoldable pub order_of : List ℕ → ℕ → ℕ → List ℕ
order_of places k n = by_place (λ (i : ℕ). word places i) k (numbers n)

-- all names and tuples lie in the lists
pub record BusLists (lookups names tuples : List ℕ) : Type 0 where
  pub few : lookup_count lookups ≤ 64
  pub names_in : name_start lookups (lookup_count lookups) ≤ length names
  pub tuples_in : tuple_start lookups (lookup_count lookups) ≤ length tuples

-- `lists_fit`: the tables lie in the lists
pub record BusListsCover (l : BusTables) : Type 0 where
  pub few : table_count bus_sizes l.sizes ≤ 16
  pub lookups : length l.lookups ≡ lookup_words * size_start bus_sizes l.sizes lookup_count_size (table_count bus_sizes l.sizes)
  pub names : length l.names ≡ 1 * size_start bus_sizes l.sizes name_bytes_size (table_count bus_sizes l.sizes)
  pub tuples : length l.tuples ≡ 1 * size_start bus_sizes l.sizes tuple_count_size (table_count bus_sizes l.sizes)

-- `all_fit`: and each table's names and tuples in its own
pub record BusTablesFit (l : BusTables) : Type 0 where
  pub spanned : BusListsCover l
  pub each : (t : ℕ) → t < table_count bus_sizes l.sizes → BusLists (table_at l t).lookups (table_at l t).names (table_at l t).tuples

-- the lists of all tables, and those of one of them
pub record TableAmong : Type 0 where
  pub all : BusTables
  pub own : Lookups

abbrev pub among : BusTables → Lookups → TableAmong
among all own = record { all = all; own = own }

-- the code's option as the definitions have it
abbrev pub width_option : Std.Option ℕ → Option ℕ
width_option None = none
width_option (Some w) = some w
