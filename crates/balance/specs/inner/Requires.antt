-- What the lists of tables have that passed the tests: what the inner functions require.
use Rattle.std.specs.Prelude.{ℕ, ◌*◌, ◌<◌, ◌≤◌, ◌≡◌, cond, length}
use Rattle.field.specs.inner.Requires.{KnownPrime}
use Rattle.expression.specs.Words.{word}
use Rattle.expression.specs.Requires.{Evaluable}
use Rattle.lookup.specs.Lookups.{lookup_count, exclusive, tuple_count, multiplicity_count, flag_count, lookup_words}
use Rattle.lookup.specs.Requires.{Fitting}
use Rattle.balance.specs.Tables.{TableLists, table_count, size_start, shape_at, table_at, main_count_size, preprocessed_count_size, public_value_count_size, node_count_size, lookup_count_size, name_byte_count_size, tuple_count_size, multiplicity_count_size, flag_count_size, element_count_size}
use Rattle.balance.specs.Members.{table_of}
use Rattle.expression.specs.Node.{node_words}

-- `lists_fit`: the tables' parts of each list are the whole list
pub record ListsCovered (l : TableLists) : Type 0 where
  pub tables : table_count l.sizes ≤ 16
  pub main : length l.main ≡ 1 * size_start l.sizes main_count_size (table_count l.sizes)
  pub preprocessed : length l.preprocessed ≡ 1 * size_start l.sizes preprocessed_count_size (table_count l.sizes)
  pub public_values : length l.public_values ≡ 1 * size_start l.sizes public_value_count_size (table_count l.sizes)
  pub nodes : length l.nodes ≡ node_words * size_start l.sizes node_count_size (table_count l.sizes)
  pub lookups : length l.lookups.lookups ≡ lookup_words * size_start l.sizes lookup_count_size (table_count l.sizes)
  pub names : length l.lookups.names ≡ 1 * size_start l.sizes name_byte_count_size (table_count l.sizes)
  pub tuples : length l.lookups.tuples ≡ 1 * size_start l.sizes tuple_count_size (table_count l.sizes)
  pub multiplicities : length l.lookups.multiplicities ≡ 1 * size_start l.sizes multiplicity_count_size (table_count l.sizes)
  pub flags : length l.lookups.flags ≡ 1 * size_start l.sizes flag_count_size (table_count l.sizes)
  pub elements : length l.lookups.elements ≡ 1 * size_start l.sizes element_count_size (table_count l.sizes)

-- a table that has lookups: it is one of the tables, and its rows may be evaluated
pub record Rowed (p : ℕ) (l : TableLists) (t : ℕ) : Type 0 where
  pub there : t < table_count l.sizes
  pub rows : (shape_at l.sizes t).height ≤ 1048576
  pub evaluable : Evaluable p (table_at l t).traces (table_at l t).nodes

pub record TablesTested (p : ℕ) (l : TableLists) : Type 0 where
  pub modulus : KnownPrime p
  pub tables : table_count l.sizes ≤ 16
  pub main : length l.main ≡ 1 * size_start l.sizes main_count_size (table_count l.sizes)
  pub preprocessed : length l.preprocessed ≡ 1 * size_start l.sizes preprocessed_count_size (table_count l.sizes)
  pub public_values : length l.public_values ≡ 1 * size_start l.sizes public_value_count_size (table_count l.sizes)
  pub nodes : length l.nodes ≡ node_words * size_start l.sizes node_count_size (table_count l.sizes)
  pub few : lookup_count l.lookups.lookups ≤ 1024
  pub few_tuples : length l.lookups.tuples ≤ 1024
  pub fitting : Fitting l.lookups
  pub narrow : (j : ℕ) → word l.lookups.tuples j ≤ 8
  pub multiplicities : (m : ℕ) → m < lookup_count l.lookups.lookups → multiplicity_count l.lookups.lookups m ≡ tuple_count l.lookups.lookups m
  pub flags : (m : ℕ) → m < lookup_count l.lookups.lookups → flag_count l.lookups.lookups m ≡ cond (exclusive l.lookups.lookups m) (tuple_count l.lookups.lookups m) 0
  pub rowed : (m : ℕ) → m < lookup_count l.lookups.lookups → Rowed p l (table_of l.sizes m)
