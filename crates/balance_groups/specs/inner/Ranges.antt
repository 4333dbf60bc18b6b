-- Where the lists of table t lie in the lists of all tables.
use Rattle.std.specs.Prelude.{ℕ, ◌+◌, ◌*◌, List}
use Rattle.balance.specs.Tables.{size, size_start, main_count_size, preprocessed_count_size, public_value_count_size, node_count_size, lookup_count_size, name_byte_count_size, tuple_count_size, multiplicity_count_size, flag_count_size, element_count_size}
use Rattle.balance_groups.specs.declared.ranges.TableRanges.{TableRanges}
use Rattle.expression.specs.Node.{node_words}
use Rattle.lookup.specs.Lookups.{lookup_words}

unfoldable pub table_ranges_at : List ℕ → ℕ → TableRanges
table_ranges_at sizes t =
    record {
      main = 1 * size_start sizes main_count_size t;
      main_end = 1 * size_start sizes main_count_size t + 1 * size sizes main_count_size t;
      preprocessed = 1 * size_start sizes preprocessed_count_size t;
      preprocessed_end = 1 * size_start sizes preprocessed_count_size t + 1 * size sizes preprocessed_count_size t;
      public_values = 1 * size_start sizes public_value_count_size t;
      public_values_end = 1 * size_start sizes public_value_count_size t + 1 * size sizes public_value_count_size t;
      nodes = node_words * size_start sizes node_count_size t;
      nodes_end = node_words * size_start sizes node_count_size t + node_words * size sizes node_count_size t;
      lookups = lookup_words * size_start sizes lookup_count_size t;
      lookups_end = lookup_words * size_start sizes lookup_count_size t + lookup_words * size sizes lookup_count_size t;
      names = 1 * size_start sizes name_byte_count_size t;
      names_end = 1 * size_start sizes name_byte_count_size t + 1 * size sizes name_byte_count_size t;
      tuples = 1 * size_start sizes tuple_count_size t;
      tuples_end = 1 * size_start sizes tuple_count_size t + 1 * size sizes tuple_count_size t;
      multiplicities = 1 * size_start sizes multiplicity_count_size t;
      multiplicities_end = 1 * size_start sizes multiplicity_count_size t + 1 * size sizes multiplicity_count_size t;
      flags = 1 * size_start sizes flag_count_size t;
      flags_end = 1 * size_start sizes flag_count_size t + 1 * size sizes flag_count_size t;
      elements = 1 * size_start sizes element_count_size t;
      elements_end = 1 * size_start sizes element_count_size t + 1 * size sizes element_count_size t;
    }
