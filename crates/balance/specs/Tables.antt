-- Several tables: their lists one after the other, and a list of sizes for each table. SPECIFICATION, section 2.7.
use Rattle.std.specs.Prelude.{ℕ, ◌%◌, Bool, ◌&&◌, List, eqb, leb, length}
use Rattle.lists.specs.Tab.{tab}
use Rattle.expression.specs.declared.sizes.Shape.{Shape}
use Rattle.expression.specs.declared.sizes.Limits.{Limits}
use Rattle.lookup.specs.Lookups.{Lookups, lent_lookups, as_lookups, lookup_words}
use Rattle.lookup.specs.Sizes as layout
use Rattle.lookup.specs.Table.{Table, lent_table}
use Rattle.expression.specs.Node.{node_words}
use Rattle.balance.specs.declared.tables.LentTables.{LentTables}

pub record TableLists : Type 0 where
  -- for each table: main width, height, preprocessed width, preprocessed height; then how many main words, preprocessed words, public
  -- values, nodes, lookups, bytes of names, tuples, multiplicities, flags and elements it has
  pub sizes : List ℕ
  pub main : List ℕ
  pub preprocessed : List ℕ
  pub public_values : List ℕ
  pub nodes : List ℕ
  pub lookups : Lookups

-- the sizes of a table, and the place of each among them
abbrev pub table_sizes : ℕ
table_sizes = 14

abbrev pub main_width_size : ℕ
main_width_size = 0

abbrev pub height_size : ℕ
height_size = 1

abbrev pub preprocessed_width_size : ℕ
preprocessed_width_size = 2

abbrev pub preprocessed_height_size : ℕ
preprocessed_height_size = 3

abbrev pub main_count_size : ℕ
main_count_size = 4

abbrev pub preprocessed_count_size : ℕ
preprocessed_count_size = 5

abbrev pub public_value_count_size : ℕ
public_value_count_size = 6

abbrev pub node_count_size : ℕ
node_count_size = 7

abbrev pub lookup_count_size : ℕ
lookup_count_size = 8

abbrev pub name_byte_count_size : ℕ
name_byte_count_size = 9

abbrev pub tuple_count_size : ℕ
tuple_count_size = 10

abbrev pub multiplicity_count_size : ℕ
multiplicity_count_size = 11

abbrev pub flag_count_size : ℕ
flag_count_size = 12

abbrev pub element_count_size : ℕ
element_count_size = 13

abbrev pub table_count : List ℕ → ℕ
table_count sizes = layout.table_count table_sizes sizes

-- size f of table t
abbrev pub size : List ℕ → ℕ → ℕ → ℕ
size sizes f t = layout.size table_sizes sizes f t

-- what the tables before table t have of it
abbrev pub size_start : List ℕ → ℕ → ℕ → ℕ
size_start sizes f t = layout.size_start table_sizes sizes f t

-- table t's part of a list, in units of so many words
abbrev pub table_part : List ℕ → ℕ → ℕ → ℕ → List ℕ → List ℕ
table_part sizes f unit t l = layout.table_part table_sizes sizes f unit t l

unfoldable pub shape_at : List ℕ → ℕ → Shape
shape_at sizes t =
    record { main_width = size sizes main_width_size t; height = size sizes height_size t; pre_width = size sizes preprocessed_width_size t; pre_height = size sizes preprocessed_height_size t }

unfoldable pub lookups_at : TableLists → ℕ → Lookups
lookups_at l t =
    record {
      lookups = table_part l.sizes lookup_count_size lookup_words t l.lookups.lookups;
      names = table_part l.sizes name_byte_count_size 1 t l.lookups.names;
      tuples = table_part l.sizes tuple_count_size 1 t l.lookups.tuples;
      multiplicities = table_part l.sizes multiplicity_count_size 1 t l.lookups.multiplicities;
      flags = table_part l.sizes flag_count_size 1 t l.lookups.flags;
      elements = table_part l.sizes element_count_size 1 t l.lookups.elements;
    }

unfoldable pub table_at : TableLists → ℕ → Table
table_at l t =
    lent_table (shape_at l.sizes t) (table_part l.sizes main_count_size 1 t l.main) (table_part l.sizes preprocessed_count_size 1 t l.preprocessed)
    (table_part l.sizes public_value_count_size 1 t l.public_values) (table_part l.sizes node_count_size node_words t l.nodes) (lookups_at l t)

unfoldable pub tables_of : TableLists → List Table
tables_of l = tab (table_at l) 0 (table_count l.sizes)

-- refusal 1, SPECIFICATION, section 2.7: "The tables' parts of a list must be the whole list"
abbrev pub covers : List ℕ → ℕ → ℕ → List ℕ → Bool
covers sizes f unit l = layout.covers table_sizes sizes f unit l

-- refusal 1 of the lists as a whole
unfoldable pub lists_fit : Limits → TableLists → Bool
lists_fit m l =
    eqb (length l.sizes % table_sizes) 0
    && leb (table_count l.sizes) m.tables
    && covers l.sizes main_count_size 1 l.main
    && covers l.sizes preprocessed_count_size 1 l.preprocessed
    && covers l.sizes public_value_count_size 1 l.public_values
    && covers l.sizes node_count_size node_words l.nodes
    && covers l.sizes lookup_count_size lookup_words l.lookups.lookups
    && covers l.sizes name_byte_count_size 1 l.lookups.names
    && covers l.sizes tuple_count_size 1 l.lookups.tuples
    && covers l.sizes multiplicity_count_size 1 l.lookups.multiplicities
    && covers l.sizes flag_count_size 1 l.lookups.flags
    && covers l.sizes element_count_size 1 l.lookups.elements

-- the lists as they are lent
abbrev pub lent_tables : List ℕ → List ℕ → List ℕ → List ℕ → List ℕ → List ℕ → List ℕ → List ℕ → List ℕ → List ℕ → List ℕ → TableLists
lent_tables sizes main preprocessed public_values nodes lookups names tuples multiplicities flags elements =
    record {
      sizes = sizes;
      main = main;
      preprocessed = preprocessed;
      public_values = public_values;
      nodes = nodes;
      lookups = lent_lookups lookups names tuples multiplicities flags elements;
    }

-- the tables, from what a caller lends
abbrev pub as_tables : LentTables → TableLists
as_tables t =
    record {
      sizes = t.sizes.now;
      main = t.main.now;
      preprocessed = t.preprocessed.now;
      public_values = t.public_values.now;
      nodes = t.nodes.now;
      lookups = as_lookups t.lookups;
    }
