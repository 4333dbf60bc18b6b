-- The lists that are lent for table t lie within the lists of all tables, and they are its own.
use Rattle.std.specs.Prelude.{◌≡◌, refl, List, ℕ, ◌-◌, ◌<◌, ◌≤◌, length, take, drop}
use Rattle.std.proofs.Common.{sym, subst, arith}
use Rattle.lookup.specs.Lookups.{lent_lookups, lookup_words}
use Rattle.lookup.specs.Table.{lent_table}
use Rattle.balance.specs.Tables.{table_sizes, TableLists, table_count, shape_at, lookups_at, table_at, main_count_size, preprocessed_count_size, public_value_count_size, node_count_size, lookup_count_size, name_byte_count_size, tuple_count_size, multiplicity_count_size, flag_count_size, element_count_size}
use Rattle.balance.specs.inner.Requires.{ListsCovered}
use Rattle.lookup.specs.laws.Sizes.{part-within, part_is}
use Rattle.balance_groups.specs.inner.Ranges.{table_ranges_at}
use Rattle.balance_groups.specs.declared.ranges.TableRanges.{TableRanges}
use Rattle.expression.specs.Node.{node_words}

-- the part from a to b
abbrev cut : ℕ → ℕ → List ℕ → List ℕ
cut a b l = take (b - a) (drop a l)

pub record Lies (l : TableLists) (t : ℕ) (s : TableRanges) : Type 0 where
  pub main : s.main ≤ s.main_end
  pub main_end : s.main_end ≤ length l.main
  pub preprocessed : s.preprocessed ≤ s.preprocessed_end
  pub preprocessed_end : s.preprocessed_end ≤ length l.preprocessed
  pub public_values : s.public_values ≤ s.public_values_end
  pub public_values_end : s.public_values_end ≤ length l.public_values
  pub nodes : s.nodes ≤ s.nodes_end
  pub nodes_end : s.nodes_end ≤ length l.nodes
  pub lookups : s.lookups ≤ s.lookups_end
  pub lookups_end : s.lookups_end ≤ length l.lookups.lookups
  pub names : s.names ≤ s.names_end
  pub names_end : s.names_end ≤ length l.lookups.names
  pub tuples : s.tuples ≤ s.tuples_end
  pub tuples_end : s.tuples_end ≤ length l.lookups.tuples
  pub multiplicities : s.multiplicities ≤ s.multiplicities_end
  pub multiplicities_end : s.multiplicities_end ≤ length l.lookups.multiplicities
  pub flags : s.flags ≤ s.flags_end
  pub flags_end : s.flags_end ≤ length l.lookups.flags
  pub elements : s.elements ≤ s.elements_end
  pub elements_end : s.elements_end ≤ length l.lookups.elements
  pub table :
      lent_table (shape_at l.sizes t) (cut s.main s.main_end l.main) (cut s.preprocessed s.preprocessed_end l.preprocessed) (cut s.public_values s.public_values_end l.public_values) (cut s.nodes s.nodes_end l.nodes)
      (lent_lookups (cut s.lookups s.lookups_end l.lookups.lookups) (cut s.names s.names_end l.lookups.names) (cut s.tuples s.tuples_end l.lookups.tuples) (cut s.multiplicities s.multiplicities_end l.lookups.multiplicities) (cut s.flags s.flags_end l.lookups.flags) (cut s.elements s.elements_end l.lookups.elements))
      ≡ table_at l t

lies_at : (l : TableLists) (t : ℕ) → ListsCovered l → t < table_count l.sizes → Lies l t (table_ranges_at l.sizes t)
unfolding table_ranges_at table_at lookups_at
lies_at l t f h =
    record {
      main = omega arith;
      main_end = part-within table_sizes l.sizes l.main main_count_size 1 t (table_count l.sizes) h f.main refl;
      preprocessed = omega arith;
      preprocessed_end = part-within table_sizes l.sizes l.preprocessed preprocessed_count_size 1 t (table_count l.sizes) h f.preprocessed refl;
      public_values = omega arith;
      public_values_end = part-within table_sizes l.sizes l.public_values public_value_count_size 1 t (table_count l.sizes) h f.public_values refl;
      nodes = omega arith;
      nodes_end = part-within table_sizes l.sizes l.nodes node_count_size node_words t (table_count l.sizes) h f.nodes refl;
      lookups = omega arith;
      lookups_end = part-within table_sizes l.sizes l.lookups.lookups lookup_count_size lookup_words t (table_count l.sizes) h f.lookups refl;
      names = omega arith;
      names_end = part-within table_sizes l.sizes l.lookups.names name_byte_count_size 1 t (table_count l.sizes) h f.names refl;
      tuples = omega arith;
      tuples_end = part-within table_sizes l.sizes l.lookups.tuples tuple_count_size 1 t (table_count l.sizes) h f.tuples refl;
      multiplicities = omega arith;
      multiplicities_end = part-within table_sizes l.sizes l.lookups.multiplicities multiplicity_count_size 1 t (table_count l.sizes) h f.multiplicities refl;
      flags = omega arith;
      flags_end = part-within table_sizes l.sizes l.lookups.flags flag_count_size 1 t (table_count l.sizes) h f.flags refl;
      elements = omega arith;
      elements_end = part-within table_sizes l.sizes l.lookups.elements element_count_size 1 t (table_count l.sizes) h f.elements refl;
      table =
          λ j. lent_table (shape_at l.sizes t) (part_is table_sizes l.sizes l.main main_count_size 1 t refl refl j) (part_is table_sizes l.sizes l.preprocessed preprocessed_count_size 1 t refl refl j) (part_is table_sizes l.sizes l.public_values public_value_count_size 1 t refl refl j) (part_is table_sizes l.sizes l.nodes node_count_size node_words t refl refl j)
          (lent_lookups (part_is table_sizes l.sizes l.lookups.lookups lookup_count_size lookup_words t refl refl j) (part_is table_sizes l.sizes l.lookups.names name_byte_count_size 1 t refl refl j) (part_is table_sizes l.sizes l.lookups.tuples tuple_count_size 1 t refl refl j)
          (part_is table_sizes l.sizes l.lookups.multiplicities multiplicity_count_size 1 t refl refl j) (part_is table_sizes l.sizes l.lookups.flags flag_count_size 1 t refl refl j) (part_is table_sizes l.sizes l.lookups.elements element_count_size 1 t refl refl j));
    }

pub lies : {l : TableLists} {t : ℕ} {s : TableRanges} → ListsCovered l → t < table_count l.sizes → s ≡ table_ranges_at l.sizes t → Lies l t s
lies {l} {t} {s} f h e = subst (Lies l t) (sym e) (lies_at l t f h)
