-- What packing writes is a table that the other entry points take: it passes every test that the table passed. SPECIFICATION, section 6.2:
-- "Columns are numbered by position", "No list becomes longer than that of the input".
use Rattle.std.specs.Prelude.{◌≡◌, true, ℕ}
use Rattle.expression.specs.Node.{node_count}
use Rattle.expression.specs.Tests.{degrees_low}
use Rattle.expression.specs.declared.sizes.Limits.{Limits}
use Rattle.lookup.specs.Table.{Table}
use Rattle.lookup.specs.Tests.{sizes, words_below, known, lists_agree, in_position, rows_enough}
use Rattle.theorems_packing.specs.Packed.{packed_table, NotOverweight}

-- a table has none of refusals 1 to 5 that all entry points share
pub record Tested (m : Limits) (p : ℕ) (t : Table) : Type 0 where
  pub sizes_pass : sizes m t ≡ true
  pub words_pass : words_below p t ≡ true
  pub nodes_pass : known t ≡ true
  pub degrees_pass : degrees_low m t.nodes ≡ true
  pub lists_pass : lists_agree (node_count t.nodes) t.lookups ≡ true

-- For every limit, and whatever 6 says, where packing has no 7: the packed table has none of refusals 1 to 5, those of generation and
-- constraints for its columns included, and 9 only where the table has it.
pub record PassesPacked (m : Limits) (p limit : ℕ) (t : Table) : Type 0 where
  pub tested : Tested m p (packed_table limit t)
  pub positions : in_position (packed_table limit t).lookups.lookups ≡ true
  pub rows : rows_enough t.traces.shape t.lookups.lookups ≡ true
      → rows_enough t.traces.shape (packed_table limit t).lookups.lookups ≡ true

abbrev pub PackedPasses : Type 0
PackedPasses = (m : Limits) (p limit : ℕ) (t : Table) → Tested m p t → NotOverweight limit t → PassesPacked m p limit t
