-- What the code asks of its lists and columns, and what its loops make.
use Rattle.std.specs.Prelude.{◌≡◌, List, ◌∷◌, ◌++◌, ℕ, ◌*◌, ◌<◌, ◌≤◌, length, drop, replicate}
use Rattle.expression.specs.Words.{word}
use Rattle.lookup.specs.Lookups.{lookup_words, lookup_count, weight}
use Rattle.lookup.specs.Tests.{weight_limit}
use Rattle.lookup.specs.Requires.{BusNames}
use Rattle.lookup_degree.specs.inner.At.{FewUpTo}
use Rattle.packing_columns.specs.inner.Columns.{PlanSource, columns_of, ordered, words_from, heads_of, over_of}
use Rattle.packing_columns.specs.declared.columns.OpenColumn.{OpenColumn}
use Rattle.packing_columns.specs.declared.columns.NextColumn.{NextColumn}
use Rattle.packing_columns.specs.declared.columns.Plan.{Plan}

-- no number of the column is over b
pub record ColumnWithin (b : ℕ) (o : OpenColumn) : Type 0 where
  pub sum : o.sum ≤ b
  pub top : o.top ≤ b
  pub weight : o.weight ≤ b
  pub tuples : o.tuples ≤ b
  pub multiplicities : o.multiplicities ≤ b
  pub flags : o.flags ≤ b

-- the degrees of the nodes are words of 32 bits
abbrev pub DegreesSmall : List ℕ → Type 0
DegreesSmall nodes = (j : ℕ) → word nodes j ≤ 4294967295

-- the table's lookups and names
pub record PlanInputs (nodes lookups names : List ℕ) : Type 0 where
  pub named : BusNames lookups names
  pub each : (i : ℕ) → i < lookup_count lookups → FewUpTo lookups i
  pub weights : (i : ℕ) → i < lookup_count lookups → weight lookups i ≤ weight_limit lookups i
  pub low : DegreesSmall nodes

-- the column that begins at place k of the order
pub record ColumnTaken (s : PlanSource) (order : List ℕ) (k : ℕ) (r : NextColumn) : Type 0 where
  pub is : columns_of s (drop k order) ≡ r.column ∷ columns_of s (drop r.end order)
  pub above : k < r.end
  pub within : r.end ≤ length order
  pub head : r.column.head < lookup_count s.lookups
  pub small : ColumnWithin 35184372088832 r.column

-- the plan of a table
pub record Planned (s : PlanSource) (r : Plan) : Type 0 where
  pub order : r.order ≡ ordered s.lookups s.names ++ drop (lookup_count s.lookups) (replicate 64 0)
  pub columns : r.columns ≡ length (columns_of s (ordered s.lookups s.names))
  pub few : r.columns ≤ lookup_count s.lookups
  pub heads : r.heads ≡ heads_of (columns_of s (ordered s.lookups s.names)) ++ drop r.columns (replicate 64 0)
  pub words : r.words ≡ words_from s.lookups 0 (columns_of s (ordered s.lookups s.names)) ++ drop (lookup_words * r.columns) (replicate 576 0)
  pub over : r.over ≡ over_of s.lookups (columns_of s (ordered s.lookups s.names))
