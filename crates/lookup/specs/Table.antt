-- The words of a table: its traces, its nodes and its lookups. SPECIFICATION, section 2.2.
use Rattle.std.specs.Prelude.{ℕ, List}
use Rattle.expression.specs.Window.{Traces, lent_traces, as_traces}
use Rattle.expression.specs.Values.{row_values}
use Rattle.expression.specs.declared.sizes.Shape.{Shape}
use Rattle.lookup.specs.Lookups.{Lookups, as_lookups}
use Rattle.lookup.specs.declared.table.LentTable.{LentTable}

pub record Table : Type 0 where
  pub traces : Traces
  pub nodes : List ℕ
  pub lookups : Lookups

-- the table from the lists that are lent
abbrev pub lent_table : Shape → List ℕ → List ℕ → List ℕ → List ℕ → Lookups → Table
lent_table shape main preprocessed public_values nodes lookups =
    record { traces = lent_traces shape main preprocessed public_values; nodes = nodes; lookups = lookups }

-- the table, from what a caller lends
abbrev pub as_table : LentTable → Table
as_table t = record { traces = as_traces t.traces; nodes = t.nodes.now; lookups = as_lookups t.lookups }

-- the values of its nodes on each row
abbrev pub values_of : ℕ → Table → ℕ → List ℕ
values_of p t = row_values p t.nodes t.traces
