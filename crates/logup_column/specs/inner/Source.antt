-- What the rows of a table are computed from. A contract over rows binds it once and reads the lent lists through it.
use Rattle.std.specs.Prelude.{List, [], ℕ}
use Rattle.expression.specs.Values.{row_values}
use Rattle.expression.specs.Window.{Traces, lent_traces}
use Rattle.expression.specs.declared.sizes.Shape.{Shape}
use Rattle.lookup.specs.Lookups.{Lookups, lent_lookups}
use Rattle.lookup.specs.declared.table.LentLookups.{LentLookups}
use Rattle.lookup.specs.declared.table.LentTable.{LentTable}
use Rattle.logup.specs.Rule.{lookups_under}

-- all rows: the lookups, their challenges, and the traces and the nodes that give the node values on each row
pub record Source : Type 0 where
  pub lookups : Lookups
  pub challenges : List ℕ
  pub traces : Traces
  pub nodes : List ℕ

-- the source from the lists that are lent: no row reads a name
abbrev pub lent_source : Shape → List ℕ → List ℕ → List ℕ → List ℕ → List ℕ → List ℕ → List ℕ → List ℕ → List ℕ → List ℕ → Source
lent_source shape main preprocessed public_values nodes lookups tuples multiplicities flags elements challenges =
    record {
      lookups = lent_lookups lookups [] tuples multiplicities flags elements;
      challenges = challenges;
      traces = lent_traces shape main preprocessed public_values;
      nodes = nodes;
    }

-- the source of a table that is lent, with its challenges
abbrev pub as_source : LentTable → List ℕ → Source
as_source t challenges =
    lent_source t.traces.shape t.traces.main.now t.traces.preprocessed.now t.traces.public_values.now t.nodes.now t.lookups.records.now
    t.lookups.tuples.now t.lookups.multiplicities.now t.lookups.flags.now t.lookups.elements.now challenges

-- the same with the elements as a rule takes them
abbrev pub source_under : ℕ → Source → Source
source_under rule s = record { lookups = lookups_under rule s.lookups; challenges = s.challenges; traces = s.traces; nodes = s.nodes }

-- the values of the nodes on each row
abbrev pub node_values : ℕ → Source → ℕ → List ℕ
node_values p s = row_values p s.nodes s.traces

-- the same lookups with names
abbrev pub named : Lookups → List ℕ → Lookups
named l names = lent_lookups l.lookups names l.tuples l.multiplicities l.flags l.elements

-- one row: the lookups, their challenges, and the values of the nodes on the row
pub record RowSource : Type 0 where
  pub lookups : Lookups
  pub challenges : List ℕ
  pub vals : List ℕ

abbrev pub lent_row : List ℕ → List ℕ → List ℕ → List ℕ → List ℕ → List ℕ → List ℕ → RowSource
lent_row lookups tuples multiplicities flags elements challenges vals =
    record { lookups = lent_lookups lookups [] tuples multiplicities flags elements; challenges = challenges; vals = vals }

-- the row of lookups that are lent, with their challenges
abbrev pub as_row : LentLookups → List ℕ → List ℕ → RowSource
as_row l challenges vals =
    lent_row l.records.now l.tuples.now l.multiplicities.now l.flags.now l.elements.now challenges vals
