-- The traces of a table and the window on them. SPECIFICATION, sections 2.2 and 3.2.
use Rattle.std.specs.Prelude.{ℕ, ◌+◌, ◌*◌, ◌%◌, List, take, drop}
use Rattle.expression.specs.declared.sizes.Shape.{Shape}
use Rattle.expression.specs.declared.table.LentTraces.{LentTraces}

-- the traces and public values of a table (SPECIFICATION, section 2.2)
pub record Traces : Type 0 where
  pub shape : Shape
  pub main : List ℕ
  pub preprocessed : List ℕ
  pub public_values : List ℕ

-- the traces of a table from the lists that are lent
abbrev pub lent_traces : Shape → List ℕ → List ℕ → List ℕ → Traces
lent_traces s main preprocessed public_values = record { shape = s; main = main; preprocessed = preprocessed; public_values = public_values }

-- the traces of a table, from what a caller lends
abbrev pub as_traces : LentTraces → Traces
as_traces t = lent_traces t.shape t.main.now t.preprocessed.now t.public_values.now

-- What a row is evaluated from: the rows of main and of the preprocessed trace at each offset, 0 the current row.
pub record Window : Type 0 where
  pub main : ℕ → List ℕ
  pub preprocessed : ℕ → List ℕ
  pub public_values : List ℕ
  pub row : ℕ
  pub height : ℕ

-- row r of a trace
unfoldable pub row_of : List ℕ → ℕ → ℕ → List ℕ
row_of words width r = take width (drop (r * width) words)

-- SPECIFICATION, section 3.2: "the row at offset o is row (r + o) modulo the height of main", "for the rows of the preprocessed trace too, by the height of main"
unfoldable pub window : Traces → ℕ → Window
window t r =
    record {
      main = λ o. row_of t.main t.shape.main_width ((r + o) % t.shape.height);
      preprocessed = λ o. row_of t.preprocessed t.shape.pre_width ((r + o) % t.shape.height);
      public_values = t.public_values;
      row = r;
      height = t.shape.height;
    }
