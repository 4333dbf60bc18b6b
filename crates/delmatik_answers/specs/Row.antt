-- A row as a part of a trace: where it begins, and how many words it has. SPECIFICATION, sections 4.6 and 14.1.
use Rattle.std.specs.Prelude.{ℕ, ◌*◌, List, [], ◌∷◌, length}
use Rattle.logup.specs.Reader.{row_part}

pub record ExportedRow : Type 0 where
  -- start and length
  pub part : List ℕ
  -- the words of the trace from that start on, so many
  pub words : List ℕ

-- row r of n words begins after r rows of as many; 0 and 0 where it is empty
abbrev pub start_and_length : ℕ → ℕ → List ℕ
start_and_length r n = r * n ∷ n ∷ []

unfoldable pub exported_row : List ℕ → ℕ → ℕ → ℕ → ExportedRow
exported_row trace lookups height r =
    record { part = start_and_length r (length (row_part trace lookups height r)); words = row_part trace lookups height r }
