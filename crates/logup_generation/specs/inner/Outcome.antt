-- The answer and the buffer after the rows.
use Rattle.std.specs.Prelude.{ℕ, List, ◌++◌, drop, replicate}
use Rattle.std.proofs.Math.Option.{Option, none, some}
use Rattle.expression.specs.declared.sizes.Limits.{Limits}
use Rattle.expression.specs.declared.refusal.Refusal.{Refusal}
use Rattle.logup.specs.Rows.{first_fault}
use Rattle.logup.specs.Generation.{Answer, refused, terminal, Outcome, rows_outcome}
use Rattle.logup_column.specs.inner.Source.{Source, node_values, named}

-- "The terminal is the sum of all fractions of all rows", unless there is a fault
abbrev pub rows_answer : Option Refusal → List ℕ → Answer
rows_answer none e = terminal e
rows_answer (some f) e = refused f

-- "after refusals 13 to 15 it is zero"
abbrev pub cleared : Option Refusal → ℕ → List ℕ → List ℕ
cleared none n buffer = buffer
cleared (some f) n buffer = replicate n 0 ++ drop n buffer

-- generation's outcome where the entry's tests passed, for a table with these names
abbrev pub rows_result : Limits → ℕ → ℕ → Source → List ℕ → List ℕ → Outcome
rows_result m p w s names buffer =
    rows_outcome m p w (record { traces = s.traces; nodes = s.nodes; lookups = named s.lookups names }) s.challenges buffer
    (first_fault p w (named s.lookups names) s.challenges (node_values p s) s.traces.shape.height)
