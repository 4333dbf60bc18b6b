-- How far the rows of the trace have come.
use Rattle.std.specs.Prelude.{◌≡◌, List, ℕ}
use Rattle.lists.specs.Count.{first}
use Rattle.field.specs.Element.{Word4}
use Rattle.field.specs.Ext.{ext_words}
use Rattle.expression.specs.Refusal.{refusal}
use Rattle.lookup.specs.Lookups.{Lookups}
use Rattle.logup.specs.Rows.{accumulator, row_fault}
use Rattle.logup_rows.specs.declared.block.Progress.{Progress}

-- after the first r rows: the accumulator of row r, and the first fault
pub record Reached (p w : ℕ) (l : Lookups) (challenges : List ℕ) (values : ℕ → List ℕ) (r : ℕ) (a : Progress) : Type 0 where
  pub below : Word4 p (ext_words a.accumulator)
  pub accumulator≡ : ext_words a.accumulator ≡ accumulator p w l challenges values r
  pub verdict≡ : refusal a.verdict ≡ first (row_fault p w l challenges values) r
