-- Generation's tests 8 to 10, and all its tests before the rows.
use Rattle.std.specs.Prelude.{ℕ, ◌%◌, ◌≡◌, List, eqb, length}
use Rattle.std.proofs.Math.Option.{Option, none}
use Rattle.expression.specs.Words.{all_below}
use Rattle.expression.specs.declared.sizes.Limits.{Limits}
use Rattle.expression.specs.declared.sizes.Shape.{Shape}
use Rattle.expression.specs.declared.refusal.Refusal.{Refusal}
use Rattle.lookup.specs.Table.{Table}
use Rattle.logup.specs.Refusals.{rows_refusal}
use Rattle.logup.specs.Generation.{challenges_match, buffer_refusal}
use Rattle.logup_column.specs.inner.Refusals.{table_tests}
use Rattle.logup_column.specs.inner.Tested.{Tested}

-- 8 to 10, for so many challenge words and a buffer of so many words
unfoldable pub trace_tests : Shape → List ℕ → ℕ → ℕ → Option Refusal
trace_tests s lookups challenges room =
    rows_refusal (challenges_match lookups challenges) s lookups (buffer_refusal lookups s.height room)

-- 1 to 5, then 8 to 10, for a buffer of so many words
abbrev pub entry_tests : Limits → ℕ → Table → List ℕ → ℕ → Option Refusal
entry_tests m p t challenges room =
    table_tests m p t (eqb (length challenges % 4) 0) (all_below p challenges) (trace_tests t.traces.shape t.lookups.lookups (length challenges) room)

-- what a table has that passed them
abbrev pub EntryPassed : Limits → ℕ → Table → List ℕ → ℕ → Type 0
EntryPassed m p t challenges room =
    Tested m p t (eqb (length challenges % 4) 0) (all_below p challenges) × (trace_tests t.traces.shape t.lookups.lookups (length challenges) room ≡ none)
