-- The constraints' tests 8 to 11, and all their tests before the rows.
use Rattle.std.specs.Prelude.{ℕ, ◌≡◌, Bool, List, length}
use Rattle.std.proofs.Math.Option.{Option, none}
use Rattle.expression.specs.declared.sizes.Limits.{Limits}
use Rattle.expression.specs.declared.sizes.Shape.{Shape}
use Rattle.expression.specs.declared.refusal.Refusal.{Refusal}
use Rattle.lookup.specs.Table.{Table}
use Rattle.logup.specs.Refusals.{rows_refusal}
use Rattle.logup.specs.Constraints.{is_present, trace_sizes, trace_words, challenges_enough, trace_refusal}
use Rattle.logup_column.specs.inner.Refusals.{table_tests}
use Rattle.logup_column.specs.inner.Tested.{Tested}

-- 8 to 11, for so many challenge words, a trace of so many columns, and a terminal that is present or not
unfoldable pub trace_tests : Shape → List ℕ → ℕ → ℕ → Bool → Option Refusal
trace_tests s lookups challenges width present =
    rows_refusal (challenges_enough lookups challenges) s lookups (trace_refusal lookups width present)

-- 1 to 5, then 8 to 11
abbrev pub entry_tests : Limits → ℕ → Table → List ℕ → ℕ → List ℕ → Option (List ℕ) → Option Refusal
entry_tests m p t challenges width words terminal =
    table_tests m p t (trace_sizes challenges t.traces.shape.height width words) (trace_words p challenges words terminal)
    (trace_tests t.traces.shape t.lookups.lookups (length challenges) width (is_present terminal))

-- what a table and a trace have that passed them
abbrev pub EntryPassed : Limits → ℕ → Table → List ℕ → ℕ → List ℕ → Option (List ℕ) → Type 0
EntryPassed m p t challenges width words terminal =
    Tested m p t (trace_sizes challenges t.traces.shape.height width words) (trace_words p challenges words terminal)
    × (trace_tests t.traces.shape t.lookups.lookups (length challenges) width (is_present terminal) ≡ none)
