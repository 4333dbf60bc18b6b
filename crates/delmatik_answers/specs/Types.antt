-- An answer of one number, as degree, widths and building have it: the lent number afterwards, as it was where it is refused. SPECIFICATION,
-- sections 10.5 and 14.1.
use Rattle.std.specs.Prelude.{ℕ, List, [], ◌∷◌, Result}
use Rattle.expression.specs.declared.refusal.Refusal.{Refusal}
use Rattle.lookup.specs.declared.refusals.Columns.{Columns}
use Rattle.delmatik_answers.specs.Refused.{written}

abbrev pub columns_of : ℕ → ℕ → ℕ → Columns
columns_of main preprocessed public_values = record { main = main; preprocessed = preprocessed; public_values = public_values }

abbrev pub number_written : Result ℕ Refusal → List ℕ → List ℕ
number_written = written (λ n. n ∷ [])
