-- An answer that holds a value or a refusal: what it refuses, and what stands in the lent words of the value afterwards. SPECIFICATION, sections
-- 10.5 and 14.1.
use Rattle.std.specs.Prelude.{List, ℕ, Err, Ok, Result}
use Rattle.std.proofs.Math.Option.{Option, none, some}
use Rattle.expression.specs.declared.refusal.Refusal.{Refusal}

abbrev pub refused : {A : Type 0} → Result A Refusal → Option Refusal
refused (Ok a) = none
refused (Err f) = some f

-- the words of the value; as it was where it is refused
abbrev pub written : {A : Type 0} → (A → List ℕ) → Result A Refusal → List ℕ → List ℕ
written words (Ok a) lent = words a
written words (Err f) lent = lent
