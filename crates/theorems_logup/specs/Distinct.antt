-- Lists without repetition.
use Rattle.std.specs.Prelude.{◌≢◌, ℕ, ◌≤◌, length}
use mathlib.Core.List.{List, [], ◌∷◌, Memᴰ}

-- the members of the list are different from one another
abbrev pub Distinct : {A : Type 0} → List A → Type 0
Distinct [] = Unit {0}
Distinct {A} (x ∷ l) = ((y : A) → Memᴰ y l → x ≢ y) × Distinct l

-- a type has at most n elements: no list of different ones is longer
abbrev pub AtMost : ℕ → Type 0 → Type 0
AtMost n A = (l : List A) → Distinct l → length l ≤ n
