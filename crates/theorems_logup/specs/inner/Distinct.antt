-- Functions with different values at the members of a list.
use Rattle.std.specs.Prelude.{◌≢◌}
use mathlib.Core.List.{List, [], ◌∷◌, Memᴰ}

-- the values of c at the members of the list are different from one another
abbrev pub Apart : {A B : Type 0} → (A → B) → List A → Type 0
Apart c [] = Unit {0}
Apart {A} c (x ∷ l) = ((y : A) → Memᴰ y l → c x ≢ c y) × Apart c l
