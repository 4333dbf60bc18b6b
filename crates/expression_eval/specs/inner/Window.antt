-- The window as the code has it: the numbers of its rows, and what two of them show.
use Rattle.std.specs.Prelude.{ℕ, ◌+◌, ◌%◌, cond, List, [], ◌∷◌, eqb}

-- the rows at the offsets 0 to 3 from row r
abbrev pub rows_ahead : ℕ → ℕ → List ℕ
rows_ahead r height = r ∷ (r + 1) % height ∷ (r + 2) % height ∷ (r + 3) % height ∷ []

-- of two rows that are lent, the one at an offset: the top one at 0, else the bottom one
abbrev pub at_offset : List ℕ → List ℕ → ℕ → List ℕ
at_offset top bottom o = cond (eqb o 0) top bottom
