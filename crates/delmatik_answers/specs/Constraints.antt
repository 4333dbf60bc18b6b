-- The terminal of a trace as numbers: a mark, 0 where there is none, and four words. SPECIFICATION, sections 2.8 and 14.1.
use Rattle.std.specs.Prelude.{ℕ, cond, List, [], ◌∷◌, eqb}
use Rattle.std.proofs.Math.Option.{Option, none, some}

abbrev pub marked_terminal : ℕ → ℕ → ℕ → ℕ → ℕ → Option (List ℕ)
marked_terminal mark c0 c1 c2 c3 = cond (eqb mark 0) none (some (c0 ∷ c1 ∷ c2 ∷ c3 ∷ []))
