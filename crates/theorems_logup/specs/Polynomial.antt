-- Polynomials as lists of coefficients, the highest first, with Horner's evaluation.
use Rattle.std.specs.Prelude.{List, [], ◌∷◌}
use Rattle.algebra.specs.Field.{Field}

module _ (F : Field) where
  -- the value at x of the polynomial with the coefficients acc, then those of the list
  abbrev pub horner : F.ring.El → F.ring.El → List F.ring.El → F.ring.El
  horner x acc [] = acc
  horner x acc (y ∷ t) = horner x (F.ring.add (F.ring.mul acc x) y) t
