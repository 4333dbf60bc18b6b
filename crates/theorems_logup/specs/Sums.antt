-- Sums in a field. Haböck, "Multivariate lookups based on logarithmic derivatives" (ePrint 2022/1530), section 3: a multiset is told by the sum
-- of the fractions m(z) ÷ (X - z) over its values z, where m(z) is the multiplicity of z.
use Rattle.std.specs.Prelude.{ℕ, zero, suc, List, [], ◌∷◌}
use Rattle.algebra.specs.Field.{Field}
use Rattle.theorems_logup.specs.Inverse.{inverse, minus}

module _ (F : Field) where
  -- f x over the members x of a list
  abbrev pub sum : {A : Type 0} → List A → (A → F.ring.El) → F.ring.El
  sum [] f = F.ring.z
  sum (x ∷ l) f = F.ring.add (f x) (sum l f)

  -- the sum of the fractions m(s) ÷ (X - c(s)) over the members s of a list
  abbrev pub fractions : {A : Type 0} → (A → F.ring.El) → (A → F.ring.El) → List A → F.ring.El → F.ring.El
  fractions c m l X = sum l (λ s. F.ring.mul (m s) (inverse F (minus F X (c s))))

  -- f 0 + .. + f (n - 1)
  abbrev pub sum_to : (ℕ → F.ring.El) → ℕ → F.ring.El
  sum_to f zero = F.ring.z
  sum_to f (suc n) = F.ring.add (sum_to f n) (f n)
