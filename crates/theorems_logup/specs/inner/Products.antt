-- Products in a field.
use Rattle.std.specs.Prelude.{ℕ, zero, suc}
use Rattle.algebra.specs.Field.{Field}

module _ (F : Field) where
  -- f 0 · .. · f (n - 1)
  abbrev pub product_to : (ℕ → F.ring.El) → ℕ → F.ring.El
  product_to f zero = F.ring.u
  product_to f (suc n) = F.ring.mul (product_to f n) (f n)
