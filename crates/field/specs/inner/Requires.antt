-- What the functions on words ask of p.
use Rattle.std.specs.Prelude.{◌≡◌, ◌⊎◌, ℕ, ◌<◌, ◌≤◌}
use Rattle.field.specs.Known.{babybear, koalabear}

-- p is the prime of one of the two fields: `reduce` divides by a constant for each of them, and has no third way. It is above 2, and so small that
-- four products of words fit 64 bits.
pub record KnownPrime (p : ℕ) : Type 0 where
  pub big : 2 < p
  pub small : p ≤ 2147483648
  pub one_of_two : (p ≡ babybear) ⊎ (p ≡ koalabear)
