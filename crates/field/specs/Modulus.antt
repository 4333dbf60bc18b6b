-- What p and w must be.
use Rattle.std.specs.Prelude.{◌≡◌, ◌≢◌, ℕ, ◌*◌, ◌-◌, ◌<◌, ◌≤◌, ◌%◌}
use Rattle.algebra.specs.Prime.{Prime}

-- a modulus that the laws take: above 2, and at most 2^31, so that an inverse is a power of at most 32 binary digits
pub record Modulus (p : ℕ) : Type 0 where
  pub big : 2 < p
  pub small : p ≤ 2147483648

-- why the quadruples with X⁴ = w are a field: p is prime, w is no square modulo p, and -1 is one
pub record Certificate (p w : ℕ) : Type 0 where
  pub prime : Prime p
  pub nonsquare : (s : ℕ) → s < p → (s * s) % p ≢ w % p
  pub root : ℕ
  pub root_squared : (root * root) % p ≡ (p - 1) % p
