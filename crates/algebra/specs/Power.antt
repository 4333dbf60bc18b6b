-- Powers modulo p, by squaring, so that they can be computed at exponents of the size of p.
use Rattle.std.specs.Prelude.{cond, ℕ, zero, suc, ◌*◌, ◌/◌, ◌%◌, eqb}

-- a to the power n, modulo p, where n has at most `digits` binary digits
unfoldable pub pow_m : ℕ → ℕ → ℕ → ℕ → ℕ
pow_m p zero a n = 1
pow_m p (suc digits) a n = (cond (eqb (n % 2) 0) 1 a * pow_m p digits ((a * a) % p) (n / 2)) % p
