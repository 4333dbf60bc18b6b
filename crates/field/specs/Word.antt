-- Words: numbers below p, with the operations modulo p. SPECIFICATION, section 2.1: "A field word is a word below p".
use Rattle.std.specs.Prelude.{ℕ, ◌+◌, ◌*◌, ◌-◌, ◌%◌}
use Rattle.algebra.specs.Power.{pow_m}

unfoldable pub add_m : ℕ → ℕ → ℕ → ℕ
add_m p a b = (a + b) % p

unfoldable pub neg_m : ℕ → ℕ → ℕ
neg_m p a = (p - a % p) % p

unfoldable pub sub_m : ℕ → ℕ → ℕ → ℕ
sub_m p a b = add_m p a (neg_m p b)

unfoldable pub mul_m : ℕ → ℕ → ℕ → ℕ
mul_m p a b = (a * b) % p

-- a·b + c·d + e·f + g·h
abbrev pub dot : ℕ → ℕ → ℕ → ℕ → ℕ → ℕ → ℕ → ℕ → ℕ → ℕ
dot p a b c d e f g h = (a * b + c * d + e * f + g * h) % p

-- 1 ÷ a is a to the power p - 2 (Fermat), 0 where a is 0. p has at most 32 binary digits.
unfoldable pub inverse1 : ℕ → ℕ → ℕ
inverse1 p a = pow_m p 32 a (p - 2)
