-- The hash of words, by a seed. For the answer any function of the words would do: the search along a chain says only that a slot with
-- another hash holds another tuple. So the seed changes the time and never the answer. For the time it matters that whoever does not know
-- the seed cannot choose tuples of one hash. This is an argument on paper, and no law states it:
-- * Words below the prime stay different modulo it, and the leading coefficient 1 tells widths apart. So different tuples of at most eight
--   words have different polynomials of degree at most 8, which have the same value at 8 points at most.
-- * Different values, times a factor from 1 to prime - 1, are in one chain for about one factor in 16,384: the difference of the products
--   takes each value but 0 for one factor, and it, or what is left of the prime after it, must be a multiple of 32,768.
-- A multiplier modulo 2^32 would not do: tuples whose words differ by multiples of 2^27 still do so after it, and are then in 32 chains at
-- most, whatever the multiplier.
use Rattle.std.specs.Prelude.{ℕ, zero, suc, ◌+◌, ◌*◌, ◌-◌, ◌/◌, ◌%◌}
use Rattle.balance_slots.specs.declared.hash.Seed.{Seed}

-- 2^31 - 1: prime, and no less than the modulus of any field whose words have 31 bits
abbrev pub hash_prime : ℕ
hash_prime = 2147483647

abbrev pub chains : ℕ
chains = 32768

-- the seed of a number: a point below the prime, and a factor from 1 to the prime - 1
abbrev pub seed_of : ℕ → Seed
seed_of n = record { point = n % hash_prime; factor = n / hash_prime % (hash_prime - 1) + 1 }

-- point^n + x 0 · point^(n - 1) + .. + x (n - 1) modulo the prime
unfoldable pub polynomial : ℕ → (ℕ → ℕ) → ℕ → ℕ
polynomial point x zero = 1
polynomial point x (suc n) = (polynomial point x n * point + x n) % hash_prime

-- the chain of the first n of the words x 0, x 1, ..
unfoldable pub hash : Seed → (ℕ → ℕ) → ℕ → ℕ
hash seed x n = polynomial seed.point x n * seed.factor % hash_prime % chains
