-- The largest of n numbers is no larger than each of them may be.
use Rattle.std.specs.Prelude.{ℕ, zero, suc, ◌<◌, ◌≤◌}
use Rattle.std.proofs.Common.{arith}
use Rattle.lookup_degree.specs.Sums.{greatest}

pub greatest-le : (f : ℕ → ℕ) (n b : ℕ) → ((i : ℕ) → i < n → f i ≤ b) → greatest f n ≤ b
unfolding greatest
greatest-le f zero b h = omega arith
greatest-le f (suc n) b h = let x = greatest-le f n b (λ i l. h i (omega arith)) in let y = h n (omega arith) in omega arith
