-- Sums of equal, of no and of two summands, with a common factor, and a sum by its first summand.
use Rattle.std.specs.Prelude.{◌≡◌, refl, ℕ, zero, suc, ◌+◌, ◌*◌, ◌<◌}
use Rattle.std.proofs.Common.{ap, ap₂, arith}
use Rattle.lists.specs.Count.{total}

pub total_cong : (f g : ℕ → ℕ) (n : ℕ) → ((i : ℕ) → i < n → f i ≡ g i) → total f n ≡ total g n
unfolding total
total_cong f g zero h = refl
total_cong f g (suc n) h = ap₂ ◌+◌ (total_cong f g n (λ i l. h i (omega arith))) (h n (omega arith))

pub total-zero : (n : ℕ) → total (λ i. 0) n ≡ 0
unfolding total
total-zero zero = refl
total-zero (suc n) = ap (λ (k : ℕ). k + 0) (total-zero n)

pub total-add : (f g : ℕ → ℕ) (n : ℕ) → total (λ i. f i + g i) n ≡ total f n + total g n
unfolding total
total-add f g zero = refl
total-add f g (suc n) = omega (arith, total-add f g n)

-- a common factor
pub total_times : (f : ℕ → ℕ) (h n : ℕ) → total (λ i. f i * h) n ≡ total f n * h
unfolding total
total_times f h zero = omega arith
total_times f h (suc n) = omega (arith, total_times f h n)

pub total_head : (f : ℕ → ℕ) (n : ℕ) → total f (suc n) ≡ f 0 + total (λ k. f (suc k)) n
unfolding total
total_head f zero = omega arith
total_head f (suc n) = omega (arith, total_head f n)
