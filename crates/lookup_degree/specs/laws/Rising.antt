-- The turns of a loop that takes the largest, `m = max(m, f(i))`.
use Rattle.std.specs.Prelude.{◌≡◌, refl, ℕ, ◌+◌, ◌<◌, ◌≤◌, max}
use Rattle.std.proofs.Common.{ap, ap₂, ◌∙◌, zero-le, add-one, arith}
use Rattle.lookup_degree.specs.Sums.{greatest}

-- m is the largest of the first i
pub record Rising (f : ℕ → ℕ) (n i m : ℕ) : Type 0 where
  pub within : i ≤ n
  pub is : m ≡ greatest f i

pub rise_begins : {f : ℕ → ℕ} {n : ℕ} → Rising f n 0 0
unfolding greatest
rise_begins = record { within = zero-le; is = refl }

pub rise_turn : {f : ℕ → ℕ} {n i m m' : ℕ} (x : ℕ) → Rising f n i m → i < n → m' ≡ max m x → x ≡ f i → Rising f n (i + 1) m'
unfolding greatest
rise_turn {f} {n} {i} {m} {m'} x s h e g = record { within = omega arith; is = rw (add-one i) (e ∙ ap₂ max s.is g) }

pub rise_ends : {f : ℕ → ℕ} {n i m : ℕ} → Rising f n i m → n ≤ i → m ≡ greatest f n
rise_ends {f} {n} {i} {m} s h = let e : i ≡ n = omega (arith, s.within) in s.is ∙ ap (greatest f) e
