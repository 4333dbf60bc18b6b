-- Sums and maxima over lists and over the numbers 0, .., n - 1; 0 where there is nothing.
use Rattle.std.specs.Prelude.{List, [], ◌∷◌, ℕ, zero, suc, ◌+◌, max}

module _ {A : Type 0} where
  unfoldable pub sum_of : (A → ℕ) → List A → ℕ
  sum_of f [] = 0
  sum_of f (x ∷ xs) = f x + sum_of f xs

  unfoldable pub largest_of : (A → ℕ) → List A → ℕ
  largest_of f [] = 0
  largest_of f (x ∷ xs) = max (f x) (largest_of f xs)

-- the largest of f 0, .., f (n - 1)
unfoldable pub greatest : (ℕ → ℕ) → ℕ → ℕ
greatest f zero = 0
greatest f (suc n) = max (greatest f n) (f n)
