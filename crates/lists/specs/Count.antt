-- Sums, tests and lists over the numbers 0, .., n - 1.
use Rattle.std.specs.Prelude.{ℕ, zero, suc, ◌+◌, Bool, true, false, ◌&&◌, ◌||◌, List, [], ◌++◌}
use Rattle.std.proofs.Math.Option.{Option, none, some}

-- f 0 + .. + f (n - 1)
unfoldable pub total : (ℕ → ℕ) → ℕ → ℕ
total f zero = 0
total f (suc n) = total f n + f n

-- every one of the n tests holds
unfoldable pub every : (ℕ → Bool) → ℕ → Bool
every f zero = true
every f (suc n) = every f n && f n

-- one of the n tests holds
unfoldable pub some_of : (ℕ → Bool) → ℕ → Bool
some_of f zero = false
some_of f (suc n) = some_of f n || f n

module _ {A : Type 0} where
  -- the first of two that is there
  abbrev pub or_else : Option A → Option A → Option A
  or_else none b = b
  or_else (some a) b = some a

  -- the first that is there of f 0, .., f (n - 1)
  unfoldable pub first : (ℕ → Option A) → ℕ → Option A
  first f zero = none
  first f (suc n) = or_else (first f n) (f n)

  -- the lists f a, .., f (a + n - 1), one after the other
  unfoldable pub joined : (ℕ → List A) → ℕ → ℕ → List A
  joined f a zero = []
  joined f a (suc n) = joined f a n ++ f (a + n)
