-- The order in which packing and widths go through a table's lookups. SPECIFICATION, sections 6.2 and 7.1.
use Rattle.std.specs.Prelude.{Bool, cond, List, [], ◌∷◌, ◌++◌, ℕ, zero, suc, eqb}
use Rattle.lookup.specs.Buses.{same_bus}

module _ {A : Type 0} where
  -- the elements that pass a test, in order
  unfoldable pub keep : (A → Bool) → List A → List A
  keep f [] = []
  keep f (x ∷ xs) = cond (f x) (x ∷ keep f xs) (keep f xs)

  -- the position of the first element that passes a test; the length where there is none
  unfoldable pub position : (A → Bool) → List A → ℕ
  position f [] = 0
  position f (x ∷ xs) = cond (f x) 0 (suc (position f xs))

  -- the elements of the places 0, .., k - 1, place by place; in one place in list order
  unfoldable pub by_place : (A → ℕ) → ℕ → List A → List A
  by_place f zero xs = []
  by_place f (suc k) xs = by_place f k xs ++ keep (λ (x : A). eqb (f x) k) xs

-- 0, 1, .., n - 1
unfoldable pub numbers : ℕ → List ℕ
numbers zero = []
numbers (suc n) = numbers n ++ (n ∷ [])

-- n lookups by bus; the lookups that are `alone` belong to none
module _ (alone : ℕ → Bool) (name : ℕ → List ℕ) where
  -- place 0 for those that are alone, place 1 + j for those on the bus whose first lookup is lookup j
  unfoldable pub place : ℕ → ℕ → ℕ
  place n i = cond (alone i) 0 (suc (position (same_bus alone name i) (numbers n)))

  -- those that are alone, then bus by bus by their first appearance; in list order each
  unfoldable pub arranged : ℕ → List ℕ
  arranged n = by_place (place n) (suc n) (numbers n)
