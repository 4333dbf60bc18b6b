-- Sums, tests and first answers over the numbers 0, .., n - 1 and over lists.
use Rattle.std.specs.Prelude.{◌≡◌, Bool, true, false, ◌↔◌, ltb, length}
use Rattle.std.proofs.Math.Path.{refl, sym, ap, ap₂}
use Rattle.std.proofs.Common.{◌∙◌, ltb-true, ltb-false}
use Rattle.std.proofs.Math.Option.{Option, none, some, some-ne-none}
use mathlib.Core.List.{List, [], ◌∷◌}
use Prim.Native.Nat.{ℕ, zero, suc, ◌+◌, ◌<◌, ◌≤◌, max}
use native.Mathlib.Omega.{arith}
use Rattle.lists.specs.Count.{total, some_of, first, or_else}
use Rattle.lists.specs.laws.Count.{some_of_false, some_of_none, last_or_below, total_in}
use Rattle.lists.specs.laws.Sums.{total_cong, total-zero, total_head}
use Rattle.expression.specs.Words.{word}
use Rattle.expression.specs.Values.{bit}
use Rattle.lookup_degree.specs.Sums.{sum_of, greatest}
use Rattle.theorems_packing.proofs.laws.Each.{Each}

-- where a sum is not zero
pub total-some : (f : ℕ → ℕ) (n : ℕ) → 0 < total f n → (i : ℕ) × (i < n) × (0 < f i)
unfolding total
total-some f zero h = absurd (omega arith)
total-some f (suc n) h = go (ltb 0 (f n)) refl (λ (k : 0 < total f n). total-some f n k)
  where
    go : (b : Bool) → ltb 0 (f n) ≡ b → (0 < total f n → (i : ℕ) × (i < n) × (0 < f i)) → (i : ℕ) × (i < suc n) × (0 < f i)
    go true e ih = (n, omega arith, ltb-true 0 (f n) e)
    go false e ih = let q : f n ≤ 0 = ltb-false 0 (f n) e in let r = ih (omega arith) in (r.0, omega (arith, r.1), r.2)

module _ {A : Type 0} where
  pub first_some : (f : ℕ → Option A) (n : ℕ) (x : A) → first f n ≡ some x → (i : ℕ) × (i < n) × (f i ≡ some x)
  unfolding first
  first_some f zero x e = absurd (some-ne-none x (sym e))
  first_some f (suc n) x e = go (first f n) refl (λ (q : first f n ≡ some x). first_some f n x q) e
    where
      go : (o : Option A) → first f n ≡ o → (first f n ≡ some x → (i : ℕ) × (i < n) × (f i ≡ some x)) → or_else o (f n) ≡ some x
          → (i : ℕ) × (i < suc n) × (f i ≡ some x)
      go none q ih e = (n, omega arith, e)
      go (some y) q ih e = let r = ih (q ∙ e) in (r.0, omega (arith, r.1), r.2)

pub sum-word : (g : ℕ → ℕ) (xs : List ℕ) → sum_of g xs ≡ total (λ k. g (word xs k)) (length xs)
unfolding sum_of
sum-word g [] = unfold total in refl
sum-word g (x ∷ xs) = ap (λ (n : ℕ). g x + n) (sum-word g xs) ∙ sym (total_head (λ k. g (word (x ∷ xs) k)) (length xs))

-- the largest of n numbers
pub le-greatest : (f : ℕ → ℕ) (n i : ℕ) → i < n → f i ≤ greatest f n
unfolding greatest
le-greatest f zero i h = absurd (omega arith)
le-greatest f (suc n) i h =
    last_or_below (λ i. f i ≤ max (greatest f n) (f n)) n i h (omega arith) (λ l. let x = le-greatest f n i l in omega arith)

-- sums over two lists, in either order
module _ {A : Type 0} where
  pub sum-zero : (xs : List A) → sum_of (λ (x : A). 0) xs ≡ 0
  unfolding sum_of
  sum-zero [] = refl
  sum-zero (x ∷ xs) = omega (arith, sum-zero xs)

  pub sum-add : (f g : A → ℕ) (xs : List A) → sum_of (λ (x : A). f x + g x) xs ≡ sum_of f xs + sum_of g xs
  unfolding sum_of
  sum-add f g [] = refl
  sum-add f g (x ∷ xs) = omega (arith, sum-add f g xs)

  pub sum_cong : (f g : A → ℕ) → ((x : A) → f x ≡ g x) → (xs : List A) → sum_of f xs ≡ sum_of g xs
  unfolding sum_of
  sum_cong f g h [] = refl
  sum_cong f g h (x ∷ xs) = ap₂ ◌+◌ (h x) (sum_cong f g h xs)

  pub sum_swap : (f : A → A → ℕ) (xs ys : List A)
      → sum_of (λ (x : A). sum_of (f x) ys) xs ≡ sum_of (λ (y : A). sum_of (λ (x : A). f x y) xs) ys
  unfolding sum_of
  sum_swap f [] ys = sym (sum-zero ys)
  sum_swap f (x ∷ xs) ys =
      ap (λ (n : ℕ). sum_of (f x) ys + n) (sum_swap f xs ys) ∙ sym (sum-add (f x) (λ (y : A). sum_of (λ (x : A). f x y) xs) ys)

  pub sum_ones : (f : A → ℕ) (xs : List A) → Each (λ (x : A). f x ≡ 1) xs → sum_of f xs ≡ length xs
  unfolding sum_of
  sum_ones f [] e = refl
  sum_ones f (x ∷ xs) e = omega (arith, e.0, sum_ones f xs e.1)

-- none of n tests holds where none is counted
pub some-total : (f : ℕ → Bool) (n : ℕ) → (some_of f n ≡ false) ↔ (total (λ k. bit (f k)) n ≡ 0)
some-total f n = (
  λ e. total_cong (λ k. bit (f k)) (λ k. 0) n (λ k h. ap bit (some_of_false f n k e h)) ∙ total-zero n,
  λ e. some_of_none f n (λ k h. none (f k) (let x = total_in (λ k. bit (f k)) k n h in omega (arith, e))),
)
  where
    none : (b : Bool) → bit b ≡ 0 → b ≡ false
    none true e = absurd (omega arith)
    none false e = refl
