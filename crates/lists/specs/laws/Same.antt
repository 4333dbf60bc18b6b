-- Lists that the test calls equal are equal, and the turns of a loop that compares two lists.
use Rattle.std.specs.Prelude.{◌≡◌, refl, Bool, true, false, ◌&&◌, List, [], ◌∷◌, ℕ, suc, ◌+◌, ◌<◌, ◌≤◌, eqb, length, drop, get_or}
use Rattle.std.proofs.Common.{sym, ap, ap₂, ◌∙◌, zero-le, add-one, arith, drop_of_length-le, drop-cons, eqb-true, eq-eqb, ne_eqb}
use Rattle.lists.specs.Same.{same_list}

pub same_list-eq : (xs ys : List ℕ) → same_list xs ys ≡ true → xs ≡ ys
unfolding same_list
same_list-eq [] [] e = refl
same_list-eq [] (y ∷ ys) e = cc
same_list-eq (x ∷ xs) [] e = cc
same_list-eq (x ∷ xs) (y ∷ ys) e = go (eqb x y) (same_list-eq xs ys) refl e
  where
    go : (b : Bool) → (same_list xs ys ≡ true → xs ≡ ys) → eqb x y ≡ b → (b && same_list xs ys) ≡ true → ◌≡◌ {A = List ℕ} (x ∷ xs) (y ∷ ys)
    go true ih q t = ap₂ (λ (a : ℕ) (l : List ℕ). a ∷ l) (eqb-true x y q) (ih t)
    go false ih q t = cc

pub same_list_refl : (xs : List ℕ) → same_list xs xs ≡ true
unfolding same_list
same_list_refl [] = refl
same_list_refl (x ∷ xs) = rw (eq-eqb x x refl) (same_list_refl xs)

-- lists of different lengths
pub same_lengths : (x y : List ℕ) → (length x ≡ length y → ⊥) → false ≡ same_list x y
unfolding same_list
same_lengths [] [] n = absurd (n refl)
same_lengths [] (b ∷ y) n = refl
same_lengths (a ∷ x) [] n = refl
same_lengths (a ∷ x) (b ∷ y) n = go (eqb a b) (same_lengths x y (λ e. n (ap suc e)))
  where
    go : (c : Bool) → false ≡ same_list x y → false ≡ (c && same_list x y)
    go true e = e
    go false e = refl

-- two lists agree in their first i words
pub record SameSoFar (x y : List ℕ) (i : ℕ) : Type 0 where
  pub rest : same_list (drop i x) (drop i y) ≡ same_list x y
  pub within : i ≤ length x
  pub long : length x ≡ length y

pub same-begins : {x y : List ℕ} → length x ≡ length y → SameSoFar x y 0
same-begins e = record { rest = refl; within = zero-le; long = e }

step_at : (x y : List ℕ) (i : ℕ) → i < length x → i < length y → same_list (drop i x) (drop i y) ≡ (eqb (get_or x i 0) (get_or y i 0) && same_list (drop (suc i) x) (drop (suc i) y))
unfolding same_list
step_at x y i h g = rw (drop-cons x i 0 h, drop-cons y i 0 g)

pub same_turn : {x y : List ℕ} {i : ℕ} → SameSoFar x y i → i < length x → get_or x i 0 ≡ get_or y i 0 → SameSoFar x y (i + 1)
same_turn {x} {y} {i} s h e =
    record {
      rest = rw (add-one i) (sym (rw (eq-eqb (get_or x i 0) (get_or y i 0) e) at (step_at x y i h (omega (arith, s.long)))) ∙ s.rest);
      within = omega arith;
      long = s.long;
    }

pub same_ends : {x y : List ℕ} {i : ℕ} → SameSoFar x y i → length x ≤ i → true ≡ same_list x y
unfolding same_list
same_ends {x} {y} {i} s h = rw (drop_of_length-le x {i = i} h, drop_of_length-le y {i = i} (omega (arith, s.long))) at s.rest

pub same_differs : {x y : List ℕ} {i : ℕ} → SameSoFar x y i → i < length x → (get_or x i 0 ≡ get_or y i 0 → ⊥) → false ≡ same_list x y
same_differs {x} {y} {i} s h n = sym (rw (ne_eqb (get_or x i 0) (get_or y i 0) n) at (step_at x y i h (omega (arith, s.long)))) ∙ s.rest
