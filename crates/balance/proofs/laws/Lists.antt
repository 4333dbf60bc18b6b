-- Lists that are made by a function, and lists of lists one after the other.
use Rattle.std.specs.Prelude.{◌≡◌, ◌⊎◌}
use Rattle.std.proofs.Math.Path.{refl, ap₂}
use Rattle.std.proofs.Common.{◌∙◌, inl, inr, arith}
use mathlib.Core.List.Memᴰ
use mathlib.Core.List.{List, [], ◌∷◌, ◌++◌, append-nil, flat_map, Memᴰ}
use Prim.Native.Nat.{ℕ, zero, suc, ◌+◌, ◌<◌}
use Rattle.lists.specs.Count.{joined}
use Rattle.lists.specs.Tab.{tab}
use Rattle.lists.specs.laws.Tab.{flat_append}

module _ {A : Type 0} where
  -- functions that agree
  pub joined_same : (f g : ℕ → List A) (n : ℕ) → ((j : ℕ) → j < n → f j ≡ g j) → joined f 0 n ≡ joined g 0 n
  unfolding joined
  joined_same f g zero e = refl
  joined_same f g (suc n) e = ap₂ (λ (l m : List A). l ++ m) (joined_same f g n (λ j l. e j (omega arith))) (e (0 + n) (omega arith))

module _ {A B : Type 0} where
  pub flat_in : (f : A → List B) (xs : List A) {y : B} → Memᴰ y (flat_map f xs) → (x : A) × Memᴰ x xs × Memᴰ y (f x)
  unfolding flat_map
  flat_in f [] m = elim m [ ]
  flat_in f (x ∷ xs) {y} m = go (λ n. flat_in f xs n) (Memᴰ.append_cases (f x) m)
    where
      go : (Memᴰ y (flat_map f xs) → (z : A) × Memᴰ z xs × Memᴰ y (f z)) → Memᴰ y (f x) ⊎ Memᴰ y (flat_map f xs)
          → (z : A) × Memᴰ z (x ∷ xs) × Memᴰ y (f z)
      go ih (inl n) = (x, Memᴰ.head refl, n)
      go ih (inr n) = let r = ih n in (r.0, Memᴰ.tail r.1, r.2)

  pub flat-one : (f : A → List B) (x : A) → flat_map f (x ∷ []) ≡ f x
  unfolding flat_map
  flat-one f x = append-nil (f x)

  pub flat-tab : (f : A → List B) (g : ℕ → A) (n : ℕ) → flat_map f (tab g 0 n) ≡ joined (λ i. f (g i)) 0 n
  unfolding tab joined
  flat-tab f g zero = unfold flat_map in refl
  flat-tab f g (suc n) = flat_append f (tab g 0 n) (g (0 + n) ∷ []) ∙ ap₂ (λ (l m : List B). l ++ m) (flat-tab f g n) (flat-one f (g (0 + n)))
