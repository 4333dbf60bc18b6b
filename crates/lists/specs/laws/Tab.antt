-- One value more and a part more of a list that is made by a function, and what stands in it.
use Rattle.std.specs.Prelude.{◌≡◌, length}
use Rattle.std.proofs.Math.Path.{refl, ap₂}
use Rattle.std.proofs.Common.{sym, ap, ◌∙◌, add-zero, add-suc, zero-add, add-one}
use mathlib.Core.List.{List, [], ◌∷◌, ◌++◌, append_assoc, append-nil, map, map-append, flat_map, zip_with}
use Prim.Native.Nat.{ℕ, zero, suc, ◌+◌, ◌-◌, ◌<◌, ◌≤◌}
use Rattle.std.proofs.Math.Nat.{add_assoc}
use native.Mathlib.Omega.{arith}
use Rattle.std.proofs.Math.ListN.{get_or, length-append, get_or-append}
use Rattle.std.proofs.lemmas.List.{get_or_at}
use Rattle.lists.specs.Tab.{tab}
use Rattle.lists.specs.laws.Count.{last_or_below}

module _ {A : Type 0} where
  pub tab-length : (f : ℕ → A) (a n : ℕ) → length (tab f a n) ≡ n
  unfolding tab
  tab-length f a zero = refl
  tab-length f a (suc n) = simp length-append (omega (arith, tab-length f a n))

  pub tab_none : (f : ℕ → A) (a : ℕ) → tab f a 0 ≡ []
  unfolding tab
  tab_none f a = refl

  -- one more
  pub tab-one : (f : ℕ → A) (a n : ℕ) → tab f a (n + 1) ≡ tab f a n ++ (f (a + n) ∷ [])
  unfolding tab
  tab-one f a n = rw (add-one n)

  -- a part more
  pub tab-add : (f : ℕ → A) (a n m : ℕ) → tab f a (n + m) ≡ tab f a n ++ tab f (a + n) m
  unfolding tab
  tab-add f a n zero = rw (add-zero n) (sym (append-nil (tab f a n)))
  tab-add f a n (suc m) = rw (add-suc n m, tab-add f a n m, append_assoc (tab f a n) (tab f (a + n) m) (f (a + (n + m)) ∷ []), add_assoc a n m)

  pub tab_to : (f : ℕ → A) (i e : ℕ) → i ≤ e → tab f 0 e ≡ tab f 0 i ++ tab f i (e - i)
  tab_to f i e h = let k : e ≡ i + (e - i) = omega arith in ap (tab f 0) k ∙ tab-add f 0 i (e - i) ∙ ap (λ (a : ℕ). tab f 0 i ++ tab f a (e - i)) (zero-add i)

  -- one more in front
  pub tab_cons : (f : ℕ → A) (n : ℕ) → tab f 0 (suc n) ≡ f 0 ∷ tab (λ k. f (suc k)) 0 n
  unfolding tab
  tab_cons f zero = refl
  tab_cons f (suc n) = ap₂ (λ (l : List A) (k : ℕ). l ++ (f k ∷ [])) (tab_cons f n) (let e : 0 + suc n ≡ suc (0 + n) = omega arith in e)

  -- functions that agree
  pub tab_cong : (f g : ℕ → A) (n : ℕ) → ((j : ℕ) → j < n → f j ≡ g j) → tab f 0 n ≡ tab g 0 n
  unfolding tab
  tab_cong f g zero e = refl
  tab_cong f g (suc n) e = ap₂ (λ (l : List A) (x : A). l ++ (x ∷ [])) (tab_cong f g n (λ j l. e j (omega arith))) (e (0 + n) (omega arith))

  -- the j-th of a list that is made by a function
  tab_from : (f : ℕ → A) (a n j : ℕ) (z : A) → j < n → get_or (tab f a n) j z ≡ f (a + j)
  unfolding tab
  tab_from f a zero j z l = absurd (omega arith)
  tab_from f a (suc n) j z l =
      last_or_below (λ j. get_or (tab f a n ++ (f (a + n) ∷ [])) j z ≡ f (a + j)) n j l
      (get_or_at (tab f a n) (f (a + n)) [] z n (tab-length f a n))
      (λ l. get_or-append (tab f a n) (f (a + n) ∷ []) z j (rw (tab-length f a n) l) ∙ tab_from f a n j z l)

  pub tab_at : (f : ℕ → A) (n j : ℕ) (z : A) → j < n → get_or (tab f 0 n) j z ≡ f j
  tab_at f n j z l = tab_from f 0 n j z l ∙ ap f (zero-add j)

pub tab_get : (f : ℕ → ℕ) (a n j : ℕ) → j < n → get_or (tab f a n) j 0 ≡ f (a + j)
tab_get f a n j l = tab_from f a n j 0 l

pub map-tab : {A B : Type 0} (g : A → B) (f : ℕ → A) (n : ℕ) → map g (tab f 0 n) ≡ tab (λ k. g (f k)) 0 n
unfolding tab
map-tab g f zero = refl
map-tab {B = B} g f (suc n) = map-append g (tab f 0 n) (f (0 + n) ∷ []) ∙ ap (λ (z : List B). z ++ (g (f (0 + n)) ∷ [])) (map-tab g f n)

pub flat_append : {A B : Type 0} (g : A → List B) (xs ys : List A) → flat_map g (xs ++ ys) ≡ flat_map g xs ++ flat_map g ys
unfolding flat_map
flat_append g [] ys = refl
flat_append {B = B} g (x ∷ xs) ys = ap (λ (z : List B). g x ++ z) (flat_append g xs ys) ∙ sym (append_assoc (g x) (flat_map g xs) (flat_map g ys))

pub zip_append : {A B C : Type 0} (f : A → B → C) (xs xs' : List A) (ys ys' : List B) → length xs ≡ length ys → zip_with f (xs ++ xs') (ys ++ ys') ≡ zip_with f xs ys ++ zip_with f xs' ys'
unfolding zip_with
zip_append f [] xs' [] ys' e = refl
zip_append f [] xs' (y ∷ ys) ys' e = absurd (omega arith)
zip_append f (x ∷ xs) xs' [] ys' e = absurd (omega arith)
zip_append {C = C} f (x ∷ xs) xs' (y ∷ ys) ys' e = ap (λ (l : List C). f x y ∷ l) (zip_append f xs xs' ys ys' (omega arith))
