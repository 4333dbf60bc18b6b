-- Laws of the order by place, and of what a test keeps of a list.
use Rattle.std.specs.Prelude.{◌≡◌, Bool, ◌⊎◌, get_or}
use Rattle.std.proofs.Math.Path.{refl, sym, ap}
use Rattle.std.proofs.Common.{ap₂, ◌∙◌, inl, inr, zero-add, length-append}
use Rattle.std.proofs.Math.Bool.{true, false, cond}
use mathlib.Core.List.Memᴰ
use mathlib.Core.List.{List, [], ◌∷◌, ◌++◌, append-nil, append_assoc, map, map-append, Memᴰ}
use Prim.Native.Nat.{ℕ, zero, suc, ◌+◌, ◌<◌, ◌≤◌, zero-le}
use native.Mathlib.Omega.{arith}
use Rattle.std.proofs.Math.Dec.{eqb, ltb}
use Rattle.std.proofs.Math.ListN.{length, get_or-append}
use Rattle.std.proofs.lemmas.List.{get_or_at}
use Rattle.lists.specs.laws.Same.{same_list_refl}
use Rattle.lists.specs.Tab.{tab}
use Rattle.lists.specs.laws.Count.{last_or_below}
use borrow.Author.Tests.{ltb-true, ltb-false, eqb-true, eqb-false, lt-ltb, le-ltb, eq-eqb, ne_eqb}
use Rattle.lookup_degree.specs.Sums.{sum_of}
use Rattle.lookup_buses.specs.Order.{keep, position, by_place, numbers, place, arranged}
use Rattle.lookup.specs.Buses.{same_bus}

module _ {A : Type 0} where
  pub keep_append : (f : A → Bool) (xs ys : List A) → keep f (xs ++ ys) ≡ keep f xs ++ keep f ys
  unfolding keep
  keep_append f [] ys = refl
  keep_append f (x ∷ xs) ys = go (f x) (keep_append f xs ys)
    where
      go : (b : Bool) → keep f (xs ++ ys) ≡ keep f xs ++ keep f ys → cond b (x ∷ keep f (xs ++ ys)) (keep f (xs ++ ys)) ≡ cond b (x ∷ keep f xs) (keep f xs) ++ keep f ys
      go true e = ap (λ (l : List A). x ∷ l) e
      go false e = e

  -- a second test that the first one grants, or rules out
  pub keep_same : (q f : A → Bool) → ((x : A) → q x ≡ true → f x ≡ true) → (xs : List A) → keep q (keep f xs) ≡ keep q xs
  unfolding keep
  keep_same q f h [] = refl
  keep_same q f h (x ∷ xs) = go (f x) (q x) refl refl (keep_same q f h xs)
    where
      go : (b c : Bool) → f x ≡ b → q x ≡ c → keep q (keep f xs) ≡ keep q xs → keep q (cond b (x ∷ keep f xs) (keep f xs)) ≡ cond c (x ∷ keep q xs) (keep q xs)
      go true true e e' ih = rw e' (ap (λ (l : List A). x ∷ l) ih)
      go true false e e' ih = rw e' ih
      go false true e e' ih = cc (h x e')
      go false false e e' ih = ih

  pub keep_none : (q f : A → Bool) → ((x : A) → q x ≡ true → f x ≡ false) → (xs : List A) → keep q (keep f xs) ≡ []
  unfolding keep
  keep_none q f h [] = refl
  keep_none q f h (x ∷ xs) = go (f x) (q x) refl refl (keep_none q f h xs)
    where
      go : (b c : Bool) → f x ≡ b → q x ≡ c → keep q (keep f xs) ≡ [] → keep q (cond b (x ∷ keep f xs) (keep f xs)) ≡ []
      go true true e e' ih = cc (h x e')
      go true false e e' ih = rw e' ih
      go false c e e' ih = ih

  pub keep_cong : (q f : A → Bool) → ((x : A) → q x ≡ f x) → (xs : List A) → keep q xs ≡ keep f xs
  unfolding keep
  keep_cong q f h [] = refl
  keep_cong q f h (x ∷ xs) = rw (h x, keep_cong q f h xs)

  -- a test that every element passes
  pub keep_all : (f : A → Bool) (xs : List A) → ((x : A) → Memᴰ x xs → f x ≡ true) → keep f xs ≡ xs
  unfolding keep
  keep_all f [] h = refl
  keep_all f (x ∷ xs) h = rw (h x (Memᴰ.head refl)) (ap (λ (l : List A). x ∷ l) (keep_all f xs (λ (y : A) m. h y (Memᴰ.tail m))))

  pub keep_in : {a : A} (f : A → Bool) (xs : List A) → Memᴰ a (keep f xs) → Memᴰ a xs
  unfolding keep
  keep_in f [] m = m
  keep_in {a} f (x ∷ xs) m = go (f x) (λ (n : Memᴰ a (keep f xs)). keep_in f xs n) m
    where
      head_or : (Memᴰ a (keep f xs) → Memᴰ a xs) → (a ≡ x) ⊎ Memᴰ a (keep f xs) → Memᴰ a (x ∷ xs)
      head_or ih (inl e) = Memᴰ.head e
      head_or ih (inr n) = Memᴰ.tail (ih n)

      go : (b : Bool) → (Memᴰ a (keep f xs) → Memᴰ a xs) → Memᴰ a (cond b (x ∷ keep f xs) (keep f xs)) → Memᴰ a (x ∷ xs)
      go true ih n = head_or ih (Memᴰ.cases_cons n)
      go false ih n = Memᴰ.tail (ih n)

  -- none passes where there is no first one
  pub position_none : (f : A → Bool) (xs : List A) → length xs ≤ position f xs → keep f xs ≡ []
  unfolding keep position
  position_none f [] h = refl
  position_none f (x ∷ xs) h = go (f x) (λ (g : length xs ≤ position f xs). position_none f xs g) h
    where
      go : (b : Bool) → (length xs ≤ position f xs → keep f xs ≡ []) → suc (length xs) ≤ cond b 0 (suc (position f xs)) → cond b (x ∷ keep f xs) (keep f xs) ≡ []
      go true ih g = absurd (omega arith)
      go false ih g = ih (omega arith)

  pub position_in : {a : A} (f : A → Bool) (xs : List A) → Memᴰ a xs → f a ≡ true → position f xs < length xs
  unfolding position
  position_in {a} f [] m t = elim m [ ]
  position_in {a} f (x ∷ xs) (Memᴰ.head e) t = rw (ap f (sym e) ∙ t) (omega arith)
  position_in {a} f (x ∷ xs) (Memᴰ.tail m) t = go (f x) (position_in f xs m t)
    where
      go : (b : Bool) → position f xs < length xs → cond b 0 (suc (position f xs)) < suc (length xs)
      go true ih = omega arith
      go false ih = omega arith

  pub sum-append : (f : A → ℕ) (xs ys : List A) → sum_of f (xs ++ ys) ≡ sum_of f xs + sum_of f ys
  unfolding sum_of
  sum-append f [] ys = omega arith
  sum-append f (x ∷ xs) ys = omega (arith, sum-append f xs ys)

  -- the elements of place k0 are all there once their place is reached, in list order
  pub by_place-keep : (q : A → Bool) (f : A → ℕ) (k0 : ℕ) → ((x : A) → q x ≡ true → f x ≡ k0) → (k : ℕ) (xs : List A) → keep q (by_place f k xs) ≡ cond (ltb k0 k) (keep q xs) []
  unfolding keep by_place
  by_place-keep q f k0 h zero xs = rw (le-ltb k0 0 zero-le)
  by_place-keep q f k0 h (suc k) xs =
      keep_append q (by_place f k xs) (keep (λ (x : A). eqb (f x) k) xs)
      ∙ ap (λ (l : List A). l ++ keep q (keep (λ (x : A). eqb (f x) k) xs)) (by_place-keep q f k0 h k xs)
      ∙ go (ltb k0 k) (eqb k0 k) refl refl
    where
      none : (k0 ≡ k → ⊥) → keep q (keep (λ (x : A). eqb (f x) k) xs) ≡ []
      none ne = keep_none q (λ (x : A). eqb (f x) k) (λ (x : A) t. ne_eqb (f x) k (λ e. ne (sym (h x t) ∙ e))) xs

      go : (b c : Bool) → ltb k0 k ≡ b → eqb k0 k ≡ c → cond b (keep q xs) [] ++ keep q (keep (λ (x : A). eqb (f x) k) xs) ≡ cond (ltb k0 (suc k)) (keep q xs) []
      go true c e e' =
          let l : k0 < k = ltb-true k0 k e in
          rw (lt-ltb k0 (suc k) (omega arith), none (λ (z : k0 ≡ k). omega arith)) (append-nil (keep q xs))
      go false true e e' =
          let l : k0 ≡ k = eqb-true k0 k e' in
          rw (lt-ltb k0 (suc k) (omega arith)) (keep_same q (λ (x : A). eqb (f x) k) (λ (x : A) t. eq-eqb (f x) k (h x t ∙ l)) xs)
      go false false e e' =
          let l : k ≤ k0 = ltb-false k0 k e in
          let n : k0 ≡ k → ⊥ = eqb-false k0 k e' in
          let s : suc k ≤ k0 = omega arith in
          rw (le-ltb k0 (suc k) s, none n)

  -- those below k and those at k are those below k + 1
  sum_step : (g : A → ℕ) (f : A → ℕ) (k : ℕ) (ys : List A) → sum_of g (keep (λ (x : A). ltb (f x) k) ys) + sum_of g (keep (λ (x : A). eqb (f x) k) ys) ≡ sum_of g (keep (λ (x : A). ltb (f x) (suc k)) ys)
  unfolding keep sum_of
  sum_step g f k [] = refl
  sum_step g f k (y ∷ ys) = go (keep (λ (x : A). ltb (f x) k) ys) (keep (λ (x : A). eqb (f x) k) ys) (keep (λ (x : A). ltb (f x) (suc k)) ys) (ltb (f y) k) (eqb (f y) k) refl refl (sum_step g f k ys)
    where
      go : (lo at up : List A) (b c : Bool) → ltb (f y) k ≡ b → eqb (f y) k ≡ c → sum_of g lo + sum_of g at ≡ sum_of g up
          → sum_of g (cond b (y ∷ lo) lo) + sum_of g (cond c (y ∷ at) at) ≡ sum_of g (cond (ltb (f y) (suc k)) (y ∷ up) up)
      go lo at up true true e e' ih = let l : f y < k = ltb-true (f y) k e in let m : f y ≡ k = eqb-true (f y) k e' in omega arith
      go lo at up true false e e' ih = let l : f y < k = ltb-true (f y) k e in rw (lt-ltb (f y) (suc k) (omega arith)) (omega (arith, ih))
      go lo at up false true e e' ih = let l : f y ≡ k = eqb-true (f y) k e' in rw (lt-ltb (f y) (suc k) (omega arith)) (omega (arith, ih))
      go lo at up false false e e' ih =
          let l : k ≤ f y = ltb-false (f y) k e in
          let n : f y ≡ k → ⊥ = eqb-false (f y) k e' in
          let s : suc k ≤ f y = omega arith in
          rw (le-ltb (f y) (suc k) s) ih

  keep-below-zero : (f : A → ℕ) (ys : List A) → keep (λ (x : A). ltb (f x) 0) ys ≡ []
  unfolding keep
  keep-below-zero f [] = refl
  keep-below-zero f (y ∷ ys) = rw (le-ltb (f y) 0 zero-le) (keep-below-zero f ys)

  -- none is lost: sums over the elements up to place k
  pub sum-by_place : (g : A → ℕ) (f : A → ℕ) (k : ℕ) (xs : List A) → sum_of g (by_place f k xs) ≡ sum_of g (keep (λ (x : A). ltb (f x) k) xs)
  unfolding by_place
  sum-by_place g f zero xs = ap (sum_of g) (sym (keep-below-zero f xs))
  sum-by_place g f (suc k) xs =
      sum-append g (by_place f k xs) (keep (λ (x : A). eqb (f x) k) xs)
      ∙ ap (λ (n : ℕ). n + sum_of g (keep (λ (x : A). eqb (f x) k) xs)) (sum-by_place g f k xs)
      ∙ sum_step g f k xs

  pub by_place_in : {a : A} (f : A → ℕ) (k : ℕ) (xs : List A) → Memᴰ a (by_place f k xs) → Memᴰ a xs
  unfolding by_place
  by_place_in f zero xs m = elim m [ ]
  by_place_in {a} f (suc k) xs m = go (λ (n : Memᴰ a (by_place f k xs)). by_place_in f k xs n) (Memᴰ.append_cases (by_place f k xs) m)
    where
      go : (Memᴰ a (by_place f k xs) → Memᴰ a xs) → Memᴰ a (by_place f k xs) ⊎ Memᴰ a (keep (λ (x : A). eqb (f x) k) xs) → Memᴰ a xs
      go ih (inl n) = ih n
      go ih (inr n) = keep_in (λ (x : A). eqb (f x) k) xs n

  -- place 0 comes first
  pub by_place-front : (f : A → ℕ) (k : ℕ) (xs : List A) → (rest : List A) × (by_place f (suc k) xs ≡ keep (λ (x : A). eqb (f x) 0) xs ++ rest)
  unfolding by_place
  by_place-front f zero xs = ([], sym (append-nil (keep (λ (x : A). eqb (f x) 0) xs)))
  by_place-front f (suc k) xs =
      let r = by_place-front f k xs in (
        r.0 ++ keep (λ (x : A). eqb (f x) (suc k)) xs,
        ap (λ (l : List A). l ++ keep (λ (x : A). eqb (f x) (suc k)) xs) r.1 ∙ append_assoc (keep (λ (x : A). eqb (f x) 0) xs) r.0 (keep (λ (x : A). eqb (f x) (suc k)) xs),
      )

module _ {A B : Type 0} where
  pub keep-map : (f : B → Bool) (g : A → B) (xs : List A) → keep f (map g xs) ≡ map g (keep (λ (x : A). f (g x)) xs)
  unfolding keep
  keep-map f g [] = refl
  keep-map f g (x ∷ xs) = go (f (g x)) (keep-map f g xs)
    where
      go : (b : Bool) → keep f (map g xs) ≡ map g (keep (λ (y : A). f (g y)) xs) → cond b (g x ∷ keep f (map g xs)) (keep f (map g xs)) ≡ map g (cond b (x ∷ keep (λ (y : A). f (g y)) xs) (keep (λ (y : A). f (g y)) xs))
      go true e = ap (λ (l : List B). g x ∷ l) e
      go false e = e

  pub sum-map : (f : B → ℕ) (g : A → B) (xs : List A) → sum_of f (map g xs) ≡ sum_of (λ (x : A). f (g x)) xs
  unfolding sum_of
  sum-map f g [] = refl
  sum-map f g (x ∷ xs) = ap (λ (n : ℕ). f (g x) + n) (sum-map f g xs)

-- the values at 0, .., n - 1
pub tab-map : {B : Type 0} (g : ℕ → B) (n : ℕ) → tab g 0 n ≡ map g (numbers n)
unfolding tab numbers
tab-map g zero = refl
tab-map {B} g (suc n) = ap₂ (λ (xs : List B) (i : ℕ). xs ++ (g i ∷ [])) (tab-map g n) (zero-add n) ∙ sym (map-append g (numbers n) (n ∷ []))

pub numbers-length : (n : ℕ) → length (numbers n) ≡ n
unfolding numbers
numbers-length zero = refl
numbers-length (suc n) = simp length-append (omega (arith, numbers-length n))

pub numbers-below : (n i : ℕ) → Memᴰ i (numbers n) → i < n
unfolding numbers
numbers-below zero i m = elim m [ ]
numbers-below (suc n) i m = go (λ q. numbers-below n i q) (Memᴰ.append_cases (numbers n) m)
  where
    go : (Memᴰ i (numbers n) → i < n) → Memᴰ i (numbers n) ⊎ Memᴰ i (n ∷ []) → i < suc n
    go ih (inl q) = let h : i < n = ih q in omega arith
    go ih (inr q) = let e : i ≡ n = Memᴰ.eq_of_singleton q in omega arith

pub numbers_in : (n i : ℕ) → i < n → Memᴰ i (numbers n)
unfolding numbers
numbers_in zero i h = absurd (omega arith)
numbers_in (suc n) i h = last_or_below (λ i. Memᴰ i (numbers n ++ (n ∷ []))) n i h (Memᴰ.append_right (numbers n) (Memᴰ.head refl)) (λ l. Memᴰ.append_left (n ∷ []) (numbers_in n i l))

pub numbers_at : (n j : ℕ) → j < n → get_or (numbers n) j 0 ≡ j
unfolding numbers
numbers_at zero j h = absurd (omega arith)
numbers_at (suc n) j h =
    last_or_below (λ j. get_or (numbers n ++ (n ∷ [])) j 0 ≡ j) n j h (get_or_at (numbers n) n [] 0 n (numbers-length n))
    (λ l. get_or-append (numbers n) (n ∷ []) 0 j (rw (numbers-length n) l) ∙ numbers_at n j l)

pub ones : {A : Type 0} (xs : List A) → sum_of (λ (x : A). 1) xs ≡ length xs
unfolding sum_of
ones [] = refl
ones (x ∷ xs) = omega (arith, ones xs)

keep_in_cong : {A : Type 0} (q f : A → Bool) (xs : List A) → ((x : A) → Memᴰ x xs → q x ≡ f x) → keep q xs ≡ keep f xs
unfolding keep
keep_in_cong q f [] h = refl
keep_in_cong {A} q f (x ∷ xs) h = rw (h x (Memᴰ.head refl), keep_in_cong q f xs (λ (y : A) m. h y (Memᴰ.tail m)))

pub by_place_cong : {A : Type 0} (f g : A → ℕ) (k : ℕ) (xs : List A) → ((x : A) → Memᴰ x xs → f x ≡ g x) → by_place f k xs ≡ by_place g k xs
unfolding by_place
by_place_cong f g zero xs h = refl
by_place_cong {A} f g (suc k) xs h =
    ap₂ (λ (x y : List A). x ++ y) (by_place_cong f g k xs h) (keep_in_cong (λ (x : A). eqb (f x) k) (λ (x : A). eqb (g x) k) xs (λ (x : A) m. ap (λ (n : ℕ). eqb n k) (h x m)))

pub get_or-below : (xs : List ℕ) (n k : ℕ) → ((i : ℕ) → Memᴰ i xs → i < n) → 0 < n → get_or xs k 0 < n
get_or-below [] n k h z = z
get_or-below (x ∷ xs) n zero h z = h x (Memᴰ.head refl)
get_or-below (x ∷ xs) n (suc k) h z = get_or-below xs n k (λ (i : ℕ) m. h i (Memᴰ.tail m)) z

-- the order of n lookups by bus
module _ (alone : ℕ → Bool) (name : ℕ → List ℕ) (n : ℕ) where
  -- every lookup has its place
  pub place_in : (i : ℕ) → Memᴰ i (numbers n) → ltb (place alone name n i) (suc n) ≡ true
  unfolding place same_bus
  place_in i m = go (alone i) refl
    where
      self : alone i ≡ false → same_bus alone name i i ≡ true
      self e = rw (e, same_list_refl (name i))

      go : (b : Bool) → alone i ≡ b → ltb (cond b 0 (suc (position (same_bus alone name i) (numbers n)))) (suc n) ≡ true
      go true e = lt-ltb 0 (suc n) (omega arith)
      go false e =
          let h : position (same_bus alone name i) (numbers n) < length (numbers n) = position_in (same_bus alone name i) (numbers n) m (self e) in
          lt-ltb (suc (position (same_bus alone name i) (numbers n))) (suc n) (omega (arith, numbers-length n))

  -- none is lost and none comes in: any sum over the lookups stays
  pub arranged-sum : (g : ℕ → ℕ) → sum_of g (arranged alone name n) ≡ sum_of g (numbers n)
  unfolding arranged
  arranged-sum g = sum-by_place g (place alone name n) (suc n) (numbers n) ∙ ap (sum_of g) (keep_all (λ (i : ℕ). ltb (place alone name n i) (suc n)) (numbers n) place_in)

  pub arranged-length : length (arranged alone name n) ≡ n
  arranged-length = sym (ones (arranged alone name n)) ∙ arranged-sum (λ i. 1) ∙ ones (numbers n) ∙ numbers-length n

  pub arranged_in : (i : ℕ) → Memᴰ i (arranged alone name n) → i < n
  unfolding arranged
  arranged_in i m = numbers-below n i (by_place_in (place alone name n) (suc n) (numbers n) m)

  pub arranged-below : (k : ℕ) → 0 < n → get_or (arranged alone name n) k 0 < n
  arranged-below k h = get_or-below (arranged alone name n) n k arranged_in h
