-- Counting different things: by groups, numbers below a bound, pairs.
use Rattle.std.specs.Prelude.{◌≡◌, refl, ◌≢◌, ℕ, zero, suc, ◌+◌, ◌*◌, ◌≤◌, ◌<◌, length}
use Rattle.std.proofs.Common.{sym, ◌∙◌, ap, ⊎_elim, arith, le_trans, mul_comm, mul-le-mul_right}
use mathlib.Core.List.Memᴰ
use mathlib.Core.List.{List, [], ◌∷◌, ◌++◌, map, Memᴰ}
use Rattle.std.proofs.Math.Decide.{ℕ_discrete}
use Rattle.std.proofs.lemmas.List.{length-map}
use Rattle.theorems_logup.specs.Distinct.{Distinct, AtMost}
use Rattle.theorems_logup.specs.inner.Distinct.{Apart}
use Rattle.theorems_logup.proofs.laws.Pigeonhole.{passing, failing, split_length, passing_member, failing_member, passing_passes, failing_fails, passing_distinct, failing_distinct}
use Rattle.theorems_logup.proofs.laws.Support.{member?}
use Rattle.theorems_logup.proofs.laws.Exists.{one_only}

module _ {A B : Type 0} where
  pub distinct-map : (f : A → B) (l : List A) → ((x y : A) → Memᴰ x l → Memᴰ y l → f x ≡ f y → x ≡ y) → Distinct l → Distinct (map f l)
  distinct-map f [] inj d = tt
  distinct-map f (x ∷ l) inj (n, d) = (
    λ y k e. let (z, m, at) = Memᴰ.of_map f l k in n z m (inj x z (Memᴰ.head refl) (Memᴰ.tail m) (e ∙ sym at)),
    distinct-map f l (λ x y mx my. inj x y (Memᴰ.tail mx) (Memᴰ.tail my)) d,
  )

  -- what is told apart by its image is no more than the images
  pub at_most_by : (f : A → B) (n : ℕ) → ((x y : A) → f x ≡ f y → x ≡ y) → AtMost n B → AtMost n A
  at_most_by f n inj few l dist = rw length-map at (few (map f l) (distinct-map f l (λ x y _ _. inj x y) dist))

pub distinct_append : {A : Type 0} (a b : List A) → Distinct a → Distinct b → ((x y : A) → Memᴰ x a → Memᴰ y b → x ≢ y) → Distinct (a ++ b)
distinct_append [] b da db other = db
distinct_append (x ∷ a) b da db other = (
  λ y m. ⊎_elim (da.0 y) (other x y (Memᴰ.head refl)) (Memᴰ.append_cases a m),
  distinct_append a b da.1 db (λ u v k. other u v (Memᴰ.tail k)),
)

-- a list's members, each once
pub record Once {A : Type 0} (l ks : List A) : Type 0 where
  pub distinct : Distinct ks
  pub covers : (x : A) → Memᴰ x l → Memᴰ x ks
  pub within : (x : A) → Memᴰ x ks → Memᴰ x l

once : {A : Type 0} → Discrete A → (l : List A) → (ks : List A) × Once l ks
once same [] = ([], record { distinct = tt; covers = λ x m. m; within = λ x m. m })
once {A} same (x ∷ l) = let (ks, o) = once same l in step ks o (member? same x ks)
  where
    step : (ks : List A) → Once l ks → Dec (Memᴰ x ks) → (ks : List A) × Once (x ∷ l) ks
    step ks o (yes k) = (
      ks,
      record {
        distinct = o.distinct;
        covers = λ y m. ⊎_elim (λ e. Memᴰ.cast e k) (o.covers y) (Memᴰ.cases_cons m);
        within = λ y m. Memᴰ.tail (o.within y m);
      },
    )
    step ks o (no n) = (
      x ∷ ks,
      record {
        distinct = (λ y m e. n (Memᴰ.cast e m), o.distinct);
        covers = λ y m. ⊎_elim (λ e. Memᴰ.head e) (λ k. Memᴰ.tail (o.covers y k)) (Memᴰ.cases_cons m);
        within = λ y m. ⊎_elim (λ e. Memᴰ.head e) (λ k. Memᴰ.tail (o.within y k)) (Memᴰ.cases_cons m);
      },
    )

-- things in groups of at most c, told by f
module _ {X B : Type 0} (same : Discrete B) (f : X → B) (c : ℕ) where
  abbrev pub InGroups : List X → Type 0
  InGroups l = (b : B) (xs : List X) → Distinct xs → ((x : X) → Memᴰ x xs → Memᴰ x l × (f x ≡ b)) → length xs ≤ c

  spread : (ks : List B) (l : List X) → Distinct l → ((x : X) → Memᴰ x l → Memᴰ (f x) ks) → InGroups l → length l ≤ length ks * c
  spread [] [] dist in_ks each = omega arith
  spread [] (x ∷ l) dist in_ks each = absurd (Memᴰ.not-nil (in_ks x (Memᴰ.head refl)))
  spread (b ∷ ks) l dist in_ks each =
      let rest : List X = failing (λ x. f x ≡ b) (λ x. same (f x) b) l in
      let here : length (passing (λ x. f x ≡ b) (λ x. same (f x) b) l) ≤ c =
      each b (passing (λ x. f x ≡ b) (λ x. same (f x) b) l) (passing_distinct (λ x. f x ≡ b) (λ x. same (f x) b) l dist)
      (λ x m. (passing_member (λ x. f x ≡ b) (λ x. same (f x) b) l x m, passing_passes (λ x. f x ≡ b) (λ x. same (f x) b) l x m)) in
      let others : length rest ≤ length ks * c =
      spread ks rest (failing_distinct (λ x. f x ≡ b) (λ x. same (f x) b) l dist)
      (λ x m.
      ⊎_elim (λ e. absurd (failing_fails (λ x. f x ≡ b) (λ x. same (f x) b) l x m e)) (λ k. k)
      (Memᴰ.cases_cons (in_ks x (failing_member (λ x. f x ≡ b) (λ x. same (f x) b) l x m))))
      (λ b' xs d all. each b' xs d (λ x m. (failing_member (λ x. f x ≡ b) (λ x. same (f x) b) l x (all x m).0, (all x m).1))) in
      let both : length (passing (λ x. f x ≡ b) (λ x. same (f x) b) l) + length rest ≡ length l = split_length (λ x. f x ≡ b) (λ x. same (f x) b) l in
      omega arith

  -- at most k groups
  pub by_groups : (k : ℕ) (l : List X) → Distinct l → ((bs : List B) → Distinct bs → ((b : B) → Memᴰ b bs → Memᴰ b (map f l)) → length bs ≤ k)
      → InGroups l → length l ≤ k * c
  by_groups k l dist few each =
      let (ks, o) = once same (map f l) in
      le_trans (spread ks l dist (λ x m. o.covers (f x) (Memᴰ.map f m)) each) (mul-le-mul_right c (few ks o.distinct o.within))

pub numbers-below : (n : ℕ) (l : List ℕ) → Distinct l → ((x : ℕ) → Memᴰ x l → x < n) → length l ≤ n
numbers-below zero [] dist below = omega arith
numbers-below zero (x ∷ l) dist below = absurd (let none : x < 0 = below x (Memᴰ.head refl) in omega arith)
numbers-below (suc n) l dist below =
    let top : length (passing (λ x. x ≡ n) (λ x. ℕ_discrete x n) l) ≤ 1 =
    one_only n (passing (λ x. x ≡ n) (λ x. ℕ_discrete x n) l) (passing_distinct (λ x. x ≡ n) (λ x. ℕ_discrete x n) l dist)
    (passing_passes (λ x. x ≡ n) (λ x. ℕ_discrete x n) l) in
    let rest : length (failing (λ x. x ≡ n) (λ x. ℕ_discrete x n) l) ≤ n =
    numbers-below n (failing (λ x. x ≡ n) (λ x. ℕ_discrete x n) l) (failing_distinct (λ x. x ≡ n) (λ x. ℕ_discrete x n) l dist)
    (λ x m.
    let low : x < suc n = below x (failing_member (λ x. x ≡ n) (λ x. ℕ_discrete x n) l x m) in
    let other : x ≢ n = failing_fails (λ x. x ≡ n) (λ x. ℕ_discrete x n) l x m in
    omega arith) in
    let both : length (passing (λ x. x ≡ n) (λ x. ℕ_discrete x n) l) + length (failing (λ x. x ≡ n) (λ x. ℕ_discrete x n) l) ≡ length l =
    split_length (λ x. x ≡ n) (λ x. ℕ_discrete x n) l in
    omega arith

pub at_most_pairs : {A B : Type 0} → Discrete B → (a b : ℕ) → AtMost a A → AtMost b B → AtMost (a * b) (A × B)
at_most_pairs {A} {B} same a b few_a few_b l dist =
    rw (mul_comm a b)
    (by_groups same (λ (x : A × B). x.1) a b l dist (λ bs d _. few_b bs d)
    (λ y xs d all.
    rw length-map at
    (few_a (map (λ (x : A × B). x.0) xs)
    (distinct-map (λ (x : A × B). x.0) xs (λ u v mu mv e. let e' : u.1 ≡ v.1 = (all u mu).1 ∙ sym (all v mv).1 in λ i. (e i, e' i)) d))))

-- whether the values of c at the members are different from one another
module _ {A B : Type 0} (same : Discrete B) (c : A → B) where
  others? : (x : A) (l : List A) → Dec ((y : A) → Memᴰ y l → c x ≢ c y)
  others? x [] = yes (λ y m. absurd (Memᴰ.not-nil m))
  others? x (y ∷ l) = pick (same (c x) (c y)) (others? x l)
    where
      pick : Dec (c x ≡ c y) → Dec ((z : A) → Memᴰ z l → c x ≢ c z) → Dec ((z : A) → Memᴰ z (y ∷ l) → c x ≢ c z)
      pick (yes e) d = no (λ all. all y (Memᴰ.head refl) e)
      pick (no n) (no k) = no (λ all. k (λ z m. all z (Memᴰ.tail m)))
      pick (no n) (yes h) = yes (λ z m. ⊎_elim (λ at e. n (e ∙ ap c at)) (h z) (Memᴰ.cases_cons m))

  pub apart? : (l : List A) → Dec (Apart c l)
  apart? [] = yes tt
  apart? (x ∷ l) = pick (others? x l) (apart? l)
    where
      pick : Dec ((y : A) → Memᴰ y l → c x ≢ c y) → Dec (Apart c l) → Dec (Apart c (x ∷ l))
      pick (yes h) (yes k) = yes (h, k)
      pick (yes h) (no k) = no (λ a. k a.1)
      pick (no h) d = no (λ a. h a.0)
