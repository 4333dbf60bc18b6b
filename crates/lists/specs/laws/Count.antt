-- Laws of the counting definitions: what each of the n tests, sums and lists says, one turn of a loop more, and its early end.
use Rattle.std.specs.Prelude.{◌≡◌, ◌≢◌, ◌⊎◌, Bool, true, false, ◌&&◌, ◌||◌, T, eqb}
use Rattle.std.proofs.Math.Path.{refl, ap, ap₂}
use Rattle.std.proofs.Common.{sym, ◌∙◌, subst, ⊎_elim, inl, inr, true≢false, le_refl, eq-or-lt_of_le, le_of_suc-le-suc, zero-add, add-zero, add-suc, add-one, eqb→eq}
use Rattle.std.proofs.Math.Option.{Option, none, some, some-ne-none}
use mathlib.Core.List.Memᴰ
use mathlib.Core.List.{List, ◌++◌, append_assoc, append-nil, Memᴰ}
use Prim.Native.Nat.{ℕ, zero, suc, ◌+◌, ◌<◌, ◌≤◌, zero-le}
use native.Mathlib.Omega.{arith}
use Rattle.std.proofs.Math.Nat.{add_assoc}
use Rattle.std.proofs.Math.Dec.{eqb_refl}
use Rattle.lists.specs.Count.{total, every, some_of, first, or_else, joined}

pub and_left : (a b : Bool) → T (a && b) → T a
and_left true b t = tt
and_left false b t = t

pub and_right : (a b : Bool) → T (a && b) → T b
and_right true b t = t
and_right false b t = absurd t

pub or_left_false : (a b : Bool) → (a || b) ≡ false → a ≡ false
or_left_false true b e = e
or_left_false false b e = refl

pub or_right_false : (a b : Bool) → (a || b) ≡ false → b ≡ false
or_right_false true b e = absurd (true≢false e)
or_right_false false b e = e

-- below the last, or the last
pub last_or_below : (P : ℕ → Type 0) (n i : ℕ) → i < suc n → P n → (i < n → P i) → P i
last_or_below P n i l at below = ⊎_elim {C = P i} (λ e. subst P (sym e) at) below (eq-or-lt_of_le (le_of_suc-le-suc l))

pub every_at : (f : ℕ → Bool) (n i : ℕ) → T (every f n) → i < n → T (f i)
unfolding every
every_at f zero i t l = absurd (omega arith)
every_at f (suc n) i t l = last_or_below (λ i. T (f i)) n i l (and_right (every f n) (f n) t) (every_at f n i (and_left (every f n) (f n) t))

pub some_of_false : (f : ℕ → Bool) (n i : ℕ) → some_of f n ≡ false → i < n → f i ≡ false
unfolding some_of
some_of_false f zero i e l = absurd (omega arith)
some_of_false f (suc n) i e l =
    last_or_below (λ i. f i ≡ false) n i l (or_right_false (some_of f n) (f n) e) (some_of_false f n i (or_left_false (some_of f n) (f n) e))

pub some_of_none : (f : ℕ → Bool) (n : ℕ) → ((i : ℕ) → i < n → f i ≡ false) → some_of f n ≡ false
unfolding some_of
some_of_none f zero e = refl
some_of_none f (suc n) e = ap₂ ◌||◌ (some_of_none f n (λ i l. e i (omega arith))) (e n (omega arith))

pub some_of-same : (f g : ℕ → Bool) (n : ℕ) → ((i : ℕ) → i < n → f i ≡ g i) → some_of f n ≡ some_of g n
unfolding some_of
some_of-same f g zero e = refl
some_of-same f g (suc n) e = ap₂ ◌||◌ (some_of-same f g n (λ i l. e i (omega arith))) (e n (omega arith))

module _ {A : Type 0} where
  or_else-left : (a b : Option A) → or_else a b ≡ none → a ≡ none
  or_else-left none b e = refl
  or_else-left (some a) b e = e

  or_else_right : (a b : Option A) → or_else a b ≡ none → b ≡ none
  or_else_right none b e = e
  or_else_right (some a) b e = absurd (some-ne-none a e)

  pub or_else_none : {a b : Option A} → or_else a b ≡ none → (a ≡ none) × (b ≡ none)
  or_else_none {a} {b} e = (or_else-left a b e, or_else_right a b e)

  pub first_none : (f : ℕ → Option A) (n i : ℕ) → first f n ≡ none → i < n → f i ≡ none
  unfolding first
  first_none f zero i e l = absurd (omega arith)
  first_none f (suc n) i e l =
      last_or_below (λ i. f i ≡ none) n i l (or_else_right (first f n) (f n) e) (first_none f n i (or_else-left (first f n) (f n) e))

  pub first-all : (f : ℕ → Option A) (n : ℕ) → ((i : ℕ) → i < n → f i ≡ none) → first f n ≡ none
  unfolding first
  first-all f zero e = refl
  first-all f (suc n) e = ap₂ or_else (first-all f n (λ i l. e i (omega arith))) (e n (omega arith))

  pub joined-next : (f : ℕ → List A) (n : ℕ) → joined f 0 (suc n) ≡ joined f 0 n ++ f n
  unfolding joined
  joined-next f n = ap (λ (i : ℕ). joined f 0 n ++ f i) (zero-add n)

  -- a member of one of the lists
  pub joined-member : (f : ℕ → List A) (n : ℕ) {x : A} → Memᴰ x (joined f 0 n) → (i : ℕ) × (i < n) × Memᴰ x (f i)
  unfolding joined
  joined-member f zero m = absurd (Memᴰ.not-nil m)
  joined-member f (suc n) {x} m = go (λ k. joined-member f n k) (Memᴰ.append_cases (joined f 0 n) m)
    where
      go : (Memᴰ x (joined f 0 n) → (i : ℕ) × (i < n) × Memᴰ x (f i)) → Memᴰ x (joined f 0 n) ⊎ Memᴰ x (f (0 + n))
          → (i : ℕ) × (i < suc n) × Memᴰ x (f i)
      go ih (inl k) = let (i, l, k') = ih k in (i, omega arith, k')
      go ih (inr k) = (0 + n, omega arith, k)

-- decisions of the tests
pub of_true : {b : Bool} → b ≡ true → T b
of_true e = subst T (sym e) tt

pub true_of : (b : Bool) → T b → b ≡ true
true_of true t = refl
true_of false t = absurd t

pub false_of : (b : Bool) → (T b → ⊥) → b ≡ false
false_of true n = absurd (n tt)
false_of false n = refl

pub not_of_false : {b : Bool} → b ≡ false → T b → ⊥
not_of_false e t = subst T e t

pub eqb_true : {a b : ℕ} → a ≡ b → eqb a b ≡ true
eqb_true {a} {b} e = true_of (eqb a b) (subst (λ (n : ℕ). T (eqb a n)) e (eqb_refl a))

pub eqb_false : {a b : ℕ} → a ≢ b → eqb a b ≡ false
eqb_false {a} {b} n = false_of (eqb a b) (λ t. n (eqb→eq a b t))

pub eq_of_eqb : (a b : ℕ) → eqb a b ≡ true → a ≡ b
eq_of_eqb a b e = eqb→eq a b (of_true e)

pub ne_of_eqb : (a b : ℕ) → eqb a b ≡ false → a ≢ b
ne_of_eqb a b e k = true≢false (sym (eqb_true k) ∙ e)

pub total-one : (f : ℕ → ℕ) (n : ℕ) → total f (n + 1) ≡ total f n + f n
unfolding total
total-one f n = rw (add-one n)

-- what the first i and one more sum to is no more than all
pub total-le : (f : ℕ → ℕ) (i n : ℕ) → i ≤ n → total f i ≤ total f n
unfolding total
total-le f i zero l = let e : i ≡ 0 = omega arith in rw e zero-le
total-le f i (suc n) l = ⊎_elim {C = total f i ≤ total f (suc n)} (λ e. rw e (le_refl _)) (λ k. omega (arith, total-le f i n (le_of_suc-le-suc k))) (eq-or-lt_of_le l)

pub total_in : (f : ℕ → ℕ) (i n : ℕ) → i < n → total f i + f i ≤ total f n
total_in f i n l = let k : i + 1 ≤ n = omega arith in omega (arith, total-one f i, total-le f (i + 1) n k)

pub every_one : (f : ℕ → Bool) (n : ℕ) → every f (n + 1) ≡ (every f n && f n)
unfolding every
every_one f n = rw (add-one n)

pub some_of-one : (f : ℕ → Bool) (n : ℕ) → some_of f (n + 1) ≡ (some_of f n || f n)
unfolding some_of
some_of-one f n = rw (add-one n)

-- a loop that leaves at i
pub every_stop : (f : ℕ → Bool) (n i : ℕ) → i < n → f i ≡ false → every f n ≡ false
unfolding every
every_stop f zero i l e = absurd (omega arith)
every_stop f (suc n) i l e =
    last_or_below (λ i. f i ≡ false → (every f n && f n) ≡ false) n i l (λ e. right (every f n) (f n) e) (λ l e. ap (λ (b : Bool). b && f n) (every_stop f n i l e)) e
  where
    right : (a b : Bool) → b ≡ false → (a && b) ≡ false
    right true b e = e
    right false b e = refl

pub some_of_stop : (f : ℕ → Bool) (n i : ℕ) → i < n → f i ≡ true → some_of f n ≡ true
unfolding some_of
some_of_stop f zero i l e = absurd (omega arith)
some_of_stop f (suc n) i l e =
    last_or_below (λ i. f i ≡ true → (some_of f n || f n) ≡ true) n i l (λ e. right (some_of f n) (f n) e) (λ l e. ap (λ (b : Bool). b || f n) (some_of_stop f n i l e)) e
  where
    right : (a b : Bool) → b ≡ true → (a || b) ≡ true
    right true b e = refl
    right false b e = e

module _ {A : Type 0} where
  pub first_one : (f : ℕ → Option A) (n : ℕ) → first f (n + 1) ≡ or_else (first f n) (f n)
  unfolding first
  first_one f n = rw (add-one n)

  -- none before i, and one at i: that is the first of all
  pub first_stop : (f : ℕ → Option A) (n i : ℕ) (x : A) → i < n → first f i ≡ none → f i ≡ some x → first f n ≡ some x
  unfolding first
  first_stop f zero i x l e q = absurd (omega arith)
  first_stop f (suc n) i x l e q =
      last_or_below (λ i. first f i ≡ none → f i ≡ some x → or_else (first f n) (f n) ≡ some x) n i l (λ e q. ap₂ or_else e q)
      (λ l e q. ap (λ (o : Option A). or_else o (f n)) (first_stop f n i x l e q)) e q

  pub joined-one : (f : ℕ → List A) (a n : ℕ) → joined f a (n + 1) ≡ joined f a n ++ f (a + n)
  unfolding joined
  joined-one f a n = rw (add-one n)

  -- a part more
  pub joined-add : (f : ℕ → List A) (a n m : ℕ) → joined f a (n + m) ≡ joined f a n ++ joined f (a + n) m
  unfolding joined
  joined-add f a n zero = rw (add-zero n) (sym (append-nil (joined f a n)))
  joined-add f a n (suc m) = rw (add-suc n m, joined-add f a n m, append_assoc (joined f a n) (joined f (a + n) m) (f (a + (n + m))), add_assoc a n m)
