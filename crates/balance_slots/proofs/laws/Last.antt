-- The last number below n at which a function has a given value.
use Rattle.std.specs.Prelude.{◌≡◌, refl, Bool, true, false, cond, ℕ, zero, suc, ◌+◌, ◌*◌, ◌%◌, ◌<◌, ◌≤◌, eqb}
use Rattle.std.proofs.Common.{sym, ap, ap₂, ◌∙◌, zero-le, arith, eqb-true}
use Rattle.balance_slots.specs.declared.hash.Seed.{Seed}
use Rattle.balance_slots.specs.inner.Hash.{hash_prime, chains, polynomial, hash}
use Rattle.balance_slots.specs.inner.Chain.{last_before}

pub last-le : (f : ℕ → ℕ) (h n : ℕ) → last_before f h n ≤ n
unfolding last_before
last-le f h zero = zero-le
last-le f h (suc i) = go (eqb (f i) h) (last-le f h i)
  where
    go : (b : Bool) → last_before f h i ≤ i → cond b (suc i) (last_before f h i) ≤ suc i
    go true l = omega arith
    go false l = omega arith

pub last-same : (f g : ℕ → ℕ) (h n : ℕ) → ((i : ℕ) → i < n → f i ≡ g i) → last_before f h n ≡ last_before g h n
unfolding last_before
last-same f g h zero e = refl
last-same f g h (suc i) e =
    ap₂ (λ (x y : ℕ). cond (eqb x h) (suc i) y) (e i (omega arith)) (last-same f g h i (λ j l. e j (omega arith)))

-- a slot in the chain of h has the hash h
pub last_hits : (f : ℕ → ℕ) (h n j : ℕ) → last_before f h n ≡ suc j → f j ≡ h
unfolding last_before
last_hits f h zero j e = absurd (omega arith)
last_hits f h (suc i) j e = go (eqb (f i) h) refl e (λ r. last_hits f h i j r)
  where
    go : (b : Bool) → eqb (f i) h ≡ b → cond b (suc i) (last_before f h i) ≡ suc j → (last_before f h i ≡ suc j → f j ≡ h) → f j ≡ h
    go true q r k = let z : i ≡ j = omega arith in ap f (sym z) ∙ eqb-true (f i) h q
    go false q r k = k r

polynomial-same : (point : ℕ) (x y : ℕ → ℕ) (n : ℕ) → ((j : ℕ) → j < n → x j ≡ y j) → polynomial point x n ≡ polynomial point y n
unfolding polynomial
polynomial-same point x y zero e = refl
polynomial-same point x y (suc n) e = ap₂ (λ (a b : ℕ). (a * point + b) % hash_prime) (polynomial-same point x y n (λ j l. e j (omega arith))) (e n (omega arith))

pub hash-same : (seed : Seed) (x y : ℕ → ℕ) (n : ℕ) → ((j : ℕ) → j < n → x j ≡ y j) → hash seed x n ≡ hash seed y n
unfolding hash
hash-same seed x y n e = ap (λ (a : ℕ). a * seed.factor % hash_prime % chains) (polynomial-same seed.point x y n e)
