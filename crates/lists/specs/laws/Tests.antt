-- What a test that passed says, as equations: of `a && b`, of a chain of tests, of the n tests of `every`.
use Rattle.std.specs.Prelude.{◌≡◌, refl, Bool, true, false, ◌&&◌, List, [], ◌∷◌, ℕ, zero, suc, ◌<◌}
use Rattle.std.proofs.Common.{ap₂, arith}
use Rattle.lists.specs.Count.{every}
use Rattle.lists.specs.laws.Count.{every_at, of_true, true_of}

pub both_left : (a b : Bool) → (a && b) ≡ true → a ≡ true
both_left true b e = refl
both_left false b e = e

pub both_right : (a b : Bool) → (a && b) ≡ true → b ≡ true
both_right true b e = e
both_right false b e = cc

-- a chain of tests, `b && t₁ && t₂ && ..`, taken apart at once
abbrev pub chain : Bool → List Bool → Bool
chain b [] = b
chain b (t ∷ ts) = chain (b && t) ts

abbrev pub Passed : List Bool → Type 0
Passed [] = Unit
Passed (t ∷ ts) = (t ≡ true) × Passed ts

pub passed : (b : Bool) (ts : List Bool) → chain b ts ≡ true → Passed (b ∷ ts)
passed b [] h = (h, tt)
passed b (t ∷ ts) h = let k = passed (b && t) ts h in (both_left b t k.0, (both_right b t k.0, k.1))

pub every_true : (f : ℕ → Bool) (n i : ℕ) → every f n ≡ true → i < n → f i ≡ true
every_true f n i e l = true_of (f i) (every_at f n i (of_true e) l)

pub every_of : (f : ℕ → Bool) (n : ℕ) → ((i : ℕ) → i < n → f i ≡ true) → every f n ≡ true
unfolding every
every_of f zero h = refl
every_of f (suc n) h = ap₂ ◌&&◌ (every_of f n (λ i l. h i (omega arith))) (h n (omega arith))

pub every-same : (f g : ℕ → Bool) (n : ℕ) → ((i : ℕ) → i < n → f i ≡ g i) → every f n ≡ every g n
unfolding every
every-same f g zero e = refl
every-same f g (suc n) e = ap₂ ◌&&◌ (every-same f g n (λ i l. e i (omega arith))) (e n (omega arith))
