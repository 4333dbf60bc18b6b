-- Many quotients at once: multiplicities, and as many denominators of four words each.
use Rattle.std.specs.Prelude.{◌≡◌, cond, List, [], ◌∷◌, ℕ, zero, suc, ◌*◌, ◌-◌, ◌<◌, eqb, length}
use Rattle.field.specs.Modulus.{Certificate}
use Rattle.field.specs.inner.Requires.{KnownPrime}
use Rattle.field.specs.Word.{mul_m}
use Rattle.field.specs.Element.{at, scale4, norm2, norm, inverse4, element}

-- m ÷ d, and 0 where d is 0
unfoldable pub quotient : ℕ → ℕ → ℕ → List ℕ → List ℕ
quotient p w m d = scale4 p m (inverse4 p w d)

-- multiplicity i ÷ denominator i
unfoldable pub quotient_at : ℕ → ℕ → List ℕ → List ℕ → ℕ → List ℕ
quotient_at p w ms ds i = quotient p w (at ms i) (element ds i)

-- a number, and 1 for 0
abbrev pub nonzero : ℕ → ℕ
nonzero n = cond (eqb n 0) 1 n

-- what a denominator gives to the product of all: its norm, and 1 where its quotient is 0 without it
unfoldable pub factor : ℕ → ℕ → ℕ → List ℕ → ℕ
factor p w m d = cond (eqb m 0) 1 (nonzero (norm p w d))

-- f 0 · .. · f (n - 1)
unfoldable pub product_m : ℕ → (ℕ → ℕ) → ℕ → ℕ
product_m p f zero = 1
product_m p f (suc n) = mul_m p (product_m p f n) (f n)

-- the four words that are kept of a denominator until all are multiplied: n0 and n1 of a(X)·a(-X) = n0 + n1·X², its factor, and the product
-- before it
unfoldable pub kept : ℕ → ℕ → ℕ → List ℕ → ℕ → List ℕ
kept p w m d product = cond (eqb m 0) 0 (at (norm2 p w d) 0) ∷ cond (eqb m 0) 0 (at (norm2 p w d) 2) ∷ factor p w m d ∷ product ∷ []

-- the denominators come to the product the last first
module _ (p w : ℕ) (ms ds : List ℕ) where
  unfoldable pub factor_from_last : ℕ → ℕ
  factor_from_last j = factor p w (at ms (length ms - 1 - j)) (element ds (length ms - 1 - j))

  unfoldable pub kept_from_last : ℕ → List ℕ
  kept_from_last j = kept p w (at ms (length ms - 1 - j)) (element ds (length ms - 1 - j)) (product_m p factor_from_last j)

-- p, w and the words, as they must be
pub record Divisible (p w : ℕ) (ms ds : List ℕ) : Type 0 where
  pub modulus : KnownPrime p
  pub low : w < p
  pub certificate : Certificate p w
  pub ms_below : (k : ℕ) → at ms k < p
  pub ds_below : (k : ℕ) → at ds k < p
  pub size : length ds ≡ 4 * length ms
