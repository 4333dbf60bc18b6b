-- Lists that are joined: their length, and where their words stand.
use Rattle.std.specs.Prelude.{◌≡◌, length}
use Rattle.std.proofs.Math.Path.{refl, ap, ap₂}
use Rattle.std.proofs.Common.{sym, ◌∙◌, mul-le-mul_left}
use mathlib.Core.List.{List, [], ◌++◌}
use Prim.Native.Nat.{ℕ, zero, suc, ◌+◌, ◌*◌, ◌<◌}
use native.Mathlib.Omega.{arith}
use Rattle.std.proofs.Math.ListN.{length-append, get_or-append}
use Rattle.std.proofs.Math.Seq.{get_or-append-add}
use Rattle.lists.specs.Count.{joined}
use Rattle.lists.specs.laws.Count.{last_or_below}
use Rattle.expression.specs.Words.{word}

module _ {A : Type 0} where
  pub joined_none : (f : ℕ → List A) → joined f 0 0 ≡ []
  unfolding joined
  joined_none f = refl

  pub joined_empty : (f : ℕ → List A) (n : ℕ) → ((i : ℕ) → f i ≡ []) → joined f 0 n ≡ []
  unfolding joined
  joined_empty f zero e = refl
  joined_empty f (suc n) e = ap₂ ◌++◌ (joined_empty f n e) (e (0 + n))

-- lists of m words each, one after the other
module _ (f : ℕ → List ℕ) (m : ℕ) (each : (i : ℕ) → length (f i) ≡ m) where
  pub length-joined : (a n : ℕ) → length (joined f a n) ≡ m * n
  unfolding joined
  length-joined a zero = omega arith
  length-joined a (suc n) = length-append (joined f a n) (f (a + n)) ∙ omega (arith, length-joined a n, each (a + n))

  pub word-joined : (n i j : ℕ) → i < n → j < m → word (joined f 0 n) (m * i + j) ≡ word (f i) j
  unfolding joined
  word-joined zero i j k q = absurd (omega arith)
  word-joined (suc n) i j k q =
      last_or_below (λ i. word (joined f 0 n ++ f (0 + n)) (m * i + j) ≡ word (f i) j) n i k
      (ap (λ (x : ℕ). word (joined f 0 n ++ f (0 + n)) (x + j)) (sym (length-joined 0 n)) ∙ get_or-append-add (joined f 0 n) (f (0 + n)) j 0
      ∙ ap (λ (x : ℕ). word (f x) j) zero_plus)
      (λ k. get_or-append (joined f 0 n) (f (0 + n)) 0 (m * i + j) (rw (length-joined 0 n) (inside k)) ∙ word-joined n i j k q)
    where
      zero_plus : 0 + n ≡ n
      zero_plus = omega arith

      inside : i < n → m * i + j < m * n
      inside k = omega (arith, mul-le-mul_left {m = suc i} {n = n} m k)
