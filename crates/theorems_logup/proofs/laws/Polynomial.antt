-- Two polynomials of n coefficients that agree at n different points are equal.
use Rattle.std.specs.Prelude.{◌≡◌, refl, suc, ◌≤◌, length}
use Rattle.std.proofs.Common.{sym, ◌∙◌, ap, ap₂, arith}
use mathlib.Core.List.{List, [], ◌∷◌, ◌++◌, Memᴰ, head-eq_of_cons-eq, tail-eq_of_cons-eq}
use Rattle.algebra.specs.Field.{Field}
use Rattle.algebra.proofs.laws.Solve.{z_add, z_mul, cancel}
use Rattle.theorems_logup.specs.Distinct.{Distinct}
use Rattle.theorems_logup.specs.Polynomial.{horner}
use Rattle.theorems_logup.proofs.laws.Arithmetic as Arithmetic

module _ (F : Field) where
  open F.ring use {El as K, z as 𝟘, u as 𝟙, add as ◌+◌, mul as ◌*◌, neg}

  infixl 65 ◌+◌ ◌-◌
  infixl 70 ◌*◌
  abbrev ◌-◌ : K → K → K
  a - b = a + neg b

  -- The quotient by x - a of the polynomial with the coefficients r, then those of the list: the values of Horner's accumulator at a.
  abbrev quotient : K → K → List K → List K
  quotient a r [] = []
  quotient a r (y ∷ t) = r ∷ quotient a (r * a + y) t

  length-quotient : (a r : K) (t : List K) → length (quotient a r t) ≡ length t
  length-quotient a r [] = refl
  length-quotient a r (y ∷ t) = ap suc (length-quotient a (r * a + y) t)

  divide : (x a s r : K) (t : List K) → horner F x s (quotient a r t) * (x - a) + horner F a r t ≡ horner F x (s * (x - a) + r) t
  divide x a s r [] = refl
  divide x a s r (y ∷ t) = divide x a (s * x + r) (r * a + y) t ∙ ap (λ z. horner F x z t) (Arithmetic.divide_step F s r x a y)

  lead : (x y : K) → 𝟘 * x + y ≡ y
  lead x y = ap (λ z. z + y) (z_mul F.ring x) ∙ z_add F.ring y

  -- A polynomial is known by its quotient and its value at a.
  known : (a r r' : K) (t t' : List K) → length t ≡ length t' → quotient a r t ≡ quotient a r' t' → horner F a r t ≡ horner F a r' t' → (r ≡ r') × (t ≡ t')
  known a r r' [] [] len q v = (v, refl)
  known a r r' [] (y ∷ t') len q v = absurd (omega arith)
  known a r r' (y ∷ t) [] len q v = absurd (omega arith)
  known a r r' (y ∷ t) (z ∷ t') len q v =
      let same : r ≡ r' = head-eq_of_cons-eq q in
      let deeper : (r * a + y ≡ r' * a + z) × (t ≡ t') = known a (r * a + y) (r' * a + z) t t' (omega arith) (tail-eq_of_cons-eq q) v in
      (same, ap₂ ◌∷◌ (Arithmetic.add_cancel_left F (r * a) (deeper.0 ∙ ap (λ s. s * a + z) (sym same))) deeper.1)

  -- one coefficient more
  pub horner_snoc : (x acc y : K) (t : List K) → horner F x acc (t ++ (y ∷ [])) ≡ horner F x acc t * x + y
  horner_snoc x acc y [] = refl
  horner_snoc x acc y (a ∷ t) = horner_snoc x (acc * x + a) y t

  pub determined : (xs t t' : List K) → length t ≡ length t' → length t ≤ length xs → Distinct xs
      → ((x : K) → Memᴰ x xs → horner F x 𝟘 t ≡ horner F x 𝟘 t') → t ≡ t'
  determined [] [] [] len few dist agree = refl
  determined [] [] (z ∷ t') len few dist agree = absurd (omega arith)
  determined [] (y ∷ t) t' len few dist agree = absurd (omega arith)
  determined (a ∷ xs) [] [] len few dist agree = refl
  determined (a ∷ xs) [] (z ∷ t') len few dist agree = absurd (omega arith)
  determined (a ∷ xs) (y ∷ t) [] len few dist agree = absurd (omega arith)
  determined (a ∷ xs) (y ∷ t) (z ∷ t') len few dist agree =
      finish (determined xs (quotient a y t) (quotient a z t')
      (length-quotient a y t ∙ (omega arith) ∙ sym (length-quotient a z t')) (rw length-quotient (omega arith)) dist.1 quotients)
    where
      level : (x : K) → Memᴰ x (a ∷ xs) → horner F x y t ≡ horner F x z t'
      level x m = ap (λ s. horner F x s t) (sym (lead x y)) ∙ agree x m ∙ ap (λ s. horner F x s t') (lead x z)

      value : horner F a y t ≡ horner F a z t'
      value = level a (Memᴰ.head refl)

      divided : (x r : K) (t : List K) → horner F x 𝟘 (quotient a r t) * (x - a) + horner F a r t ≡ horner F x r t
      divided x r t = divide x a 𝟘 r t ∙ ap (λ s. horner F x s t) (lead (x - a) r)

      quotients : (x : K) → Memᴰ x xs → horner F x 𝟘 (quotient a y t) ≡ horner F x 𝟘 (quotient a z t')
      quotients x m = Arithmetic.mul_cancel F (x - a) (Arithmetic.sub_ne F (λ e. dist.0 x m (sym e)))
          (cancel F.ring _ _ (horner F a y t)
          (divided x y t ∙ level x (Memᴰ.tail m) ∙ sym (divided x z t') ∙ ap (λ s. horner F x 𝟘 (quotient a z t') * (x - a) + s) (sym value)))

      finish : quotient a y t ≡ quotient a z t' → y ∷ t ≡ z ∷ t'
      finish q = let k = known a y z t t' (omega arith) q value in ap₂ ◌∷◌ k.0 k.1
