-- A sum of fractions over its common denominator.
use Rattle.std.specs.Prelude.{◌≡◌, refl, ◌≢◌, Bool, cond, [], ◌∷◌, ℕ, zero, suc, ◌<◌, eqb}
use Rattle.std.proofs.Common.{sym, ap, ap₂, ◌∙◌, arith, le_refl}
use Rattle.algebra.specs.Field.{Field}
use Rattle.algebra.specs.laws.Solve.{X, ◌⊕◌, ◌⊗◌}
use Rattle.algebra.proofs.laws.Solve.{solve, mul_z, z_mul}
use Rattle.algebra.proofs.laws.Extension.{no_zero_div}
use Rattle.lists.specs.laws.Count.{eqb_true, eqb_false}
use Rattle.theorems_logup.specs.Inverse.{inverse}
use Rattle.theorems_logup.specs.Sums.{sum_to}
use Rattle.theorems_logup.specs.inner.Products.{product_to}
use Rattle.theorems_logup.proofs.laws.Arithmetic.{mul-inverse}

module _ (F : Field) where
  open F.ring use {El as A, z, u, add, mul, neg}

  pub sum_to_cong : (f g : ℕ → A) (n : ℕ) → ((i : ℕ) → i < n → f i ≡ g i) → sum_to F f n ≡ sum_to F g n
  sum_to_cong f g zero e = refl
  sum_to_cong f g (suc n) e = ap₂ add (sum_to_cong f g n (λ i l. e i (omega arith))) (e n (le_refl (suc n)))

  pub product_to_cong : (f g : ℕ → A) (n : ℕ) → ((i : ℕ) → i < n → f i ≡ g i) → product_to F f n ≡ product_to F g n
  product_to_cong f g zero e = refl
  product_to_cong f g (suc n) e = ap₂ mul (product_to_cong f g n (λ i l. e i (omega arith))) (e n (le_refl (suc n)))

  sum_to_scale : (f : ℕ → A) (c : A) (n : ℕ) → sum_to F (λ i. mul (f i) c) n ≡ mul (sum_to F f n) c
  sum_to_scale f c zero = sym (z_mul F.ring c)
  sum_to_scale f c (suc n) =
      ap (λ (x : A). add x (mul (f n) c)) (sum_to_scale f c n)
      ∙ solve F.ring (sum_to F f n ∷ f n ∷ c ∷ []) (X 0 ⊗ X 2 ⊕ X 1 ⊗ X 2) ((X 0 ⊕ X 1) ⊗ X 2) tt

  pub mul_ne : (a b : A) → a ≢ z → b ≢ z → mul a b ≢ z
  mul_ne a b n k e = k (no_zero_div F a b e n)

  pub product_to_ne : (f : ℕ → A) (n : ℕ) → ((i : ℕ) → i < n → f i ≢ z) → product_to F f n ≢ z
  product_to_ne f zero ne = F.u≢z
  product_to_ne f (suc n) ne = mul_ne (product_to F f n) (f n) (product_to_ne f n (λ i l. ne i (omega arith))) (ne n (le_refl (suc n)))

  -- the product of all but the k-th
  abbrev pub but : (ℕ → A) → ℕ → ℕ → A
  but d n k = product_to F (λ j. cond (eqb j k) u (d j)) n

  but-next : (d : ℕ → A) (n k : ℕ) → k < n → but d (suc n) k ≡ mul (but d n k) (d n)
  but-next d n k l = let ne : n ≢ k = (λ e. omega arith) in ap (λ (b : Bool). mul (but d n k) (cond b u (d n))) (eqb_false ne)

  but_last : (d : ℕ → A) (n : ℕ) → but d (suc n) n ≡ product_to F d n
  but_last d n =
      ap₂ mul (product_to_cong (λ j. cond (eqb j n) u (d j)) d n (λ j l. let ne : j ≢ n = (λ e. omega arith) in ap (λ (b : Bool). cond b u (d j)) (eqb_false ne)))
      (ap (λ (b : Bool). cond b u (d n)) (eqb_true {a = n} {b = n} refl))
      ∙ F.ring.mul_u (product_to F d n)

  -- d_0 · .. · d_(n-1) times the sum of m_k / d_k is the sum of m_k times the other denominators
  pub common : (d m : ℕ → A) (n : ℕ) → ((k : ℕ) → k < n → d k ≢ z)
      → mul (product_to F d n) (sum_to F (λ k. mul (m k) (inverse F (d k))) n) ≡ sum_to F (λ k. mul (m k) (but d n k)) n
  common d m zero ne = mul_z F.ring u
  common d m (suc n) ne =
      solve F.ring (D ∷ d n ∷ S ∷ m n ∷ inverse F (d n) ∷ []) (X 0 ⊗ X 1 ⊗ (X 2 ⊕ X 3 ⊗ X 4)) (X 0 ⊗ X 2 ⊗ X 1 ⊕ X 3 ⊗ X 0 ⊗ (X 1 ⊗ X 4)) tt
      ∙ ap₂ (λ (x y : A). add (mul x (d n)) (mul (mul (m n) D) y)) (common d m n (λ k l. ne k (omega arith))) (mul-inverse F (d n) (ne n (le_refl (suc n))))
      ∙ ap₂ add
      (sym (sum_to_scale (λ k. mul (m k) (but d n k)) (d n) n)
      ∙ sum_to_cong (λ k. mul (mul (m k) (but d n k)) (d n)) (λ k. mul (m k) (but d (suc n) k)) n
      (λ k l. F.ring.mul_assoc (m k) (but d n k) (d n) ∙ ap (mul (m k)) (sym (but-next d n k l))))
      (F.ring.mul_u (mul (m n) D) ∙ ap (mul (m n)) (sym (but_last d n)))
    where
      D : A
      D = product_to F d n

      S : A
      S = sum_to F (λ k. mul (m k) (inverse F (d k))) n
