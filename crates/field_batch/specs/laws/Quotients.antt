-- The product of all factors has an inverse, and from it each factor's inverse is had (Montgomery's trick); an element's quotient is had from
-- the inverse of its norm.
use Rattle.std.specs.Prelude.{◌≡◌, ◌≢◌, Bool, length}
use Rattle.std.proofs.Math.Path.{refl, ap}
use Rattle.std.proofs.Common.{sym, ap₂, ◌∙◌, true≢false}
use Rattle.std.proofs.Math.Bool.{true, false, cond}
use mathlib.Core.List.{List, [], ◌∷◌}
use Prim.Native.Nat.{ℕ, zero, suc, ◌-◌, ◌<◌}
use Rattle.std.proofs.Math.Nat.{pos_of_ne-zero}
use native.Mathlib.Omega.{arith}
use Rattle.std.proofs.Math.Dec.{eqb}
use Rattle.lists.specs.laws.Count.{of_true, eqb_true, eqb_false, eq_of_eqb, ne_of_eqb}
use Rattle.field.specs.Modulus.{Modulus, Certificate}
use Rattle.field.specs.Word.{mul_m, inverse1}
use Rattle.field.specs.Element.{at, Word4, lift, zero4, mul4, scale4, norm2, norm, cofactor, inverse4, is_zero, element}
use Rattle.field.proofs.laws.Word.{mul_m-below, mul_m_comm, mul_m_assoc, mul_m-one, one-mul_m, zero-mul_m}
use Rattle.field.specs.laws.Ring.{one≢zero}
use Rattle.field.specs.laws.Extension.{h}
use Rattle.field.proofs.laws.Homomorphism.{el_same}
use Rattle.field.proofs.laws.Zero.{zero-is_zero, zero-words}
use Rattle.field.proofs.laws.Element.{word-lift, scale4-zero, zero-scale4}
use Rattle.field.proofs.laws.Inverse.{inverse1_ok, inverse1_unique}
use Rattle.field.proofs.laws.Norm.{NonZero4, norm-nonzero, norm-below, word-norm2, cofactor-zero, inverse4-zero, quotient_by}
use Rattle.field_batch.specs.inner.Quotients.{quotient, nonzero, factor, product_m, kept, factor_from_last}

-- v inverts the product of q and f: then v·q inverts f
inverts-own : (q f v p : ℕ) → mul_m p (mul_m p q f) v ≡ 1 → mul_m p f (mul_m p v q) ≡ 1
inverts-own q f v p e =
    mul_m_comm p f (mul_m p v q) ∙ mul_m_assoc p v q f ∙ mul_m_comm p v (mul_m p q f) ∙ e

-- and v·f inverts q
pub inverts-rest : (q f v p : ℕ) → mul_m p (mul_m p q f) v ≡ 1 → mul_m p q (mul_m p v f) ≡ 1
inverts-rest q f v p e = ap (mul_m p q) (mul_m_comm p v f) ∙ sym (mul_m_assoc p q f v) ∙ e

-- a factor of 1 changes nothing
pub inverts-same : (q v p : ℕ) → v < p → mul_m p (mul_m p q 1) v ≡ 1 → mul_m p q v ≡ 1
inverts-same q v p l e = ap (mul_m p q) (sym (one-mul_m p v l)) ∙ sym (mul_m_assoc p q 1 v) ∙ e

-- a quotient of 0 is 0
pub quotient_none : (p w m : ℕ) (d : List ℕ) → m ≡ 0 → zero4 ≡ quotient p w m d
unfolding quotient
quotient_none p w m d e = sym (zero-scale4 p (inverse4 p w d)) ∙ ap (λ (n : ℕ). scale4 p n (inverse4 p w d)) (sym e)

-- what is kept of a denominator that is needed
pub kept_in : (p w m : ℕ) (d : List ℕ) (q : ℕ) → m ≢ 0 → kept p w m d q ≡ at (norm2 p w d) 0 ∷ at (norm2 p w d) 2 ∷ nonzero (norm p w d) ∷ q ∷ []
unfolding kept factor
kept_in p w m d q n = ap (λ (b : Bool). cond b 0 (at (norm2 p w d) 0) ∷ cond b 0 (at (norm2 p w d) 2) ∷ cond b 1 (nonzero (norm p w d)) ∷ q ∷ []) (eqb_false n)

-- and of one that is not
pub kept_out : (p w m : ℕ) (d : List ℕ) (q : ℕ) → m ≡ 0 → kept p w m d q ≡ 0 ∷ 0 ∷ 1 ∷ q ∷ []
unfolding kept factor
kept_out p w m d q e = ap (λ (b : Bool). cond b 0 (at (norm2 p w d) 0) ∷ cond b 0 (at (norm2 p w d) 2) ∷ cond b 1 (nonzero (norm p w d)) ∷ q ∷ []) (eqb_true e)

pub kept-factor : (p w m : ℕ) (d : List ℕ) (q : ℕ) → at (kept p w m d q) 2 ≡ factor p w m d
unfolding kept
kept-factor p w m d q = refl

pub kept_product : (p w m : ℕ) (d : List ℕ) (q : ℕ) → at (kept p w m d q) 3 ≡ q
unfolding kept
kept_product p w m d q = refl

cond_below : (b : Bool) {x y n : ℕ} → x < n → y < n → cond b x y < n
cond_below true h k = h
cond_below false h k = k

module _ (p w : ℕ) (C : Certificate p w) where
  pub one_below : 1 < p
  one_below = C.prime.big

  pub factor-below : (m : ℕ) (d : List ℕ) → factor p w m d < p
  unfolding factor
  factor-below m d = cond_below (eqb m 0) one_below (cond_below (eqb (norm p w d) 0) one_below (norm-below p w C d))

  pub kept_word : (m : ℕ) (d : List ℕ) (q : ℕ) → q < p → Word4 p (kept p w m d q)
  unfolding kept
  kept_word m d q l =
      let n : Word4 p (norm2 p w d) = word-norm2 p w C d in
      record { w0 = cond_below (eqb m 0) (h p w C) n.w0; w1 = cond_below (eqb m 0) (h p w C) n.w2; w2 = factor-below m d; w3 = l }

  pub product_below : (f : ℕ → ℕ) (n : ℕ) → product_m p f n < p
  unfolding product_m
  product_below f zero = one_below
  product_below f (suc n) = mul_m-below p (h p w C) (product_m p f n) (f n)

  -- four words that are not all 0
  some_word : (a0 a1 a2 a3 : ℕ) → Word4 p (a0 ∷ a1 ∷ a2 ∷ a3 ∷ []) → is_zero (a0 ∷ a1 ∷ a2 ∷ a3 ∷ []) ≡ false → NonZero4 p w C (a0 ∷ a1 ∷ a2 ∷ a3 ∷ [])
  some_word a0 a1 a2 a3 k e n =
      true≢false (sym (ap is_zero (el_same p w C (a0 ∷ a1 ∷ a2 ∷ a3 ∷ []) zero4 k (word-lift p (h p w C) 0 (h p w C)) n) ∙ zero-is_zero) ∙ e)

  -- an element whose norm is 0 is 0
  norm-zero : (a0 a1 a2 a3 : ℕ) → Word4 p (a0 ∷ a1 ∷ a2 ∷ a3 ∷ []) → norm p w (a0 ∷ a1 ∷ a2 ∷ a3 ∷ []) ≡ 0 → a0 ∷ a1 ∷ a2 ∷ a3 ∷ [] ≡ zero4
  norm-zero a0 a1 a2 a3 k e = go (is_zero a) refl
    where
      a : List ℕ
      a = a0 ∷ a1 ∷ a2 ∷ a3 ∷ []

      go : (b : Bool) → is_zero a ≡ b → a ≡ zero4
      go true t = let (e0, e1, e2, e3) = zero-words a (of_true t) in λ j. e0 j ∷ e1 j ∷ e2 j ∷ e3 j ∷ []
      go false t = absurd (norm-nonzero p w C a (some_word a0 a1 a2 a3 k t) e)

  -- v inverts the product of q and the factor of d: then m·v·q is m ÷ norm, and the cofactor times it is m ÷ d
  pub quotient_in : (d0 d1 d2 d3 m q f v t : ℕ) → Modulus p → Word4 p (d0 ∷ d1 ∷ d2 ∷ d3 ∷ []) → f ≡ nonzero (norm p w (d0 ∷ d1 ∷ d2 ∷ d3 ∷ []))
      → mul_m p (mul_m p q f) v ≡ 1 → t ≡ mul_m p m (mul_m p v q) → mul4 p w (cofactor p w (d0 ∷ d1 ∷ d2 ∷ d3 ∷ [])) (lift t) ≡ quotient p w m (d0 ∷ d1 ∷ d2 ∷ d3 ∷ [])
  unfolding quotient
  quotient_in d0 d1 d2 d3 m q f v t o k ef ev et = go (eqb n 0) refl
    where
      d : List ℕ
      d = d0 ∷ d1 ∷ d2 ∷ d3 ∷ []

      n : ℕ
      n = norm p w d

      go : (b : Bool) → eqb n 0 ≡ b → mul4 p w (cofactor p w d) (lift t) ≡ scale4 p m (inverse4 p w d)
      go true e =
          let z : d ≡ zero4 = norm-zero d0 d1 d2 d3 k (eq_of_eqb n 0 e) in
          ap (λ (x : List ℕ). mul4 p w (cofactor p w x) (lift t)) z ∙ cofactor-zero p w C t
          ∙ sym (ap (λ (x : List ℕ). scale4 p m (inverse4 p w x)) z ∙ ap (scale4 p m) (inverse4-zero p w C) ∙ scale4-zero p m)
      go false e =
          let is : f ≡ n = ef ∙ ap (λ (b : Bool). cond b 1 n) e in
          let own : mul_m p v q ≡ inverse1 p n =
          inverse1_unique p o C.prime n (mul_m p v q) (pos_of_ne-zero (ne_of_eqb n 0 e)) (norm-below p w C d) (mul_m-below p (h p w C) v q)
          (inverts-own q n v p (ap (λ (x : ℕ). mul_m p (mul_m p q x) v) (sym is) ∙ ev)) in
          quotient_by p w C d m t (et ∙ ap (mul_m p m) own)

  -- words that are not 0 have a product that is not 0
  module _ (o : Modulus p) where
    one_product : mul_m p 1 1 ≡ 1
    one_product = mul_m-one p 1 one_below

    product_pos : (a b : ℕ) → (0 < a) × (a < p) → (0 < b) × (b < p) → 0 < mul_m p a b
    product_pos a b (a0, al) (b0, bl) =
        pos_of_ne-zero
        (λ z.
        one≢zero
        (sym
        (swap ∙ ap₂ (mul_m p) (inverse1_ok p o C.prime a a0 al) (inverse1_ok p o C.prime b b0 bl) ∙ one_product)
        ∙ ap (λ (n : ℕ). mul_m p n (mul_m p x y)) z ∙ zero-mul_m p (mul_m p x y)))
      where
        x : ℕ
        x = inverse1 p a

        y : ℕ
        y = inverse1 p b

        swap : mul_m p (mul_m p a b) (mul_m p x y) ≡ mul_m p (mul_m p a x) (mul_m p b y)
        swap =
            mul_m_assoc p a b (mul_m p x y) ∙ ap (mul_m p a) (sym (mul_m_assoc p b x y) ∙ ap (λ (n : ℕ). mul_m p n y) (mul_m_comm p b x) ∙ mul_m_assoc p x b y)
            ∙ sym (mul_m_assoc p a x (mul_m p b y))

    factor-pos : (m : ℕ) (d : List ℕ) → 0 < factor p w m d
    unfolding factor
    factor-pos m d = go (eqb m 0) (eqb (norm p w d) 0) refl
      where
        go : (a b : Bool) → eqb (norm p w d) 0 ≡ b → 0 < cond a 1 (cond b 1 (norm p w d))
        go true b e = omega arith
        go false true e = omega arith
        go false false e = pos_of_ne-zero (ne_of_eqb (norm p w d) 0 e)

    products_pos : (f : ℕ → ℕ) (n : ℕ) → ((j : ℕ) → (0 < f j) × (f j < p)) → 0 < product_m p f n
    unfolding product_m
    products_pos f zero e = omega arith
    products_pos f (suc n) e = product_pos (product_m p f n) (f n) (products_pos f n e, product_below f n) (e n)

    -- the product of all has an inverse
    pub all_inverted : (ms ds : List ℕ) (product : ℕ) → product ≡ product_m p (factor_from_last p w ms ds) (length ms)
        → mul_m p (product_m p (factor_from_last p w ms ds) (length ms)) (inverse1 p product) ≡ 1
    unfolding factor_from_last
    all_inverted ms ds product e =
        let f : ℕ → ℕ = factor_from_last p w ms ds in
        ap (λ (n : ℕ). mul_m p (product_m p f (length ms)) (inverse1 p n)) e
        ∙ inverse1_ok p o C.prime (product_m p f (length ms))
        (products_pos f (length ms) (λ j. (factor-pos (at ms (length ms - 1 - j)) (element ds (length ms - 1 - j)), factor-below (at ms (length ms - 1 - j)) (element ds (length ms - 1 - j)))))
        (product_below f (length ms))
