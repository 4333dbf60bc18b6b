-- Sums over a list in a field, and sums of simple fractions: a sum of n simple fractions with n different poles, that is zero at n
-- different points, has only zero numerators.
use Rattle.std.specs.Prelude.{◌≡◌, refl, ◌≢◌, ◌⊎◌, ◌≤◌, length}
use Rattle.std.proofs.Common.{sym, ◌∙◌, ap, ap₂, inl, inr, arith}
use mathlib.Core.List.Memᴰ
use mathlib.Core.List.{List, [], ◌∷◌, ◌++◌, Memᴰ}
use Rattle.algebra.specs.Field.{Field}
use Rattle.algebra.specs.laws.Solve.{X, ◌⊕◌}
use Rattle.algebra.proofs.laws.Solve.{solve, z_add, z_mul, mul_z, cancel}
use Rattle.theorems_logup.specs.Inverse.{inverse}
use Rattle.theorems_logup.specs.Distinct.{Distinct}
use Rattle.theorems_logup.specs.inner.Distinct.{Apart}
use Rattle.theorems_logup.specs.Sums.{sum, fractions}
use Rattle.theorems_logup.proofs.laws.Arithmetic as Arithmetic

module _ (F : Field) where
  open F.ring use {El as K, z as 𝟘, u as 𝟙, add as ◌+◌, mul as ◌*◌, neg}

  infixl 65 ◌+◌ ◌-◌
  infixl 70 ◌*◌
  abbrev ◌-◌ : K → K → K
  a - b = a + neg b

  module _ {A : Type 0} where
    pub sum_cong : {f g : A → K} (l : List A) → ((x : A) → Memᴰ x l → f x ≡ g x) → sum F l f ≡ sum F l g
    sum_cong [] h = refl
    sum_cong (x ∷ l) h = ap₂ ◌+◌ (h x (Memᴰ.head refl)) (sum_cong l λ y m. h y (Memᴰ.tail m))

    pub sum-zero : (l : List A) → sum F l (λ _. 𝟘) ≡ 𝟘
    sum-zero [] = refl
    sum-zero (x ∷ l) = z_add F.ring _ ∙ sum-zero l

    pub sum-add : (f g : A → K) (l : List A) → sum F l (λ x. f x + g x) ≡ sum F l f + sum F l g
    sum-add f g [] = sym (F.ring.add_z 𝟘)
    sum-add f g (x ∷ l) = ap (λ (x' : K). f x + g x + x') (sum-add f g l)
        ∙ solve F.ring (f x ∷ g x ∷ sum F l f ∷ sum F l g ∷ [])
        (X 0 ⊕ X 1 ⊕ (X 2 ⊕ X 3)) (X 0 ⊕ X 2 ⊕ (X 1 ⊕ X 3)) tt

    pub sum-mul : (k : K) (f : A → K) (l : List A) → sum F l (λ x. k * f x) ≡ k * sum F l f
    sum-mul k f [] = sym (mul_z F.ring k)
    sum-mul k f (x ∷ l) = ap (λ z. k * f x + z) (sum-mul k f l) ∙ sym (F.ring.mul_add k (f x) (sum F l f))

    pub sum-append : (f : A → K) (a b : List A) → sum F (a ++ b) f ≡ sum F a f + sum F b f
    sum-append f [] b = sym (z_add F.ring (sum F b f))
    sum-append f (x ∷ a) b = ap (λ s. f x + s) (sum-append f a b) ∙ sym (F.ring.add_assoc (f x) (sum F a f) (sum F b f))

    abbrev pub Off : (A → K) → List A → K → Type 0
    Off c l p = (s : A) → Memᴰ s l → p - c s ≢ 𝟘

    -- The numerators after the first pole t is divided out at the point q.
    abbrev next : (A → K) → (A → K) → K → K → A → K
    next c D t q s = D s * ((c s - t) * inverse F (q - c s))

    reduce : (c D : A → K) (t p q : K) (l : List A) → Off c l p → Off c l q
        → (p - t) * fractions F c D l p ≡ (q - t) * fractions F c D l q + (q - p) * fractions F c (next c D t q) l p
    reduce c D t p q l np nq =
        sym (sum-mul (p - t) (λ s. D s * inverse F (p - c s)) l)
        ∙ sum_cong l (λ s m. Arithmetic.fraction-step F p q (c s) t (D s) (np s m) (nq s m))
        ∙ sum-add (λ s. (q - t) * (D s * inverse F (q - c s))) (λ s. (q - p) * (next c D t q s * inverse F (p - c s))) l
        ∙ ap₂ ◌+◌ (sum-mul (q - t) (λ s. D s * inverse F (q - c s)) l) (sum-mul (q - p) (λ s. next c D t q s * inverse F (p - c s)) l)

    -- A pole t and its numerator d come first: what is left, after t is divided out at q, is zero at p.
    descend : (c D : A → K) (t d p q : K) (l : List A) → Off c l p → Off c l q → p - t ≢ 𝟘 → q - t ≢ 𝟘 → q ≢ p
        → d * inverse F (p - t) + fractions F c D l p ≡ 𝟘 → d * inverse F (q - t) + fractions F c D l q ≡ 𝟘 → fractions F c (next c D t q) l p ≡ 𝟘
    descend c D t d p q l op oq np nq ne zp zq = Arithmetic.eq_zero_right F (Arithmetic.sub_ne F ne) (cancel F.ring _ _ ((q - t) * fractions F c D l q) level)
      where
        level : (q - p) * fractions F c (next c D t q) l p + (q - t) * fractions F c D l q ≡ 𝟘 + (q - t) * fractions F c D l q
        level =
            F.ring.add_comm ((q - p) * fractions F c (next c D t q) l p) ((q - t) * fractions F c D l q)
            ∙ sym (reduce c D t p q l op oq)
            ∙ Arithmetic.add_cancel_left F d (Arithmetic.clear F np zp ∙ sym (Arithmetic.clear F nq zq))
            ∙ sym (z_add F.ring ((q - t) * fractions F c D l q))

    -- The numerators of the rest are zero: so is the first.
    last : (c D : A → K) (t d q : K) (l : List A) → q - t ≢ 𝟘 → ((s : A) → Memᴰ s l → D s ≡ 𝟘) → d * inverse F (q - t) + fractions F c D l q ≡ 𝟘 → d ≡ 𝟘
    last c D t d q l nq rest z = Arithmetic.eq-zero-left F (Arithmetic.inverse_ne F nq) (Arithmetic.eq_zero_of_add F none z)
      where
        none : fractions F c D l q ≡ 𝟘
        none = sum_cong l (λ s m. ap (λ z. z * inverse F (q - c s)) (rest s m) ∙ z_mul F.ring (inverse F (q - c s))) ∙ sum-zero l

  pub numerators_zero : {A : Type 0} (c : A → K) (l : List A) (D : A → K) (ps : List K) → length l ≤ length ps → Distinct ps → Apart c l
      → ((p : K) → Memᴰ p ps → Off c l p) → ((p : K) → Memᴰ p ps → fractions F c D l p ≡ 𝟘) → (s : A) → Memᴰ s l → D s ≡ 𝟘
  numerators_zero c [] D ps len dist apart off zeros s m = absurd (Memᴰ.not-nil m)
  numerators_zero c (x ∷ l) D [] len dist apart off zeros s m = absurd (omega arith)
  numerators_zero {A} c (x ∷ l) D (q ∷ ps) len dist apart off zeros s m =
      member (λ D' z. numerators_zero c l D' ps (omega arith) dist.1 apart.1 (λ p h. others p (Memᴰ.tail h)) z) (Memᴰ.cases_cons m)
    where
      here : Memᴰ q (q ∷ ps)
      here = Memᴰ.head refl

      pole : (p : K) → Memᴰ p (q ∷ ps) → p - c x ≢ 𝟘
      pole p h = off p h x (Memᴰ.head refl)

      others : (p : K) → Memᴰ p (q ∷ ps) → Off c l p
      others p h y k = off p h y (Memᴰ.tail k)

      Below : Type 0
      Below = (D' : A → K) → ((p : K) → Memᴰ p ps → fractions F c D' l p ≡ 𝟘) → (s : A) → Memᴰ s l → D' s ≡ 𝟘

      rest : Below → (s : A) → Memᴰ s l → D s ≡ 𝟘
      rest below s k =
          let fewer : next c D (c x) q s ≡ 𝟘 = below (next c D (c x) q) (λ p h. descend c D (c x) (D x) p q l (others p (Memᴰ.tail h)) (others q here)
          (pole p (Memᴰ.tail h)) (pole q here) (dist.0 p h) (zeros p (Memᴰ.tail h)) (zeros q here)) s k in
          Arithmetic.eq-zero-left F (Arithmetic.sub_ne F (λ e. apart.0 s k (sym e)))
          (Arithmetic.eq-zero-left F (Arithmetic.inverse_ne F (others q here s k)) (F.ring.mul_assoc (D s) (c s - c x) (inverse F (q - c s)) ∙ fewer))

      member : Below → (s ≡ x) ⊎ Memᴰ s l → D s ≡ 𝟘
      member below (inl e) = ap D e ∙ last c D (c x) (D x) q l (pole q here) (rest below) (zeros q here)
      member below (inr k) = rest below s k
