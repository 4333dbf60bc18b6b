-- The facts of a field that the balance theorem uses.
use Rattle.std.specs.Prelude.{◌≡◌, ◌≢◌, [], ◌∷◌}
use Rattle.std.proofs.Math.Path.{refl}
use Rattle.std.proofs.Common.{sym, ◌∙◌, ap, ap₂}
use Rattle.algebra.specs.Field.{Field}
use Rattle.algebra.specs.laws.Solve.{I, X, ◌⊕◌, ◌⊗◌, ⊝◌}
use Rattle.algebra.proofs.laws.Solve.{solve, cancel, z_add, z_mul, mul_z}
use Rattle.algebra.proofs.laws.Extension.{no_zero_div}
use Rattle.theorems_logup.specs.Inverse.{inverse_by, inverse}

module _ (F : Field) where
  open F.ring use {El as K, z as 𝟘, u as 𝟙, add as ◌+◌, mul as ◌*◌, neg}

  infixl 65 ◌+◌ ◌-◌
  infixl 70 ◌*◌
  abbrev ◌-◌ : K → K → K
  a - b = a + neg b

  pub add_cancel_left : (c : K) {a b : K} → c + a ≡ c + b → a ≡ b
  add_cancel_left c {a} {b} e = cancel F.ring a b c (F.ring.add_comm a c ∙ e ∙ F.ring.add_comm c b)

  pub sub-add : (a b : K) → (a - b) + b ≡ a
  sub-add a b = solve F.ring (a ∷ b ∷ []) (X 0 ⊕ ⊝ X 1 ⊕ X 1) (X 0) tt

  pub eq_of_sub : {a b : K} → a - b ≡ 𝟘 → a ≡ b
  eq_of_sub {a} {b} e = sym (sub-add a b) ∙ ap (λ (x : K). x + b) e ∙ z_add F.ring b

  pub sub_of_eq : {a b : K} → a ≡ b → a - b ≡ 𝟘
  sub_of_eq {a} {b} e = ap (λ (x : K). x - b) e ∙ F.ring.add_neg b

  pub sub_ne : {a b : K} → a ≢ b → a - b ≢ 𝟘
  sub_ne n e = n (eq_of_sub e)

  pub equal? : Discrete K
  equal? a b = pick (F.dec (a - b))
    where
      pick : Dec (a - b ≡ 𝟘) → Dec (a ≡ b)
      pick (yes e) = yes (eq_of_sub e)
      pick (no n) = no (λ e. n (sub_of_eq e))

  pub mul-inverse : (a : K) → a ≢ 𝟘 → a * inverse F a ≡ 𝟙
  unfolding inverse
  mul-inverse a n = go (F.dec a)
    where
      go : (d : Dec (a ≡ 𝟘)) → a * inverse_by F a d ≡ 𝟙
      go (yes e) = absurd (n e)
      go (no k) = (F.inv a k).1

  pub inverse-zero : inverse F 𝟘 ≡ 𝟘
  unfolding inverse
  inverse-zero = go (F.dec 𝟘)
    where
      go : (d : Dec (𝟘 ≡ 𝟘)) → inverse_by F 𝟘 d ≡ 𝟘
      go (yes e) = refl
      go (no k) = absurd (k refl)

  pub eq-zero-left : {a c : K} → c ≢ 𝟘 → a * c ≡ 𝟘 → a ≡ 𝟘
  eq-zero-left {a} {c} n e = no_zero_div F c a (F.ring.mul_comm c a ∙ e) n

  pub eq_zero_right : {a c : K} → c ≢ 𝟘 → c * a ≡ 𝟘 → a ≡ 𝟘
  eq_zero_right {a} {c} n e = no_zero_div F c a e n

  pub mul_cancel : (c : K) {a b : K} → c ≢ 𝟘 → a * c ≡ b * c → a ≡ b
  mul_cancel c {a} {b} n e =
      eq_of_sub
      (eq-zero-left n
      (solve F.ring (a ∷ b ∷ c ∷ []) ((X 0 ⊕ ⊝ X 1) ⊗ X 2) (X 0 ⊗ X 2 ⊕ ⊝ (X 1 ⊗ X 2)) tt ∙ sub_of_eq e))

  -- what has a product that is one is not zero
  pub unit_ne : {a x : K} → a * x ≡ 𝟙 → a ≢ 𝟘
  unit_ne {a} {x} e n = F.u≢z (sym e ∙ ap (λ (y : K). y * x) n ∙ z_mul F.ring x)

  pub inverse_ne : {a : K} → a ≢ 𝟘 → inverse F a ≢ 𝟘
  inverse_ne {a} n = unit_ne (F.ring.mul_comm (inverse F a) a ∙ mul-inverse a n)

  pub inverse_unique : {a x : K} → a * x ≡ 𝟙 → inverse F a ≡ x
  inverse_unique {a} {x} e =
      mul_cancel a (unit_ne e) (F.ring.mul_comm (inverse F a) a ∙ mul-inverse a (unit_ne e) ∙ sym e ∙ F.ring.mul_comm a x)

  pub eq_zero_of_add : {a b : K} → b ≡ 𝟘 → a + b ≡ 𝟘 → a ≡ 𝟘
  eq_zero_of_add {a} {b} e f = sym (F.ring.add_z a) ∙ ap (λ (x : K). a + x) (sym e) ∙ f

  -- one step of the synthetic division of a polynomial by x - a
  pub divide_step : (s r x a y : K) → (s * x + r) * (x - a) + (r * a + y) ≡ (s * (x - a) + r) * x + y
  divide_step s r x a y =
      solve F.ring (s ∷ r ∷ x ∷ a ∷ y ∷ []) ((X 0 ⊗ X 2 ⊕ X 1) ⊗ (X 2 ⊕ ⊝ X 3) ⊕ (X 1 ⊗ X 3 ⊕ X 4)) ((X 0 ⊗ (X 2 ⊕ ⊝ X 3) ⊕ X 1) ⊗ X 2 ⊕ X 4) tt

  -- the step of the induction on a sum of simple fractions: x is 1 ÷ (p - c), y is 1 ÷ (q - c)
  exchange : (p q c t D x y : K) → (p - c) * x ≡ 𝟙 → (q - c) * y ≡ 𝟙
      → (p - t) * (D * x) ≡ (q - t) * (D * y) + (q - p) * (D * ((c - t) * y) * x)
  exchange p q c t D x y px qy =
      solve F.ring (p ∷ c ∷ t ∷ D ∷ x ∷ []) ((X 0 ⊕ ⊝ X 2) ⊗ (X 3 ⊗ X 4)) (X 3 ⊗ ((X 0 ⊕ ⊝ X 1) ⊗ X 4) ⊕ I ⊗ ((X 1 ⊕ ⊝ X 2) ⊗ X 3 ⊗ X 4)) tt
      ∙ ap₂ (λ (a b : K). D * a + b * ((c - t) * D * x)) px (sym qy)
      ∙ solve F.ring (p ∷ q ∷ c ∷ t ∷ D ∷ x ∷ y ∷ []) (X 4 ⊗ I ⊕ (X 1 ⊕ ⊝ X 2) ⊗ X 6 ⊗ ((X 2 ⊕ ⊝ X 3) ⊗ X 4 ⊗ X 5))
      (X 4 ⊗ I ⊕ ((X 0 ⊕ ⊝ X 2) ⊗ X 5 ⊗ ((X 2 ⊕ ⊝ X 3) ⊗ X 4 ⊗ X 6) ⊕ (X 1 ⊕ ⊝ X 0) ⊗ (X 4 ⊗ ((X 2 ⊕ ⊝ X 3) ⊗ X 6) ⊗ X 5))) tt
      ∙ ap₂ (λ (a b : K). D * a + (b * ((c - t) * D * y) + (q - p) * (D * ((c - t) * y) * x))) (sym qy) px
      ∙ solve F.ring (p ∷ q ∷ c ∷ t ∷ D ∷ x ∷ y ∷ [])
      (X 4 ⊗ ((X 1 ⊕ ⊝ X 2) ⊗ X 6) ⊕ (I ⊗ ((X 2 ⊕ ⊝ X 3) ⊗ X 4 ⊗ X 6) ⊕ (X 1 ⊕ ⊝ X 0) ⊗ (X 4 ⊗ ((X 2 ⊕ ⊝ X 3) ⊗ X 6) ⊗ X 5)))
      ((X 1 ⊕ ⊝ X 3) ⊗ (X 4 ⊗ X 6) ⊕ (X 1 ⊕ ⊝ X 0) ⊗ (X 4 ⊗ ((X 2 ⊕ ⊝ X 3) ⊗ X 6) ⊗ X 5)) tt

  pub fraction-step : (p q c t D : K) → p - c ≢ 𝟘 → q - c ≢ 𝟘
      → (p - t) * (D * inverse F (p - c)) ≡ (q - t) * (D * inverse F (q - c)) + (q - p) * (D * ((c - t) * inverse F (q - c)) * inverse F (p - c))
  fraction-step p q c t D np nq = exchange p q c t D (inverse F (p - c)) (inverse F (q - c)) (mul-inverse (p - c) np) (mul-inverse (q - c) nq)

  pub clear : {d a f : K} → a ≢ 𝟘 → d * inverse F a + f ≡ 𝟘 → d + a * f ≡ 𝟘
  clear {d} {a} {f} n e =
      ap (λ (x : K). x + a * f) (sym (F.ring.mul_u d) ∙ ap (λ (x : K). d * x) (sym (mul-inverse a n)))
      ∙ solve F.ring (d ∷ a ∷ f ∷ inverse F a ∷ []) (X 0 ⊗ (X 1 ⊗ X 3) ⊕ X 1 ⊗ X 2) (X 1 ⊗ (X 0 ⊗ X 3 ⊕ X 2)) tt ∙ ap (λ (x : K). a * x) e ∙ mul_z F.ring a
