-- Elements of four words below p: every result is one, the test for zero is the field's, and a quotient is the field's.
use Rattle.std.specs.Prelude.{◌≡◌, ◌≢◌, ◌↔◌, true, false, List}
use Rattle.std.proofs.Math.Path.{refl, ap}
use Rattle.std.proofs.Common.{sym, ◌∙◌, true≢false}
use Prim.Native.Nat.{ℕ, zero, suc, ◌<◌}
use Rattle.lists.specs.laws.Count.{of_true}
use Rattle.field.specs.Element.{lift, zero4, add4, sub4, scale4, sum4, product4, inverse4, is_zero}
use Rattle.field.specs.Modulus.{Modulus, Certificate}
use Rattle.field.specs.laws.Ring.{mk}
use Rattle.field.specs.Extension.{K, KEl, el}
use Rattle.field.specs.laws.Extension.{h}
use Rattle.field.proofs.laws.Homomorphism.{four, el_add, el_sub, el_mul}
use Rattle.field.proofs.laws.Zero.{zero-is_zero, zero-words}
use Rattle.field.proofs.laws.Element.{four-add4, four-sub4, four-scale4, four-sum4, word-add4, word-sub4, word-scale4, word-lift, word-sum4, scale4_is}
use Rattle.field.proofs.laws.Norm.{inverse4_ok, inverse4-zero}
use Rattle.theorems_logup.specs.Inverse.{inverse}
use Rattle.theorems_logup.specs.Sums.{sum_to}
use Rattle.theorems_logup.specs.inner.Products.{product_to}
use Rattle.theorems_logup.proofs.laws.Arithmetic.{inverse-zero, inverse_unique, eq_of_sub, sub_of_eq}
use Rattle.logup.specs.Tuple.{quotient4}
use Rattle.logup.specs.Ledger.{Element}
use Rattle.theorems_soundness.specs.Entries.{into}
use Rattle.theorems_soundness.proofs.laws.Setting.{same_of_el}

module _ (p w : ℕ) (C : Certificate p w) where
  abbrev ⟦◌⟧ : List ℕ → KEl p w C
  ⟦ a ⟧ = el p w C a

  pub element-lift : (a : ℕ) → a < p → Element p (lift a)
  element-lift a l = record { four = refl; below = word-lift p (h p w C) a l }

  pub element-add : (a b : List ℕ) → Element p (add4 p a b)
  element-add a b = record { four = four-add4 p a b; below = word-add4 p (h p w C) a b }

  pub element-sub : (a b : List ℕ) → Element p (sub4 p a b)
  element-sub a b = record { four = four-sub4 p a b; below = word-sub4 p (h p w C) a b }

  pub element-quotient : (m : ℕ) (d : List ℕ) → Element p (quotient4 p w m d)
  unfolding quotient4
  element-quotient m d = record { four = four-scale4 p m (inverse4 p w d); below = word-scale4 p (h p w C) m (inverse4 p w d) }

  pub element-sum : (f : ℕ → List ℕ) (n : ℕ) → Element p (sum4 p f n)
  element-sum f n = record { four = four-sum4 p f n; below = word-sum4 p (h p w C) f n }

  -- an element is zero where it is zero in the field
  pub zero_iff : (a : List ℕ) → Element p a → (is_zero a ≡ true) ↔ (⟦ a ⟧ ≡ (K p w C).ring.z)
  zero_iff a ea = (
    λ e.
        let (e0, e1, e2, e3) = zero-words a (of_true e) in
        four p w C (ap (mk p (h p w C)) e0) (ap (mk p (h p w C)) e1) (ap (mk p (h p w C)) e2) (ap (mk p (h p w C)) e3),
    λ e. ap is_zero (same_of_el p w C a zero4 ea (element-lift 0 (h p w C)) e) ∙ zero-is_zero,
  )

  pub nonzero : (a : List ℕ) → Element p a → is_zero a ≡ false → ⟦ a ⟧ ≢ (K p w C).ring.z
  nonzero a ea e n = true≢false (sym ((zero_iff a ea).1 n) ∙ e)

  -- a difference is zero where the two are the same in the field
  pub sub_zero_iff : (a b : List ℕ) → (is_zero (sub4 p a b) ≡ true) ↔ (⟦ a ⟧ ≡ ⟦ b ⟧)
  sub_zero_iff a b = (
    λ e. eq_of_sub (K p w C) (sym (el_sub p w C a b) ∙ (zero_iff (sub4 p a b) (element-sub a b)).0 e),
    λ e. (zero_iff (sub4 p a b) (element-sub a b)).1 (el_sub p w C a b ∙ sub_of_eq (K p w C) e),
  )

  pub sum_is : (f : ℕ → List ℕ) (n : ℕ) → ⟦ sum4 p f n ⟧ ≡ sum_to (K p w C) (λ i. ⟦ f i ⟧) n
  unfolding sum4
  sum_is f zero = refl
  sum_is f (suc n) = el_add p w C (sum4 p f n) (f n) ∙ ap (λ (x : KEl p w C). (K p w C).ring.add x ⟦ f n ⟧) (sum_is f n)

  pub product_is : (f : ℕ → List ℕ) (n : ℕ) → ⟦ product4 p w f n ⟧ ≡ product_to (K p w C) (λ i. ⟦ f i ⟧) n
  unfolding product4
  product_is f zero = refl
  product_is f (suc n) = el_mul p w C (product4 p w f n) (f n) ∙ ap (λ (x : KEl p w C). (K p w C).ring.mul x ⟦ f n ⟧) (product_is f n)

  pub scale_is : (z : ℕ) (a : List ℕ) → ⟦ scale4 p z a ⟧ ≡ (K p w C).ring.mul (into p w C z) ⟦ a ⟧
  scale_is z a = ap (el p w C) (scale4_is p w C z a) ∙ el_mul p w C (lift z) a

  module _ (M : Modulus p) where
    -- the inverse of four words is the field's, at zero too
    pub inverse_is : (a : List ℕ) → Element p a → ⟦ inverse4 p w a ⟧ ≡ inverse (K p w C) ⟦ a ⟧
    inverse_is a ea = go ((K p w C).dec ⟦ a ⟧)
      where
        go : Dec (⟦ a ⟧ ≡ (K p w C).ring.z) → ⟦ inverse4 p w a ⟧ ≡ inverse (K p w C) ⟦ a ⟧
        go (yes e) =
            ap (λ (x : List ℕ). ⟦ inverse4 p w x ⟧) (same_of_el p w C a zero4 ea (element-lift 0 (h p w C)) e) ∙ ap (el p w C) (inverse4-zero p w C)
            ∙ sym (ap (inverse (K p w C)) e ∙ inverse-zero (K p w C))
        go (no n) = sym (inverse_unique (K p w C) (sym (el_mul p w C a (inverse4 p w a)) ∙ ap (el p w C) (inverse4_ok p w C M a n)))

    pub quotient_is : (m : ℕ) (d : List ℕ) → Element p d → ⟦ quotient4 p w m d ⟧ ≡ (K p w C).ring.mul (into p w C m) (inverse (K p w C) ⟦ d ⟧)
    unfolding quotient4
    quotient_is m d ed = scale_is m (inverse4 p w d) ∙ ap ((K p w C).ring.mul (into p w C m)) (inverse_is d ed)
