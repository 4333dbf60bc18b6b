-- Sums and products over the tuples of a lookup: N ÷ D + m ÷ d = (N·d + m·D) ÷ (D·d), tuple by tuple.
use Rattle.std.specs.Prelude.{◌≡◌, refl, Bool, List, length, eqb}
use Rattle.std.proofs.Math.Path.{sym, ap, ap₂}
use Rattle.std.proofs.Common.{◌∙◌, mod-eq_of_lt, arith}
use Rattle.std.proofs.Math.Bool.{cond}
use Prim.Native.Nat.{ℕ, zero, suc, ◌<◌}
use Rattle.lists.specs.laws.Count.{eqb_true, eqb_false}
use Rattle.field.specs.Modulus.{Certificate}
use Rattle.field.specs.Word.{mul_m}
use Rattle.field.specs.Element.{Word4, zero4, one4, lift, add4, mul4, scale4, sum4, product4}
use Rattle.field.specs.laws.Extension.{h}
use Rattle.field.proofs.laws.Element.{four-product4, word-product4, word-lift, mul4_comm, mul4_assoc, mul4-add, mul4-one, zero-add4, zero-mul4, scale4_is, scale4-one, lift-mul, sum4_cong, product4_cong}

module _ (p w : ℕ) (C : Certificate p w) where
  product4-one : (f : ℕ → List ℕ) (n : ℕ) → mul4 p w (product4 p w f n) one4 ≡ product4 p w f n
  product4-one f n = mul4-one p w C (product4 p w f n) (four-product4 p w f n) (word-product4 p (h p w C) w f n C.prime.big)

  -- a factor goes into a sum
  sum4_times : (f : ℕ → List ℕ) (d : List ℕ) (n : ℕ) → mul4 p w (sum4 p f n) d ≡ sum4 p (λ i. mul4 p w (f i) d) n
  unfolding sum4
  sum4_times f d zero = zero-mul4 p w C d
  sum4_times f d (suc n) =
      mul4_comm p w C (add4 p (sum4 p f n) (f n)) d ∙ mul4-add p w C d (sum4 p f n) (f n)
      ∙ ap₂ (add4 p) (mul4_comm p w C d (sum4 p f n) ∙ sum4_times f d n) (mul4_comm p w C d (f n))

  scale_times : (m : ℕ) (a d : List ℕ) → mul4 p w (scale4 p m a) d ≡ scale4 p m (mul4 p w a d)
  scale_times m a d =
      ap (λ (x : List ℕ). mul4 p w x d) (scale4_is p w C m a) ∙ mul4_assoc p w C (lift m) a d ∙ sym (scale4_is p w C m (mul4 p w a d))

  -- the first term: 0 ÷ 1 + m ÷ d = m ÷ d
  pub first-numerator : (m : ℕ) (d : List ℕ) → m < p → lift m ≡ add4 p (mul4 p w zero4 d) (scale4 p m one4)
  first-numerator m d l =
      sym (ap₂ (add4 p) (zero-mul4 p w C d) (scale4-one p m ∙ ap lift (mod-eq_of_lt l)) ∙ zero-add4 p w C (lift m) refl (word-lift p (h p w C) m l))

  pub first-denominator : (d : List ℕ) → length d ≡ 4 → Word4 p d → d ≡ mul4 p w one4 d
  first-denominator d l k = sym (mul4_comm p w C one4 d ∙ mul4-one p w C d l k)

  -- a product of words, as elements
  pub lift_scaled : (f m : ℕ) → lift (mul_m p f m) ≡ scale4 p f (lift m)
  lift_scaled f m = lift-mul p w C f m ∙ sym (scale4_is p w C f (lift m))

  module _ (m : ℕ → ℕ) (d : ℕ → List ℕ) where
    -- the product of the first n denominators but the k-th
    abbrev pub all_but : ℕ → ℕ → List ℕ
    all_but n k = product4 p w (λ j. cond (eqb j k) one4 (d j)) n

    -- the numerator of the first n tuples
    abbrev pub numerator_to : ℕ → List ℕ
    numerator_to n = sum4 p (λ k. scale4 p (m k) (all_but n k)) n

    but_last : (n : ℕ) → all_but n n ≡ product4 p w d n
    but_last n = product4_cong p w (λ j. cond (eqb j n) one4 (d j)) d n (λ j l. ap (λ (b : Bool). cond b one4 (d j)) (eqb_false {a = j} {b = n} (λ (e : j ≡ n). omega arith)))

    but-next : (n k : ℕ) → k < n → all_but (suc n) k ≡ mul4 p w (all_but n k) (d n)
    unfolding product4
    but-next n k l = ap (λ (b : Bool). mul4 p w (all_but n k) (cond b one4 (d n))) (eqb_false {a = n} {b = k} (λ (e : n ≡ k). omega arith))

    but_self : (n : ℕ) → all_but (suc n) n ≡ product4 p w d n
    unfolding product4
    but_self n = ap (λ (b : Bool). mul4 p w (all_but n n) (cond b one4 (d n))) (eqb_true {a = n} refl) ∙ product4-one (λ j. cond (eqb j n) one4 (d j)) n ∙ but_last n

    pub numerator-next : (n : ℕ) → numerator_to (suc n) ≡ add4 p (mul4 p w (numerator_to n) (d n)) (scale4 p (m n) (product4 p w d n))
    unfolding sum4
    numerator-next n =
        ap₂ (add4 p)
        (sum4_cong p (λ k. scale4 p (m k) (all_but (suc n) k)) (λ k. mul4 p w (scale4 p (m k) (all_but n k)) (d n)) n
        (λ k l. ap (scale4 p (m k)) (but-next n k l) ∙ sym (scale_times (m k) (all_but n k) (d n)))
        ∙ sym (sum4_times (λ k. scale4 p (m k) (all_but n k)) (d n) n))
        (ap (scale4 p (m n)) (but_self n))
