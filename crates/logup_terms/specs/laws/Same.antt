-- A lookup at two places that agree in what is read has the same constraint.
use Rattle.std.specs.Prelude.{◌≡◌, refl, Bool, true, false, ℕ, ◌<◌, eqb}
use Rattle.std.proofs.Math.Path.{ap, ap₂}
use Rattle.std.proofs.Common.{◌∙◌}
use Rattle.std.proofs.Math.Bool.{cond}
use mathlib.Core.List.{List}
use Rattle.field.specs.Element.{one4, lift, add4, sub4, mul4, scale4, sum4, product4}
use Rattle.field.proofs.laws.Element.{sum4_cong, product4_cong}
use Rattle.lookup.specs.Lookups.{exclusive}
use Rattle.logup.specs.Column.{Place, branches, multiplicity, flag, denom}
use Rattle.logup.specs.Constraints.{others, additive_numerator, additive_denominator, exclusive_numerator, exclusive_denominator, numerator, common_denominator}
use Rattle.logup_column.specs.laws.Parts.{Same}
use Rattle.logup_terms.specs.inner.Constraint.{vanishing}

module _ {p w : ℕ} {c d : Place} (s : Same p w c d) where
  sums : (f g : ℕ → List ℕ) → ((k : ℕ) → k < branches d → f k ≡ g k) → sum4 p f (branches c) ≡ sum4 p g (branches d)
  sums f g e = ap (sum4 p f) s.counts ∙ sum4_cong p f g (branches d) e

  products : (f g : ℕ → List ℕ) → ((k : ℕ) → k < branches d → f k ≡ g k) → product4 p w f (branches c) ≡ product4 p w g (branches d)
  products f g e = ap (product4 p w f) s.counts ∙ product4_cong p w f g (branches d) e

  others_same : (k : ℕ) → others p w c k ≡ others p w d k
  unfolding others
  others_same k = products (λ j. cond (eqb j k) one4 (denom p w c j)) (λ j. cond (eqb j k) one4 (denom p w d j)) (λ j h. ap (cond (eqb j k) one4) (s.denoms j h))

  additive_numerator-same : additive_numerator p w c ≡ additive_numerator p w d
  unfolding additive_numerator
  additive_numerator-same =
      sums (λ k. scale4 p (multiplicity c k) (others p w c k)) (λ k. scale4 p (multiplicity d k) (others p w d k)) (λ k h. ap₂ (scale4 p) (s.mults k h) (others_same k))

  additive_denominator-same : additive_denominator p w c ≡ additive_denominator p w d
  unfolding additive_denominator
  additive_denominator-same = products (denom p w c) (denom p w d) s.denoms

  module _ (x : exclusive d.lookups.lookups d.lookup ≡ true) where
    exclusive_numerator-same : exclusive_numerator p w c ≡ exclusive_numerator p w d
    unfolding exclusive_numerator
    exclusive_numerator-same =
        sums (λ k. scale4 p (flag c k) (lift (multiplicity c k))) (λ k. scale4 p (flag d k) (lift (multiplicity d k)))
        (λ k h. ap₂ (λ (a b : ℕ). scale4 p a (lift b)) (s.flags x k h) (s.mults k h))

    exclusive_denominator-same : exclusive_denominator p w c ≡ exclusive_denominator p w d
    unfolding exclusive_denominator
    exclusive_denominator-same =
        ap₂ (λ (a b : List ℕ). add4 p a (sub4 p one4 b))
        (sums (λ k. scale4 p (flag c k) (denom p w c k)) (λ k. scale4 p (flag d k) (denom p w d k)) (λ k h. ap₂ (scale4 p) (s.flags x k h) (s.denoms k h)))
        (sums (λ k. lift (flag c k)) (λ k. lift (flag d k)) (λ k h. ap lift (s.flags x k h)))

  by_mark : (x y x' y' : List ℕ) → (exclusive d.lookups.lookups d.lookup ≡ true → x ≡ x') → y ≡ y'
      → cond (exclusive c.lookups.lookups c.lookup) x y ≡ cond (exclusive d.lookups.lookups d.lookup) x' y'
  by_mark x y x' y' e f = ap (λ (b : Bool). cond b x y) s.marks ∙ go (exclusive d.lookups.lookups d.lookup) e
    where
      go : (b : Bool) → (b ≡ true → x ≡ x') → cond b x y ≡ cond b x' y'
      go true e = e refl
      go false e = f

  pub vanishing-same : (cell : List ℕ) → vanishing p w c cell ≡ vanishing p w d cell
  unfolding vanishing numerator common_denominator
  vanishing-same cell =
      ap₂ (λ (a b : List ℕ). sub4 p (mul4 p w a cell) b)
      (by_mark (exclusive_denominator p w c) (additive_denominator p w c) (exclusive_denominator p w d) (additive_denominator p w d) exclusive_denominator-same additive_denominator-same)
      (by_mark (exclusive_numerator p w c) (additive_numerator p w c) (exclusive_numerator p w d) (additive_numerator p w d) exclusive_numerator-same additive_numerator-same)
