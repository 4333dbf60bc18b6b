-- What the inner functions' contracts speak of: the sums over an exclusive lookup's first branches, and one lookup's constraint.
use Rattle.std.specs.Prelude.{◌≡◌, List, ℕ, ◌<◌}
use Rattle.field.specs.Word.{add_m, mul_m}
use Rattle.field.specs.Element.{Word4, lift, add4, sub4, mul4, scale4, sum4}
use Rattle.field.specs.Ext.{ext_words}
use Rattle.logup.specs.Column.{Place, multiplicity, flag, denom}
use Rattle.logup.specs.Constraints.{numerator, common_denominator}
use Rattle.logup_terms.specs.declared.compute.Branches.{Branches}
use Rattle.logup_terms.specs.declared.compute.Fraction.{Fraction}

-- flag · multiplicity, flag · denominator and flags, over the first n branches
pub record Summed (p w : ℕ) (c : Place) (t : Branches) (n : ℕ) : Type 0 where
  pub numerator_below : t.numerator < p
  pub denominator_below : Word4 p (ext_words t.denominator)
  pub flags_below : t.flags < p
  pub numerator_is : lift t.numerator ≡ sum4 p (λ k. scale4 p (flag c k) (lift (multiplicity c k))) n
  pub denominator_is : ext_words t.denominator ≡ sum4 p (λ k. scale4 p (flag c k) (denom p w c k)) n
  pub flags_are : lift t.flags ≡ sum4 p (λ k. lift (flag c k)) n

-- N ÷ D + m ÷ d = (N·d + m·D) ÷ (D·d)
pub record TermAdded (p w : ℕ) (t : Fraction) (m : ℕ) (d : List ℕ) (r : Fraction) : Type 0 where
  pub numerator_below : Word4 p (ext_words r.numerator)
  pub denominator_below : Word4 p (ext_words r.denominator)
  pub numerator_is : ext_words r.numerator ≡ add4 p (mul4 p w (ext_words t.numerator) d) (scale4 p m (ext_words t.denominator))
  pub denominator_is : ext_words r.denominator ≡ mul4 p w (ext_words t.denominator) d

-- one branch more, with flag f, multiplicity m and denominator d
pub record BranchAdded (p : ℕ) (t : Branches) (f m : ℕ) (d : List ℕ) (r : Branches) : Type 0 where
  pub numerator_below : r.numerator < p
  pub denominator_below : Word4 p (ext_words r.denominator)
  pub flags_below : r.flags < p
  pub numerator_is : r.numerator ≡ add_m p t.numerator (mul_m p f m)
  pub denominator_is : ext_words r.denominator ≡ add4 p (ext_words t.denominator) (scale4 p f d)
  pub flags_are : r.flags ≡ add_m p t.flags f

-- a fraction by its numerator and its denominator
pub record FractionIs (p : ℕ) (n d : List ℕ) (t : Fraction) : Type 0 where
  pub numerator_below : Word4 p (ext_words t.numerator)
  pub denominator_below : Word4 p (ext_words t.denominator)
  pub numerator_is : ext_words t.numerator ≡ n
  pub denominator_is : ext_words t.denominator ≡ d

-- the fraction of the lookup, whichever kind it is
pub record LookupFraction (p w : ℕ) (c : Place) (t : Fraction) : Type 0 where
  pub numerator_below : Word4 p (ext_words t.numerator)
  pub denominator_below : Word4 p (ext_words t.denominator)
  pub numerator_is : ext_words t.numerator ≡ numerator p w c
  pub denominator_is : ext_words t.denominator ≡ common_denominator p w c

-- common denominator × fraction - numerator
unfoldable pub vanishing : ℕ → ℕ → Place → List ℕ → List ℕ
vanishing p w c cell = sub4 p (mul4 p w (common_denominator p w c) cell) (numerator p w c)
