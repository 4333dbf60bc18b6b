-- The paper's sum of a list of entries in words, so that it can be computed.
use Rattle.std.specs.Prelude.{◌≡◌, ◌↔◌, true, false, ℕ}
use Rattle.std.proofs.Math.Path.{refl, ap, ap₂}
use Rattle.std.proofs.Common.{sym, ◌∙◌}
use mathlib.Core.List.{List, [], ◌∷◌, Memᴰ}
use Rattle.field.specs.Element.{zero4, add4, is_zero}
use Rattle.field.specs.Modulus.{Modulus, Certificate}
use Rattle.field.specs.Extension.{K, KEl, el}
use Rattle.field.specs.laws.Extension.{h}
use Rattle.field.proofs.laws.Homomorphism.{el_add}
use Rattle.theorems_logup.specs.Inverse.{inverse}
use Rattle.theorems_logup.specs.Tables as Tables
use Rattle.logup.specs.Tuple.{combine, denominator, quotient4}
use Rattle.logup.specs.Ledger.{Entry, Element}
use Rattle.theorems_soundness.specs.Entries.{into, N}
use Rattle.theorems_soundness.proofs.laws.Elements.{element-lift, element-add, element-sub, zero_iff, nonzero, quotient_is}
use Rattle.theorems_soundness.proofs.laws.Tuples.{denominator_is}

-- the sum of count ÷ denominator over the entries, as four words
unfoldable pub sum_words : ℕ → ℕ → List ℕ → List ℕ → List Entry → List ℕ
sum_words p w alpha beta [] = zero4
sum_words p w alpha beta (e ∷ es) =
    add4 p (quotient4 p w e.count (denominator p w alpha beta e.tuple)) (sum_words p w alpha beta es)

module _ (p w : ℕ) (M : Modulus p) (C : Certificate p w) (alpha beta : List ℕ) where
  denominator-element : (t : List ℕ) → Element p (denominator p w alpha beta t)
  unfolding denominator
  denominator-element t = element-sub p w C alpha (combine p w beta t)

  words_are : (es : List Entry) → el p w C (sum_words p w alpha beta es) ≡ Tables.terminal (K p w C) (N p w C) (el p w C alpha) (el p w C beta) es
  unfolding sum_words
  words_are [] = refl
  words_are (e ∷ es) =
      el_add p w C (quotient4 p w e.count (denominator p w alpha beta e.tuple)) (sum_words p w alpha beta es)
      ∙ ap₂ (K p w C).ring.add
      (quotient_is p w C M e.count (denominator p w alpha beta e.tuple) (denominator-element e.tuple)
      ∙ ap (λ (x : KEl p w C). (K p w C).ring.mul (into p w C e.count) (inverse (K p w C) x)) (denominator_is p w C beta alpha e.tuple))
      (words_are es)

  words-element : (es : List Entry) → Element p (sum_words p w alpha beta es)
  unfolding sum_words
  words-element [] = element-lift p w C 0 (h p w C)
  words-element (e ∷ es) = element-add p w C (quotient4 p w e.count (denominator p w alpha beta e.tuple)) (sum_words p w alpha beta es)

  -- the sum is zero where its words are
  pub sum_zero_iff : (es : List Entry)
      → (is_zero (sum_words p w alpha beta es) ≡ true) ↔ (Tables.terminal (K p w C) (N p w C) (el p w C alpha) (el p w C beta) es ≡ (K p w C).ring.z)
  sum_zero_iff es =
      let (there, back) = zero_iff p w C (sum_words p w alpha beta es) (words-element es) in
      (λ e. sym (words_are es) ∙ there e, λ e. back (words_are es ∙ e))

  -- the pair is no pole where no denominator is zero
  pub accepts_of : (es : List Entry) → ((e : Entry) → Memᴰ e es → is_zero (denominator p w alpha beta e.tuple) ≡ false)
      → Tables.Accepts (K p w C) (N p w C) (el p w C alpha) (el p w C beta) es
  accepts_of es tested e k _ z =
      nonzero p w C (denominator p w alpha beta e.tuple) (denominator-element e.tuple) (tested e k)
      (denominator_is p w C beta alpha e.tuple ∙ z)
