-- The combined value of a tuple is Horner's value at beta, and the denominator alpha minus it.
use Rattle.std.specs.Prelude.{◌≡◌, take}
use Rattle.std.proofs.Math.Path.{sym, ap, ap₂}
use Rattle.std.proofs.Common.{◌∙◌, le_refl, take-suc}
use mathlib.Core.List.{List, [], ◌∷◌, map, map-append}
use Prim.Native.Nat.{ℕ, zero, suc, ◌-◌, ◌≤◌}
use native.Mathlib.Omega.{arith}
use Rattle.std.proofs.Math.ListN.{length}
use Rattle.std.proofs.Math.Seq.{take-length}
use Rattle.algebra.specs.laws.Solve.{X, ◌⊕◌, ◌⊗◌}
use Rattle.algebra.proofs.laws.Solve.{solve, mul_z, u_mul}
use Rattle.field.specs.Element.{scale4, sum4, power4}
use Rattle.field.specs.Modulus.{Certificate}
use Rattle.field.specs.Extension.{K, KEl, el}
use Rattle.field.proofs.laws.Powers.{power4-zero, power4-suc}
use Rattle.field.proofs.laws.Homomorphism.{el_add, el_sub, el_mul}
use Rattle.theorems_logup.specs.Inverse.{minus}
use Rattle.theorems_logup.specs.Polynomial.{horner}
use Rattle.theorems_logup.specs.Tables as Tables
use Rattle.theorems_logup.proofs.laws.Polynomial.{horner_snoc}
use Rattle.expression.specs.Words.{word}
use Rattle.logup.specs.Tuple.{exponent, combine, denominator}
use Rattle.theorems_soundness.specs.Entries.{into, N}
use Rattle.theorems_soundness.proofs.laws.Elements.{scale_is}

module _ (p w : ℕ) (C : Certificate p w) (beta : List ℕ) where
  open (K p w C).ring use {z, add, mul}

  abbrev ⟦◌⟧ : List ℕ → KEl p w C
  ⟦ a ⟧ = el p w C a

  abbrev value : List ℕ → KEl p w C
  value t = horner (K p w C) ⟦ beta ⟧ z (map (into p w C) t)

  abbrev term : List ℕ → ℕ → List ℕ
  term es j = scale4 p (word es j) (power4 p w beta (exponent 1 (length es) j))

  step : (P B H x : KEl p w C) → add (mul (mul P B) H) (mul x P) ≡ mul P (add (mul H B) x)
  step P B H x = solve (K p w C).ring (P ∷ B ∷ H ∷ x ∷ []) (X 0 ⊗ X 1 ⊗ X 2 ⊕ X 3 ⊗ X 0) (X 0 ⊗ (X 2 ⊗ X 1 ⊕ X 3)) tt

  -- the first n of the m elements, with m - n powers of beta still to come
  partly : (es : List ℕ) (n : ℕ) → n ≤ length es → ⟦ sum4 p (term es) n ⟧ ≡ mul ⟦ power4 p w beta (length es - n) ⟧ (value (take n es))
  unfolding sum4
  partly es zero l = sym (mul_z (K p w C).ring ⟦ power4 p w beta (length es - 0) ⟧)
  partly es (suc n) l =
      let k : ℕ = length es - suc n in
      let e₁ : length es - n ≡ suc k = omega arith in
      let e₂ : exponent 1 (length es) n ≡ k = omega arith in
      el_add p w C (sum4 p (term es) n) (term es n)
      ∙ ap₂ add
      (partly es n (omega arith) ∙ ap (λ (i : ℕ). mul ⟦ power4 p w beta i ⟧ (value (take n es))) e₁
      ∙ ap (λ (x : KEl p w C). mul x (value (take n es))) (ap (el p w C) (power4-suc p w beta k) ∙ el_mul p w C (power4 p w beta k) beta))
      (scale_is p w C (word es n) (power4 p w beta (exponent 1 (length es) n))
      ∙ ap (λ (i : ℕ). mul (into p w C (word es n)) ⟦ power4 p w beta i ⟧) e₂)
      ∙ step ⟦ power4 p w beta k ⟧ ⟦ beta ⟧ (value (take n es)) (into p w C (word es n))
      ∙ ap (mul ⟦ power4 p w beta k ⟧)
      (sym (horner_snoc (K p w C) ⟦ beta ⟧ z (into p w C (word es n)) (map (into p w C) (take n es)))
      ∙ ap (horner (K p w C) ⟦ beta ⟧ z) (sym (map-append (into p w C) (take n es) (word es n ∷ [])) ∙ ap (map (into p w C)) (sym (take-suc es n 0 l))))

  pub combine_is : (es : List ℕ) → ⟦ combine p w beta es ⟧ ≡ Tables.combine (K p w C) (N p w C) ⟦ beta ⟧ es
  unfolding combine
  combine_is es =
      let none_left : length es - length es ≡ 0 = omega arith in
      partly es (length es) (le_refl (length es))
      ∙ ap₂ (λ (i : ℕ) (l : List ℕ). mul ⟦ power4 p w beta i ⟧ (value l)) none_left (take-length es)
      ∙ ap (λ (l : List ℕ). mul ⟦ l ⟧ (value es)) (power4-zero p w beta) ∙ u_mul (K p w C).ring (value es)

  pub denominator_is : (alpha es : List ℕ)
      → ⟦ denominator p w alpha beta es ⟧ ≡ minus (K p w C) ⟦ alpha ⟧ (Tables.combine (K p w C) (N p w C) ⟦ beta ⟧ es)
  unfolding denominator
  denominator_is alpha es = el_sub p w C alpha (combine p w beta es) ∙ ap (minus (K p w C) ⟦ alpha ⟧) (combine_is es)
