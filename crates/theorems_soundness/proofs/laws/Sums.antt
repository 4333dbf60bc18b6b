-- The paper's summand of an entry, and sums of elements as sums over entries.
use Rattle.std.specs.Prelude.{◌≡◌, List, [], ◌∷◌}
use Rattle.std.proofs.Math.Path.{refl, sym, ap₂}
use Rattle.std.proofs.Common.{ap, ◌∙◌, arith, le_refl}
use Prim.Native.Nat.{ℕ, zero, suc, ◌<◌}
use Rattle.algebra.proofs.laws.Solve.{z_mul}
use Rattle.lists.specs.Count.{joined}
use Rattle.lists.specs.laws.Count.{joined-next}
use Rattle.field.specs.Element.{sum4}
use Rattle.field.specs.Modulus.{Certificate}
use Rattle.field.specs.Extension.{K, KEl, el}
use Rattle.field.proofs.laws.Homomorphism.{el_add}
use Rattle.theorems_logup.specs.Inverse.{inverse, minus}
use Rattle.theorems_logup.specs.Sums.{sum}
use Rattle.theorems_logup.specs.Tables.{combine}
use Rattle.theorems_logup.proofs.laws.Sums.{sum-append}
use Rattle.logup.specs.Ledger.{Entry}
use Rattle.theorems_soundness.specs.Entries.{into, N}

module _ (p w : ℕ) (C : Certificate p w) where
  -- 1 ÷ (alpha - combined t)
  abbrev pub over : List ℕ → List ℕ → List ℕ → KEl p w C
  over alpha beta t = inverse (K p w C) (minus (K p w C) (el p w C alpha) (combine (K p w C) (N p w C) (el p w C beta) t))

  -- m ÷ (alpha - combined t)
  abbrev pub share : List ℕ → List ℕ → Entry → KEl p w C
  share alpha beta e = (K p w C).ring.mul (into p w C e.count) (over alpha beta e.tuple)

  pub share_none : (alpha beta : List ℕ) (e : Entry) → e.count ≡ 0 → share alpha beta e ≡ (K p w C).ring.z
  share_none alpha beta e z =
      ap (λ (n : ℕ). (K p w C).ring.mul (into p w C n) (over alpha beta e.tuple)) z ∙ z_mul (K p w C).ring (over alpha beta e.tuple)

  module _ (f : Entry → KEl p w C) where
    pub sum_one : (e : Entry) → sum (K p w C) (e ∷ []) f ≡ f e
    sum_one e = (K p w C).ring.add_z (f e)

    pub sum-next : (E : ℕ → List Entry) (n : ℕ)
        → sum (K p w C) (joined E 0 (suc n)) f ≡ (K p w C).ring.add (sum (K p w C) (joined E 0 n) f) (sum (K p w C) (E n) f)
    sum-next E n = ap (λ (l : List Entry). sum (K p w C) l f) (joined-next E n) ∙ sum-append (K p w C) f (joined E 0 n) (E n)

    -- a sum of elements, each the sum over some entries, is the sum over all of them
    pub sum-joined : (x : ℕ → List ℕ) (E : ℕ → List Entry) (n : ℕ)
        → ((i : ℕ) → i < n → el p w C (x i) ≡ sum (K p w C) (E i) f)
        → el p w C (sum4 p x n) ≡ sum (K p w C) (joined E 0 n) f
    unfolding sum4 joined
    sum-joined x E zero each = refl
    sum-joined x E (suc n) each =
        el_add p w C (sum4 p x n) (x n)
        ∙ ap₂ (K p w C).ring.add (sum-joined x E n (λ i l. each i (omega arith))) (each n (le_refl (suc n)))
        ∙ sym (sum-next E n)
