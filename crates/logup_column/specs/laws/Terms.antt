-- A lookup's fraction is the sum of its tuples' terms, and refusal 15 is a term whose denominator is 0.
use Rattle.std.specs.Prelude.{◌≡◌, ◌≢◌, Bool, ◌||◌, not, ltb}
use Rattle.std.proofs.Math.Path.{refl, sym, ap, ap₂}
use Rattle.std.proofs.Common.{◌∙◌, zero-add, arith}
use Rattle.std.proofs.Math.Bool.{true, false, cond, or-false}
use Rattle.std.proofs.Math.Option.{Option, none, some, some-ne-none, some-injective}
use mathlib.Core.List.{List, ◌++◌}
use Prim.Native.Nat.{ℕ, zero, suc, ◌+◌, ◌<◌}
use Rattle.std.proofs.Math.Dec.{eqb}
use Rattle.lists.specs.Count.{total, some_of, joined}
use Rattle.lists.specs.Tab.{tab}
use Rattle.lists.specs.laws.Tab.{tab_cong}
use Rattle.lists.specs.laws.Count.{last_or_below, some_of_none, eqb_true, eqb_false, eq_of_eqb}
use Rattle.field.specs.Modulus.{Certificate}
use Rattle.field.specs.Element.{zero4, one4, add4, sum4, inverse4, is_zero}
use Rattle.field.proofs.laws.Zero.{one_not_zero}
use Rattle.field.proofs.laws.Element.{four-scale4, word-scale4, word-lift, zero-scale4, sum4_cong, add4_comm, add4-zero}
use Rattle.field.specs.laws.Extension.{h}
use Rattle.expression.specs.Values.{bit}
use Rattle.logup.specs.Tuple.{quotient4}
use Rattle.logup.specs.Column.{Place, branches, multiplicity, flag, chosen, denom, used_denom, branch_fraction, branch_fault, additive_fraction, additive_fault, exclusive_fraction, exclusive_fault, fraction, fault}
use Rattle.logup_column.specs.inner.Own.{branch_code, faults}
use Rattle.logup_column.specs.inner.Terms.{contributes_nothing, exclusive_lookup, multiplicity_by, denominator_by, branch_taken, term_multiplicity, term_denominator, term}
use Rattle.logup_column.specs.laws.Parts.{Same, choice}

quotient-zero : (p w : ℕ) (d : List ℕ) → quotient4 p w 0 d ≡ zero4
unfolding quotient4
quotient-zero p w d = zero-scale4 p (inverse4 p w d)

-- a number below n + 1 that is not n
below_last : (P : ℕ → Type 0) (n j : ℕ) → j < suc n → (j ≡ n → P j) → (j < n → P j) → P j
below_last P n j h last below = last_or_below (λ (k : ℕ). (k ≡ n → P k) → (k < n → P k) → P k) n j h (λ f _. f refl) (λ l _ g. g l) last below

-- sums and tests of which at most one term is not nothing
module _ (p w : ℕ) (C : Certificate p w) (m : ℕ → ℕ) (d : ℕ → List ℕ) where
  abbrev q : ℕ → List ℕ
  q k = quotient4 p w (m k) (d k)

  plus_zero : (k : ℕ) → add4 p (q k) zero4 ≡ q k
  unfolding quotient4
  plus_zero k = add4-zero p w C (q k) (four-scale4 p (m k) (inverse4 p w (d k))) (word-scale4 p (h p w C) (m k) (inverse4 p w (d k)))

  sum_none : (n : ℕ) → ((k : ℕ) → k < n → q k ≡ zero4) → sum4 p q n ≡ zero4
  unfolding sum4
  sum_none zero e = refl
  sum_none (suc n) e = ap₂ (add4 p) (sum_none n (λ k l. e k (omega arith))) (e n (omega arith)) ∙ add4-zero p w C zero4 refl (word-lift p (h p w C) 0 (h p w C))

  sum-only : (j n : ℕ) → j < n → ((k : ℕ) → k < n → k ≢ j → q k ≡ zero4) → sum4 p q n ≡ q j
  unfolding sum4
  sum-only j zero l e = absurd (omega arith)
  sum-only j (suc n) l e =
      below_last (λ (j : ℕ). sum4 p q (suc n) ≡ q j) n j l
      (λ k. ap (λ (a : List ℕ). add4 p a (q n)) (sum_none n (λ i t. e i (omega arith) (λ x. omega arith))) ∙ add4_comm p w C zero4 (q n) ∙ plus_zero n ∙ ap q (sym k))
      (λ t. ap₂ (add4 p) (sum-only j n t (λ i u. e i (omega arith))) (e n (omega arith) (λ x. omega arith)) ∙ plus_zero j)

some-only : (f : ℕ → Bool) (j n : ℕ) → j < n → ((k : ℕ) → k < n → k ≢ j → f k ≡ false) → some_of f n ≡ f j
unfolding some_of
some-only f j zero l e = absurd (omega arith)
some-only f j (suc n) l e =
    below_last (λ (j : ℕ). (some_of f n || f n) ≡ f j) n j l
    (λ k. ap (λ (b : Bool). b || f n) (some_of_none f n (λ i t. e i (omega arith) (λ x. omega arith))) ∙ ap f (sym k))
    (λ t. ap₂ ◌||◌ (some-only f j n t (λ i u. e i (omega arith))) (e n (omega arith) (λ x. omega arith)) ∙ or-false (f j))

-- the branch chosen is one of the n
chosen-below : (f : ℕ → ℕ) (n k : ℕ) → chosen f n ≡ some k → k < n
unfolding chosen
chosen-below f zero k e = absurd (some-ne-none k (sym e))
chosen-below f (suc n) k e = go (eqb (f n) 1) e (λ q. chosen-below f n k q)
  where
    go : (b : Bool) → cond b (some n) (chosen f n) ≡ some k → (chosen f n ≡ some k → k < n) → k < suc n
    go true q next = let e : n ≡ k = some-injective n k q in omega arith
    go false q next = omega (arith, next q)

module _ (p w : ℕ) (c : Place) where
  abbrev by : Bool → ℕ → ℕ → List ℕ
  by ex branch k = quotient4 p w (multiplicity_by c ex branch k) (denominator_by p w c ex branch k)

  additive_by : (branch k : ℕ) → by false branch k ≡ quotient4 p w (multiplicity c k) (used_denom p w c k)
  unfolding multiplicity_by denominator_by used_denom
  additive_by branch k = ap (λ (m : ℕ). quotient4 p w m (cond (eqb (multiplicity c k) 0) one4 (denom p w c k))) (go (eqb (multiplicity c k) 0) refl)
    where
      go : (b : Bool) → eqb (multiplicity c k) 0 ≡ b → cond b 0 (multiplicity c k) ≡ multiplicity c k
      go true e = sym (eq_of_eqb (multiplicity c k) 0 e)
      go false e = refl

  -- a branch that is not chosen
  other_nothing : (branch k : ℕ) → branch ≢ k + 1 → (by true branch k ≡ zero4) × (is_zero (denominator_by p w c true branch k) ≡ false)
  unfolding multiplicity_by denominator_by
  other_nothing branch k n =
      let e : eqb branch (k + 1) ≡ false = eqb_false n in (
        ap (λ (b : Bool). quotient4 p w (cond (not b) 0 (multiplicity c k)) (cond (not b) one4 (denom p w c k))) e ∙ quotient-zero p w one4,
        ap (λ (b : Bool). is_zero (cond (not b) one4 (denom p w c k))) e ∙ one_not_zero,
      )

  -- the branch chosen
  own-used : (k : ℕ) → (by true (suc k) k ≡ quotient4 p w (multiplicity c k) (denom p w c k)) × (is_zero (denominator_by p w c true (suc k) k) ≡ is_zero (denom p w c k))
  unfolding multiplicity_by denominator_by
  own-used k =
      let e : eqb (suc k) (k + 1) ≡ true = eqb_true {a = suc k} {b = k + 1} (omega arith) in (
        ap (λ (b : Bool). quotient4 p w (cond (not b) 0 (multiplicity c k)) (cond (not b) one4 (denom p w c k))) e,
        ap (λ (b : Bool). is_zero (cond (not b) one4 (denom p w c k))) e,
      )

  branch-sum : Certificate p w → (o : Option ℕ) (n : ℕ) → ((k : ℕ) → o ≡ some k → k < n) → sum4 p (by true (branch_code o)) n ≡ branch_fraction p w c o
  branch-sum C none n h = sum_none p w C (multiplicity_by c true 0) (denominator_by p w c true 0) n (λ k l. (other_nothing 0 k (λ e. omega arith)).0)
  branch-sum C (some j) n h =
      sum-only p w C (multiplicity_by c true (suc j)) (denominator_by p w c true (suc j)) j n (h j refl) (λ k l d. (other_nothing (suc j) k (λ e. d (omega arith))).0) ∙ (own-used j).0

  branch-zero : (o : Option ℕ) (n : ℕ) → ((k : ℕ) → o ≡ some k → k < n) → cond (some_of (λ k. is_zero (denominator_by p w c true (branch_code o) k)) n) 15 0 ≡ branch_fault p w c o
  branch-zero none n h = ap (λ (b : Bool). cond b 15 0) (some_of_none (λ k. is_zero (denominator_by p w c true 0 k)) n (λ k l. (other_nothing 0 k (λ e. omega arith)).1))
  branch-zero (some j) n h =
      ap (λ (b : Bool). cond b 15 0)
      (some-only (λ k. is_zero (denominator_by p w c true (suc j) k)) j n (h j refl) (λ k l d. (other_nothing (suc j) k (λ e. d (omega arith))).1) ∙ (own-used j).1)

  pub terms_sum : Certificate p w → sum4 p (term p w c) (branches c) ≡ fraction p w c
  unfolding term term_multiplicity term_denominator branch_taken fraction exclusive_fraction additive_fraction
  terms_sum C = go (exclusive_lookup c)
    where
      o : Option ℕ
      o = chosen (flag c) (branches c)

      go : (b : Bool) → sum4 p (by b (cond b (branch_code o) 0)) (branches c) ≡ cond b (branch_fraction p w c o) (sum4 p (λ k. quotient4 p w (multiplicity c k) (used_denom p w c k)) (branches c))
      go true = branch-sum C o (branches c) (chosen-below (flag c) (branches c))
      go false = sum4_cong p (by false 0) (λ k. quotient4 p w (multiplicity c k) (used_denom p w c k)) (branches c) (λ k l. additive_by 0 k)

  -- what the code finds of the flags and the denominators gives the fault
  pub terms_fault : (over : Bool) (ones : ℕ) → over ≡ cond (exclusive_lookup c) (some_of (λ k. ltb 1 (flag c k)) (branches c)) false
      → ones ≡ cond (exclusive_lookup c) (total (λ k. bit (eqb (flag c k) 1)) (branches c)) 0 → faults over ones (some_of (λ k. is_zero (term_denominator p w c k)) (branches c)) ≡ fault p w c
  unfolding term_denominator branch_taken fault exclusive_fault additive_fault used_denom denominator_by
  terms_fault over ones eo e1 = ap₂ (λ (v : Bool) (n : ℕ). faults v n (some_of (λ k. is_zero (term_denominator p w c k)) (branches c))) eo e1 ∙ go (exclusive_lookup c)
    where
      o : Option ℕ
      o = chosen (flag c) (branches c)

      go : (b : Bool)
          → faults (cond b (some_of (λ k. ltb 1 (flag c k)) (branches c)) false) (cond b (total (λ k. bit (eqb (flag c k) 1)) (branches c)) 0)
          (some_of (λ k. is_zero (denominator_by p w c b (cond b (branch_code o) 0) k)) (branches c))
          ≡ cond b
          (cond (some_of (λ k. ltb 1 (flag c k)) (branches c)) 13 (cond (ltb 1 (total (λ k. bit (eqb (flag c k) 1)) (branches c))) 14 (branch_fault p w c o)))
          (cond (some_of (λ k. is_zero (used_denom p w c k)) (branches c)) 15 0)
      go true =
          ap (λ (n : ℕ). cond (some_of (λ k. ltb 1 (flag c k)) (branches c)) 13 (cond (ltb 1 (total (λ k. bit (eqb (flag c k) 1)) (branches c))) 14 n))
          (branch-zero o (branches c) (chosen-below (flag c) (branches c)))
      go false = refl

pub joined_same : (f g : ℕ → List ℕ) (n : ℕ) → ((k : ℕ) → k < n → f k ≡ g k) → joined f 0 n ≡ joined g 0 n
unfolding joined
joined_same f g zero e = refl
joined_same f g (suc n) e = ap₂ (λ (a b : List ℕ). a ++ b) (joined_same f g n (λ k l. e k (omega arith))) (ap f (zero-add n) ∙ e n (omega arith) ∙ ap g (sym (zero-add n)))

-- places that agree in what is read have the same terms
module _ {p w : ℕ} {c d : Place} (s : Same p w c d) where
  taken_same : branch_taken c ≡ branch_taken d
  unfolding branch_taken
  taken_same = go (exclusive_lookup d) refl
    where
      go : (b : Bool) → exclusive_lookup d ≡ b → cond (exclusive_lookup c) (branch_code (chosen (flag c) (branches c))) 0 ≡ cond (exclusive_lookup d) (branch_code (chosen (flag d) (branches d))) 0
      go true e = ap₂ (λ (b : Bool) (o : Option ℕ). cond b (branch_code o) 0) s.marks (choice s e)
      go false e = ap (λ (b : Bool). cond b (branch_code (chosen (flag c) (branches c))) 0) (s.marks ∙ e) ∙ sym (ap (λ (b : Bool). cond b (branch_code (chosen (flag d) (branches d))) 0) e)

  pub multiplicities-same : tab (term_multiplicity c) 0 (branches c) ≡ tab (term_multiplicity d) 0 (branches d)
  unfolding term_multiplicity multiplicity_by
  multiplicities-same =
      ap (tab (term_multiplicity c) 0) s.counts
      ∙ tab_cong (term_multiplicity c) (term_multiplicity d) (branches d) (λ k l j. cond (contributes_nothing (s.marks j) (taken_same j) k (s.mults k l j)) 0 (s.mults k l j))

  pub denominators_same : joined (term_denominator p w c) 0 (branches c) ≡ joined (term_denominator p w d) 0 (branches d)
  unfolding term_denominator denominator_by
  denominators_same =
      ap (joined (term_denominator p w c) 0) s.counts
      ∙ joined_same (term_denominator p w c) (term_denominator p w d) (branches d) (λ k l j. cond (contributes_nothing (s.marks j) (taken_same j) k (s.mults k l j)) one4 (s.denoms k l j))
