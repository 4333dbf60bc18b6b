-- The rows' constraints hold exactly where the needed columns hold the generated trace and the terminal is the generated one.
use Rattle.std.specs.Prelude.{◌≡◌, ◌↔◌, true, List}
use Rattle.std.proofs.Math.Path.{refl, sym, ap, ap₂}
use Rattle.std.proofs.Common.{◌∙◌, add-one}
use Rattle.std.proofs.Math.Option.{none}
use Prim.Native.Nat.{ℕ, zero, suc, ◌+◌, ◌<◌}
use native.Mathlib.Omega.{arith}
use Rattle.field.specs.Element.{zero4, add4, sum4, element, is_zero}
use Rattle.field.specs.Modulus.{Modulus, Certificate}
use Rattle.field.specs.Extension.{el}
use Rattle.field.proofs.laws.Element.{sum4_cong}
use Rattle.expression.specs.Requires.{Below}
use Rattle.lookup.specs.Lookups.{Lookups, lookup_count}
use Rattle.logup.specs.Column.{Place}
use Rattle.logup.specs.Rows.{place, fraction_at, row_sum, accumulator}
use Rattle.logup.specs.Constraints.{cell, cell_sum, lookup_constraint, step, binding, rows_verdict, Regular, IsGenerated}
use Rattle.logup.specs.Ledger.{Element}
use Rattle.theorems_soundness.specs.Vanishing.{RowVanishes, Vanishes}
use Rattle.theorems_soundness.proofs.laws.Vanishing.{passes_exactly}
use Rattle.theorems_soundness.proofs.laws.Setting.{same_of_el}
use Rattle.theorems_soundness.proofs.laws.Elements.{element-sum, zero_iff}
use Rattle.theorems_soundness.proofs.laws.Fractions.{fraction_constraint, step_iff}

module _ (p w : ℕ) (M : Modulus p) (C : Certificate p w) (l : Lookups) (challenges : List ℕ) (values : ℕ → List ℕ) (height width : ℕ) (words e : List ℕ) where
  abbrev n : ℕ
  n = lookup_count l.lookups

  abbrev at_cell : ℕ → ℕ → List ℕ
  at_cell = cell p w l challenges values width words e

  abbrev acc : ℕ → List ℕ
  acc = accumulator p w l challenges values

  abbrev frac : ℕ → ℕ → List ℕ
  frac = fraction_at p w l challenges values

  abbrev sums : ℕ → List ℕ
  sums = row_sum p w l challenges values

  abbrev cells : ℕ → List ℕ
  cells = cell_sum p w l challenges values width words e

  abbrev spot : ℕ → ℕ → Place
  spot = place p w l challenges values

  abbrev by_lookup : ℕ → ℕ → List ℕ
  by_lookup = lookup_constraint p w l challenges values width words e

  abbrev by_step : ℕ → List ℕ
  by_step = step p w l challenges values width words e

  abbrev by_terminal : ℕ → List ℕ
  by_terminal = binding p w l challenges values width words e

  abbrev Generated : Type 0
  Generated = IsGenerated p w l challenges values height width words e

  acc-element : (r : ℕ) → Element p (acc r)
  unfolding accumulator
  acc-element r = element-sum p w C sums r

  acc-zero : acc 0 ≡ zero4
  unfolding accumulator sum4
  acc-zero = refl

  acc-next : (r : ℕ) → acc (suc r) ≡ add4 p (acc r) (sums r)
  unfolding accumulator sum4
  acc-next r = refl

  abbrev RowHolds : ℕ → Type 0
  RowHolds = RowVanishes p w l challenges values height width words e

  module _ (small : Below p words) (ee : Element p e) (some_rows : 0 < height)
      (regular : (r i : ℕ) → r < height → i < n → Regular p w (spot r i)) where
    cell-element : (r i : ℕ) → Element p (at_cell r i)
    unfolding cell element
    cell-element r i = record { four = refl; below = record { w0 = small.each _; w1 = small.each _; w2 = small.each _; w3 = small.each _ } }

    fraction_iff : (r i : ℕ) → r < height → i < n → (is_zero (by_lookup r i) ≡ true) ↔ (at_cell r (i + 1) ≡ frac r i)
    unfolding lookup_constraint fraction_at
    fraction_iff r i l k = fraction_constraint p w M C (spot r i) (regular r i l k) (at_cell r (i + 1)) (cell-element r (i + 1))

    sum_at : (r : ℕ) → ((i : ℕ) → i < n → at_cell r (i + 1) ≡ frac r i) → cells r ≡ sums r
    unfolding cell_sum row_sum
    sum_at r same = sum4_cong p (λ i. at_cell r (i + 1)) (frac r) n same

    -- only the generated trace passes
    module _ (holds : (r : ℕ) → r < height → RowHolds r) where
      same-fraction : (r i : ℕ) → r < height → i < n → at_cell r (i + 1) ≡ frac r i
      same-fraction r i l k = (fraction_iff r i l k).0 ((holds r l).lookups i k)

      same-accumulator : (r : ℕ) → r < height → at_cell r 0 ≡ acc r
      unfolding step
      same-accumulator zero l =
          same_of_el p w C (at_cell 0 0) (acc 0) (cell-element 0 0) (acc-element 0)
          ((zero_iff p w C (at_cell 0 0) (cell-element 0 0)).0 ((holds 0 l).starts refl) ∙ ap (el p w C) (sym acc-zero))
      same-accumulator (suc r) l =
          let k : r < height = omega arith in
          ap (λ (n : ℕ). at_cell n 0) (sym (add-one r))
          ∙ (step_iff p w M C (at_cell (r + 1) 0) (at_cell r 0) (cells r) (cell-element (r + 1) 0)).0 ((holds r k).steps (omega arith))
          ∙ ap₂ (add4 p) (same-accumulator r k) (sum_at r (λ i q. same-fraction r i k q)) ∙ sym (acc-next r)

      same-terminal : (n : ℕ) → height ≡ suc n → e ≡ acc (height)
      unfolding binding
      same-terminal n q =
          let k : n < height = omega arith in
          (step_iff p w M C e (at_cell n 0) (cells n) ee).0 ((holds n k).ends (omega arith))
          ∙ ap₂ (add4 p) (same-accumulator n k) (sum_at n (λ i l. same-fraction n i k l)) ∙ sym (acc-next n) ∙ ap acc (sym q)

      only : (n : ℕ) → height ≡ suc n → Generated
      only n q = record { accumulators = same-accumulator; fractions = same-fraction; last = same-terminal n q }

    -- the generated trace passes
    module _ (g : Generated) where
      generated-holds : (r : ℕ) → r < height → RowHolds r
      unfolding step binding
      generated-holds r l =
          record {
            lookups = λ i k. (fraction_iff r i l k).1 (g.fractions r i l k);
            starts = λ z. (zero_iff p w C (at_cell r 0) (cell-element r 0)).1 (ap (el p w C) (g.accumulators r l ∙ ap acc z ∙ acc-zero));
            steps =
                λ k. (step_iff p w M C (at_cell (r + 1) 0) (at_cell r 0) (cells r) (cell-element (r + 1) 0)).1
                (g.accumulators (r + 1) k ∙ next);
            ends =
                λ k. let q : height ≡ r + 1 = omega arith in
                (step_iff p w M C e (at_cell r 0) (cells r) ee).1 (g.last ∙ ap acc q ∙ next);
          }
        where
          next : acc (r + 1) ≡ add4 p (at_cell r 0) (cells r)
          next =
              ap acc (add-one r) ∙ acc-next r
              ∙ sym (ap₂ (add4 p) (g.accumulators r l) (sum_at r (λ i k. g.fractions r i l k)))

    -- the rows pass exactly where the trace and the terminal are the generated ones
    pub exactly_generated : (rows_verdict p w l challenges values width words e height ≡ none) ↔ Generated
    exactly_generated = (λ v. split height refl (vanish.0 v), λ g. vanish.1 (generated-holds g))
      where
        vanish : (rows_verdict p w l challenges values width words e height ≡ none) ↔ Vanishes p w l challenges values height width words e
        vanish = passes_exactly p w l challenges values height width words e

        split : (n : ℕ) → height ≡ n → Vanishes p w l challenges values height width words e → Generated
        split zero q v = absurd (omega arith)
        split (suc n) q v = only v n q
