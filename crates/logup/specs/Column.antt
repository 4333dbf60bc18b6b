-- A lookup on one row: its fraction, and refusals 13 to 15. SPECIFICATION, section 4.3.
use Rattle.std.specs.Prelude.{ℕ, zero, suc, cond, List, eqb, ltb}
use Rattle.std.proofs.Math.Option.{Option, none, some}
use Rattle.lists.specs.Count.{total, some_of}
use Rattle.field.specs.Element.{zero4, one4, is_zero, sum4}
use Rattle.expression.specs.Words.{word}
use Rattle.expression.specs.Values.{bit}
use Rattle.lookup.specs.Lookups.{Lookups, exclusive, tuple_count, multiplicity_node, flag_node}
use Rattle.logup.specs.Tuple.{tuple, denominator, quotient4}

-- a lookup on a row: the table's lookups, the values of its nodes on the row, the lookup's number, its alpha and its beta
pub record Place : Type 0 where
  pub lookups : Lookups
  pub vals : List ℕ
  pub lookup : ℕ
  pub alpha : List ℕ
  pub beta : List ℕ

unfoldable pub branches : Place → ℕ
branches c = tuple_count c.lookups.lookups c.lookup

unfoldable pub multiplicity : Place → ℕ → ℕ
multiplicity c k = word c.vals (multiplicity_node c.lookups c.lookup k)

unfoldable pub flag : Place → ℕ → ℕ
flag c k = word c.vals (flag_node c.lookups c.lookup k)

-- the branch whose flag is 1, of the first n (the last, were there two)
unfoldable pub chosen : (ℕ → ℕ) → ℕ → Option ℕ
chosen flags zero = none
chosen flags (suc k) = cond (eqb (flags k) 1) (some k) (chosen flags k)

module _ (p w : ℕ) (c : Place) where
  unfoldable pub denom : ℕ → List ℕ
  denom k = denominator p w c.alpha c.beta (tuple c.lookups c.vals c.lookup k)

  -- "where m is 0 the denominator counts as 1"
  unfoldable pub used_denom : ℕ → List ℕ
  used_denom k = cond (eqb (multiplicity c k) 0) one4 (denom k)

  -- additive: "the sum of m ÷ d over its tuples"; "A lookup without tuples has the fraction 0". In Haböck's paper, section 3.4, a sum of
  -- m(x) ÷ (X - t(x)).
  unfoldable pub additive_fraction : List ℕ
  additive_fraction = sum4 p (λ k. quotient4 p w (multiplicity c k) (used_denom k)) (branches c)

  -- refusal 15: "a denominator that is used is 0"
  unfoldable pub additive_fault : ℕ
  additive_fault = cond (some_of (λ k. is_zero (used_denom k)) (branches c)) 15 0

  -- exclusive: "m ÷ d of the branch whose flag is 1, also where m is 0; 0 where no flag is 1"
  abbrev pub branch_fraction : Option ℕ → List ℕ
  branch_fraction none = zero4
  branch_fraction (some k) = quotient4 p w (multiplicity c k) (denom k)

  unfoldable pub exclusive_fraction : List ℕ
  exclusive_fraction = branch_fraction (chosen (flag c) (branches c))

  abbrev pub branch_fault : Option ℕ → ℕ
  branch_fault none = 0
  branch_fault (some k) = cond (is_zero (denom k)) 15 0

  -- "13 where a flag is neither 0 nor 1; else 14 where two are 1; else 15 where the chosen branch has d = 0"
  unfoldable pub exclusive_fault : ℕ
  exclusive_fault =
      cond (some_of (λ k. ltb 1 (flag c k)) (branches c)) 13
      (cond (ltb 1 (total (λ k. bit (eqb (flag c k) 1)) (branches c))) 14
      (branch_fault (chosen (flag c) (branches c))))

  unfoldable pub fraction : List ℕ
  fraction = cond (exclusive c.lookups.lookups c.lookup) exclusive_fraction additive_fraction

  -- 13, 14, 15, or 0 where there is none
  unfoldable pub fault : ℕ
  fault = cond (exclusive c.lookups.lookups c.lookup) exclusive_fault additive_fault
