-- The rows of the trace, for lookups whose node values are given on each row. SPECIFICATION, section 4.4.
use Rattle.std.specs.Prelude.{ℕ, ◌+◌, ◌*◌, cond, List, ◌++◌, eqb}
use Rattle.std.proofs.Math.Option.{Option, none, some}
use Rattle.lists.specs.Count.{first, joined}
use Rattle.field.specs.Element.{element, sum4}
use Rattle.expression.specs.declared.refusal.Refusal.{Refusal}
use Rattle.expression.specs.declared.refusal.Refusal.TheVariants.{FlagNotBinary, TwoFlags, DenominatorZero}
use Rattle.lookup.specs.Lookups.{Lookups, lookup_count}
use Rattle.logup.specs.Column.{Place, fraction, fault}

-- the refusal 13, 14 or 15 with row and lookup, none at 0
unfoldable pub fault_refusal : ℕ → ℕ → ℕ → Option Refusal
fault_refusal n r i =
    cond (eqb n 13) (some (FlagNotBinary r i))
    (cond (eqb n 14) (some (TwoFlags r i))
    (cond (eqb n 15) (some (DenominatorZero r i)) none))

-- `values r` are the node values on row r
module _ (p w : ℕ) (l : Lookups) (challenges : List ℕ) (values : ℕ → List ℕ) where
  -- SPECIFICATION, section 4.1: "Those of lookup i are elements 2i (alpha) and 2i + 1 (beta)."
  unfoldable pub place : ℕ → ℕ → Place
  place r i = record { lookups = l; vals = values r; lookup = i; alpha = element challenges (2 * i); beta = element challenges (2 * i + 1) }

  -- "Element i + 1 is the fraction of lookup i on this row."
  unfoldable pub fraction_at : ℕ → ℕ → List ℕ
  fraction_at r i = fraction p w (place r i)

  unfoldable pub row_sum : ℕ → List ℕ
  row_sum r = sum4 p (fraction_at r) (lookup_count l.lookups)

  -- "Element 0 is the accumulator: the sum of all fractions of the rows before it, so zero on row 0." In Haböck's paper the running sum of
  -- the fractions.
  unfoldable pub accumulator : ℕ → List ℕ
  accumulator r = sum4 p row_sum r

  unfoldable pub row_words : ℕ → List ℕ
  row_words r = accumulator r ++ joined (fraction_at r) 0 (lookup_count l.lookups)

  -- "the first by row, then by lookup": 13, 14, 15 with row, lookup
  unfoldable pub fault_at : ℕ → ℕ → Option Refusal
  fault_at r i = fault_refusal (fault p w (place r i)) r i

  unfoldable pub row_fault : ℕ → Option Refusal
  row_fault r = first (fault_at r) (lookup_count l.lookups)

  -- SPECIFICATION, section 4.5: the used part "holds the trace, row by row"
  unfoldable pub trace : ℕ → List ℕ
  trace height = joined row_words 0 height

  unfoldable pub first_fault : ℕ → Option Refusal
  first_fault height = first row_fault height

-- how many words the used part has
unfoldable pub used : List ℕ → ℕ → ℕ
used lookups height = height * (lookup_count lookups + 1) * 4
