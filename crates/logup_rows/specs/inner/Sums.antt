-- Rows of the trace from a list of quotients, four words each, one for each tuple of each row.
use Rattle.std.specs.Prelude.{◌≡◌, List, ◌++◌, ℕ, zero, suc, ◌+◌, ◌*◌, ◌<◌}
use Rattle.lists.specs.Count.{joined}
use Rattle.field.specs.inner.Requires.{KnownPrime}
use Rattle.field.specs.Element.{at, Word4, add4, sum4, element}
use Rattle.lookup.specs.Lookups.{lookup_count, tuple_count, tuple_start}

-- words below p
pub record Quotients (p : ℕ) (quotients : List ℕ) : Type 0 where
  pub modulus : KnownPrime p
  pub below : (k : ℕ) → at quotients k < p

-- the sum of n quotients from quotient a on
unfoldable pub sum_from : ℕ → List ℕ → ℕ → ℕ → List ℕ
sum_from p quotients a n = sum4 p (λ k. element quotients (a + k)) n

-- lookup i's fraction, where the row's quotients begin at a
unfoldable pub fraction_in : ℕ → List ℕ → List ℕ → ℕ → ℕ → List ℕ
fraction_in p lookups quotients a i = sum_from p quotients (a + tuple_start lookups i) (tuple_count lookups i)

unfoldable pub row_sum_in : ℕ → List ℕ → List ℕ → ℕ → List ℕ
row_sum_in p lookups quotients a = sum4 p (fraction_in p lookups quotients a) (lookup_count lookups)

-- the accumulator on row j, from that before row 0; a row has `size` quotients
unfoldable pub running : ℕ → List ℕ → List ℕ → ℕ → List ℕ → ℕ → List ℕ
running p lookups quotients size before zero = before
running p lookups quotients size before (suc j) = add4 p (running p lookups quotients size before j) (row_sum_in p lookups quotients (j * size))

-- row j: its accumulator and its fractions
unfoldable pub row_in : ℕ → List ℕ → List ℕ → ℕ → List ℕ → ℕ → List ℕ
row_in p lookups quotients size before j = running p lookups quotients size before j ++ joined (fraction_in p lookups quotients (j * size)) 0 (lookup_count lookups)

-- a row that was written after the accumulator: the sum of its fractions, and its words
pub record RowWritten (p : ℕ) (lookups quotients : List ℕ) (start : ℕ) (accumulator sum out : List ℕ) : Type 0 where
  pub below : Word4 p sum
  pub sum≡ : sum ≡ row_sum_in p lookups quotients start
  pub words≡ : out ≡ accumulator ++ joined (fraction_in p lookups quotients start) 0 (lookup_count lookups)

-- k rows that were written: the accumulator after them, and their words
pub record RowsWritten (p : ℕ) (lookups quotients : List ℕ) (size : ℕ) (before : List ℕ) (k : ℕ) (accumulator out : List ℕ) : Type 0 where
  pub below : Word4 p accumulator
  pub accumulator≡ : accumulator ≡ running p lookups quotients size before k
  pub words≡ : out ≡ joined (row_in p lookups quotients size before) 0 k
