-- The terms of a row's lookups, one lookup after the other: the multiplicities, and the denominators of four words each.
use Rattle.std.specs.Prelude.{◌≡◌, List, ℕ}
use Rattle.lists.specs.Count.{joined}
use Rattle.lists.specs.Tab.{tab}
use Rattle.expression.specs.Refusal.{refusal}
use Rattle.expression.specs.Refusal.{Verdict}
use Rattle.lookup.specs.Lookups.{Lookups, lookup_count, tuple_count}
use Rattle.logup.specs.Rows.{place, row_fault}
use Rattle.logup_column.specs.inner.Terms.{term_multiplicity, term_denominator}

-- `values r` are the node values on row r
module _ (p w : ℕ) (l : Lookups) (challenges : List ℕ) (values : ℕ → List ℕ) where
  unfoldable pub lookup_multiplicities : ℕ → ℕ → List ℕ
  lookup_multiplicities r i = tab (term_multiplicity (place p w l challenges values r i)) 0 (tuple_count l.lookups i)

  unfoldable pub lookup_denominators : ℕ → ℕ → List ℕ
  lookup_denominators r i = joined (term_denominator p w (place p w l challenges values r i)) 0 (tuple_count l.lookups i)

  unfoldable pub row_multiplicities : ℕ → List ℕ
  row_multiplicities r = joined (lookup_multiplicities r) 0 (lookup_count l.lookups)

  unfoldable pub row_denominators : ℕ → List ℕ
  row_denominators r = joined (lookup_denominators r) 0 (lookup_count l.lookups)

  -- what row r gives: its first fault, and its terms
  pub record RowTerms (r : ℕ) (v : Verdict) (multiplicities denominators : List ℕ) : Type 0 where
    pub fault≡ : refusal v ≡ row_fault p w l challenges values r
    pub multiplicities≡ : multiplicities ≡ row_multiplicities r
    pub denominators≡ : denominators ≡ row_denominators r

  -- the terms of k rows from row `from` on
  pub record RunTerms (from k : ℕ) (multiplicities denominators : List ℕ) : Type 0 where
    pub multiplicities≡ : multiplicities ≡ joined row_multiplicities from k
    pub denominators≡ : denominators ≡ joined row_denominators from k
