-- The terms of a lookup's tuples in its fraction on a row: a multiplicity and a denominator for each, by one rule for additive and
-- exclusive lookups. The fraction is the sum of their quotients (laws/Terms).
use Rattle.std.specs.Prelude.{Bool, cond, not, List, ℕ, ◌+◌, eqb}
use Rattle.field.specs.Element.{one4}
use Rattle.lookup.specs.Lookups.{exclusive}
use Rattle.logup.specs.Tuple.{quotient4}
use Rattle.logup.specs.Column.{Place, branches, multiplicity, flag, chosen, denom}
use Rattle.logup_column.specs.inner.Own.{branch_code}

-- whether tuple k with multiplicity m contributes nothing: in an exclusive lookup where another branch is chosen, or none (`branch` is the
-- number of the one chosen plus 1), in an additive one where m is 0
abbrev pub contributes_nothing : Bool → ℕ → ℕ → ℕ → Bool
contributes_nothing ex branch k m = cond ex (not (eqb branch (k + 1))) (eqb m 0)

-- a tuple that contributes nothing has 0 ÷ 1
unfoldable pub multiplicity_by : Place → Bool → ℕ → ℕ → ℕ
multiplicity_by c ex branch k = cond (contributes_nothing ex branch k (multiplicity c k)) 0 (multiplicity c k)

unfoldable pub denominator_by : ℕ → ℕ → Place → Bool → ℕ → ℕ → List ℕ
denominator_by p w c ex branch k = cond (contributes_nothing ex branch k (multiplicity c k)) one4 (denom p w c k)

abbrev pub exclusive_lookup : Place → Bool
exclusive_lookup c = exclusive c.lookups.lookups c.lookup

-- the branch chosen plus 1; 0 for none, and in an additive lookup
unfoldable pub branch_taken : Place → ℕ
branch_taken c = cond (exclusive_lookup c) (branch_code (chosen (flag c) (branches c))) 0

unfoldable pub term_multiplicity : Place → ℕ → ℕ
term_multiplicity c k = multiplicity_by c (exclusive_lookup c) (branch_taken c) k

unfoldable pub term_denominator : ℕ → ℕ → Place → ℕ → List ℕ
term_denominator p w c k = denominator_by p w c (exclusive_lookup c) (branch_taken c) k

unfoldable pub term : ℕ → ℕ → Place → ℕ → List ℕ
term p w c k = quotient4 p w (term_multiplicity c k) (term_denominator p w c k)
