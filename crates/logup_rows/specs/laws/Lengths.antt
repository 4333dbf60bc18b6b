-- How many words fractions, sums and terms have.
use Rattle.std.specs.Prelude.{◌≡◌, refl, Bool, true, false, cond, List, ℕ, ◌+◌, ◌*◌, length}
use Rattle.std.proofs.Math.Option.{Option, none, some}
use Rattle.std.proofs.Common.{arith, length-append}
use Rattle.lists.specs.Count.{joined}
use Rattle.lists.specs.laws.Tab.{tab-length}
use Rattle.field.specs.Element.{one4, inverse4}
use Rattle.field.proofs.laws.Element.{four-sub4, four-scale4, four-sum4}
use Rattle.lookup.specs.Lookups.{Lookups, lookup_count, exclusive, tuple_count}
use Rattle.logup.specs.Tuple.{tuple, combine, denominator, quotient4}
use Rattle.logup.specs.Column.{Place, branches, multiplicity, flag, denom, used_denom, chosen, branch_fraction, exclusive_fraction, additive_fraction, fraction}
use Rattle.logup.specs.Rows.{place, fraction_at, row_sum, accumulator, row_words}
use Rattle.lists.specs.laws.Joined.{joined_length}
use Rattle.logup_column.specs.inner.Terms.{contributes_nothing, exclusive_lookup, denominator_by, branch_taken, term_multiplicity, term_denominator}
use Rattle.logup_rows.specs.inner.Terms.{lookup_multiplicities, lookup_denominators}

-- a fraction is four words
option_four : (p w : ℕ) (c : Place) (o : Option ℕ) → length (branch_fraction p w c o) ≡ 4
unfolding quotient4
option_four p w c none = refl
option_four p w c (some k) = four-scale4 p (multiplicity c k) (inverse4 p w (denom p w c k))

cond-four : (b : Bool) (x y : List ℕ) → length x ≡ 4 → length y ≡ 4 → length (cond b x y) ≡ 4
cond-four true x y h k = h
cond-four false x y h k = k

fraction-four : (p w : ℕ) (c : Place) → length (fraction p w c) ≡ 4
unfolding fraction exclusive_fraction additive_fraction
fraction-four p w c =
    cond-four (exclusive c.lookups.lookups c.lookup) _ _ (option_four p w c (chosen (flag c) (branches c))) (four-sum4 p (λ k. quotient4 p w (multiplicity c k) (used_denom p w c k)) (branches c))

pub fractions-length : (p w : ℕ) (l : Lookups) (cs : List ℕ) (values : ℕ → List ℕ) (r n : ℕ) → length (joined (fraction_at p w l cs values r) 0 n) ≡ 4 * n
unfolding fraction_at
fractions-length p w l cs values r n = joined_length (fraction_at p w l cs values r) 4 n (λ i. fraction-four p w (place p w l cs values r i))

-- a row is its accumulator and its fractions
pub row-length : (p w : ℕ) (l : Lookups) (cs : List ℕ) (values : ℕ → List ℕ) (r : ℕ) → length (row_words p w l cs values r) ≡ 4 * lookup_count l.lookups + 4
unfolding row_words accumulator
row-length p w l cs values r =
    simp length-append (omega (arith, four-sum4 p (row_sum p w l cs values) r, fractions-length p w l cs values r (lookup_count l.lookups)))

-- a lookup has a multiplicity and a denominator for each tuple
pub term-four : (p w : ℕ) (c : Place) (k : ℕ) → length (term_denominator p w c k) ≡ 4
unfolding term_denominator denominator_by denom denominator
term-four p w c k = cond-four (contributes_nothing (exclusive_lookup c) (branch_taken c) k (multiplicity c k)) one4 (denominator p w c.alpha c.beta (tuple c.lookups c.vals c.lookup k)) refl
    (four-sub4 p c.alpha (combine p w c.beta (tuple c.lookups c.vals c.lookup k)))

module _ (p w : ℕ) (l : Lookups) (cs : List ℕ) (values : ℕ → List ℕ) (r i : ℕ) where
  pub multiplicities-length : length (lookup_multiplicities p w l cs values r i) ≡ tuple_count l.lookups i
  unfolding lookup_multiplicities
  multiplicities-length = tab-length (term_multiplicity (place p w l cs values r i)) 0 (tuple_count l.lookups i)

  pub denominators_length : length (lookup_denominators p w l cs values r i) ≡ 4 * tuple_count l.lookups i
  unfolding lookup_denominators
  denominators_length = joined_length (term_denominator p w (place p w l cs values r i)) 4 (tuple_count l.lookups i) (term-four p w (place p w l cs values r i))
