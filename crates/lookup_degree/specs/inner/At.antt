-- Degrees by number, as the code's loops make them.
use Rattle.std.specs.Prelude.{List, cond, ℕ, ◌+◌, ◌-◌, ◌<◌, ◌≤◌, max, take, drop}
use Rattle.lists.specs.Count.{total}
use Rattle.expression.specs.Words.{word}
use Rattle.lookup.specs.Lookups.{lookup_count, exclusive, tuple_count, tuple_start, multiplicity_start, flag_start, element_start}
use Rattle.lookup_degree.specs.Sums.{greatest}
use Rattle.lookup_degree.specs.Degree.{tuple_degree}

-- the degree of the table's tuple j; `deg` is the nodes' degree
unfoldable pub tuple_degree_at : (ℕ → ℕ) → List ℕ → List ℕ → ℕ → ℕ
tuple_degree_at deg tuples elements j = tuple_degree deg (take (word tuples j) (drop (element_start tuples j) elements))

-- lookup i, from the degrees of all tuples
unfoldable pub denominator_at : List ℕ → List ℕ → ℕ → ℕ
denominator_at tuples lookups i = total (λ k. word tuples (tuple_start lookups i + k)) (tuple_count lookups i)

-- and from the degrees of all nodes
module _ (nodes tuples lookups : List ℕ) where
  unfoldable pub numerator_at : List ℕ → ℕ → ℕ
  numerator_at multiplicities i =
      greatest (λ k. word nodes (word multiplicities (multiplicity_start lookups i + k)) + (denominator_at tuples lookups i - word tuples (tuple_start lookups i + k))) (tuple_count lookups i)

  unfoldable pub additive_at : List ℕ → ℕ → ℕ
  additive_at multiplicities i = max (1 + denominator_at tuples lookups i) (numerator_at multiplicities i)

  unfoldable pub exclusive_at : List ℕ → List ℕ → ℕ → ℕ
  exclusive_at multiplicities flags i =
      max (1 + greatest (λ k. word nodes (word flags (flag_start lookups i + k)) + word tuples (tuple_start lookups i + k)) (tuple_count lookups i))
      (greatest (λ k. word nodes (word flags (flag_start lookups i + k)) + word nodes (word multiplicities (multiplicity_start lookups i + k))) (tuple_count lookups i))

  unfoldable pub lookup_degree_at : List ℕ → List ℕ → ℕ → ℕ
  lookup_degree_at multiplicities flags i = cond (exclusive lookups i) (exclusive_at multiplicities flags i) (additive_at multiplicities i)

-- no more than 64 of each come before and in lookup i
pub record FewUpTo (lookups : List ℕ) (i : ℕ) : Type 0 where
  pub in_list : i < lookup_count lookups
  pub few : lookup_count lookups ≤ 64
  pub tuples : tuple_start lookups i + tuple_count lookups i ≤ 64
  pub multiplicities : multiplicity_start lookups i ≤ 64
  pub flags : flag_start lookups i ≤ 64
