-- The degree of a lookup's constraint (`constraint_degree_with_transition`), from the degrees of its nodes. SPECIFICATION, section 6.1.
use Rattle.std.specs.Prelude.{cond, ℕ, ◌+◌, ◌-◌, max}
use mathlib.Core.List.{List, zip_with}
use Rattle.expression.specs.Words.{word}
use Rattle.expression.specs.Node.{node_count}
use Rattle.expression.specs.Degree.{degrees}
use Rattle.lookup.specs.Lookups.{Lookup}
use Rattle.lookup_degree.specs.Sums.{sum_of, largest_of}

-- the degree of each node at a transition degree t
abbrev pub node_degrees : ℕ → List ℕ → ℕ → ℕ
node_degrees t nodes = word (degrees t nodes (node_count nodes))

-- `deg` is the nodes' degree. d_j: the largest degree of a tuple's elements, 0 of the empty tuple
unfoldable pub tuple_degree : (ℕ → ℕ) → List ℕ → ℕ
tuple_degree deg t = largest_of deg t

-- the product of the denominators: the sum of the d_j
unfoldable pub denominator_degree : (ℕ → ℕ) → Lookup → ℕ
denominator_degree deg l = sum_of (tuple_degree deg) l.tuples

-- a term of the numerator: the multiplicity m_i and all denominators, of degree d in all, but its own
abbrev pub term_degree : (ℕ → ℕ) → ℕ → ℕ → List ℕ → ℕ
term_degree deg d m t = deg m + (d - tuple_degree deg t)

unfoldable pub numerator_degree : (ℕ → ℕ) → Lookup → ℕ
numerator_degree deg l = largest_of (λ n. n) (zip_with (term_degree deg (denominator_degree deg l)) l.multiplicities l.tuples)

-- common denominator × fraction - numerator: max(1 + sum of the d_j, max over i of m_i + the other d_j)
unfoldable pub additive_degree : (ℕ → ℕ) → Lookup → ℕ
additive_degree deg l = max (1 + denominator_degree deg l) (numerator_degree deg l)

-- The denominator is the sum of flag × denominator, and of 1 - flag; the numerator that of flag × multiplicity:
-- max(1 + max over k of flag_k + d_k, max over k of flag_k + m_k). The flag alone is never of a larger degree than with its denominator.
unfoldable pub exclusive_degree : (ℕ → ℕ) → Lookup → ℕ
exclusive_degree deg l =
    max (1 + largest_of (λ n. n) (zip_with (λ f t. deg f + tuple_degree deg t) l.flags l.tuples))
    (largest_of (λ n. n) (zip_with (λ f m. deg f + deg m) l.flags l.multiplicities))

unfoldable pub lookup_degree : (ℕ → ℕ) → Lookup → ℕ
lookup_degree deg l = cond l.exclusive (exclusive_degree deg l) (additive_degree deg l)
