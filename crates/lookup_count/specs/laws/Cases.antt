-- Counts of small numbers and of the least one in each field, the refusals of a count and of a negation, and unknown choices, as one table
-- with one theorem.
use Rattle.std.specs.Prelude.{List, [], ◌∷◌, ◌++◌, ℕ, T, ℤ, pos, negsuc}
use Rattle.lists.specs.Same.{same_list}
use Rattle.lists.specs.Cases.{Case, hold}
use Rattle.field.specs.Word.{neg_m}
use Rattle.field.specs.Known.{known_field, prime_of}
use Rattle.expression.specs.Limits.{cabinet}
use Rattle.expression.specs.Choices.{choices_of, known, limits_of}
use Rattle.lookup_count.specs.Count.{count_refusal, negation_refusal, count_of, from_i32, negated, from_i32_at, negated_at, CountNumbers, in_numbers}

-- the number and the three details of the answer, the count's node and weight, and the lent list afterwards
abbrev pub told : CountNumbers → List ℕ
told n = n.answer.number ∷ (n.answer.details ++ (n.count.node ∷ n.count.weight ∷ n.nodes))

-- a count of the number z in an empty table with room for one node
abbrev pub counting : ℕ → ℕ → ℤ → List ℕ
counting field profile z = told (in_numbers (from_i32_at (choices_of field profile) (7 ∷ 7 ∷ 7 ∷ []) 0 z))

-- the negation of a node of weight 4, in a table of one node with room for two
abbrev pub negating : ℕ → ℕ → ℕ → List ℕ
negating field profile node = told (in_numbers (negated_at (choices_of field profile) (0 ∷ 1 ∷ 0 ∷ 7 ∷ 7 ∷ 7 ∷ []) 1 (count_of node 4)))

pub cases : List Case
cases =
    -- counts: 5, -1, and the least i32
    record { computed = counting 1 1 (pos 5); expected = 0 ∷ 0 ∷ 0 ∷ 0 ∷ 0 ∷ 5 ∷ 0 ∷ 5 ∷ 0 ∷ [] }
    ∷ record { computed = counting 1 1 (negsuc 0); expected = 0 ∷ 0 ∷ 0 ∷ 0 ∷ 0 ∷ 1 ∷ 0 ∷ 2013265920 ∷ 0 ∷ [] }
    ∷ record { computed = counting 1 1 (negsuc 2147483647); expected = 0 ∷ 0 ∷ 0 ∷ 0 ∷ 0 ∷ 2147483648 ∷ 0 ∷ 1879048194 ∷ 0 ∷ [] }
    -- in field 2: the least i32; and the prime of field 1, which is 0 in field 1 alone
    ∷ record { computed = counting 2 1 (negsuc 2147483647); expected = 0 ∷ 0 ∷ 0 ∷ 0 ∷ 0 ∷ 2147483648 ∷ 0 ∷ 2113929218 ∷ 0 ∷ [] }
    ∷ record { computed = counting 2 1 (pos 2013265921); expected = 0 ∷ 0 ∷ 0 ∷ 0 ∷ 0 ∷ 2013265921 ∷ 0 ∷ 2013265921 ∷ 0 ∷ [] }
    ∷ record { computed = counting 1 1 (pos 2013265921); expected = 0 ∷ 0 ∷ 0 ∷ 0 ∷ 0 ∷ 2013265921 ∷ 0 ∷ 0 ∷ 0 ∷ [] }
    -- no room for a node
    ∷ record { computed = told (in_numbers (from_i32_at (choices_of 1 1) (7 ∷ 7 ∷ 7 ∷ []) 1 (pos 5))); expected = 1 ∷ 0 ∷ 0 ∷ 0 ∷ 0 ∷ 0 ∷ 7 ∷ 7 ∷ 7 ∷ [] }
    -- the negation of a node that is not there, and of node 0
    ∷ record { computed = negating 1 1 1; expected = 3 ∷ 0 ∷ 0 ∷ 0 ∷ 0 ∷ 0 ∷ 0 ∷ 1 ∷ 0 ∷ 7 ∷ 7 ∷ 7 ∷ [] }
    ∷ record { computed = negating 1 1 0; expected = 0 ∷ 0 ∷ 0 ∷ 0 ∷ 1 ∷ 4 ∷ 0 ∷ 1 ∷ 0 ∷ 12 ∷ 0 ∷ 0 ∷ [] }
    -- an unknown field, an unknown profile: 1, also where 3 would follow
    ∷ record { computed = counting 3 1 (pos 5); expected = 1 ∷ 0 ∷ 0 ∷ 0 ∷ 0 ∷ 0 ∷ 7 ∷ 7 ∷ 7 ∷ [] }
    ∷ record { computed = counting 1 3 (pos 5); expected = 1 ∷ 0 ∷ 0 ∷ 0 ∷ 0 ∷ 0 ∷ 7 ∷ 7 ∷ 7 ∷ [] }
    ∷ record { computed = negating 0 1 1; expected = 1 ∷ 0 ∷ 0 ∷ 0 ∷ 0 ∷ 0 ∷ 0 ∷ 1 ∷ 0 ∷ 7 ∷ 7 ∷ 7 ∷ [] }
    ∷ []

-- each case computes to what is expected
pub cases-hold : T (hold cases)
unfolding cases cabinet known_field prime_of known limits_of neg_m count_refusal negation_refusal from_i32 negated from_i32_at negated_at in_numbers same_list
cases-hold = tt
