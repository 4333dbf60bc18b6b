-- The worked case c11 of SPECIFICATION, section 12.1, and its example of refusal 12, with some that show the readings, the second field and
-- unknown choices, as one table with one theorem.
use Rattle.std.specs.Prelude.{List, [], ◌∷◌, ◌++◌, ℕ, T}
use Rattle.lists.specs.Count.{every, joined}
use Rattle.lists.specs.Same.{same_list}
use Rattle.lists.specs.Cases.{Case, hold}
use Rattle.field.specs.Word.{add_m, mul_m}
use Rattle.field.specs.Element.{add4, mul4, scale4, power4}
use Rattle.field.specs.Known.{known_field, prime_of, w_of}
use Rattle.expression.specs.Words.{all_below}
use Rattle.expression.specs.Limits.{cabinet}
use Rattle.expression.specs.Choices.{choices_of, known, limits_of}
use Rattle.lookup_challenges.specs.Prefixes.{prefix_by, prefixes_fit, prefixes_refusal, Outcome, prefixes, prefixes_at}

-- the number and the three details of the answer, and the lent list afterwards
abbrev pub told : Outcome → List ℕ
told o = o.answer.number ∷ (o.answer.details ++ o.out)

-- the lent list is nine words 5
abbrev pub nine : List ℕ
nine = 5 ∷ 5 ∷ 5 ∷ 5 ∷ 5 ∷ 5 ∷ 5 ∷ 5 ∷ 5 ∷ []

-- n prefixes for alpha 1 and beta 2
abbrev pub prefixed : ℕ → ℕ → List ℕ
prefixed width n = told (prefixes_at (choices_of 1 1) (1 ∷ 0 ∷ 0 ∷ 0 ∷ []) (2 ∷ 0 ∷ 0 ∷ 0 ∷ []) width n nine)

-- two prefixes for alpha a number, beta X and W 4
abbrev pub fourth : ℕ → ℕ → ℕ → List ℕ
fourth field profile alpha = told (prefixes_at (choices_of field profile) (alpha ∷ 0 ∷ 0 ∷ 0 ∷ []) (0 ∷ 1 ∷ 0 ∷ 0 ∷ []) 4 2 nine)

pub cases : List Case
cases =
    -- c11: alpha 1, beta 2, W 3: 9, 17
    record { computed = prefixed 3 2; expected = 0 ∷ 0 ∷ 0 ∷ 0 ∷ (9 ∷ 0 ∷ 0 ∷ 0 ∷ 17 ∷ 0 ∷ 0 ∷ 0 ∷ 5 ∷ []) }
    -- 12: W = 0, also without prefixes; with 257 of them it is 1
    ∷ record { computed = prefixed 0 0; expected = 12 ∷ 0 ∷ 0 ∷ 0 ∷ nine }
    ∷ record { computed = prefixed 0 257; expected = 1 ∷ 0 ∷ 0 ∷ 0 ∷ nine }
    ∷ record { computed = prefixed 256 0; expected = 1 ∷ 0 ∷ 0 ∷ 0 ∷ nine }
    -- room for two only
    ∷ record { computed = prefixed 3 3; expected = 1 ∷ 0 ∷ 0 ∷ 0 ∷ nine }
    -- X⁴ is 11 in field 1, 3 in field 2
    ∷ record { computed = fourth 1 1 1; expected = 0 ∷ 0 ∷ 0 ∷ 0 ∷ (12 ∷ 0 ∷ 0 ∷ 0 ∷ 23 ∷ 0 ∷ 0 ∷ 0 ∷ 5 ∷ []) }
    ∷ record { computed = fourth 2 1 1; expected = 0 ∷ 0 ∷ 0 ∷ 0 ∷ (4 ∷ 0 ∷ 0 ∷ 0 ∷ 7 ∷ 0 ∷ 0 ∷ 0 ∷ 5 ∷ []) }
    -- alpha -3 in field 2, whose word is above the prime of field 1
    ∷ record { computed = fourth 2 1 2130706430; expected = 0 ∷ 0 ∷ 0 ∷ 0 ∷ (0 ∷ 0 ∷ 0 ∷ 0 ∷ 3 ∷ 0 ∷ 0 ∷ 0 ∷ 5 ∷ []) }
    ∷ record { computed = fourth 1 1 2130706430; expected = 2 ∷ 0 ∷ 0 ∷ 0 ∷ nine }
    ∷ record { computed = fourth 2 1 2130706433; expected = 2 ∷ 0 ∷ 0 ∷ 0 ∷ nine }
    -- an unknown field, an unknown profile: 1, also where 2 would follow
    ∷ record { computed = fourth 3 1 1; expected = 1 ∷ 0 ∷ 0 ∷ 0 ∷ nine }
    ∷ record { computed = fourth 1 3 2130706430; expected = 1 ∷ 0 ∷ 0 ∷ 0 ∷ nine }
    ∷ []

-- each case computes to what SPECIFICATION says
pub cases-hold : T (hold cases)
unfolding cases cabinet known_field prime_of w_of known limits_of every joined all_below add_m mul_m add4 mul4 scale4 power4 prefix_by prefixes_fit prefixes_refusal prefixes prefixes_at same_list
cases-hold = tt
