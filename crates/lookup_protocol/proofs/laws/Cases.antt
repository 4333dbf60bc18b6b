-- The worked case c12 of SPECIFICATION, section 12.1, and its examples of refusals 19 and 20, with some that show the readings, the second
-- field and unknown choices, as one table with one theorem. An answer is its number and its three details.
use Rattle.std.specs.Prelude.{◌≡◌, refl, true, List, [], ◌∷◌, ◌++◌, ℕ, ◌+◌, ◌<◌, T, replicate}
use Rattle.std.proofs.Math.Option.{Option}
use Rattle.lists.specs.Count.{total, every, joined}
use Rattle.field.specs.Known.{known_field, prime_of}
use Rattle.field.specs.Word.{add_m}
use Rattle.field.specs.Element.{add4, is_zero}
use Rattle.expression.specs.Limits.{cabinet}
use Rattle.expression.specs.Choices.{choices_of, known, limits_of}
use Rattle.expression.specs.Words.{all_below, all_within}
use Rattle.expression.specs.Refusal.{answer_number, answer_details}
use Rattle.lists.specs.Same.{same_list}
use Rattle.lists.specs.Cases.{Case, hold}
use Rattle.expression.specs.declared.refusal.Refusal.{Refusal}
use Rattle.lookup.specs.Lookups.{tuple_start}
use Rattle.lookup.specs.Sizes.{size_start, table_part}
use Rattle.lookup.specs.Tests.{weight_limit, lookup_within, lengths_agree}
use Rattle.lookup_protocol.specs.Terminals.{present, terminal, terminal_below, with_terminal, terminal_sum, terminals_refusal, terminals_at}
use Rattle.lookup_protocol.specs.Height.{table_lookups, weight_sum, table_weight, height_sum, lookups_small, tables_within, tables_fit, height_refusal, height_at}
use Rattle.lookup_protocol.proofs.laws.HeightSum.{height_sum-fits}

abbrev pub answer : Option Refusal → List ℕ
answer o = answer_number o ∷ answer_details o

abbrev pub passes : List ℕ
passes = 0 ∷ 0 ∷ 0 ∷ 0 ∷ []

-- of the cabinet's profile, in this field
abbrev pub terminals : ℕ → List ℕ → List ℕ
terminals field ts = answer (terminals_at (choices_of field 1) ts)

-- one lookup of this weight on a bus without a name, in a table of this height
abbrev pub weighing : ℕ → ℕ → ℕ → List ℕ
weighing field w h = answer (height_at (choices_of field 1) (1 ∷ 0 ∷ w ∷ 0 ∷ 0 ∷ 0 ∷ 0 ∷ 0 ∷ 0 ∷ []) (1 ∷ []) (h ∷ []))

-- one lookup with this mark and these numbers of tuples, multiplicities and flags, of weight p in a table of height 1
abbrev pub counting : ℕ → ℕ → ℕ → ℕ → List ℕ
counting exclusive tuples multiplicities flags =
    answer (height_at (choices_of 1 1) (1 ∷ 0 ∷ 2013265921 ∷ 0 ∷ exclusive ∷ tuples ∷ multiplicities ∷ flags ∷ 0 ∷ []) (1 ∷ []) (1 ∷ []))

-- a lookup without a name, on a bus (1) or local (0), with this many tuples, of the weight low + 2³² × high
abbrev pub halves : ℕ → ℕ → ℕ → ℕ → List ℕ
halves scope tuples low high = scope ∷ 0 ∷ low ∷ 0 ∷ 0 ∷ tuples ∷ tuples ∷ 0 ∷ high ∷ []

-- one such lookup in a table of this height, in field 1
abbrev pub weighing_halves : ℕ → ℕ → ℕ → ℕ → ℕ → List ℕ
weighing_halves scope tuples low high h = answer (height_at (choices_of 1 1) (halves scope tuples low high) (1 ∷ []) (h ∷ []))

-- the lookups of n tables, each of a local with all 64 tuples and of k locals without tuples, every weight the greatest
abbrev pub full_lookups : ℕ → ℕ → List ℕ
full_lookups n k = joined (λ t. halves 0 64 4294967232 63 ++ joined (λ i. halves 0 0 4294967295 0) 0 k) 0 n

-- the tables are of height 2²⁰
abbrev pub full : ℕ → ℕ → List ℕ
full n k = answer (height_at (choices_of 1 1) (full_lookups n k) (replicate n (1 + k)) (replicate n 1048576))

pub cases : List Case
cases =
    -- 20: terminals 1 and 1; 1 and -1 cancel, an absent one is skipped, whatever its words
    record { computed = terminals 1 (1 ∷ 1 ∷ 0 ∷ 0 ∷ 0 ∷ 1 ∷ 1 ∷ 0 ∷ 0 ∷ 0 ∷ []); expected = 20 ∷ 0 ∷ 0 ∷ 0 ∷ [] }
    ∷ record { computed = terminals 1 (1 ∷ 1 ∷ 0 ∷ 0 ∷ 0 ∷ 0 ∷ 1 ∷ 4294967295 ∷ 0 ∷ 0 ∷ 1 ∷ 2013265920 ∷ 0 ∷ 0 ∷ 0 ∷ []); expected = passes }
    ∷ record { computed = terminals 1 (1 ∷ 2013265921 ∷ 0 ∷ 0 ∷ 0 ∷ []); expected = 2 ∷ 0 ∷ 0 ∷ 0 ∷ [] }
    ∷ record { computed = terminals 1 []; expected = passes }
    -- a word that is the prime of field 1, or above it, is one of field 2's; the sums are modulo the field's own prime
    ∷ record { computed = terminals 2 (1 ∷ 2013265921 ∷ 0 ∷ 0 ∷ 0 ∷ 1 ∷ 117440512 ∷ 0 ∷ 0 ∷ 0 ∷ []); expected = passes }
    ∷ record { computed = terminals 2 (1 ∷ 0 ∷ 0 ∷ 0 ∷ 2130706433 ∷ []); expected = 2 ∷ 0 ∷ 0 ∷ 0 ∷ [] }
    ∷ record { computed = terminals 2 (1 ∷ 1065353216 ∷ 0 ∷ 0 ∷ 0 ∷ 1 ∷ 1065353217 ∷ 0 ∷ 0 ∷ 0 ∷ []); expected = passes }
    ∷ record { computed = terminals 1 (1 ∷ 1065353216 ∷ 0 ∷ 0 ∷ 0 ∷ 1 ∷ 1065353217 ∷ 0 ∷ 0 ∷ 0 ∷ []); expected = 20 ∷ 0 ∷ 0 ∷ 0 ∷ [] }
    ∷ record { computed = terminals 2 (1 ∷ 1 ∷ 0 ∷ 0 ∷ 0 ∷ 1 ∷ 2013265920 ∷ 0 ∷ 0 ∷ 0 ∷ []); expected = 20 ∷ 0 ∷ 0 ∷ 0 ∷ [] }
    -- an unknown field, an unknown profile: 1, also without terminals
    ∷ record { computed = terminals 3 []; expected = 1 ∷ 0 ∷ 0 ∷ 0 ∷ [] }
    ∷ record { computed = answer (terminals_at (choices_of 1 3) []); expected = 1 ∷ 0 ∷ 0 ∷ 0 ∷ [] }
    -- c12: weight 2013265920, height 1 passes
    ∷ record { computed = weighing 1 2013265920 1; expected = passes }
    -- 19: weight 2013265921, height 1
    ∷ record { computed = weighing 1 2013265921 1; expected = 19 ∷ 2013265921 ∷ 0 ∷ 0 ∷ [] }
    -- in field 2 that passes, and the bound is its own prime
    ∷ record { computed = weighing 2 2013265921 1; expected = passes }
    ∷ record { computed = weighing 2 2130706432 1; expected = passes }
    ∷ record { computed = weighing 2 2130706433 1; expected = 19 ∷ 2130706433 ∷ 0 ∷ 0 ∷ [] }
    ∷ record { computed = weighing 1 0 1048577; expected = 1 ∷ 0 ∷ 0 ∷ 0 ∷ [] }
    -- the weight's high half counts: a local with two tuples and weight 2³²; in a table of height 0 it adds nothing
    ∷ record { computed = weighing_halves 0 2 0 1 1; expected = 19 ∷ 4294967296 ∷ 0 ∷ 0 ∷ [] }
    ∷ record { computed = weighing_halves 0 2 0 1 1048576; expected = 19 ∷ 4503599627370496 ∷ 0 ∷ 0 ∷ [] }
    ∷ record { computed = weighing_halves 0 2 0 1 0; expected = passes }
    -- a local weighs at most 2³² - 1 for each of its tuples, of which there may be 64; over that it is 1
    ∷ record { computed = weighing_halves 0 1 0 1 0; expected = 1 ∷ 0 ∷ 0 ∷ 0 ∷ [] }
    ∷ record { computed = weighing_halves 0 2 4294967294 1 1; expected = 19 ∷ 8589934590 ∷ 0 ∷ 0 ∷ [] }
    ∷ record { computed = weighing_halves 0 2 4294967295 1 1; expected = 1 ∷ 0 ∷ 0 ∷ 0 ∷ [] }
    ∷ record { computed = weighing_halves 0 64 4294967232 63 1; expected = 19 ∷ 274877906880 ∷ 0 ∷ 0 ∷ [] }
    ∷ record { computed = weighing_halves 0 64 4294967233 63 1; expected = 1 ∷ 0 ∷ 0 ∷ 0 ∷ [] }
    ∷ record { computed = weighing_halves 0 65 0 0 1; expected = 1 ∷ 0 ∷ 0 ∷ 0 ∷ [] }
    -- at most 2³² - 1 without tuples, and on a bus whatever its tuples
    ∷ record { computed = weighing_halves 0 0 4294967295 0 1; expected = 19 ∷ 4294967295 ∷ 0 ∷ 0 ∷ [] }
    ∷ record { computed = weighing_halves 0 0 0 1 1; expected = 1 ∷ 0 ∷ 0 ∷ 0 ∷ [] }
    ∷ record { computed = weighing_halves 1 2 4294967295 0 1; expected = 19 ∷ 4294967295 ∷ 0 ∷ 0 ∷ [] }
    ∷ record { computed = weighing_halves 1 2 0 1 1; expected = 1 ∷ 0 ∷ 0 ∷ 0 ∷ [] }
    -- a table that adds the most, 127 × (2³² - 1) × 2²⁰, and sixteen that add 67 × (2³² - 1) × 2²⁰ each: the sum is exact
    ∷ record { computed = full 1 63; expected = 19 ∷ 571957152542883840 ∷ 0 ∷ 0 ∷ [] }
    ∷ record { computed = full 16 3; expected = 19 ∷ 4827858799417098240 ∷ 0 ∷ 0 ∷ [] }
    -- 5 before 19: a tuple without a multiplicity; an additive lookup with a flag; an exclusive one with none
    ∷ record { computed = counting 0 1 0 0; expected = 5 ∷ 0 ∷ 0 ∷ 0 ∷ [] }
    ∷ record { computed = counting 0 1 1 1; expected = 5 ∷ 0 ∷ 0 ∷ 0 ∷ [] }
    ∷ record { computed = counting 1 1 1 0; expected = 5 ∷ 0 ∷ 0 ∷ 0 ∷ [] }
    ∷ record { computed = counting 1 1 1 1; expected = 19 ∷ 2013265921 ∷ 0 ∷ 0 ∷ [] }
    ∷ record { computed = answer (height_at (choices_of 1 1) [] [] []); expected = passes }
    ∷ record { computed = answer (height_at (choices_of 1 1) [] [] (1 ∷ [])); expected = 1 ∷ 0 ∷ 0 ∷ 0 ∷ [] }
    -- an unknown field, an unknown profile: 1, also without tables
    ∷ record { computed = answer (height_at (choices_of 0 1) [] [] []); expected = 1 ∷ 0 ∷ 0 ∷ 0 ∷ [] }
    ∷ record { computed = answer (height_at (choices_of 2 3) [] [] []); expected = 1 ∷ 0 ∷ 0 ∷ 0 ∷ [] }
    ∷ []

-- each case computes to what SPECIFICATION says
pub cases-hold : T (hold cases)
unfolding cases cabinet known_field prime_of known limits_of total every joined all_below all_within add_m add4 is_zero present terminal terminal_below with_terminal terminal_sum terminals_refusal terminals_at tuple_start size_start table_part table_lookups weight_sum table_weight height_sum weight_limit lookup_within lookups_small tables_within tables_fit lengths_agree height_refusal height_at same_list
cases-hold = tt

-- the table that adds the most is within the limits, and so its sum is below 2⁶³
most_fits : tables_fit (limits_of 1) (full_lookups 1 63) (64 ∷ []) (1048576 ∷ []) ≡ true
unfolding cabinet limits_of total every joined all_within tuple_start size_start table_part weight_limit lookup_within table_lookups lookups_small
    tables_within tables_fit
most_fits = refl

pub most_below : height_sum (full_lookups 1 63) (64 ∷ []) (1048576 ∷ []) < 9223372036854775808
most_below = height_sum-fits 1 (full_lookups 1 63) (64 ∷ []) (1048576 ∷ []) most_fits
