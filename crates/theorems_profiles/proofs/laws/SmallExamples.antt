-- The height bound, terminals, prefixes and the two counts: the numbers of the answers to the calls with 8 lookups of 4 words, and with one more of each.
use Rattle.std.specs.Prelude.{ℕ, ◌≡◌, refl, List, [], ◌∷◌}
use Rattle.expression.specs.Choices.{choices_of, known, limits_of}
use Rattle.expression.specs.Refusal.{answer_number}
use Rattle.expression.specs.declared.choices.Choices.{Choices}
use Rattle.lookup_count.specs.Count.{in_numbers as count_numbers}
use Rattle.expression.specs.Limits.{cabinet, gateway}
use Rattle.expression.specs.Words.{all_below, all_within}
use Rattle.field.specs.Element.{add4, is_zero, mul4, power4, scale4}
use Rattle.field.specs.Known.{known_field, prime_of, w_of}
use Rattle.field.specs.Word.{add_m, mul_m, neg_m}
use Rattle.lists.specs.Count.{every, joined, total}
use Rattle.lookup.specs.Lookups.{tuple_start}
use Rattle.lookup.specs.Sizes.{size_start, table_part}
use Rattle.lookup.specs.Tests.{weight_limit, lookup_within, lengths_agree}
use Rattle.lookup_challenges.specs.Prefixes.{prefix_by, prefixes, prefixes_at, prefixes_fit, prefixes_refusal}
use Rattle.lookup_count.specs.Count.{count_refusal, from_i32, from_i32_at, negated, negated_at, negation_refusal}
use Rattle.lookup_protocol.specs.Height.{height_at, height_refusal, height_sum, lookups_small, table_lookups, table_weight, tables_fit, tables_within, weight_sum}
use Rattle.lookup_protocol.specs.Terminals.{present, terminal, terminal_below, terminal_sum, terminals_at, terminals_refusal, with_terminal}
use Rattle.theorems_profiles.proofs.laws.Calls.{bounded, summed, prefixed, counted, turned}

abbrev pub numbers : ℕ → ℕ → Choices → List ℕ
numbers n w c =
    answer_number (bounded n w c)
    ∷ answer_number (summed n w c)
    ∷ (prefixed n w c).answer.number
    ∷ (count_numbers (counted n w c)).answer.number
    ∷ (count_numbers (turned n w c)).answer.number
    ∷ []

-- within both limits, and where the gateway's is passed
abbrev pub answers : List ℕ
answers = 0 ∷ 20 ∷ 0 ∷ 0 ∷ 0 ∷ []

abbrev pub answers_past : List ℕ
answers_past = 1 ∷ 20 ∷ 0 ∷ 0 ∷ 0 ∷ []

pub record Computed (field : ℕ) : Type 0 where
  pub within : numbers 8 4 (choices_of field 2) ≡ answers
  pub nine_lookups : (numbers 9 4 (choices_of field 2) ≡ answers_past) × (numbers 9 4 (choices_of field 1) ≡ answers)
  pub five_words : (numbers 8 5 (choices_of field 2) ≡ answers_past) × (numbers 8 5 (choices_of field 1) ≡ answers)

pub computed : Computed 1 × Computed 2
unfolding known limits_of cabinet gateway all_below all_within add4 is_zero mul4 power4 scale4 known_field prime_of w_of add_m mul_m neg_m every joined
    total tuple_start size_start table_part weight_limit lookup_within lengths_agree prefix_by prefixes prefixes_at prefixes_fit prefixes_refusal count_refusal from_i32
    from_i32_at negated negated_at negation_refusal height_at height_refusal height_sum lookups_small table_lookups table_weight tables_fit
    tables_within weight_sum present terminal terminal_below terminal_sum terminals_at terminals_refusal with_terminal count_numbers
computed = (
  record { within = refl; nine_lookups = (refl, refl); five_words = (refl, refl) },
  record { within = refl; nine_lookups = (refl, refl); five_words = (refl, refl) },
)
