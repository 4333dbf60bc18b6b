-- Generation, constraints, and generation on bytes: the numbers of the answers to the calls with 8 lookups of 4 words, and with one more of each;
-- under rule 2 with one lookup of 2 words.
use Rattle.std.specs.Prelude.{ℕ, ◌≡◌, refl, List, [], ◌∷◌}
use Rattle.expression.specs.Choices.{choices_of, known_rule, limits_of, known as known_choices}
use Rattle.expression.specs.Refusal.{answer_number}
use Rattle.expression.specs.declared.choices.Choices.{Choices}
use Rattle.algebra.specs.Power.{pow_m}
use Rattle.delmatik_bytes.specs.Generate.{generation_on_bytes}
use Rattle.expression.specs.Degree.{degrees, node_degree}
use Rattle.expression.specs.Limits.{cabinet, gateway}
use Rattle.expression.specs.Node.{decode, node}
use Rattle.expression.specs.Tests.{constants_below, degrees_low, nodes_fit, nodes_known, nodes_within, traces_below, traces_fit, traces_within}
use Rattle.expression.specs.Values.{node_value, row_values, values}
use Rattle.expression.specs.Window.{row_of, window}
use Rattle.expression.specs.Words.{all_below, all_within}
use Rattle.field.specs.Element.{add4, conjugate, conjugate2, element, inverse4, is_zero, mul4, norm, norm2, power4, product4, scale4, sub4, sum4}
use Rattle.field.specs.Known.{known_field, prime_of, w_of}
use Rattle.field.specs.Word.{add_m, inverse1, mul_m, neg_m, sub_m}
use Rattle.lists.specs.Count.{every, first, joined, some_of, total}
use Rattle.lists.specs.Fold.{fold}
use Rattle.lists.specs.Tab.{tab}
use Rattle.logup.specs.Column.{additive_fault, additive_fraction, branches, chosen, denom, exclusive_fault, exclusive_fraction, fault, flag, fraction, multiplicity, used_denom}
use Rattle.logup.specs.Constraints.{additive_denominator, additive_numerator, binding, cell, cell_sum, common_denominator, constraints_refusal, exclusive_denominator, exclusive_numerator, lookup_constraint, numerator, others, row_verdict, rows_verdict, step, verdict, verdict_at}
use Rattle.logup.specs.Generation.{entry_outcome, entry_refusal, generation, generation_at, rows_outcome}
use Rattle.logup.specs.Rows.{accumulator, fault_at, fault_refusal, first_fault, fraction_at, place, row_fault, row_sum, row_words, trace, used}
use Rattle.logup.specs.Rule.{elements_under, reversed}
use Rattle.logup.specs.Tuple.{combine, denominator, quotient4, tuple}
use Rattle.lookup.specs.Lookups.{element_start, flag_node, flag_start, multiplicity_node, multiplicity_start, name_start, tuple_nodes, tuple_start, tuple_width}
use Rattle.lookup.specs.Tests.{has_lookups, in_position, lengths_agree, lists_agree, lookups_fit, weight_limit, lookup_within, lookups_within, nodes_present, preprocessed_enough, rows_enough, sizes, words_below, known}
use Rattle.wire.specs.Room.{fit, flat, sizes_fit}
use Rattle.wire.specs.Wire.{bytes_of, word_at, word_bytes, word_of, words_of}
use Rattle.theorems_profiles.proofs.laws.Calls.{generated, tested, generated_bytes}

abbrev pub numbers : ℕ → ℕ → ℕ → ℕ → Choices → List ℕ
numbers rule field n w c =
    (generated n w rule c).answer.number ∷ answer_number (tested n w rule field c) ∷ (generated_bytes n w rule c).number ∷ []

-- within both limits, and where the gateway's is passed
abbrev pub answers : List ℕ
answers = 0 ∷ 0 ∷ 0 ∷ []

abbrev pub answers_past : List ℕ
answers_past = 1 ∷ 1 ∷ 1 ∷ []

pub record Computed (field : ℕ) : Type 0 where
  pub within : numbers 1 field 8 4 (choices_of field 2) ≡ answers
  pub nine_lookups : (numbers 1 field 9 4 (choices_of field 2) ≡ answers_past) × (numbers 1 field 9 4 (choices_of field 1) ≡ answers)
  pub five_words : (numbers 1 field 8 5 (choices_of field 2) ≡ answers_past) × (numbers 1 field 8 5 (choices_of field 1) ≡ answers)
  pub rule_2 : numbers 2 field 1 2 (choices_of field 2) ≡ answers

pub computed : Computed 1 × Computed 2
unfolding pow_m generation_on_bytes known_rule limits_of known_choices degrees node_degree cabinet gateway decode node constants_below
    degrees_low nodes_fit nodes_known nodes_within traces_below traces_fit traces_within node_value row_values values row_of window all_below
    all_within add4 conjugate conjugate2 element inverse4 is_zero mul4 norm norm2 power4 product4 scale4 sub4 sum4 known_field prime_of w_of add_m
    inverse1 mul_m neg_m sub_m every first joined some_of total fold tab additive_fault additive_fraction branches chosen denom exclusive_fault
    exclusive_fraction fault flag fraction multiplicity used_denom additive_denominator additive_numerator binding cell cell_sum common_denominator
    constraints_refusal exclusive_denominator exclusive_numerator lookup_constraint numerator others row_verdict rows_verdict step verdict verdict_at
    entry_outcome entry_refusal generation generation_at rows_outcome accumulator fault_at fault_refusal first_fault fraction_at place row_fault
    row_sum row_words trace used combine denominator quotient4 tuple element_start flag_node flag_start multiplicity_node multiplicity_start
    name_start tuple_nodes tuple_start tuple_width has_lookups in_position lengths_agree lists_agree lookups_fit weight_limit lookup_within lookups_within nodes_present
    preprocessed_enough rows_enough sizes words_below known fit flat sizes_fit bytes_of word_at word_bytes word_of words_of
    elements_under reversed
computed = (
  record { within = refl; nine_lookups = (refl, refl); five_words = (refl, refl); rule_2 = refl },
  record { within = refl; nine_lookups = (refl, refl); five_words = (refl, refl); rule_2 = refl },
)
