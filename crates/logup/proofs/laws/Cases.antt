-- The worked cases c1, c2 and c4 to c7 of SPECIFICATION, section 12.1, one row alone, the examples of generation's and the constraints'
-- refusals, a part of the reader, a ledger, and calls in field 2 and at unknown choices, as one table with one theorem.
use Rattle.std.specs.Prelude.{ℕ, ◌+◌, ◌*◌, List, [], ◌∷◌, ◌++◌, T, replicate, length, take}
use Rattle.std.proofs.Math.Option.{Option, none, some, get_or}
use Rattle.algebra.specs.Power.{pow_m}
use Rattle.lists.specs.Same.{same_list}
use Rattle.lists.specs.Count.{total, every, some_of, first, joined}
use Rattle.lists.specs.Fold.{fold}
use Rattle.lists.specs.Tab.{tab}
use Rattle.lists.specs.Cases.{Case, hold}
use Rattle.field.specs.Word.{add_m, neg_m, sub_m, mul_m, inverse1}
use Rattle.field.specs.Element.{lift, add4, sub4, mul4, scale4, power4, sum4, product4, conjugate, conjugate2, norm2, norm, inverse4, is_zero, element}
use Rattle.field.specs.Known.{babybear, babybear_w, known_field, prime_of, w_of}
use Rattle.expression.specs.Words.{word, all_below, all_within}
use Rattle.expression.specs.Refusal.{answer_number, answer_details}
use Rattle.expression.specs.Limits.{cabinet}
use Rattle.expression.specs.Choices as choices
use Rattle.expression.specs.Node.{decode, node}
use Rattle.expression.specs.Window.{row_of, window}
use Rattle.expression.specs.Values.{bit, node_value, values, row_values}
use Rattle.expression.specs.Degree.{node_degree, degrees}
use Rattle.expression.specs.Tests.{traces_within, nodes_within, traces_fit, nodes_fit, traces_below, constants_below, nodes_known, degrees_low}
use Rattle.expression.specs.declared.refusal.Refusal.{Refusal}
use Rattle.lookup.specs.Lookups.{lent_lookups, name_start, tuple_start, multiplicity_start, flag_start, element_start, tuple_width, multiplicity_node, flag_node, tuple_nodes}
use Rattle.lookup.specs.Table.{Table}
use Rattle.lookup.specs.Tests.{weight_limit, lookup_within, lookups_within, lookups_fit, sizes, words_below, known, lengths_agree, nodes_present, lists_agree, in_position, has_lookups, preprocessed_enough, rows_enough}
use Rattle.logup.specs.Tuple.{tuple, combine, combine_under, denominator, quotient4}
use Rattle.logup.specs.Rule.{reversed, elements_under}
use Rattle.logup.specs.Column.{branches, multiplicity, flag, chosen, denom, used_denom, additive_fraction, additive_fault, exclusive_fraction, exclusive_fault, fraction, fault}
use Rattle.logup.specs.Rows.{fault_refusal, place, fraction_at, row_sum, accumulator, row_words, fault_at, row_fault, trace, first_fault, used}
use Rattle.logup.specs.Generation.{Answer, Outcome, entry_refusal, rows_outcome, entry_outcome, generation, generation_at}
use Rattle.logup.specs.Reader.{row_part}
use Rattle.logup.specs.Constraints.{others, additive_numerator, additive_denominator, exclusive_numerator, exclusive_denominator, numerator, common_denominator, cell, cell_sum, lookup_constraint, step, binding, row_verdict, rows_verdict, constraints_refusal, verdict, verdict_at}
use Rattle.logup.specs.Ledger.{has_ledger, count, lookup_entries, row_entries, entries, post, ledger, listed, met, tuples_met}

-- what a call gives, as words: the answer's number and details, the terminal, the buffer
abbrev pub answer_words : Answer → List ℕ
answer_words a = a.number ∷ a.details ++ get_or a.terminal []

abbrev pub outcome_words : Outcome → List ℕ
outcome_words o = answer_words o.answer ++ o.buffer

abbrev pub verdict_words : Option Refusal → List ℕ
verdict_words v = answer_number v ∷ answer_details v

-- one column of main with these rows, and a preprocessed trace of zeros. One lookup on the bus "m" for each of the columns given, with so many
-- tuples, each with the one element node 0 and multiplicity node 1; exclusive, with flag node 2 for each tuple, where `marked` is 1
abbrev pub table : List ℕ → List ℕ → ℕ → ℕ → List ℕ → ℕ → ℕ → Table
table nodes columns tuples marked rows pre_width pre_height =
    record {
      traces =
          record {
            shape = record { main_width = 1; height = length rows; pre_width = pre_width; pre_height = pre_height };
            main = rows;
            preprocessed = replicate (pre_width * pre_height) 0;
            public_values = [];
          };
      nodes = nodes;
      lookups =
          record {
            lookups = joined (λ i. 1 ∷ 1 ∷ 1 ∷ word columns i ∷ marked ∷ tuples ∷ tuples ∷ tuples * marked ∷ 0 ∷ []) 0 (length columns);
            names = replicate (length columns) 109;
            tuples = replicate (length columns * tuples) 1;
            multiplicities = replicate (length columns * tuples) 1;
            flags = replicate (length columns * tuples * marked) 2;
            elements = replicate (length columns * tuples) 0;
          };
    }

-- node 0 is the column, node 1 the constant `times`, node 2 the constant `on`
abbrev pub three_nodes : ℕ → ℕ → List ℕ
three_nodes times on = 1 ∷ 0 ∷ 0 ∷ 0 ∷ times ∷ 0 ∷ 0 ∷ on ∷ 0 ∷ []

-- an additive lookup with one tuple, the column, and the multiplicity `times`
abbrev pub additive : ℕ → List ℕ → Table
additive times rows = table (three_nodes times 0) (0 ∷ []) 1 0 rows 0 0

-- an exclusive lookup with so many branches, the flag of each `on`
abbrev pub branching : ℕ → ℕ → ℕ → List ℕ → Table
branching tuples times on rows = table (three_nodes times on) (0 ∷ []) tuples 1 rows 0 0

abbrev pub no_lookup : Table
no_lookup = table [] [] 0 0 (3 ∷ []) 0 0

-- the constant tuple (3), its multiplicity the column
abbrev pub cancelling : Table
cancelling = table (0 ∷ 3 ∷ 0 ∷ 1 ∷ 0 ∷ 0 ∷ []) (0 ∷ []) 1 0 (1 ∷ 2013265920 ∷ []) 0 0

-- one row with the constant tuples (3, 7) and (x), the multiplicity of both 1
abbrev pub pair : ℕ → Table
pair x =
    record {
      traces = no_lookup.traces;
      nodes = 0 ∷ 3 ∷ 0 ∷ 0 ∷ 7 ∷ 0 ∷ 0 ∷ x ∷ 0 ∷ 0 ∷ 1 ∷ 0 ∷ [];
      lookups =
          lent_lookups (1 ∷ 1 ∷ 1 ∷ 0 ∷ 0 ∷ 2 ∷ 2 ∷ 0 ∷ 0 ∷ []) (109 ∷ []) (2 ∷ 1 ∷ []) (3 ∷ 3 ∷ []) [] (0 ∷ 1 ∷ 2 ∷ []);
    }

abbrev pub generated : Table → List ℕ → List ℕ → List ℕ
generated t challenges buffer = outcome_words (generation cabinet babybear babybear_w t challenges buffer)

-- constraints over a trace of two columns
abbrev pub tested : Table → List ℕ → List ℕ → Option (List ℕ) → List ℕ
tested t challenges words e = verdict_words (verdict cabinet babybear babybear_w t challenges 2 words e)

-- at the choices of a call: field, profile, rule
abbrev pub generated_at : ℕ → ℕ → ℕ → Table → List ℕ → List ℕ → List ℕ
generated_at field profile rule t challenges buffer = outcome_words (generation_at (choices.choices_of field profile) rule t challenges buffer)

abbrev pub tested_at : ℕ → ℕ → ℕ → Table → List ℕ → List ℕ → Option (List ℕ) → List ℕ
tested_at field profile rule t challenges words e = verdict_words (verdict_at (choices.choices_of field profile) rule t challenges 2 words e)

-- alpha 5, beta 0
abbrev pub five : List ℕ
five = lift 5 ++ lift 0

-- what is refused by 1 to 12, which leave the buffer as it is
abbrev pub plain : ℕ → List ℕ → List ℕ
plain n buffer = n ∷ 0 ∷ 0 ∷ 0 ∷ buffer

abbrev pub cases : List Case
cases =
    -- c1: (3, 7) with beta 10 combines to 37
    record { computed = combine babybear babybear_w (lift 10) (3 ∷ 7 ∷ []); expected = lift 37 }
    -- c2: the empty tuple, 0
    ∷ record { computed = combine babybear babybear_w (lift 10) []; expected = lift 0 }
    -- c4: rows 3, 4 with multiplicity 1, alpha 5: fractions 1006632961 and 1, terminal 1006632962; the word past the used part stays
    ∷ record {
      computed = generated (additive 1 (3 ∷ 4 ∷ [])) five (replicate 17 7777);
      expected =
          0 ∷ 0 ∷ 0 ∷ 0 ∷ lift 1006632962
          ++ lift 0 ++ lift 1006632961
          ++ lift 1006632961 ++ lift 1 ++ (7777 ∷ []);
    }
    -- c5: additive (3), multiplicity 0, alpha 3: fraction 0
    ∷ record { computed = generated (additive 0 (3 ∷ [])) (lift 3 ++ lift 0) (replicate 8 7777); expected = replicate 16 0 }
    -- c6: the same in a chosen branch, 15
    ∷ record { computed = generated (branching 1 0 1 (3 ∷ [])) (lift 3 ++ lift 0) (replicate 9 7777); expected = plain 15 (replicate 8 0 ++ (7777 ∷ [])) }
    -- c7: all flags 0, fraction 0
    ∷ record { computed = generated (branching 2 1 0 (3 ∷ [])) (lift 3 ++ lift 0) (replicate 8 7777); expected = replicate 16 0 }
    -- one row: 3, with alpha 5, beta 0
    ∷ record {
      computed = generated (additive 1 (3 ∷ [])) five (replicate 8 7777);
      expected = 0 ∷ 0 ∷ 0 ∷ 0 ∷ lift 1006632961 ++ lift 0 ++ lift 1006632961;
    }
    -- two lookups: the accumulator of row 1 is the sum of both fractions of row 0
    ∷ record {
      computed = generated (table (three_nodes 1 0) (0 ∷ 1 ∷ []) 1 0 (4 ∷ 4 ∷ []) 0 0) (five ++ five) (replicate 24 7777);
      expected = 0 ∷ 0 ∷ 0 ∷ 0 ∷ lift 4 ++ lift 0 ++ lift 1 ++ lift 1 ++ lift 2 ++ lift 1 ++ lift 1;
    }
    -- no lookups: the trace is empty, the terminal absent
    ∷ record { computed = generated no_lookup five (7777 ∷ []); expected = plain 0 (7777 ∷ []) }
    -- refusal 1: 65 lookups
    ∷ record { computed = generated (table (three_nodes 1 0) (tab (λ i. i) 0 65) 0 0 (3 ∷ []) 0 0) five (7777 ∷ []); expected = plain 1 (7777 ∷ []) }
    -- refusal 2: challenge word 2013265921
    ∷ record { computed = generated (additive 1 (3 ∷ [])) (lift 2013265921 ++ lift 0) (7777 ∷ []); expected = plain 2 (7777 ∷ []) }
    -- refusal 3: node 3 = node 3 + node 1
    ∷ record {
      computed = generated (table (three_nodes 1 0 ++ (9 ∷ 3 ∷ 1 ∷ [])) (0 ∷ []) 1 0 (3 ∷ []) 0 0) five (7777 ∷ []);
      expected = plain 3 (7777 ∷ []);
    }
    -- refusal 4: a column squared 8 times
    ∷ record {
      computed = generated (table (three_nodes 1 0 ++ (11 ∷ 0 ∷ 0 ∷ []) ++ joined (λ i. 11 ∷ (3 + i) ∷ (3 + i) ∷ []) 0 7) (0 ∷ []) 1 0 (3 ∷ []) 0 0) five (7777 ∷ []);
      expected = plain 4 (7777 ∷ []);
    }
    -- refusal 5: columns 0, 5
    ∷ record {
      computed = generated (table (three_nodes 1 0) (0 ∷ 5 ∷ []) 1 0 (3 ∷ []) 0 0) (five ++ five) (7777 ∷ []);
      expected = plain 5 (7777 ∷ []);
    }
    -- refusal 8: 2 lookups, 3 challenges
    ∷ record {
      computed = generated (table (three_nodes 1 0) (0 ∷ 1 ∷ []) 1 0 (3 ∷ []) 0 0) (five ++ lift 5) (7777 ∷ []);
      expected = plain 8 (7777 ∷ []);
    }
    -- refusal 9: height 4, preprocessed 3; height 0
    ∷ record {
      computed = generated (table (three_nodes 1 0) (0 ∷ []) 1 0 (3 ∷ 3 ∷ 3 ∷ 3 ∷ []) 1 3) five (7777 ∷ []);
      expected = plain 9 (7777 ∷ []);
    }
    ∷ record { computed = generated (additive 1 []) five (7777 ∷ []); expected = plain 9 (7777 ∷ []) }
    -- refusal 10: 1 lookup, height 4, 31 words; 32 words suffice
    ∷ record { computed = generated (additive 1 (3 ∷ 3 ∷ 3 ∷ 3 ∷ [])) five (replicate 31 7777); expected = plain 10 (replicate 31 7777) }
    ∷ record { computed = take 4 (generated (additive 1 (3 ∷ 3 ∷ 3 ∷ 3 ∷ [])) five (replicate 32 7777)); expected = plain 0 [] }
    -- refusal 13: flag 2
    ∷ record { computed = generated (branching 1 1 2 (3 ∷ [])) five (replicate 8 7777); expected = plain 13 (replicate 8 0) }
    -- refusal 14: flags 1, 1
    ∷ record { computed = generated (branching 2 1 1 (3 ∷ [])) five (replicate 8 7777); expected = plain 14 (replicate 8 0) }
    -- refusal 15: alpha 5, tuple (5), multiplicity 1, on row 1
    ∷ record { computed = generated (additive 1 (3 ∷ 5 ∷ [])) five (replicate 16 7777); expected = 15 ∷ 1 ∷ 0 ∷ 0 ∷ replicate 16 0 }
    -- constraints accept c4's trace and terminal
    ∷ record {
      computed = tested (additive 1 (3 ∷ 4 ∷ [])) five (lift 0 ++ lift 1006632961 ++ lift 1006632961 ++ lift 1) (some (lift 1006632962));
      expected = plain 0 [];
    }
    -- a chosen branch, and none
    ∷ record { computed = tested (branching 1 1 1 (3 ∷ [])) five (lift 0 ++ lift 1006632961) (some (lift 1006632961)); expected = plain 0 [] }
    ∷ record { computed = tested (branching 1 1 0 (3 ∷ [])) five (lift 0 ++ lift 0) (some (lift 0)); expected = plain 0 [] }
    -- refusal 17: accumulator 1 on row 0; another fraction; another step; another terminal
    ∷ record { computed = tested (additive 1 (3 ∷ [])) five (lift 1 ++ lift 1006632961) (some (lift 1006632962)); expected = 17 ∷ 0 ∷ 1 ∷ 0 ∷ [] }
    ∷ record { computed = tested (additive 1 (3 ∷ [])) five (lift 0 ++ lift 1) (some (lift 1)); expected = 17 ∷ 0 ∷ 0 ∷ 0 ∷ [] }
    ∷ record {
      computed = tested (additive 1 (3 ∷ 4 ∷ [])) five (lift 0 ++ lift 1006632961 ++ lift 1 ++ lift 1) (some (lift 2));
      expected = 17 ∷ 0 ∷ 2 ∷ 0 ∷ [];
    }
    ∷ record { computed = tested (additive 1 (3 ∷ [])) five (lift 0 ++ lift 1006632961) (some (lift 0)); expected = 17 ∷ 0 ∷ 3 ∷ 0 ∷ [] }
    -- a zero denominator may let another fraction pass: alpha 5, tuple (5), multiplicity 0 generates 0, and 7 passes as well
    ∷ record { computed = generated (additive 0 (5 ∷ [])) five (replicate 8 7777); expected = replicate 16 0 }
    ∷ record { computed = tested (additive 0 (5 ∷ [])) five (lift 0 ++ lift 7) (some (lift 7)); expected = plain 0 [] }
    -- a wider trace passes whatever stands past the needed columns; a trace of one column is too narrow
    ∷ record {
      computed =
          verdict_words
          (verdict cabinet babybear babybear_w (additive 1 (3 ∷ [])) five 3 (lift 0 ++ lift 1006632961 ++ lift 9) (some (lift 1006632961)));
      expected = plain 0 [];
    }
    ∷ record {
      computed = verdict_words (verdict cabinet babybear babybear_w (additive 1 (3 ∷ [])) five 1 (lift 0) (some (lift 1006632961)));
      expected = plain 10 [];
    }
    -- refusal 8: fewer challenges; more are taken
    ∷ record { computed = tested (additive 1 (3 ∷ [])) (lift 5) (lift 0 ++ lift 1006632961) (some (lift 1006632961)); expected = plain 8 [] }
    ∷ record { computed = tested (additive 1 (3 ∷ [])) (five ++ lift 9) (lift 0 ++ lift 1006632961) (some (lift 1006632961)); expected = plain 0 [] }
    -- refusal 11: none, 1 lookup; present without lookups
    ∷ record { computed = tested (additive 1 (3 ∷ [])) five (lift 0 ++ lift 1006632961) none; expected = plain 11 [] }
    ∷ record { computed = tested no_lookup five (lift 0 ++ lift 0) (some (lift 0)); expected = plain 11 [] }
    -- the reader: row 1 of c4's trace, and no row past the last
    ∷ record { computed = row_part (lift 0 ++ lift 1006632961 ++ lift 1006632961 ++ lift 1) 1 2 1; expected = lift 1006632961 ++ lift 1 }
    ∷ record { computed = row_part (lift 0 ++ lift 1006632961 ++ lift 1006632961 ++ lift 1) 1 2 2; expected = [] }
    -- who has a ledger: a table of six rows, and one without lookups; not columns 0, 5, nor height 0, nor height 4 with preprocessed 3
    ∷ record {
      computed =
          bit (has_ledger cabinet babybear (additive 1 (replicate 6 3)))
          ∷ bit (has_ledger cabinet babybear no_lookup)
          ∷ bit (has_ledger cabinet babybear (table (three_nodes 1 0) (0 ∷ 5 ∷ []) 1 0 (3 ∷ []) 0 0))
          ∷ bit (has_ledger cabinet babybear (additive 1 []))
          ∷ bit (has_ledger cabinet babybear (table (three_nodes 1 0) (0 ∷ []) 1 0 (3 ∷ 3 ∷ 3 ∷ 3 ∷ []) 1 3))
          ∷ [];
      expected = 1 ∷ 1 ∷ 0 ∷ 0 ∷ 0 ∷ [];
    }
    -- rows 3, 4, 3 with multiplicity 2: the ledger of (3) is 4; two lists are met
    ∷ record {
      computed = ledger babybear (additive 2 (3 ∷ 4 ∷ 3 ∷ [])) (3 ∷ []) ∷ tuples_met babybear (additive 2 (3 ∷ 4 ∷ 3 ∷ [])) no_lookup ∷ [];
      expected = 4 ∷ 2 ∷ [];
    }
    -- the count of an exclusive lookup is the multiplicity times the flag
    ∷ record { computed = ledger babybear (branching 1 2 3 (3 ∷ [])) (3 ∷ []) ∷ []; expected = 6 ∷ [] }
    -- (3) with the multiplicities 1 and p - 1 on two rows: its net is 0, and it is met
    ∷ record {
      computed = ledger babybear cancelling (3 ∷ []) ∷ tuples_met babybear no_lookup cancelling ∷ [];
      expected = 0 ∷ 1 ∷ [];
    }
    -- c4 in field 2: fractions 1065353217 and 1, terminal 1065353218; the constraints accept these and not those of field 1
    ∷ record {
      computed = generated_at 2 1 1 (additive 1 (3 ∷ 4 ∷ [])) five (replicate 17 7777);
      expected =
          0 ∷ 0 ∷ 0 ∷ 0 ∷ lift 1065353218
          ++ lift 0 ++ lift 1065353217
          ++ lift 1065353217 ++ lift 1 ++ (7777 ∷ []);
    }
    ∷ record {
      computed = tested_at 2 1 1 (additive 1 (3 ∷ 4 ∷ [])) five (lift 0 ++ lift 1065353217 ++ lift 1065353217 ++ lift 1) (some (lift 1065353218));
      expected = plain 0 [];
    }
    ∷ record {
      computed = tested_at 2 1 1 (additive 1 (3 ∷ 4 ∷ [])) five (lift 0 ++ lift 1006632961 ++ lift 1006632961 ++ lift 1) (some (lift 1006632962));
      expected = 17 ∷ 0 ∷ 0 ∷ 0 ∷ [];
    }
    -- alpha X, beta 0, tuple (0): the fraction 1 ÷ X is X³ ÷ 11 in field 1 and X³ ÷ 3 in field 2
    ∷ record {
      computed = generated_at 1 1 1 (additive 1 (0 ∷ [])) (0 ∷ 1 ∷ 0 ∷ 0 ∷ lift 0) (replicate 8 7777);
      expected = 0 ∷ 0 ∷ 0 ∷ 0 ∷ 0 ∷ 0 ∷ 0 ∷ 549072524 ∷ lift 0 ++ (0 ∷ 0 ∷ 0 ∷ 549072524 ∷ []);
    }
    ∷ record {
      computed = generated_at 2 1 1 (additive 1 (0 ∷ [])) (0 ∷ 1 ∷ 0 ∷ 0 ∷ lift 0) (replicate 8 7777);
      expected = 0 ∷ 0 ∷ 0 ∷ 0 ∷ 0 ∷ 0 ∷ 0 ∷ 710235478 ∷ lift 0 ++ (0 ∷ 0 ∷ 0 ∷ 710235478 ∷ []);
    }
    -- refusal 2 by the field's own prime: a row of 2013265921 in both fields, the challenge 2130706433 in field 2
    ∷ record { computed = generated_at 1 1 1 (additive 1 (2013265921 ∷ [])) five (replicate 8 7777); expected = plain 2 (replicate 8 7777) }
    ∷ record { computed = take 4 (generated_at 2 1 1 (additive 1 (2013265921 ∷ [])) five (replicate 8 7777)); expected = plain 0 [] }
    ∷ record { computed = generated_at 2 1 1 (additive 1 (3 ∷ [])) (lift 2130706433 ++ lift 0) (replicate 8 7777); expected = plain 2 (replicate 8 7777) }
    -- rule 2: (3, 7) with beta 10 combines to 73; the empty tuple to 0
    ∷ record { computed = combine_under 2 babybear babybear_w (lift 10) (3 ∷ 7 ∷ []); expected = lift 73 }
    ∷ record { computed = combine_under 2 babybear babybear_w (lift 10) []; expected = lift 0 }
    -- each tuple is reversed, and the nodes past the last stay
    ∷ record { computed = reversed (2 ∷ 0 ∷ 3 ∷ []) (10 ∷ 11 ∷ 12 ∷ 13 ∷ 14 ∷ 15 ∷ 16 ∷ []); expected = 11 ∷ 10 ∷ 14 ∷ 13 ∷ 12 ∷ 15 ∷ 16 ∷ [] }
    -- (3, 7) beside (37) under rule 1 and beside (73) under rule 2: both denominators are 1, so the fraction is 2; in both fields
    ∷ record { computed = generated_at 1 1 1 (pair 37) (lift 38 ++ lift 10) (replicate 8 7777); expected = 0 ∷ 0 ∷ 0 ∷ 0 ∷ lift 2 ++ lift 0 ++ lift 2 }
    ∷ record { computed = generated_at 1 1 2 (pair 73) (lift 74 ++ lift 10) (replicate 8 7777); expected = 0 ∷ 0 ∷ 0 ∷ 0 ∷ lift 2 ++ lift 0 ++ lift 2 }
    ∷ record { computed = generated_at 2 1 2 (pair 73) (lift 74 ++ lift 10) (replicate 8 7777); expected = 0 ∷ 0 ∷ 0 ∷ 0 ∷ lift 2 ++ lift 0 ++ lift 2 }
    -- the constraints accept that trace under rule 2, not under rule 1
    ∷ record { computed = tested_at 1 1 2 (pair 73) (lift 74 ++ lift 10) (lift 0 ++ lift 2) (some (lift 2)); expected = plain 0 [] }
    ∷ record { computed = tested_at 1 1 1 (pair 73) (lift 74 ++ lift 10) (lift 0 ++ lift 2) (some (lift 2)); expected = 17 ∷ 0 ∷ 0 ∷ 0 ∷ [] }
    -- alpha 73 is refusal 15 under rule 2 alone
    ∷ record { computed = generated_at 1 1 2 (pair 1) (lift 73 ++ lift 10) (replicate 8 7777); expected = plain 15 (replicate 8 0) }
    ∷ record { computed = take 4 (generated_at 1 1 1 (pair 1) (lift 73 ++ lift 10) (replicate 8 7777)); expected = plain 0 [] }
    -- refusal 1, whatever else is wrong: field 3, profile 3, rule 3; also without lookups
    ∷ record { computed = generated_at 3 1 1 (additive 1 []) [] (7777 ∷ []); expected = plain 1 (7777 ∷ []) }
    ∷ record { computed = generated_at 1 3 1 (additive 1 (3 ∷ [])) five (replicate 8 7777); expected = plain 1 (replicate 8 7777) }
    ∷ record { computed = generated_at 2 1 3 no_lookup [] (7777 ∷ []); expected = plain 1 (7777 ∷ []) }
    ∷ record { computed = tested_at 0 1 1 (additive 1 (3 ∷ [])) five (lift 0 ++ lift 1006632961) none; expected = plain 1 [] }
    ∷ record { computed = tested_at 2 1 3 no_lookup five [] none; expected = plain 1 [] }
    ∷ []

pub cases-hold : T (hold cases)
unfolding pow_m add_m neg_m sub_m mul_m inverse1 add4 sub4 mul4 scale4 power4 sum4 product4 conjugate conjugate2 norm2 norm inverse4 is_zero element fold tab total every
    some_of first joined cabinet all_below all_within node decode row_of window node_value values row_values node_degree degrees traces_within
    nodes_within traces_fit nodes_fit traces_below constants_below nodes_known degrees_low name_start tuple_start multiplicity_start flag_start
    element_start tuple_width multiplicity_node flag_node tuple_nodes weight_limit lookup_within lookups_within lookups_fit sizes words_below known lengths_agree nodes_present
    lists_agree in_position has_lookups preprocessed_enough rows_enough tuple combine denominator quotient4 branches multiplicity flag chosen denom
    used_denom additive_fraction additive_fault exclusive_fraction exclusive_fault fraction fault fault_refusal place fraction_at row_sum
    accumulator row_words fault_at row_fault trace first_fault used entry_refusal rows_outcome entry_outcome generation others additive_numerator
    additive_denominator exclusive_numerator exclusive_denominator numerator common_denominator cell cell_sum lookup_constraint step binding
    row_verdict rows_verdict constraints_refusal verdict count lookup_entries row_entries entries same_list post ledger listed met tuples_met
    row_part has_ledger known_field prime_of w_of choices.known choices.known_rule choices.limits_of generation_at verdict_at
    reversed elements_under
cases-hold = tt
