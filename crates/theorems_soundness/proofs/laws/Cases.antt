-- Small tables that meet the theorems' hypotheses, and what is computed of them, in each field and under each rule.
use Rattle.std.specs.Prelude.{ℕ, ◌+◌, ◌-◌, ◌/◌, ◌≡◌, Bool, true, cond, ◌&&◌, not, List, [], ◌∷◌, T, eqb, leb, length, replicate, take}
use Rattle.algebra.specs.Power.{pow_m}
use Rattle.lists.specs.Same.{same_list}
use Rattle.lists.specs.Fold.{fold}
use Rattle.lists.specs.Count.{total, every, some_of, first, joined}
use Rattle.lists.specs.laws.Count.{and_left, and_right, true_of}
use Rattle.lists.specs.laws.Tests.{chain, Passed, passed}
use Rattle.field.specs.Word.{add_m, neg_m, sub_m, mul_m, inverse1}
use Rattle.field.specs.Element.{lift, add4, sub4, mul4, scale4, power4, sum4, conjugate, conjugate2, norm2, norm, inverse4, is_zero, element}
use Rattle.field.specs.Known.{known_field, prime_of, w_of}
use Rattle.expression.specs.Choices.{choices_of, known as known_choices, known_rule, limits_of}
use Rattle.expression.specs.Words.{all_below, all_within}
use Rattle.expression.specs.Limits.{cabinet}
use Rattle.expression.specs.Node.{decode, node}
use Rattle.expression.specs.Window.{row_of, window}
use Rattle.expression.specs.Values.{node_value, values, row_values}
use Rattle.expression.specs.Degree.{node_degree, degrees}
use Rattle.expression.specs.Tests.{traces_within, nodes_within, traces_fit, nodes_fit, traces_below, constants_below, nodes_known, degrees_low}
use Rattle.expression.specs.declared.sizes.Limits.{Limits}
use Rattle.lookup.specs.Lookups.{name_start, tuple_start, multiplicity_start, flag_start, element_start, tuple_width, multiplicity_node, flag_node, tuple_nodes}
use Rattle.lookup.specs.Table.{Table, values_of}
use Rattle.lookup.specs.Tests.{weight_limit, lookup_within, lookups_within, lookups_fit, sizes, words_below, known, lengths_agree, nodes_present, lists_agree, in_position, has_lookups, preprocessed_enough, rows_enough}
use Rattle.logup.specs.Tuple.{tuple, combine, denominator, quotient4}
use Rattle.logup.specs.Rule.{reversed, elements_under, lookups_under}
use Rattle.logup.specs.Column.{Place, branches, multiplicity, flag, chosen, denom, used_denom, additive_fraction, additive_fault, exclusive_fraction, exclusive_fault, fraction, fault}
use Rattle.logup.specs.Rows.{fault_refusal, place, fraction_at, row_sum, accumulator, row_words, fault_at, row_fault, trace, first_fault, used}
use Rattle.logup.specs.Generation.{Answer, Generation, entry_refusal, rows_outcome, entry_outcome, generation, generation_at, accepts, terminal_words}
use Rattle.logup.specs.Constraints.{verdict_at}
use Rattle.logup.specs.Ledger.{has_ledger, at_pair, count, lookup_entries, row_entries, entries, post, ledger, listed, met, tuples_met}
use Rattle.logup.proofs.laws.Cases.{additive, no_lookup}
use Rattle.theorems_soundness.specs.Soundness.{Buffers, answer_at}
use Rattle.theorems_soundness.specs.Constraints.{Verdict}
use Rattle.theorems_soundness.specs.Lawful.{flag_at}
use Rattle.theorems_soundness.proofs.laws.Choices.{in_each_field, by_each_rule}

-- Two columns of main, and one lookup on the bus "m": the tuple of both columns, counted once.
abbrev pub two_columns : List ℕ → Table
two_columns main =
    record {
      traces =
          record {
            shape = record { main_width = 2; height = length main / 2; pre_width = 0; pre_height = 0 };
            main = main;
            preprocessed = [];
            public_values = [];
          };
      nodes = 1 ∷ 0 ∷ 0 ∷ 1 ∷ 1 ∷ 0 ∷ 0 ∷ 1 ∷ 0 ∷ [];
      lookups =
          record {
            lookups = 1 ∷ 1 ∷ 1 ∷ 0 ∷ 0 ∷ 1 ∷ 1 ∷ 0 ∷ 0 ∷ [];
            names = 109 ∷ [];
            tuples = 2 ∷ [];
            multiplicities = 2 ∷ [];
            flags = [];
            elements = 0 ∷ 1 ∷ [];
          };
    }

-- Three columns of main, and one exclusive lookup on the bus "m" with two branches, each counted once: the first column and 1 where the second
-- column is 1, and 1 and the second column where the third is 1.
abbrev pub two_branches : List ℕ → Table
two_branches main =
    record {
      traces =
          record {
            shape = record { main_width = 3; height = length main / 3; pre_width = 0; pre_height = 0 };
            main = main;
            preprocessed = [];
            public_values = [];
          };
      nodes = 1 ∷ 0 ∷ 0 ∷ 1 ∷ 1 ∷ 0 ∷ 1 ∷ 2 ∷ 0 ∷ 0 ∷ 1 ∷ 0 ∷ [];
      lookups =
          record {
            lookups = 1 ∷ 1 ∷ 1 ∷ 0 ∷ 1 ∷ 2 ∷ 2 ∷ 2 ∷ 0 ∷ [];
            names = 109 ∷ [];
            tuples = 2 ∷ 2 ∷ [];
            multiplicities = 3 ∷ 3 ∷ [];
            flags = 1 ∷ 2 ∷ [];
            elements = 0 ∷ 3 ∷ 3 ∷ 1 ∷ [];
          };
    }

-- the bus "m"
abbrev pub m_bus : List ℕ
m_bus = 109 ∷ []

abbrev pub buffers : Buffers
buffers a b = replicate 24 7777

-- a table of one entry: node k is the constant k, the tuple's elements are nodes, and so is its count
abbrev pub one : List ℕ → ℕ → Table
one es c =
    record {
      traces =
          record {
            shape = record { main_width = 1; height = 1; pre_width = 0; pre_height = 0 };
            main = 0 ∷ [];
            preprocessed = [];
            public_values = [];
          };
      nodes = 0 ∷ 0 ∷ 0 ∷ 0 ∷ 1 ∷ 0 ∷ 0 ∷ 2 ∷ 0 ∷ 0 ∷ 3 ∷ 0 ∷ 0 ∷ 4 ∷ 0 ∷ [];
      lookups =
          record {
            lookups = 1 ∷ 1 ∷ 1 ∷ 0 ∷ 0 ∷ 1 ∷ 1 ∷ 0 ∷ 0 ∷ [];
            names = 109 ∷ [];
            tuples = length es ∷ [];
            multiplicities = c ∷ [];
            flags = [];
            elements = es;
          };
    }

-- the tuples (1, 2) and (3, 4), and the same in the other order; row 3 once, against no lookup; the tuples (3, 1) and (1, 0) by the one branch and
-- the other, with a row that chooses none, and the same in the other order
abbrev pub forwards : Table
forwards = two_columns (1 ∷ 2 ∷ 3 ∷ 4 ∷ [])

abbrev pub backwards : Table
backwards = two_columns (3 ∷ 4 ∷ 1 ∷ 2 ∷ [])

abbrev pub single : Table
single = additive 1 (3 ∷ [])

abbrev pub choosing : Table
choosing = two_branches (3 ∷ 1 ∷ 0 ∷ 4 ∷ 0 ∷ 1 ∷ 5 ∷ 0 ∷ 0 ∷ [])

abbrev pub choosing_back : Table
choosing_back = two_branches (5 ∷ 0 ∷ 1 ∷ 3 ∷ 1 ∷ 0 ∷ [])

-- The tuple (1, 2) once, and the tuple (2, 1) once: each is the other as rule 2 reads it.
abbrev pub rising : Table
rising = one (1 ∷ 2 ∷ []) 1

abbrev pub falling : Table
falling = one (2 ∷ 1 ∷ []) 1

-- The word 3 once, and the word 4 twice: 1 ÷ (alpha - 3) = 2 ÷ (alpha - 4) at alpha = 2, with every beta.
abbrev pub low : Table
low = one (3 ∷ []) 1

abbrev pub high : Table
high = one (4 ∷ []) 2

-- The tuples (1, 0, 0) and (0, 0, 1), each once: they combine to beta² and to 1, so at beta = 1 and beta = -1 the tables pass at every alpha but 1.
abbrev pub left_table : Table
left_table = one (1 ∷ 0 ∷ 0 ∷ []) 1

abbrev pub right_table : Table
right_table = one (0 ∷ 0 ∷ 1 ∷ []) 1

-- generation and constraints in a field, within the cabinet's limits and by a rule
abbrev pub generate_in : ℕ → ℕ → Generation
generate_in field rule = generation_at (choices_of field 1) rule

abbrev pub constraints_in : ℕ → ℕ → Verdict
constraints_in field rule = verdict_at (choices_of field 1) rule

abbrev pub limits : Limits
limits = limits_of 1

-- the flags of a row: each is 0 or 1, and not both are 1
abbrev pub lawful_on : ℕ → Table → ℕ → Bool
lawful_on field t r =
    leb (flag_at (prime_of field) t r 0 0) 1 && leb (flag_at (prime_of field) t r 0 1) 1
    && not (eqb (flag_at (prime_of field) t r 0 0) 1 && eqb (flag_at (prime_of field) t r 0 1) 1)

-- generation's answer to a table at a pair of words
abbrev pub answer_to : ℕ → ℕ → Table → ℕ → ℕ → Answer
answer_to field rule t a b = answer_at (generate_in field rule) t buffers (lift a) (lift b)

-- generation accepts both tables at the pair, and the terminals agree there
abbrev pub agree? : ℕ → ℕ → Table → Table → ℕ → ℕ → Bool
agree? field rule t₁ t₂ a b =
    accepts (answer_to field rule t₁ a b) && accepts (answer_to field rule t₂ a b)
    && same_list (terminal_words (answer_to field rule t₁ a b)) (terminal_words (answer_to field rule t₂ a b))

-- 1 ÷ 2
abbrev pub half : ℕ → ℕ
half field = (prime_of field + 1) / 2

-- the tuples (1, 2) and (3, 4) with alpha 5 and beta 7: by rule 1 they give 1 ÷ (5 - 9) + 1 ÷ (5 - 25), by rule 2 1 ÷ (5 - 15) + 1 ÷ (5 - 31)
abbrev pub challenges : List ℕ
challenges = at_pair forwards (lift 5) (lift 7)

abbrev pub buffer : List ℕ
buffer = buffers (lift 5) (lift 7)

abbrev pub answer : ℕ → ℕ → Answer
answer field rule = answer_to field rule forwards 5 7

-- -3 ÷ 10 and -9 ÷ 65 in each field
abbrev pub end : ℕ → ℕ → List ℕ
end field rule = lift (cond (eqb rule 2) (cond (eqb field 2) 917842771 1982292599) (cond (eqb field 2) 213070643 603979776))

abbrev pub words : ℕ → ℕ → List ℕ
words field rule = take (used forwards.lookups.lookups 2) (generate_in field rule forwards challenges buffer).buffer

abbrev pub spot : ℕ → ℕ → ℕ → ℕ → Place
spot field rule = place (prime_of field) (w_of field) (lookups_under rule forwards.lookups) challenges (values_of (prime_of field) forwards)

-- on a row no fault, and a denominator that is not zero
abbrev pub regular_on : ℕ → ℕ → ℕ → Bool
regular_on field rule r =
    eqb (fault (prime_of field) (w_of field) (spot field rule r 0)) 0
    && not (is_zero (denom (prime_of field) (w_of field) (spot field rule r 0) 0))

-- What is computed in a field, table by table. Of two orders of two tuples: they have ledgers, and two tuples are met.
abbrev pub order_tests : ℕ → List Bool
order_tests field =
    has_ledger limits (prime_of field) forwards
    ∷ has_ledger limits (prime_of field) backwards
    ∷ eqb (tuples_met (prime_of field) forwards backwards) 2
    ∷ []

-- by a rule: at the four pairs of alphas 5, 6 and betas 7, 8 generation accepts both and the terminals agree
abbrev pub order_agree_tests : ℕ → ℕ → List Bool
order_agree_tests field rule =
    agree? field rule forwards backwards 5 7
    ∷ agree? field rule forwards backwards 6 7
    ∷ agree? field rule forwards backwards 5 8
    ∷ agree? field rule forwards backwards 6 8
    ∷ []

-- of one entry and none: one tuple is met, and the terminals at alpha 5 and beta 7 are 1 ÷ 2 and 0
abbrev pub single_tests : ℕ → List Bool
single_tests field =
    has_ledger limits (prime_of field) single
    ∷ has_ledger limits (prime_of field) no_lookup
    ∷ eqb (tuples_met (prime_of field) single no_lookup) 1
    ∷ accepts (answer_to field 1 single 5 7)
    ∷ accepts (answer_to field 1 no_lookup 5 7)
    ∷ same_list (terminal_words (answer_to field 1 single 5 7)) (lift (half field))
    ∷ same_list (terminal_words (answer_to field 1 no_lookup 5 7)) (lift 0)
    ∷ []

-- of two branches: they have ledgers, and lawful flags on every row
abbrev pub branch_tests : ℕ → List Bool
branch_tests field =
    has_ledger limits (prime_of field) choosing
    ∷ has_ledger limits (prime_of field) choosing_back
    ∷ every (lawful_on field choosing) 3
    ∷ every (lawful_on field choosing_back) 2
    ∷ []

-- of (1, 2) and (2, 1): the ledgers differ at (1, 2)
abbrev pub reversed_tests : ℕ → List Bool
reversed_tests field =
    has_ledger limits (prime_of field) rising
    ∷ has_ledger limits (prime_of field) falling
    ∷ eqb (ledger (prime_of field) rising (1 ∷ 2 ∷ [])) 1
    ∷ eqb (ledger (prime_of field) falling (1 ∷ 2 ∷ [])) 0
    ∷ []

-- by a rule, of the trace: generation answers that terminal, the table has lookups and words below p, and both rows are regular
abbrev pub trace_tests : ℕ → ℕ → List Bool
trace_tests field rule =
    accepts (answer field rule)
    ∷ same_list (terminal_words (answer field rule)) (end field rule)
    ∷ has_lookups forwards.lookups.lookups
    ∷ words_below (prime_of field) forwards
    ∷ every (regular_on field rule) 2
    ∷ []

-- of the words 3 and 4: two tuples are met, the ledgers differ at 3, and the terminals at alpha 2 and beta 7 agree
abbrev pub word_tests : ℕ → List Bool
word_tests field =
    has_ledger limits (prime_of field) low
    ∷ has_ledger limits (prime_of field) high
    ∷ eqb (tuples_met (prime_of field) low high) 2
    ∷ eqb (ledger (prime_of field) low (3 ∷ [])) 1
    ∷ eqb (ledger (prime_of field) high (3 ∷ [])) 0
    ∷ same_list (terminal_words (answer_to field 1 low 2 7)) (terminal_words (answer_to field 1 high 2 7))
    ∷ []

-- of (1, 0, 0) and (0, 0, 1): two tuples are met, the ledgers differ at (1, 0, 0), and both combine to 1 at beta 1 and at beta p - 1
abbrev pub triple_tests : ℕ → List Bool
triple_tests field =
    has_ledger limits (prime_of field) left_table
    ∷ has_ledger limits (prime_of field) right_table
    ∷ eqb (tuples_met (prime_of field) left_table right_table) 2
    ∷ eqb (ledger (prime_of field) left_table (1 ∷ 0 ∷ 0 ∷ [])) 1
    ∷ eqb (ledger (prime_of field) right_table (1 ∷ 0 ∷ 0 ∷ [])) 0
    ∷ same_list (combine (prime_of field) (w_of field) (lift 1) (1 ∷ 0 ∷ 0 ∷ [])) (lift 1)
    ∷ same_list (combine (prime_of field) (w_of field) (lift 1) (0 ∷ 0 ∷ 1 ∷ [])) (lift 1)
    ∷ same_list (combine (prime_of field) (w_of field) (lift (prime_of field - 1)) (1 ∷ 0 ∷ 0 ∷ [])) (lift 1)
    ∷ same_list (combine (prime_of field) (w_of field) (lift (prime_of field - 1)) (0 ∷ 0 ∷ 1 ∷ [])) (lift 1)
    ∷ []

-- what is computed by a rule; by each, (1, 2) and (2, 1) combine to 3 at beta 1
abbrev tests_by : ℕ → ℕ → List Bool
tests_by field rule =
    chain true (order_agree_tests field rule) ∷ chain true (trace_tests field rule) ∷ agree? field rule rising falling 5 1 ∷ []

abbrev tests : ℕ → List Bool
tests field =
    chain true (order_tests field) ∷ chain true (single_tests field) ∷ chain true (branch_tests field) ∷ chain true (reversed_tests field)
    ∷ chain true (word_tests field) ∷ chain true (triple_tests field) ∷ chain true (tests_by field 1) ∷ chain true (tests_by field 2) ∷ []

both_fields : T (chain true (tests 1) && chain true (tests 2))
unfolding pow_m add_m neg_m sub_m mul_m inverse1 add4 sub4 mul4 scale4 power4 sum4 conjugate conjugate2 norm2 norm inverse4 is_zero element fold total
    every some_of first joined cabinet all_below all_within node decode row_of window node_value values row_values node_degree degrees traces_within
    nodes_within traces_fit nodes_fit traces_below constants_below nodes_known degrees_low name_start tuple_start multiplicity_start flag_start
    element_start tuple_width multiplicity_node flag_node tuple_nodes weight_limit lookup_within lookups_within lookups_fit sizes words_below known lengths_agree nodes_present
    lists_agree in_position has_lookups preprocessed_enough rows_enough tuple combine denominator quotient4 branches multiplicity flag chosen denom
    used_denom additive_fraction additive_fault exclusive_fraction exclusive_fault fraction fault fault_refusal place fraction_at row_sum
    accumulator row_words fault_at row_fault trace first_fault used entry_refusal rows_outcome entry_outcome generation count lookup_entries
    row_entries entries same_list post ledger listed met tuples_met has_ledger at_pair known_field prime_of w_of known_choices known_rule limits_of
    generation_at reversed elements_under
both_fields = tt

-- each list of tests, taken apart
each : (l : List Bool) → chain true l ≡ true → Passed l
each l e = (passed true l e).1

all : (field : ℕ) → T (known_field field) → Passed (tests field)
all =
    in_each_field (λ (field : ℕ). Passed (tests field))
    (each (tests 1) (true_of (chain true (tests 1)) (and_left (chain true (tests 1)) (chain true (tests 2)) both_fields)))
    (each (tests 2) (true_of (chain true (tests 2)) (and_right (chain true (tests 1)) (chain true (tests 2)) both_fields)))

module _ (field : ℕ) (ok : T (known_field field)) where
  pub order-holds : Passed (order_tests field)
  order-holds = each (order_tests field) (all field ok).0

  pub single-holds : Passed (single_tests field)
  single-holds = each (single_tests field) (all field ok).1.0

  pub branch-holds : Passed (branch_tests field)
  branch-holds = each (branch_tests field) (all field ok).1.1.0

  pub reversed-holds : Passed (reversed_tests field)
  reversed-holds = each (reversed_tests field) (all field ok).1.1.1.0

  pub word_holds : Passed (word_tests field)
  word_holds = each (word_tests field) (all field ok).1.1.1.1.0

  pub triple_holds : Passed (triple_tests field)
  triple_holds = each (triple_tests field) (all field ok).1.1.1.1.1.0

  module _ (rule : ℕ) (by : T (known_rule rule)) where
    holds_by : Passed (tests_by field rule)
    holds_by =
        by_each_rule (λ (rule : ℕ). Passed (tests_by field rule)) (each (tests_by field 1) (all field ok).1.1.1.1.1.1.0)
        (each (tests_by field 2) (all field ok).1.1.1.1.1.1.1.0) rule by

    pub order-agree-holds : Passed (order_agree_tests field rule)
    order-agree-holds = each (order_agree_tests field rule) holds_by.0

    pub trace-holds : Passed (trace_tests field rule)
    trace-holds = each (trace_tests field rule) holds_by.1.0

    pub reversed-agree : agree? field rule rising falling 5 1 ≡ true
    reversed-agree = holds_by.1.1.0
