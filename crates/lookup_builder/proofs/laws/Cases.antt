-- Building at small tables, by computation: the weights of SPECIFICATION, section 6.3, refusals 1, 2 and 6, and the choices of a call.
use Rattle.std.specs.Prelude.{◌≡◌, refl, true, List, [], ◌∷◌, ℕ, replicate, Err, Ok}
use Rattle.std.proofs.Common.{arith}
use Rattle.lists.specs.Count.{total, every, first, joined}
use Rattle.field.specs.Known.{known_field, prime_of}
use Rattle.expression.specs.Words.{all_below, all_within}
use Rattle.expression.specs.laws.Below.{within-tested}
use Rattle.expression.specs.Limits.{cabinet}
use Rattle.expression.specs.Choices.{choices_of, known, limits_of}
use Rattle.expression.specs.Node.{decode, node}
use Rattle.expression.specs.Degree.{node_degree, degrees}
use Rattle.expression.specs.Tests.{nodes_within, nodes_fit, constants_below, nodes_known, degrees_low}
use Rattle.expression.specs.declared.choices.Choices.{Choices}
use Rattle.expression.specs.declared.refusal.Refusal.TheVariants.{SizeAtOdds, WordTooLarge, WidthsDiffer}
use Rattle.lookup.specs.Lookups.{name_start, tuple_start, multiplicity_start, flag_start, element_start, tuple_width}
use Rattle.lookup.specs.Refusals.{columns_within, form_sizes, nodes_refusal, lists_refusal, form_refusal, shape_of}
use Rattle.lookup.specs.Tests.{weight_limit, lookup_within, lookups_within, lookups_fit, lengths_agree, nodes_present, lists_agree}
use Rattle.lookup.specs.declared.refusals.Columns.{Columns}
use Rattle.lookup_degree.specs.Sums.{greatest}
use Rattle.lookup_builder.specs.Building.{first_tuple, weight_sum, weight_top, built_weight, built_words, built, local_refusal, locals_refusal}
use Rattle.lookup_builder.specs.FromInteractions.{Interactions, Outcome, building_fits, built_refusal, building_refusal, building, building_at}
use Rattle.lookup_builder.specs.declared.answer.Kinds.{Kinds}
use Rattle.lookup_builder.specs.BuiltWeights.{BuiltWhole}
use Rattle.lookup_builder.proofs.laws.BuiltWeights.{built-weights}

abbrev one_column : Columns
one_column = record { main = 1; preprocessed = 0; public_values = 0 }

-- one node: column 0 of the current row
abbrev one_node : List ℕ
one_node = 1 ∷ 0 ∷ 0 ∷ []

-- a local of two tuples, a global on "b", an exclusive of two branches on "b"
abbrev three : List ℕ → List ℕ → List ℕ → Interactions
three interactions weights tuples =
    record {
      interactions = interactions;
      weights = weights;
      names = 98 ∷ 98 ∷ [];
      tuples = tuples;
      multiplicities = replicate 5 0;
      flags = 0 ∷ 0 ∷ [];
      elements = replicate (element_start tuples 5) 0;
    }

abbrev one_each : Kinds
one_each = record { locals = 1; globals = 1; exclusives = 1 }

abbrev sized : List ℕ
sized = 0 ∷ 2 ∷ 1 ∷ 1 ∷ 1 ∷ 2 ∷ []

abbrev lent : List ℕ
lent = replicate 28 9

abbrev building_of : Interactions → Outcome
building_of g = building_at (choices_of 1 1) one_column one_node one_each g lent

-- the one node is a constant
abbrev building_with : Choices → ℕ → Outcome
building_with c a = building_at c one_column (0 ∷ a ∷ 0 ∷ []) one_each (three sized (2 ∷ 1 ∷ 5 ∷ 3 ∷ 7 ∷ []) (replicate 5 1)) lent

-- these three lookups, where the local's weight is low + 2³² × high
abbrev with_local : ℕ → ℕ → Outcome
with_local low high =
    record {
      answer = Ok 27;
      lookups =
          0 ∷ 0 ∷ low ∷ 0 ∷ 0 ∷ 2 ∷ 2 ∷ 0 ∷ high ∷ 1 ∷ 1 ∷ 5 ∷ 1 ∷ 0 ∷ 1 ∷ 1 ∷ 0 ∷ 0 ∷ 1 ∷ 1 ∷ 7 ∷ 2 ∷ 1 ∷ 2 ∷ 2 ∷ 2 ∷ 0 ∷ 9 ∷ [];
    }

pub cases :
    -- the local's sum 2³² - 1, 2³², and the largest of two tuples; a global's own weight; the largest of the branches' weights; what lies past
    -- the words is untouched
    (building_of (three sized (4294967294 ∷ 1 ∷ 5 ∷ 3 ∷ 7 ∷ []) (replicate 5 1)) ≡ with_local 4294967295 0)
    × (building_of (three sized (4294967295 ∷ 1 ∷ 5 ∷ 3 ∷ 7 ∷ []) (replicate 5 1)) ≡ with_local 0 1)
    × (building_of (three sized (4294967295 ∷ 4294967295 ∷ 5 ∷ 3 ∷ 7 ∷ []) (replicate 5 1)) ≡ with_local 4294967294 1)
    -- 6: the local's tuples have widths 2 and 3
    × (building_of (three sized (2 ∷ 1 ∷ 5 ∷ 3 ∷ 7 ∷ []) (2 ∷ 3 ∷ 1 ∷ 1 ∷ 1 ∷ [])) ≡ record { answer = Err (WidthsDiffer 0 2 3); lookups = lent })
    -- the widths of a bus are not compared here
    × ((building_of (three sized (2 ∷ 1 ∷ 5 ∷ 3 ∷ 7 ∷ []) (2 ∷ 2 ∷ 1 ∷ 1 ∷ 2 ∷ []))).answer ≡ Ok 27)
    -- 1: a global of two tuples, and a weight short
    × ((building_of (three (0 ∷ 1 ∷ 1 ∷ 2 ∷ 1 ∷ 2 ∷ []) (2 ∷ 1 ∷ 5 ∷ 3 ∷ 7 ∷ []) (replicate 5 1))).answer ≡ Err SizeAtOdds)
    × ((building_of (three sized (2 ∷ 1 ∷ 5 ∷ 3 ∷ []) (replicate 5 1))).answer ≡ Err SizeAtOdds)
    -- 2 reads the prime of the field: the first is a word of field 2
    × (building_with (choices_of 1 1) 2013265921 ≡ record { answer = Err WordTooLarge; lookups = lent })
    × ((building_with (choices_of 2 1) 2013265921).answer ≡ Ok 27)
    × (building_with (choices_of 2 1) 2130706433 ≡ record { answer = Err WordTooLarge; lookups = lent })
    -- an unknown field or profile is 1, before 2, and the lent list stays
    × (building_with (choices_of 3 1) 4294967295 ≡ record { answer = Err SizeAtOdds; lookups = lent })
    × (building_with (choices_of 2 3) 0 ≡ record { answer = Err SizeAtOdds; lookups = lent })
unfolding known_field prime_of known limits_of total every first joined all_below all_within cabinet decode node node_degree degrees nodes_within
    nodes_fit constants_below nodes_known degrees_low name_start tuple_start multiplicity_start flag_start element_start tuple_width columns_within
    form_sizes nodes_refusal lists_refusal form_refusal shape_of weight_limit lookup_within lookups_within lookups_fit lengths_agree nodes_present lists_agree greatest
    first_tuple weight_sum weight_top built_weight built_words built local_refusal locals_refusal building_fits built_refusal building_refusal
    building building_at
cases = (refl, refl, refl, refl, refl, refl, refl, refl, refl, refl, refl, refl)

-- the heaviest local of two tuples is written whole, and is within its limit
words_32 : all_within 4294967295 (4294967295 ∷ 4294967295 ∷ 5 ∷ 3 ∷ 7 ∷ []) ≡ true
unfolding all_within every
words_32 = refl

pub heaviest_whole : BuiltWhole one_each sized (4294967295 ∷ 4294967295 ∷ 5 ∷ 3 ∷ 7 ∷ []) 0
heaviest_whole =
    built-weights one_each sized (4294967295 ∷ 4294967295 ∷ 5 ∷ 3 ∷ 7 ∷ []) (within-tested 4294967295 (4294967295 ∷ 4294967295 ∷ 5 ∷ 3 ∷ 7 ∷ []) words_32) 0 (omega arith)
