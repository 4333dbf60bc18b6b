-- The worked cases c1 to c12 of SPECIFICATION, section 12.1, c1 also under rule 2, and some of them in field 2: what the definitions give, beside
-- the numbers that are expected.
use Rattle.std.specs.Prelude.{ℕ, ◌*◌, List, [], ◌∷◌, ◌++◌, map, length, replicate}
use Rattle.std.proofs.Math.Option.{Option, get_or}
use Rattle.lists.specs.Count.{joined}
use Rattle.lists.specs.Cases.{Case}
use Rattle.field.specs.Element.{lift, mul4}
use Rattle.field.specs.Known.{babybear, babybear_w, prime_of, w_of}
use Rattle.expression.specs.Choices.{choices_of}
use Rattle.expression.specs.Limits.{cabinet}
use Rattle.expression.specs.Refusal.{answer_number, answer_details}
use Rattle.expression.specs.declared.refusal.Refusal.{Refusal}
use Rattle.lookup.specs.Lookups.{Lookups, Lookup, lookup_at}
use Rattle.lookup.specs.Table.{Table}
use Rattle.lookup_degree.specs.Degree.{node_degrees, lookup_degree}
use Rattle.packing.specs.PackSameBus.{columns}
use Rattle.lookup_challenges.specs.Prefixes.{prefix, prefixes_at}
use Rattle.lookup_protocol.specs.Height.{height_refusal, height_at}
use Rattle.logup.specs.Tuple.{combine, combine_under}
use Rattle.logup.specs.Generation.{Answer, Outcome, generation, generation_at}

-- one node: a column, of degree 1
abbrev pub one_node : List ℕ
one_node = 1 ∷ 0 ∷ 0 ∷ []

-- a lookup on the bus "b" of n tuples, each of node 0 alone, with one node for the count of each; exclusive ones have as many flags
abbrev pub lookup_of : ℕ → ℕ → ℕ → ℕ → ℕ → Lookups
lookup_of exclusive n flags count_node flag_node =
    record {
      lookups = 1 ∷ 1 ∷ 1 ∷ 0 ∷ exclusive ∷ n ∷ n ∷ flags ∷ 0 ∷ [];
      names = 98 ∷ [];
      tuples = replicate n 1;
      multiplicities = replicate n count_node;
      flags = replicate flags flag_node;
      elements = replicate n 0;
    }

-- its degree where node 0 counts and chooses too
abbrev pub degree_of : ℕ → ℕ → ℕ → List ℕ
degree_of exclusive n flags = lookup_degree (node_degrees 0 one_node) (lookup_at (lookup_of exclusive n flags 0 0) 0) ∷ []

-- such a lookup over the rows of one column of main: node 0 is the column, the counts are `times`, the flags `on`
abbrev pub table_of : ℕ → ℕ → ℕ → ℕ → ℕ → List ℕ → Table
table_of exclusive n flags times on rows =
    record {
      traces =
          record {
            shape = record { main_width = 1; height = length rows; pre_width = 0; pre_height = 0 };
            main = rows;
            preprocessed = [];
            public_values = [];
          };
      nodes = 1 ∷ 0 ∷ 0 ∷ 0 ∷ times ∷ 0 ∷ 0 ∷ on ∷ 0 ∷ [];
      lookups = lookup_of exclusive n flags 1 2;
    }

abbrev pub additive : ℕ → List ℕ → Table
additive times rows = table_of 0 1 0 times 0 rows

abbrev pub branching : ℕ → ℕ → ℕ → List ℕ → Table
branching n times on rows = table_of 1 n n times on rows

-- the answer as words: its number, its details and the terminal, if there is one
abbrev pub answer_words : Answer → List ℕ
answer_words a = a.number ∷ a.details ++ get_or a.terminal []

-- the answer, then the buffer
abbrev pub outcome_words : Outcome → List ℕ
outcome_words o = answer_words o.answer ++ o.buffer

-- what generation gives with this alpha and beta 0, in a buffer of so many words
abbrev pub generated : Table → ℕ → ℕ → List ℕ
generated t alpha room = outcome_words (generation cabinet babybear babybear_w t (lift alpha ++ lift 0) (replicate room 7))

-- the same at the entry point in field 2
abbrev pub generated_2 : Table → ℕ → ℕ → List ℕ
generated_2 t alpha room = outcome_words (generation_at (choices_of 2 1) 1 t (lift alpha ++ lift 0) (replicate room 7))

-- five lookups of one such tuple each
abbrev pub five_singles : Lookups
five_singles =
    record {
      lookups = joined (λ i. 1 ∷ 1 ∷ 1 ∷ i ∷ 0 ∷ 1 ∷ 1 ∷ 0 ∷ 0 ∷ []) 0 5;
      names = replicate 5 98;
      tuples = replicate 5 1;
      multiplicities = replicate 5 0;
      flags = [];
      elements = replicate 5 0;
    }

-- how many tuples each column has
abbrev pub column_sizes : ℕ → List ℕ
column_sizes limit = map (λ (l : Lookup). length l.tuples) (columns limit one_node five_singles)

-- a number and three details
abbrev pub refusal_words : Option Refusal → List ℕ
refusal_words r = answer_number r ∷ answer_details r

-- one lookup of this weight
abbrev pub weighing : ℕ → List ℕ
weighing weight = 1 ∷ 0 ∷ weight ∷ 0 ∷ 0 ∷ 0 ∷ 0 ∷ 0 ∷ 0 ∷ []

-- in a table of this height
abbrev pub bound_of : ℕ → ℕ → List ℕ
bound_of weight height = refusal_words (height_refusal cabinet babybear (weighing weight) (1 ∷ []) (height ∷ []))

-- the same at the entry point in field 2
abbrev pub bound_of_2 : ℕ → ℕ → List ℕ
bound_of_2 weight height = refusal_words (height_at (choices_of 2 1) (weighing weight) (1 ∷ []) (height ∷ []))

-- so many prefixes of these words at the entry point in field 2: the answer's number, then the prefixes
abbrev pub prefixes_2 : ℕ → ℕ → ℕ → ℕ → List ℕ
prefixes_2 alpha beta width n =
    let o = prefixes_at (choices_of 2 1) (lift alpha) (lift beta) width n (replicate (4 * n) 7) in
    o.answer.number ∷ o.out

abbrev pub cases : List Case
cases =
    -- c1: (3, 7) with beta 10 combines to 37
    record { computed = combine babybear babybear_w (lift 10) (3 ∷ 7 ∷ []); expected = lift 37 }
    -- by its rule: to 37 under rule 1, to 73 under rule 2
    ∷ record { computed = combine_under 1 babybear babybear_w (lift 10) (3 ∷ 7 ∷ []); expected = lift 37 }
    ∷ record { computed = combine_under 2 babybear babybear_w (lift 10) (3 ∷ 7 ∷ []); expected = lift 73 }
    -- c2: the empty tuple, 0
    ∷ record { computed = combine babybear babybear_w (lift 10) []; expected = lift 0 }
    -- c3: X³ × X = 11
    ∷ record { computed = mul4 babybear babybear_w (0 ∷ 0 ∷ 0 ∷ 1 ∷ []) (0 ∷ 1 ∷ 0 ∷ 0 ∷ []); expected = lift 11 }
    -- c4: rows 3, 4 with multiplicity 1, alpha 5: fractions 1006632961 and 1, terminal 1006632962
    ∷ record {
      computed = generated (additive 1 (3 ∷ 4 ∷ [])) 5 16;
      expected = replicate 4 0 ++ lift 1006632962 ++ lift 0 ++ lift 1006632961 ++ lift 1006632961 ++ lift 1;
    }
    -- c5: additive (3), multiplicity 0, alpha 3: fraction 0
    ∷ record { computed = generated (additive 0 (3 ∷ [])) 3 8; expected = replicate 16 0 }
    -- c6: the same in a chosen branch, 15
    ∷ record { computed = generated (branching 1 0 1 (3 ∷ [])) 3 8; expected = 15 ∷ replicate 11 0 }
    -- c7: all flags 0, fraction 0
    ∷ record { computed = generated (branching 2 1 0 (3 ∷ [])) 3 8; expected = replicate 16 0 }
    -- c8: two additive tuples, all of degree 1: degree 3
    ∷ record { computed = degree_of 0 2 0; expected = 3 ∷ [] }
    -- c9: four exclusive branches likewise, 3
    ∷ record { computed = degree_of 1 4 4; expected = 3 ∷ [] }
    -- c10: five one-tuple additive lookups of degree 1 on one bus, limit 3: columns of 2, 2, 1; limit 0: five
    ∷ record { computed = column_sizes 3; expected = 2 ∷ 2 ∷ 1 ∷ [] }
    ∷ record { computed = column_sizes 0; expected = 1 ∷ 1 ∷ 1 ∷ 1 ∷ 1 ∷ [] }
    -- c11: alpha 1, beta 2, W 3: 9, 17
    ∷ record { computed = joined (prefix babybear babybear_w (lift 1) (lift 2) 3) 0 2; expected = lift 9 ++ lift 17 }
    -- c12: weight 2013265920, height 1: passes
    ∷ record { computed = bound_of 2013265920 1; expected = 0 ∷ 0 ∷ 0 ∷ 0 ∷ [] }
    ∷ []

-- p = 2130706433 and X⁴ = 3
abbrev pub field_2_cases : List Case
field_2_cases =
    -- c3: X³ × X = 3
    record { computed = mul4 (prime_of 2) (w_of 2) (0 ∷ 0 ∷ 0 ∷ 1 ∷ []) (0 ∷ 1 ∷ 0 ∷ 0 ∷ []); expected = lift 3 }
    -- c4: fractions 1065353217 and 1, terminal 1065353218
    ∷ record {
      computed = generated_2 (additive 1 (3 ∷ 4 ∷ [])) 5 16;
      expected = replicate 4 0 ++ lift 1065353218 ++ lift 0 ++ lift 1065353217 ++ lift 1065353217 ++ lift 1;
    }
    -- c11: the same 9, 17
    ∷ record { computed = prefixes_2 1 2 3 2; expected = 0 ∷ lift 9 ++ lift 17 }
    -- c12: weight 2130706432, height 1: passes; weight 2130706433: 19
    ∷ record { computed = bound_of_2 2130706432 1; expected = 0 ∷ 0 ∷ 0 ∷ 0 ∷ [] }
    ∷ record { computed = bound_of_2 2130706433 1; expected = 19 ∷ 2130706433 ∷ 0 ∷ 0 ∷ [] }
    ∷ []
