-- The examples of SPECIFICATION, sections 3, 10.1 and 12, that are about the expression table, as one table with one theorem.
use Rattle.std.specs.Prelude.{Bool, List, [], ◌∷◌, ◌++◌, ℕ, ◌+◌, T}
use Rattle.lists.specs.Count.{every}
use Rattle.lists.specs.Same.{same_list}
use Rattle.lists.specs.Cases.{Case, hold}
use Rattle.field.specs.Known.{babybear, known_field}
use Rattle.field.specs.Word.{add_m, sub_m, neg_m, mul_m}
use Rattle.expression.specs.Words.{all_below, all_within}
use Rattle.expression.specs.Limits.{cabinet, gateway}
use Rattle.expression.specs.Choices.{choices_of, known, limits_of}
use Rattle.expression.specs.Node.{decode, node}
use Rattle.expression.specs.Window.{Traces, row_of, window}
use Rattle.expression.specs.Values.{bit, node_value, values, row_values}
use Rattle.expression.specs.Degree.{node_degree, degrees}
use Rattle.expression.specs.declared.sizes.Limits.{Limits}
use Rattle.expression.specs.Tests.{traces_within, traces_below, constants_below, nodes_known, degrees_low}

-- a verdict as a word: 1 where there is no such refusal
abbrev pub verdict : Bool → List ℕ
verdict b = bit b ∷ []

-- main has one column with the rows 3, 4, 5; the preprocessed trace has one row more, 6, 7, 8, 9; one public value, 10
abbrev pub three_rows : Traces
three_rows =
    record {
      shape = record { main_width = 1; height = 3; pre_width = 1; pre_height = 4 };
      main = 3 ∷ 4 ∷ 5 ∷ [];
      preprocessed = 6 ∷ 7 ∷ 8 ∷ 9 ∷ [];
      public_values = 10 ∷ [];
    }

abbrev pub one_row : Traces
one_row =
    record {
      shape = record { main_width = 1; height = 1; pre_width = 0; pre_height = 0 };
      main = 3 ∷ [];
      preprocessed = [];
      public_values = [];
    }

abbrev two_rows : Traces
two_rows =
    record {
      shape = record { main_width = 1; height = 2; pre_width = 1; pre_height = 3 };
      main = 3 ∷ 4 ∷ [];
      preprocessed = 6 ∷ 7 ∷ 8 ∷ [];
      public_values = [];
    }

-- the constant 2, then the column and the preprocessed column, each in the current and the next row, and the public value
abbrev pub leaves : List ℕ
leaves = 0 ∷ 2 ∷ 0 ∷ 1 ∷ 0 ∷ 0 ∷ 2 ∷ 0 ∷ 0 ∷ 3 ∷ 0 ∷ 0 ∷ 4 ∷ 0 ∷ 0 ∷ 5 ∷ 0 ∷ 0 ∷ []

-- a column at the offsets 0 to 3 by kind k, and by the kind after it, which ignores the 3
abbrev ahead : ℕ → List ℕ
ahead k = k ∷ 0 ∷ 0 ∷ k ∷ 0 ∷ 1 ∷ k ∷ 0 ∷ 2 ∷ k ∷ 0 ∷ 3 ∷ (k + 1) ∷ 0 ∷ 3 ∷ []

-- first row, last row, transition
abbrev pub selectors : List ℕ
selectors = 6 ∷ 0 ∷ 0 ∷ 7 ∷ 0 ∷ 0 ∷ 8 ∷ 0 ∷ 0 ∷ []

-- the column in the current row and in the next: their sum, difference and product, and the negation of the first
abbrev pub operations : List ℕ
operations = 1 ∷ 0 ∷ 0 ∷ 2 ∷ 0 ∷ 0 ∷ 9 ∷ 0 ∷ 1 ∷ 10 ∷ 0 ∷ 1 ∷ 11 ∷ 0 ∷ 1 ∷ 12 ∷ 0 ∷ 0 ∷ []

-- three columns, and node 3 as the sum of node a and node 1
abbrev pub sum_of : ℕ → List ℕ
sum_of a = 1 ∷ 0 ∷ 0 ∷ 2 ∷ 0 ∷ 0 ∷ 1 ∷ 0 ∷ 0 ∷ 9 ∷ a ∷ 1 ∷ []

-- a column, squared seven times
abbrev pub squared : List ℕ
squared =
    1 ∷ 0 ∷ 0 ∷ 11 ∷ 0 ∷ 0 ∷ 11 ∷ 1 ∷ 1 ∷ 11 ∷ 2 ∷ 2 ∷ 11 ∷ 3 ∷ 3 ∷ 11 ∷ 4 ∷ 4 ∷ 11 ∷ 5 ∷ 5 ∷ 11 ∷ 6 ∷ 6 ∷ []

abbrev pub squared_again : List ℕ
squared_again =
    1 ∷ 0 ∷ 0 ∷ 11 ∷ 0 ∷ 0 ∷ 11 ∷ 1 ∷ 1 ∷ 11 ∷ 2 ∷ 2 ∷ 11 ∷ 3 ∷ 3 ∷ 11 ∷ 4 ∷ 4 ∷ 11 ∷ 5 ∷ 5 ∷ 11 ∷ 6 ∷ 6 ∷ 11 ∷ 7 ∷ 7 ∷ []

-- whether traces of one column each are within the limits, by their heights
abbrev rows_within : Limits → ℕ → ℕ → List ℕ
rows_within m height pre_height = verdict (traces_within m (record { main_width = 1; height = height; pre_width = 1; pre_height = pre_height }) [])

abbrev pub cases : List Case
cases =
    -- refusal 1: main width 0
    record { computed = verdict (traces_within cabinet (record { main_width = 0; height = 3; pre_width = 1; pre_height = 4 }) []); expected = 0 ∷ [] }
    ∷ record { computed = verdict (traces_within cabinet three_rows.shape (10 ∷ [])); expected = 1 ∷ [] }
    -- the gateway: 4,096 rows and one more, of main and of the preprocessed trace; no such limit in the cabinet, and no profile 0 or 3
    ∷ record { computed = rows_within gateway 4096 4096 ++ rows_within gateway 4097 0 ++ rows_within gateway 0 4097; expected = 1 ∷ 0 ∷ 0 ∷ [] }
    ∷ record { computed = rows_within cabinet 4097 4097 ++ rows_within cabinet 1048577 0; expected = 1 ∷ 0 ∷ [] }
    ∷ record {
      computed = verdict (known (choices_of 1 1)) ++ verdict (known (choices_of 2 2)) ++ verdict (known (choices_of 1 0)) ++ verdict (known (choices_of 1 3));
      expected = 1 ∷ 1 ∷ 0 ∷ 0 ∷ [];
    }
    ∷ record { computed = (limits_of 1).height ∷ (limits_of 2).height ∷ []; expected = 1048576 ∷ 4096 ∷ [] }
    -- refusal 2: a word 2013265921, in a list and in a constant
    ∷ record { computed = verdict (all_below babybear (5 ∷ 2013265921 ∷ [])); expected = 0 ∷ [] }
    ∷ record { computed = verdict (all_below babybear (5 ∷ 2013265920 ∷ [])); expected = 1 ∷ [] }
    ∷ record { computed = verdict (constants_below babybear (0 ∷ 2013265921 ∷ 0 ∷ [])); expected = 0 ∷ [] }
    ∷ record { computed = verdict (traces_below babybear three_rows); expected = 1 ∷ [] }
    -- refusal 3: node 3 = node 3 + node 1; a kind 13; a second column; preprocessed without a preprocessed trace
    ∷ record { computed = verdict (nodes_known three_rows.shape 1 (sum_of 3)); expected = 0 ∷ [] }
    ∷ record { computed = verdict (nodes_known three_rows.shape 1 (sum_of 2)); expected = 1 ∷ [] }
    ∷ record { computed = verdict (nodes_known three_rows.shape 1 (13 ∷ 0 ∷ 0 ∷ [])); expected = 0 ∷ [] }
    ∷ record { computed = verdict (nodes_known three_rows.shape 1 (1 ∷ 1 ∷ 0 ∷ [])); expected = 0 ∷ [] }
    ∷ record { computed = verdict (nodes_known one_row.shape 0 (3 ∷ 0 ∷ 0 ∷ [])); expected = 0 ∷ [] }
    -- offset 4 of main and of the preprocessed trace; 3, and an ignored 4
    ∷ record { computed = verdict (nodes_known three_rows.shape 1 (1 ∷ 0 ∷ 4 ∷ [])); expected = 0 ∷ [] }
    ∷ record { computed = verdict (nodes_known three_rows.shape 1 (3 ∷ 0 ∷ 4 ∷ [])); expected = 0 ∷ [] }
    ∷ record { computed = verdict (nodes_known three_rows.shape 1 (1 ∷ 0 ∷ 3 ∷ 2 ∷ 0 ∷ 4 ∷ 3 ∷ 0 ∷ 3 ∷ 4 ∷ 0 ∷ 4 ∷ [])); expected = 1 ∷ [] }
    -- refusal 4: a column squared 8 times
    ∷ record { computed = verdict (degrees_low cabinet squared_again); expected = 0 ∷ [] }
    ∷ record { computed = verdict (degrees_low cabinet squared); expected = 1 ∷ [] }
    ∷ record { computed = degrees 0 (8 ∷ 0 ∷ 0 ∷ 1 ∷ 0 ∷ 0 ∷ 9 ∷ 0 ∷ 1 ∷ 11 ∷ 1 ∷ 2 ∷ []) 4; expected = 0 ∷ 1 ∷ 1 ∷ 2 ∷ [] }
    -- the window: row 1, and the last row with row 0 after it, in the preprocessed trace too
    ∷ record { computed = row_values babybear leaves three_rows 1; expected = 2 ∷ 4 ∷ 5 ∷ 7 ∷ 8 ∷ 10 ∷ [] }
    ∷ record { computed = row_values babybear leaves three_rows 2; expected = 2 ∷ 5 ∷ 3 ∷ 8 ∷ 6 ∷ 10 ∷ [] }
    -- three rows ahead, around the end of main, at heights 3, 2 and 1
    ∷ record { computed = row_values babybear (ahead 1 ++ ahead 3) three_rows 1; expected = 4 ∷ 5 ∷ 3 ∷ 4 ∷ 5 ∷ 7 ∷ 8 ∷ 6 ∷ 7 ∷ 8 ∷ [] }
    ∷ record { computed = row_values babybear (ahead 1 ++ ahead 3) two_rows 1; expected = 4 ∷ 3 ∷ 4 ∷ 3 ∷ 3 ∷ 7 ∷ 6 ∷ 7 ∷ 6 ∷ 6 ∷ [] }
    ∷ record { computed = row_values babybear (ahead 1) one_row 0; expected = 3 ∷ 3 ∷ 3 ∷ 3 ∷ 3 ∷ [] }
    -- kinds 6 to 8 on each of three rows, and at height 1
    ∷ record { computed = row_values babybear selectors three_rows 0; expected = 1 ∷ 0 ∷ 1 ∷ [] }
    ∷ record { computed = row_values babybear selectors three_rows 1; expected = 0 ∷ 0 ∷ 1 ∷ [] }
    ∷ record { computed = row_values babybear selectors three_rows 2; expected = 0 ∷ 1 ∷ 0 ∷ [] }
    ∷ record { computed = row_values babybear selectors one_row 0; expected = 1 ∷ 1 ∷ 0 ∷ [] }
    -- kinds 9 to 12 on row 0, and at height 1, where the next row is row 0
    ∷ record { computed = row_values babybear operations three_rows 0; expected = 3 ∷ 4 ∷ 7 ∷ 2013265920 ∷ 12 ∷ 2013265918 ∷ [] }
    ∷ record { computed = row_values babybear operations one_row 0; expected = 3 ∷ 3 ∷ 6 ∷ 0 ∷ 9 ∷ 2013265918 ∷ [] }
    ∷ []

pub cases-hold : T (hold cases)
unfolding add_m sub_m neg_m mul_m every all_below all_within cabinet gateway known_field known limits_of decode node row_of window node_value values row_values node_degree degrees traces_within traces_below constants_below nodes_known degrees_low same_list
cases-hold = tt
