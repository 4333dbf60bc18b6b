-- Worked cases of balance and the examples of refusals 9, 16 and 18: one table, one theorem, by computation.
use Rattle.std.specs.Prelude.{◌≡◌, refl, true, ℕ, length, replicate}
use Rattle.std.proofs.Math.Option.{none, some}
use mathlib.Core.List.{List, [], ◌∷◌, ◌++◌, flat_map}
use Rattle.lists.specs.Same.{same_list}
use Rattle.lists.specs.Count.{total, every, joined}
use Rattle.lists.specs.Fold.{fold}
use Rattle.lists.specs.Tab.{tab}
use Rattle.field.specs.Known.{babybear, known_field, prime_of}
use Rattle.field.specs.Word.{add_m, sub_m, neg_m, mul_m}
use Rattle.expression.specs.Words.{all_below, all_within}
use Rattle.expression.specs.Limits.{cabinet}
use Rattle.expression.specs.Choices as Choices
use Rattle.expression.specs.Choices.{choices_of, limits_of}
use Rattle.expression.specs.Node.{decode, node}
use Rattle.expression.specs.Window.{row_of, window}
use Rattle.expression.specs.Values.{node_value, values, row_values}
use Rattle.expression.specs.Degree.{node_degree, degrees}
use Rattle.expression.specs.Tests.{traces_within, nodes_within, traces_fit, nodes_fit, traces_below, constants_below, nodes_known, degrees_low}
use Rattle.expression.specs.declared.refusal.Refusal.TheVariants.{SizeAtOdds, WordTooLarge, RowsMissing, WorkspaceFull, NetNotZero}
use Rattle.lookup.specs.Lookups.{name_start, tuple_start, multiplicity_start, flag_start, element_start, tuple_width, tuple_nodes, lookup_at, lookups_of}
use Rattle.lookup.specs.Tests.{weight_limit, lookup_within, lookups_within, lookups_fit, sizes, words_below, known, lengths_agree, nodes_present, lists_agree, has_lookups, preprocessed_enough}
use Rattle.balance_slots.specs.Decimal.{digits, in_order, text_less}
use Rattle.balance_slots.specs.Slots.{add_nonzero, add, slots}
use Rattle.balance_slots.specs.Workspace.{full, workspace_of}
use Rattle.balance_slots.specs.GroupRefusal.{unbalanced, names_first, group_refusal}
use Rattle.lookup_buses.specs.Order.{keep}
use Rattle.lookup.specs.Sizes.{size_start, table_part}
use Rattle.balance.specs.Tables.{TableLists, shape_at, lookups_at, table_at, tables_of, lists_fit}
use Rattle.balance.specs.Groups.{members, same_bus, appears, local_group, bus_group, bus_groups, groups}
use Rattle.balance.specs.Entries.{count_of, entry_of, row_entries, member_entries, entries}
use Rattle.balance.specs.Refusals.{all, listed, covered, tables_refusal}
use Rattle.balance.specs.Balance.{Outcome, visit, balance, check, check_at}

-- node 0 is column 0, the tuple's word, and node 1 is column 1, how often it counts
abbrev pub columns : List ℕ
columns = 1 ∷ 0 ∷ 0 ∷ 1 ∷ 1 ∷ 0 ∷ []

-- the words of a local lookup of one tuple, and of one on a bus whose name has one byte
abbrev pub local_words : List ℕ
local_words = 0 ∷ 0 ∷ 1 ∷ 0 ∷ 0 ∷ 1 ∷ 1 ∷ 0 ∷ 0 ∷ []

abbrev pub bus_words : List ℕ
bus_words = 1 ∷ 1 ∷ 1 ∷ 0 ∷ 0 ∷ 1 ∷ 1 ∷ 0 ∷ 0 ∷ []

-- one table of `height` rows, with a local lookup of the tuple (node 0)
abbrev pub one_local : ℕ → List ℕ → TableLists
one_local height rows =
    record {
      sizes = 2 ∷ height ∷ 0 ∷ 0 ∷ length rows ∷ 0 ∷ 0 ∷ 2 ∷ 1 ∷ 0 ∷ 1 ∷ 1 ∷ 0 ∷ 1 ∷ [];
      main = rows;
      preprocessed = [];
      public_values = [];
      nodes = columns;
      lookups = record { lookups = local_words; names = []; tuples = 1 ∷ []; multiplicities = 1 ∷ []; flags = []; elements = 0 ∷ [] };
    }

-- two tables of one row each: the first has a lookup on the bus "b", the second one on the bus "b" and a local
abbrev pub two_tables : List ℕ → TableLists
two_tables rows =
    record {
      sizes = 2 ∷ 1 ∷ 0 ∷ 0 ∷ 2 ∷ 0 ∷ 0 ∷ 2 ∷ 1 ∷ 1 ∷ 1 ∷ 1 ∷ 0 ∷ 1 ∷ 2 ∷ 1 ∷ 0 ∷ 0 ∷ 2 ∷ 0 ∷ 0 ∷ 2 ∷ 2 ∷ 1 ∷ 2 ∷ 2 ∷ 0 ∷ 1 ∷ [];
      main = rows;
      preprocessed = [];
      public_values = [];
      nodes = columns ++ columns;
      lookups =
          record {
            lookups = bus_words ++ bus_words ++ local_words;
            names = 98 ∷ 98 ∷ [];
            tuples = 1 ∷ 1 ∷ 0 ∷ [];
            multiplicities = 1 ∷ 1 ∷ 1 ∷ [];
            flags = [];
            elements = 0 ∷ 0 ∷ [];
          };
    }

-- two tables of one row each, with a lookup on the bus "b" each
abbrev pub one_bus : List ℕ → TableLists
one_bus rows =
    record {
      sizes = 2 ∷ 1 ∷ 0 ∷ 0 ∷ 2 ∷ 0 ∷ 0 ∷ 2 ∷ 1 ∷ 1 ∷ 1 ∷ 1 ∷ 0 ∷ 1 ∷ 2 ∷ 1 ∷ 0 ∷ 0 ∷ 2 ∷ 0 ∷ 0 ∷ 2 ∷ 1 ∷ 1 ∷ 1 ∷ 1 ∷ 0 ∷ 1 ∷ [];
      main = rows;
      preprocessed = [];
      public_values = [];
      nodes = columns ++ columns;
      lookups =
          record { lookups = bus_words ++ bus_words; names = 98 ∷ 98 ∷ []; tuples = 1 ∷ 1 ∷ []; multiplicities = 1 ∷ 1 ∷ []; flags = []; elements = 0 ∷ 0 ∷ [] };
    }

-- an exclusive local of one branch: the tuple (node 0), counted node 1 times, with node 1 as flag too
abbrev pub exclusive : List ℕ → TableLists
exclusive rows =
    record {
      sizes = 2 ∷ 1 ∷ 0 ∷ 0 ∷ 2 ∷ 0 ∷ 0 ∷ 2 ∷ 1 ∷ 0 ∷ 1 ∷ 1 ∷ 1 ∷ 1 ∷ [];
      main = rows;
      preprocessed = [];
      public_values = [];
      nodes = columns;
      lookups =
          record { lookups = 0 ∷ 0 ∷ 1 ∷ 0 ∷ 1 ∷ 1 ∷ 1 ∷ 1 ∷ 0 ∷ []; names = []; tuples = 1 ∷ []; multiplicities = 1 ∷ []; flags = 1 ∷ []; elements = 0 ∷ [] };
    }

-- height 4, and a preprocessed trace of 3 rows
abbrev pub short : TableLists
short =
    record {
      sizes = 2 ∷ 4 ∷ 1 ∷ 3 ∷ 8 ∷ 3 ∷ 0 ∷ 2 ∷ 1 ∷ 0 ∷ 1 ∷ 1 ∷ 0 ∷ 1 ∷ [];
      main = replicate 8 0;
      preprocessed = replicate 3 0;
      public_values = [];
      nodes = columns;
      lookups = record { lookups = local_words; names = []; tuples = 1 ∷ []; multiplicities = 1 ∷ []; flags = []; elements = 0 ∷ [] };
    }

-- a slot of the tuple (w)
abbrev pub slot_of : ℕ → ℕ → List ℕ
slot_of w net = 1 ∷ w ∷ 0 ∷ 0 ∷ 0 ∷ 0 ∷ 0 ∷ 0 ∷ 0 ∷ net ∷ []

abbrev pub run : TableLists → ℕ → Outcome
run l room = check cabinet babybear l (replicate room 7)

-- at the choices of a call
abbrev pub run_at : ℕ → ℕ → TableLists → Outcome
run_at field profile l = check_at (choices_of field profile) l (replicate 10 7)

-- (3) counts 1 and 2013265920: together 0 in field 1, and not in field 2
abbrev pub balanced_1 : TableLists
balanced_1 = one_local 2 (3 ∷ 1 ∷ 3 ∷ 2013265920 ∷ [])

-- (3) counts 1 and 2130706432: together 0 in field 2; the second is no word of field 1
abbrev pub balanced_2 : TableLists
balanced_2 = one_local 2 (3 ∷ 1 ∷ 3 ∷ 2130706432 ∷ [])

pub cases :
    -- (9) and (10), both unbalanced: (10) is named
    (run (one_local 2 (9 ∷ 1 ∷ 10 ∷ 1 ∷ [])) 20 ≡ record { refusal = some (NetNotZero 0 1 1); workspace = slot_of 9 1 ++ slot_of 10 1 })
    -- 16: 2 tuples, 19 words
    × (run (one_local 2 (9 ∷ 1 ∷ 10 ∷ 1 ∷ [])) 19 ≡ record { refusal = some WorkspaceFull; workspace = replicate 19 0 })
    -- 18: (3) once
    × (run (one_local 1 (3 ∷ 1 ∷ [])) 10 ≡ record { refusal = some (NetNotZero 0 0 1); workspace = slot_of 3 1 })
    -- a net that returns to 0 keeps its slot, and a count of 0 makes none; what is short of a slot is zero
    × (run (one_local 4 (3 ∷ 1 ∷ 3 ∷ 2013265920 ∷ 4 ∷ 0 ∷ 5 ∷ 2 ∷ [])) 25
    ≡ record { refusal = some (NetNotZero 0 1 2); workspace = slot_of 3 0 ++ slot_of 5 2 ++ replicate 5 0 })
    -- it counts for 16
    × (run (one_local 3 (3 ∷ 1 ∷ 3 ∷ 2013265920 ∷ 5 ∷ 2 ∷ [])) 19 ≡ record { refusal = some WorkspaceFull; workspace = replicate 19 0 })
    -- all nets zero
    × (run (one_local 2 (3 ∷ 1 ∷ 3 ∷ 2013265920 ∷ [])) 10 ≡ record { refusal = none; workspace = slot_of 3 0 })
    -- the local is group 0, the bus of both tables group 1; the local's tuple is empty
    × (run (two_tables (3 ∷ 1 ∷ 3 ∷ 2013265920 ∷ [])) 10
    ≡ record { refusal = some (NetNotZero 0 0 2013265920); workspace = 0 ∷ replicate 8 0 ++ (2013265920 ∷ []) })
    × (run (two_tables (3 ∷ 1 ∷ 3 ∷ 0 ∷ [])) 10 ≡ record { refusal = some (NetNotZero 1 0 1); workspace = slot_of 3 1 })
    -- what one table sends on the bus the other receives
    × (run (one_bus (3 ∷ 1 ∷ 3 ∷ 2013265920 ∷ [])) 10 ≡ record { refusal = none; workspace = slot_of 3 0 })
    -- multiplicity × flag: 2 × 2
    × (run (exclusive (3 ∷ 2 ∷ [])) 10 ≡ record { refusal = some (NetNotZero 0 0 4); workspace = slot_of 3 4 })
    -- 9: height 4, preprocessed 3; the workspace is untouched
    × (run short 10 ≡ record { refusal = some RowsMissing; workspace = replicate 10 7 })
    -- "1" before "10" before "2"
    × (text_less 1 10 ≡ true)
    × (text_less 10 2 ≡ true)
    -- a net is zero modulo one prime only, and a word is below one prime only
    × (run_at 1 1 balanced_1 ≡ record { refusal = none; workspace = slot_of 3 0 })
    × (run_at 2 1 balanced_1 ≡ record { refusal = some (NetNotZero 0 0 2013265921); workspace = slot_of 3 2013265921 })
    × (run_at 2 1 balanced_2 ≡ record { refusal = none; workspace = slot_of 3 0 })
    × (run_at 1 1 balanced_2 ≡ record { refusal = some WordTooLarge; workspace = replicate 10 7 })
    -- an unknown field or profile; the workspace is untouched
    × (run_at 0 1 balanced_1 ≡ record { refusal = some SizeAtOdds; workspace = replicate 10 7 })
    × (run_at 3 1 balanced_1 ≡ record { refusal = some SizeAtOdds; workspace = replicate 10 7 })
    × (run_at 1 3 balanced_1 ≡ record { refusal = some SizeAtOdds; workspace = replicate 10 7 })
unfolding add_m sub_m neg_m mul_m total every joined fold tab flat_map all_below all_within cabinet decode node row_of window node_value values row_values node_degree
    degrees traces_within nodes_within traces_fit nodes_fit traces_below constants_below nodes_known degrees_low name_start tuple_start
    multiplicity_start flag_start element_start tuple_width tuple_nodes lookup_at lookups_of weight_limit lookup_within lookups_within lookups_fit sizes words_below known
    lengths_agree nodes_present lists_agree has_lookups preprocessed_enough same_list digits in_order add_nonzero add slots full workspace_of
    unbalanced names_first group_refusal keep size_start table_part shape_at lookups_at table_at tables_of lists_fit members same_bus appears
    local_group bus_group bus_groups groups count_of entry_of row_entries member_entries entries all listed covered tables_refusal visit balance
    check known_field prime_of Choices.known limits_of check_at
cases = (refl, refl, refl, refl, refl, refl, refl, refl, refl, refl, refl, refl, refl, refl, refl, refl, refl, refl, refl, refl)
