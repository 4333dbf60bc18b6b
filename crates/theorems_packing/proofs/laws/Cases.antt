-- The theorems of this crate at work on one table, in each field: on the bus "b" two additive lookups that share a column at limit 3 and an
-- exclusive one, and a local between them. Every theorem's hypotheses are met, and balance accepts both tables. The terminal under rule 2 is of
-- another table, with tuples of two words.
use Rattle.std.specs.Prelude.{◌≡◌, refl, true, ◌↔◌, ℕ, ◌+◌, ◌<◌, replicate, Ok}
use Rattle.std.proofs.Common.{sym, ap, ◌∙◌, subst}
use Rattle.std.proofs.Math.Option.{none}
use mathlib.Core.List.{List, [], ◌∷◌, flat_map, zip_with}
use native.Mathlib.Omega.{arith}
use Rattle.std.proofs.Math.Dec.{T}
use Rattle.algebra.specs.Power.{pow_m}
use Rattle.lists.specs.Same.{same_list}
use Rattle.lists.specs.Count.{total, every, some_of, first, joined}
use Rattle.lists.specs.Fold.{fold}
use Rattle.lists.specs.Tab.{tab}
use Rattle.field.specs.Word.{add_m, neg_m, sub_m, mul_m, inverse1}
use Rattle.field.specs.Element.{lift, add4, sub4, mul4, scale4, power4, sum4, conjugate, conjugate2, norm2, norm, inverse4, is_zero, element}
use Rattle.field.specs.Known.{known_field, prime_of, w_of}
use Rattle.field.proofs.laws.Known.{modulus_of}
use Rattle.theorems_logup.specs.Sets.{Pair}
use Rattle.expression.specs.Words.{all_below, all_within}
use Rattle.expression.specs.Choices as Choices
use Rattle.expression.specs.Choices.{choices_of, known_rule, limits_of}
use Rattle.expression.specs.Limits.{cabinet}
use Rattle.expression.specs.Node.{decode, node}
use Rattle.expression.specs.Window.{row_of, window}
use Rattle.expression.specs.Values.{node_value, values, row_values}
use Rattle.expression.specs.Degree.{node_degree, degrees}
use Rattle.expression.specs.Tests.{traces_within, nodes_within, traces_fit, nodes_fit, traces_below, constants_below, nodes_known, degrees_low}
use Rattle.expression.specs.declared.sizes.Limits.{Limits}
use Rattle.lookup.specs.Lookups.{Lookups, name_start, tuple_start, multiplicity_start, flag_start, element_start, tuple_width, multiplicity_node, flag_node, tuple_nodes, lookup_count, lookup_at, lookups_of}
use Rattle.lookup.specs.Table.{Table, values_of}
use Rattle.lookup.specs.Sizes.{size_start, table_part}
use Rattle.lookup.specs.Refusals.{columns_within, form_sizes, form_refusal, shape_of}
use Rattle.lookup.specs.Buses.{name_at, alone_at, same_bus}
use Rattle.lookup.specs.Tests.{weight_limit, lookup_within, lookups_within, lookups_fit, sizes, words_below, known, lengths_agree, nodes_present, lists_agree, in_position, has_lookups, preprocessed_enough, rows_enough}
use Rattle.lookup.specs.laws.Tested.{sizes_passed, fitting, agreeing}
use Rattle.lookup.specs.declared.refusals.Columns.{Columns}
use Rattle.lookup_degree.specs.Sums.{sum_of, largest_of, greatest}
use Rattle.lookup_degree.specs.Degree.{tuple_degree, denominator_degree, numerator_degree, additive_degree, lookup_degree}
use Rattle.lookup_buses.specs.Order.{keep, position, by_place, numbers, place, arranged}
use Rattle.lookup_buses.specs.Widths.{width_in_lookup, width_in_table, expected, by_bus, lookup_refusal, table_refusal, widths_refusal, widest_in_lookup, widest_in_table, widest}
use Rattle.lookup_protocol.specs.Height.{table_lookups, weight_sum, table_weight, height_sum}
use Rattle.logup.specs.Rule.{reversed, elements_under}
use Rattle.logup.specs.Tuple.{tuple, combine, denominator, quotient4}
use Rattle.logup.specs.Column.{branches, multiplicity, flag, chosen, denom, used_denom, additive_fraction, additive_fault, exclusive_fraction, exclusive_fault, fraction, fault}
use Rattle.logup.specs.Rows as rows
use Rattle.logup.specs.Rows.{fault_refusal, fraction_at, row_sum, accumulator, fault_at, row_fault, first_fault, used}
use Rattle.logup.specs.Generation.{Answer, terminal, entry_refusal, rows_outcome, entry_outcome, generation, generation_at, accepts}
use Rattle.logup.specs.Ledger as logup
use Rattle.logup.specs.Ledger.{Entry, ledger}
use Rattle.packing.specs.Packing.{in_order, fill, filled, renumbered, packed, overweight}
use Rattle.packing.specs.Written.{lookup_words, words_of}
use Rattle.packing.specs.PackSameBus.{holds, columns, packing_refusal, counts, all_written, packing_at}
use Rattle.balance_slots.specs.Slots.{add_nonzero, add, slots}
use Rattle.balance_slots.specs.Workspace.{full}
use Rattle.balance_slots.specs.GroupRefusal.{unbalanced, names_first, group_refusal}
use Rattle.balance.specs.Tables as balance_lists
use Rattle.balance.specs.Tables.{TableLists}
use Rattle.balance.specs.Refusals.{all, listed, covered, tables_refusal}
use Rattle.balance.specs.Groups as groups
use Rattle.balance.specs.Groups.{members, appears, local_group, bus_group, bus_groups}
use Rattle.balance.specs.Entries.{count_of, entry_of, row_entries, member_entries, entries}
use Rattle.balance.specs.Balance.{visit, balance, check, check_at}
use Rattle.theorems_packing.specs.Packed.{packed_table, NotOverweight}
use Rattle.theorems_packing.specs.Passes.{Tested, PassesPacked}
use Rattle.theorems_packing.specs.Bounds.{packed_tables, bus_tables}
use Rattle.theorems_packing.specs.Lists.{lists_of}
use Rattle.theorems_packing.specs.Terminal.{SharedPairs, pairs_from, challenges_of, bus_sum}
use Rattle.theorems_packing.proofs.laws.Packed.{all_same}
use Rattle.theorems_packing.proofs.laws.Same.{same-accepted}
use Rattle.theorems_packing.proofs.laws.Accepted.{known-accepted, known-lists-accepted}
use Rattle.theorems_packing.proofs.laws.Terminal.{known-same-terminal, same_bus-sum}
use Rattle.theorems_packing.proofs.laws.Back.{known_writes_packed}
use Rattle.theorems_packing.proofs.laws.Passes.{packed-passes}
use Rattle.theorems_packing.proofs.laws.Ledger.{same_entries, same-ledger}
use Rattle.theorems_packing.proofs.laws.Bounds.{same-height_sum, same-widths}

-- the column on the bus; a local of two tuples; two branches; the column once more, all counted by these nodes
abbrev counted : List ℕ → Lookups
counted ms =
    record {
      lookups =
          1 ∷ 1 ∷ 1 ∷ 0 ∷ 0 ∷ 1 ∷ 1 ∷ 0 ∷ 0
          ∷ 0 ∷ 0 ∷ 2 ∷ 1 ∷ 0 ∷ 2 ∷ 2 ∷ 0 ∷ 0
          ∷ 1 ∷ 1 ∷ 2 ∷ 2 ∷ 1 ∷ 2 ∷ 2 ∷ 2 ∷ 0
          ∷ 1 ∷ 1 ∷ 1 ∷ 3 ∷ 0 ∷ 1 ∷ 1 ∷ 0 ∷ 0 ∷ [];
      names = 98 ∷ 98 ∷ 98 ∷ [];
      tuples = 1 ∷ 1 ∷ 1 ∷ 1 ∷ 1 ∷ 1 ∷ [];
      multiplicities = ms;
      flags = 4 ∷ 5 ∷ [];
      elements = 0 ∷ 0 ∷ 0 ∷ 0 ∷ 0 ∷ 0 ∷ [];
    }

-- once on the bus; once and back in the local; -2 times by the branches; once more: every net is zero
abbrev lookups : Lookups
lookups = counted (1 ∷ 1 ∷ 2 ∷ 3 ∷ 3 ∷ 1 ∷ [])

-- the local and the exclusive lookup in front, then one column of both additive lookups with their weights added
abbrev packed_lookups : Lookups
packed_lookups =
    record {
      lookups =
          0 ∷ 0 ∷ 2 ∷ 0 ∷ 0 ∷ 2 ∷ 2 ∷ 0 ∷ 0
          ∷ 1 ∷ 1 ∷ 2 ∷ 1 ∷ 1 ∷ 2 ∷ 2 ∷ 2 ∷ 0
          ∷ 1 ∷ 1 ∷ 2 ∷ 2 ∷ 0 ∷ 2 ∷ 2 ∷ 0 ∷ 0 ∷ [];
      names = 98 ∷ 98 ∷ [];
      tuples = 1 ∷ 1 ∷ 1 ∷ 1 ∷ 1 ∷ 1 ∷ [];
      multiplicities = 1 ∷ 2 ∷ 3 ∷ 3 ∷ 1 ∷ 1 ∷ [];
      flags = 4 ∷ 5 ∷ [];
      elements = 0 ∷ 0 ∷ 0 ∷ 0 ∷ 0 ∷ 0 ∷ [];
    }

-- the column and 1 in a tuple, in two lookups on the bus that share a column
abbrev wide : Lookups
wide =
    record {
      lookups =
          1 ∷ 1 ∷ 1 ∷ 0 ∷ 0 ∷ 1 ∷ 1 ∷ 0 ∷ 0
          ∷ 1 ∷ 1 ∷ 1 ∷ 1 ∷ 0 ∷ 1 ∷ 1 ∷ 0 ∷ 0 ∷ [];
      names = 98 ∷ 98 ∷ [];
      tuples = 2 ∷ 2 ∷ [];
      multiplicities = 1 ∷ 1 ∷ [];
      flags = [];
      elements = 0 ∷ 1 ∷ 0 ∷ 1 ∷ [];
    }

-- the table's columns, in place of its traces
abbrev main_only : Columns
main_only = record { main = 1; preprocessed = 0; public_values = 0 }

-- a workspace of balance for two tuples
abbrev workspace : List ℕ
workspace = replicate 20 7

-- a buffer of generation for two rows of four lookups
abbrev buffer : List ℕ
buffer = replicate 40 7

-- the challenges: alpha 5 for the bus and 6 for the local, beta 3 for both
abbrev pair : ℕ → Pair (List ℕ)
pair a = record { alpha = lift a; beta = lift 3 }

abbrev shared : SharedPairs
shared =
    record {
      bus = λ name. pair 5;
      own = λ n. pair (6 + n);
      bus_four = λ name. record { alpha_four = refl; beta_four = refl };
      own_four = λ n. record { alpha_four = refl; beta_four = refl };
    }

-- the limit, where each table has its own
abbrev three : ℕ → ℕ
three t = 3

module _ (field : ℕ) where
  abbrev m : Limits
  m = limits_of 1

  abbrev p : ℕ
  p = prime_of field

  abbrev w : ℕ
  w = w_of field

  -- nodes 0 to 5: the column, 1, -1, -2, first row, last row
  abbrev nodes : List ℕ
  nodes = 1 ∷ 0 ∷ 0 ∷ 0 ∷ 1 ∷ 0 ∷ 0 ∷ neg_m p 1 ∷ 0 ∷ 0 ∷ neg_m p 2 ∷ 0 ∷ 6 ∷ 0 ∷ 0 ∷ 7 ∷ 0 ∷ 0 ∷ []

  -- two rows, 3 and 4
  abbrev table_of : Lookups → Table
  table_of l =
      record {
        traces =
            record {
              shape = record { main_width = 1; height = 2; pre_width = 0; pre_height = 0 };
              main = 3 ∷ 4 ∷ [];
              preprocessed = [];
              public_values = [];
            };
        nodes = nodes;
        lookups = l;
      }

  abbrev table : Table
  table = table_of lookups

  -- everything counted once
  abbrev once : Table
  once = table_of (counted (replicate 6 1))

  abbrev wide_table : Table
  wide_table = table_of wide

  -- the only one, where there may be several tables
  abbrev one_table : ℕ → Table
  one_table t = table

  -- the lists of balance for the table, and for the packed table
  abbrev lists : Lookups → ℕ → ℕ → TableLists
  lists l count names =
      record {
        sizes = 1 ∷ 2 ∷ 0 ∷ 0 ∷ 2 ∷ 0 ∷ 0 ∷ 6 ∷ count ∷ names ∷ 6 ∷ 6 ∷ 2 ∷ 6 ∷ [];
        main = 3 ∷ 4 ∷ [];
        preprocessed = [];
        public_values = [];
        nodes = nodes;
        lookups = l;
      }

  abbrev before : TableLists
  before = lists lookups 4 3

  abbrev after : TableLists
  after = lists packed_lookups 3 2

  -- What is computed in the field: the tests find nothing, packing makes these lookups, the lists hold them, and balance accepts the table; the sum of
  -- the height bound, and the widths; the terminal, and the sum on the bus, where everything is counted once; under rule 2 both are -3.
  pub record Computed (terminal-word bus_word : ℕ) : Type 0 where
    is_known : T (Choices.known (choices_of field 1))
    tested : Tested m p table
    not_over : NotOverweight 3 table
    once_tested : Tested m p once
    once_not_over : NotOverweight 3 once
    packs : (packed_table 3 table).lookups ≡ packed_lookups
    may_pack : packing_refusal m p 3 main_only nodes lookups lookups ≡ none
    tables_are : (balance_lists.tables_of before ≡ table ∷ []) × (balance_lists.tables_of after ≡ table_of packed_lookups ∷ [])
    fits : balance_lists.lists_fit m after ≡ true
    tests : tables_refusal m p before ≡ none
    accepted : (check_at (choices_of field 1) before workspace).refusal ≡ none
    held : (table_lookups lookups.lookups (4 ∷ []) 0 ≡ lookups.lookups)
        × (table_lookups packed_lookups.lookups (3 ∷ []) 0 ≡ packed_lookups.lookups)
    height : height_sum lookups.lookups (4 ∷ []) (2 ∷ []) ≡ 12
    widths : (widths_refusal (bus_tables 1 one_table) ≡ none) × (widest (bus_tables 1 one_table) ≡ 1)
    generated : (generation_at (choices_of field 1) 1 once (challenges_of shared once) buffer).answer ≡ terminal (lift terminal-word)
    bus_total : bus_sum 1 p w once (challenges_of shared once) (98 ∷ []) ≡ lift bus_word
    wide_tested : Tested m p wide_table
    wide_not_over : NotOverweight 3 wide_table
    wide_packs : lookup_count (packed_table 3 wide_table).lookups.lookups ≡ 1
    wide_generated : (generation_at (choices_of field 1) 2 wide_table (challenges_of shared wide_table) buffer).answer ≡ terminal (lift (neg_m p 3))
    wide_total : bus_sum 2 p w wide_table (challenges_of shared wide_table) (98 ∷ []) ≡ lift (neg_m p 3)

  -- what the theorems say of the packed table then
  pub record AtWork (terminal-word bus_word : ℕ) : Type 0 where
    -- The entry point writes these lookups: here into lists that are as long as the table's own.
    pub written : packing_at (choices_of field 1) 3 main_only nodes lookups lookups
        ≡ record { answer = Ok (counts packed_lookups); lists = all_written packed_lookups lookups }
    -- it passes the tests
    pub passes : PassesPacked m p 3 table
    -- it has the same ledger
    pub ledger_same : (l : List ℕ) → ledger p (packed_table 3 table) l ≡ ledger p table l
    pub entries_same : (r : ℕ) (counted : Entry → ℕ)
        → sum_of counted (logup.row_entries p (packed_table 3 table).lookups (values_of p table r))
        ≡ sum_of counted (logup.row_entries p lookups (values_of p table r))
    -- the lists of the height bound: four lookups before, three columns after, and the sum is 12 for both
    pub height_sum_same : height_sum packed_lookups.lookups (3 ∷ []) (2 ∷ []) ≡ 12
    -- no refusal 6, and the widest tuple has one word
    pub widths_same : (widths_refusal (bus_tables 1 (packed_tables three one_table)) ≡ none)
        × (widest (bus_tables 1 (packed_tables three one_table)) ≡ 1)
    -- balance accepts it, with room for two tuples in each group
    pub accepted_after : (check_at (choices_of field 1) after workspace).refusal ≡ none
    -- also as a caller lends it
    pub accepted_lent : (check_at (choices_of field 1) (lists_of (packed_table 3 table ∷ [])) workspace).refusal ≡ none
    -- behind the tests too, with whatever room
    pub balanced : (room : ℕ)
        → ((balance p room (table ∷ [])).refusal ≡ none) ↔ ((balance p room (packed_table 3 table ∷ [])).refusal ≡ none)
    -- the four lookups and the three columns sum up to the same terminal
    pub terminal_same : (generation_at (choices_of field 1) 1 (packed_table 3 once) (challenges_of shared (packed_table 3 once)) buffer).answer
        ≡ terminal (lift terminal-word)
    -- and on the bus alone
    pub bus_sum_same : bus_sum 1 p w (packed_table 3 once) (challenges_of shared (packed_table 3 once)) (98 ∷ []) ≡ lift bus_word
    -- and under rule 2, where the rows 3 and 4 combine to 6 and 7: the one column has the terminal of both lookups
    pub one_column : lookup_count (packed_table 3 wide_table).lookups.lookups ≡ 1
    pub terminal_same_2 : (generation_at (choices_of field 1) 2 (packed_table 3 wide_table) (challenges_of shared (packed_table 3 wide_table)) buffer).answer
        ≡ terminal (lift (neg_m p 3))
    pub bus_sum_same_2 : bus_sum 2 p w (packed_table 3 wide_table) (challenges_of shared (packed_table 3 wide_table)) (98 ∷ []) ≡ lift (neg_m p 3)

  pub at_work : {terminal-word bus_word : ℕ} → Computed terminal-word bus_word → AtWork terminal-word bus_word
  at_work c =
      record {
        written =
            known_writes_packed (choices_of field 1) c.is_known 3 main_only table lookups c.may_pack
            ∙ ap (λ (l : Lookups). record { answer = Ok (counts l); lists = all_written l lookups }) c.packs;
        passes = packed-passes m p 3 table c.tested c.not_over;
        ledger_same = same-ledger m p 3 table c.tested;
        entries_same = same_entries m p 3 table c.tested;
        height_sum_same =
            same-height_sum 1 three one_table lookups.lookups (4 ∷ []) packed_lookups.lookups (3 ∷ []) (2 ∷ [])
            (record { count = refl; each = λ t h. rw (zeroth t h) c.held.0 })
            (record { count = refl; each = λ t h. rw (zeroth t h) (c.held.1 ∙ sym (ap (λ (l : Lookups). l.lookups) c.packs)) })
            ∙ c.height;
        widths_same =
            let same = same-widths 1 three one_table (λ t h. fit) in
            (same.refusal.0 c.widths.0, same.widest_same ∙ c.widths.1);
        accepted_after =
            ((known-accepted (choices_of field 1) c.is_known before after
            (rw (c.tables_are.0, c.tables_are.1) (record { limit = 3; packed = ap table_of (sym c.packs); not_over = c.not_over }, tt)) c.fits c.tests
            ).accepted workspace).0 c.accepted;
        accepted_lent =
            ((known-lists-accepted (choices_of field 1) c.is_known before (packed_table 3 table ∷ [])
            (rw c.tables_are.0 (record { limit = 3; packed = refl; not_over = c.not_over }, tt)) c.tests
            ).accepted workspace).0 c.accepted;
        balanced = λ room.
            same-accepted p room (omega (arith, (modulus_of field).big)) (table ∷ []) (packed_table 3 table ∷ [])
            (all_same p (table ∷ []) (packed_table 3 table ∷ [])
            (record { fitting = fitting lookups fit; agreeing = agreeing 6 lookups c.tested.lists_pass }, tt)
            (record { limit = 3; packed = refl; not_over = c.not_over }, tt));
        terminal_same =
            known-same-terminal (choices_of field 1) 1 c.is_known (unfold known_rule in tt) 3 once shared buffer c.once_not_over
            (subst (λ (a : Answer). T (accepts a)) (sym c.generated) tt)
            ∙ c.generated;
        bus_sum_same = same_bus-sum 1 m p w 3 once shared (98 ∷ []) c.once_tested ∙ c.bus_total;
        one_column = c.wide_packs;
        terminal_same_2 =
            known-same-terminal (choices_of field 1) 2 c.is_known (unfold known_rule in tt) 3 wide_table shared buffer c.wide_not_over
            (subst (λ (a : Answer). T (accepts a)) (sym c.wide_generated) tt)
            ∙ c.wide_generated;
        bus_sum_same_2 = same_bus-sum 2 m p w 3 wide_table shared (98 ∷ []) c.wide_tested ∙ c.wide_total;
      }
    where
      zeroth : (t : ℕ) → t < 1 → t ≡ 0
      zeroth t h = omega arith

      fit : lookups_fit lookups ≡ true
      fit = (sizes_passed m table c.tested.sizes_pass).4

-- the terminal is 37 ÷ 6, and the sum on the bus 9 ÷ 2
pub computed : Computed 1 1677721607 1006632965 × Computed 2 355117745 1065353221
unfolding flat_map zip_with pow_m same_list total every some_of first joined fold tab add_m neg_m sub_m mul_m inverse1 add4 sub4 mul4 scale4 power4 sum4
    conjugate conjugate2 norm2 norm inverse4 is_zero element known_field prime_of w_of all_below all_within Choices.known known_rule limits_of cabinet
    decode node row_of window node_value values row_values node_degree degrees traces_within nodes_within traces_fit nodes_fit traces_below
    constants_below nodes_known degrees_low name_start tuple_start multiplicity_start flag_start element_start tuple_width multiplicity_node flag_node
    tuple_nodes lookup_at lookups_of size_start table_part columns_within form_sizes form_refusal shape_of name_at alone_at same_bus weight_limit lookup_within lookups_within
    lookups_fit sizes words_below known lengths_agree nodes_present lists_agree in_position has_lookups preprocessed_enough rows_enough sum_of
    largest_of greatest tuple_degree denominator_degree numerator_degree additive_degree lookup_degree keep position by_place numbers place arranged
    width_in_lookup width_in_table expected by_bus lookup_refusal table_refusal widths_refusal widest_in_lookup widest_in_table widest table_lookups
    weight_sum table_weight height_sum tuple combine denominator quotient4 branches multiplicity flag chosen denom used_denom additive_fraction
    additive_fault exclusive_fraction exclusive_fault fraction fault rows.place fault_refusal fraction_at row_sum accumulator fault_at row_fault
    first_fault used entry_refusal rows_outcome entry_outcome generation generation_at in_order fill filled renumbered packed overweight lookup_words
    words_of holds columns packing_refusal add_nonzero add slots full unbalanced names_first group_refusal balance_lists.shape_at
    balance_lists.lookups_at balance_lists.table_at balance_lists.tables_of balance_lists.lists_fit all listed covered tables_refusal groups.same_bus
    groups.groups members appears local_group bus_group bus_groups count_of entry_of row_entries member_entries entries visit balance check check_at
    pairs_from challenges_of bus_sum reversed elements_under
computed = (
  record {
    is_known = tt;
    tested = record { sizes_pass = refl; words_pass = refl; nodes_pass = refl; degrees_pass = refl; lists_pass = refl };
    not_over = refl;
    once_tested = record { sizes_pass = refl; words_pass = refl; nodes_pass = refl; degrees_pass = refl; lists_pass = refl };
    once_not_over = refl;
    packs = refl;
    may_pack = refl;
    tables_are = (refl, refl);
    fits = refl;
    tests = refl;
    accepted = refl;
    held = (refl, refl);
    height = refl;
    widths = (refl, refl);
    generated = refl;
    bus_total = refl;
    wide_tested = record { sizes_pass = refl; words_pass = refl; nodes_pass = refl; degrees_pass = refl; lists_pass = refl };
    wide_not_over = refl;
    wide_packs = refl;
    wide_generated = refl;
    wide_total = refl;
  },
  record {
    is_known = tt;
    tested = record { sizes_pass = refl; words_pass = refl; nodes_pass = refl; degrees_pass = refl; lists_pass = refl };
    not_over = refl;
    once_tested = record { sizes_pass = refl; words_pass = refl; nodes_pass = refl; degrees_pass = refl; lists_pass = refl };
    once_not_over = refl;
    packs = refl;
    may_pack = refl;
    tables_are = (refl, refl);
    fits = refl;
    tests = refl;
    accepted = refl;
    held = (refl, refl);
    height = refl;
    widths = (refl, refl);
    generated = refl;
    bus_total = refl;
    wide_tested = record { sizes_pass = refl; words_pass = refl; nodes_pass = refl; degrees_pass = refl; lists_pass = refl };
    wide_not_over = refl;
    wide_packs = refl;
    wide_generated = refl;
    wide_total = refl;
  },
)
