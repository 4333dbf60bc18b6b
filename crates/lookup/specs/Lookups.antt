-- The words of a table's lookups: flat lists, and what is read from them. Each reader takes just the lists that it reads. SPECIFICATION, sections 2.4 to 2.6.
use Rattle.std.specs.Prelude.{ℕ, ◌+◌, ◌*◌, ◌/◌, Bool, cond, not, List, [], eqb, length, take, drop}
use Rattle.lists.specs.Count.{total}
use Rattle.lists.specs.Tab.{tab}
use Rattle.expression.specs.Words.{word}
use Rattle.lookup.specs.declared.table.LentLookups.{LentLookups}

pub record Lookups : Type 0 where
  -- for each lookup: scope, name length, weight, column, exclusive, tuples, multiplicities, flags, and the weight's high half
  pub lookups : List ℕ
  -- the bytes of the bus names, one name after the other
  pub names : List ℕ
  -- the width of each tuple
  pub tuples : List ℕ
  -- the node of each multiplicity, those of lookup 0 first
  pub multiplicities : List ℕ
  -- the node of each flag, likewise
  pub flags : List ℕ
  -- the nodes of each tuple's elements, one tuple after the other
  pub elements : List ℕ

-- the lookups from the lists that are lent
abbrev pub lent_lookups : List ℕ → List ℕ → List ℕ → List ℕ → List ℕ → List ℕ → Lookups
lent_lookups lookups names tuples multiplicities flags elements =
    record { lookups = lookups; names = names; tuples = tuples; multiplicities = multiplicities; flags = flags; elements = elements }

-- the lookups, from what a caller lends
abbrev pub as_lookups : LentLookups → Lookups
as_lookups l = lent_lookups l.records.now l.names.now l.tuples.now l.multiplicities.now l.flags.now l.elements.now

-- the lookups of which just these lists are lent: what the buses are read from
abbrev pub bus_lookups : List ℕ → List ℕ → List ℕ → Lookups
bus_lookups lookups names tuples = lent_lookups lookups names tuples [] [] []

-- the words of a lookup's record, and the place of each
abbrev pub lookup_words : ℕ
lookup_words = 9

abbrev pub scope_word : ℕ
scope_word = 0

abbrev pub name_length_word : ℕ
name_length_word = 1

abbrev pub weight_word : ℕ
weight_word = 2

abbrev pub column_word : ℕ
column_word = 3

abbrev pub exclusive_word : ℕ
exclusive_word = 4

abbrev pub tuple_count_word : ℕ
tuple_count_word = 5

abbrev pub multiplicity_count_word : ℕ
multiplicity_count_word = 6

abbrev pub flag_count_word : ℕ
flag_count_word = 7

abbrev pub weight_high_word : ℕ
weight_high_word = 8

abbrev pub lookup_count : List ℕ → ℕ
lookup_count lookups = length lookups / lookup_words

-- word f of lookup i
abbrev pub lookup_word : List ℕ → ℕ → ℕ → ℕ
lookup_word lookups i f = word lookups (lookup_words * i + f)

-- a mark word other than 0 counts as 1: a lookup is on a bus, or local
abbrev pub on_bus : List ℕ → ℕ → Bool
on_bus lookups i = not (eqb (lookup_word lookups i scope_word) 0)

-- a local has no name
abbrev pub name_length : List ℕ → ℕ → ℕ
name_length lookups i = cond (on_bus lookups i) (lookup_word lookups i name_length_word) 0

-- "in two words, the low half and the high half"
abbrev pub weight : List ℕ → ℕ → ℕ
weight lookups i = lookup_word lookups i weight_word + 4294967296 * lookup_word lookups i weight_high_word

abbrev pub column : List ℕ → ℕ → ℕ
column lookups i = lookup_word lookups i column_word

abbrev pub exclusive : List ℕ → ℕ → Bool
exclusive lookups i = not (eqb (lookup_word lookups i exclusive_word) 0)

abbrev pub tuple_count : List ℕ → ℕ → ℕ
tuple_count lookups i = lookup_word lookups i tuple_count_word

abbrev pub multiplicity_count : List ℕ → ℕ → ℕ
multiplicity_count lookups i = lookup_word lookups i multiplicity_count_word

abbrev pub flag_count : List ℕ → ℕ → ℕ
flag_count lookups i = lookup_word lookups i flag_count_word

-- where lookup i's name begins in `names`
unfoldable pub name_start : List ℕ → ℕ → ℕ
name_start lookups i = total (name_length lookups) i

-- the number of lookup i's first tuple among all tuples of the table
unfoldable pub tuple_start : List ℕ → ℕ → ℕ
tuple_start lookups i = total (tuple_count lookups) i

unfoldable pub multiplicity_start : List ℕ → ℕ → ℕ
multiplicity_start lookups i = total (multiplicity_count lookups) i

unfoldable pub flag_start : List ℕ → ℕ → ℕ
flag_start lookups i = total (flag_count lookups) i

-- where the elements of the table's tuple j begin in `elements`
unfoldable pub element_start : List ℕ → ℕ → ℕ
element_start tuples j = total (word tuples) j

-- the width of tuple k of lookup i
unfoldable pub tuple_width : List ℕ → List ℕ → ℕ → ℕ → ℕ
tuple_width lookups tuples i k = word tuples (tuple_start lookups i + k)

-- the node of the multiplicity of tuple k of lookup i
unfoldable pub multiplicity_node : Lookups → ℕ → ℕ → ℕ
multiplicity_node l i k = word l.multiplicities (multiplicity_start l.lookups i + k)

-- the node of the flag of branch k of lookup i
unfoldable pub flag_node : Lookups → ℕ → ℕ → ℕ
flag_node l i k = word l.flags (flag_start l.lookups i + k)

-- the element nodes of tuple k of lookup i. SPECIFICATION, section 2.5: "a middle part of its lookup's part of `elements`"
unfoldable pub tuple_nodes : Lookups → ℕ → ℕ → List ℕ
tuple_nodes l i k =
    take (tuple_width l.lookups l.tuples i k) (drop (element_start l.tuples (tuple_start l.lookups i + k)) l.elements)

-- A lookup as a record, its nodes by number.
pub record Lookup : Type 0 where
  pub local : Bool
  pub name : List ℕ
  pub weight : ℕ
  pub column : ℕ
  pub exclusive : Bool
  pub tuples : List (List ℕ)
  pub multiplicities : List ℕ
  pub flags : List ℕ

-- lookup i of a table's lists
unfoldable pub lookup_at : Lookups → ℕ → Lookup
lookup_at l i =
    record {
      local = not (on_bus l.lookups i);
      name = take (name_length l.lookups i) (drop (name_start l.lookups i) l.names);
      weight = weight l.lookups i;
      column = column l.lookups i;
      exclusive = exclusive l.lookups i;
      tuples = tab (tuple_nodes l i) 0 (tuple_count l.lookups i);
      multiplicities = take (multiplicity_count l.lookups i) (drop (multiplicity_start l.lookups i) l.multiplicities);
      flags = take (flag_count l.lookups i) (drop (flag_start l.lookups i) l.flags);
    }

unfoldable pub lookups_of : Lookups → List Lookup
lookups_of l = tab (lookup_at l) 0 (lookup_count l.lookups)
