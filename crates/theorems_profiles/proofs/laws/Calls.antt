-- A call of each entry point, with n lookups of w words where it reads any, and under a rule where it takes one.
use Rattle.std.specs.Prelude.{ℕ, ◌+◌, ◌*◌, List, [], ◌∷◌, negsuc, length, replicate, Result}
use Rattle.std.proofs.Math.Option.{Option}
use Rattle.lists.specs.Count.{joined}
use Rattle.expression.specs.Choices.{choices_of}
use Rattle.expression.specs.declared.choices.Choices.{Choices}
use Rattle.expression.specs.declared.refusal.Refusal.{Refusal}
use Rattle.lookup.specs.Lookups.{Lookups, lent_lookups}
use Rattle.lookup.specs.Table.{Table, lent_table}
use Rattle.lookup.specs.declared.refusals.Columns.{Columns}
use Rattle.lookup_count.specs.Count as count
use Rattle.lookup_challenges.specs.Prefixes as prefixes
use Rattle.lookup_protocol.specs.Height.{height_at}
use Rattle.lookup_protocol.specs.Terminals.{terminals_at}
use Rattle.lookup_degree.specs.ConstraintDegree as degree
use Rattle.lookup_buses.specs.CheckBusWidths as widths
use Rattle.lookup_builder.specs.FromInteractions as building
use Rattle.packing.specs.PackSameBus as packing
use Rattle.logup.specs.Generation as generation
use Rattle.logup.specs.Constraints.{verdict_at}
use Rattle.balance.specs.Tables.{TableLists, lent_tables}
use Rattle.balance.specs.Balance as balance
use Rattle.wire.specs.Wire.{bytes_of}
use Rattle.wire.specs.Room.{all_words}
use Rattle.delmatik_bytes.specs.Bytes.{encoded_lookups, lookup_lists}
use Rattle.delmatik_bytes.specs.Generate as generate_bytes
use Rattle.delmatik_bytes.specs.Pack as pack_bytes
use Rattle.delmatik_bytes.specs.Balance as balance_bytes

-- one node, the constant 3, which every element and every multiplicity is
abbrev pub nodes : List ℕ
nodes = 0 ∷ 3 ∷ 0 ∷ []

abbrev pub columns : Columns
columns = record { main = 1; preprocessed = 0; public_values = 0 }

-- n lookups on one bus, each of one tuple of w words
abbrev pub lookups : ℕ → ℕ → Lookups
lookups n w =
    lent_lookups (joined (λ i. 1 ∷ 1 ∷ 1 ∷ i ∷ 0 ∷ 1 ∷ 1 ∷ 0 ∷ 0 ∷ []) 0 n) (replicate n 98) (replicate n w) (replicate n 0) [] (replicate (n * w) 0)

-- and one row
abbrev pub table : ℕ → ℕ → Table
table n w = lent_table (record { main_width = 1; height = 1; pre_width = 0; pre_height = 0 }) (0 ∷ []) [] [] nodes (lookups n w)

-- alpha 5, beta 0: each fraction is 3 ÷ 2
abbrev pub challenges : ℕ → List ℕ
challenges n = joined (λ i. 5 ∷ 0 ∷ 0 ∷ 0 ∷ 0 ∷ 0 ∷ 0 ∷ 0 ∷ []) 0 n

abbrev pub tables : ℕ → ℕ → TableLists
tables n w =
    lent_tables (1 ∷ 1 ∷ 0 ∷ 0 ∷ 1 ∷ 0 ∷ 0 ∷ 1 ∷ n ∷ n ∷ n ∷ n ∷ 0 ∷ n * w ∷ []) (0 ∷ []) [] [] nodes (lookups n w).lookups (lookups n w).names
    (lookups n w).tuples (lookups n w).multiplicities [] (lookups n w).elements

-- lists as bytes, and rooms of as many words
abbrev pub byte_table : ℕ → ℕ → Table
byte_table n w =
    lent_table (record { main_width = 1; height = 1; pre_width = 0; pre_height = 0 }) (bytes_of (0 ∷ [])) [] [] (bytes_of nodes) (encoded_lookups (lookups n w))

abbrev pub byte_tables : ℕ → ℕ → TableLists
byte_tables n w =
    record {
      sizes = bytes_of (tables n w).sizes;
      main = bytes_of (0 ∷ []);
      preprocessed = [];
      public_values = [];
      nodes = bytes_of nodes;
      lookups = encoded_lookups (lookups n w);
    }

abbrev pub room_for : List (List ℕ) → List ℕ
room_for ls = replicate (length (all_words ls)) 7

module _ (n w : ℕ) where
  abbrev pub generated : ℕ → Choices → generation.Outcome
  generated rule c = generation.generation_at c rule (table n w) (challenges n) (replicate (4 * (n + 1)) 7)

  -- the trace and the terminal that are generated in a field
  abbrev pub tested : ℕ → ℕ → Choices → Option Refusal
  tested rule field c =
      let o = generated rule (choices_of field 1) in
      verdict_at c rule (table n w) (challenges n) (n + 1) o.buffer o.answer.terminal

  abbrev pub degree_of_first : Choices → Result ℕ Refusal
  degree_of_first c = degree.degree_at c columns nodes (lookups n w) 0 0

  abbrev pub packed : Choices → packing.Outcome
  packed c = packing.packing_at c 3 columns nodes (lookups n w) (lookups n w)

  abbrev pub interactions : building.Interactions
  interactions =
      building.lent_interactions (joined (λ i. 1 ∷ 1 ∷ []) 0 n) (replicate n 1) (replicate n 98) (replicate n w) (replicate n 0) [] (replicate (n * w) 0)

  abbrev pub built : Choices → building.Outcome
  built c = building.building_at c columns nodes (record { locals = 0; globals = n; exclusives = 0 }) interactions (replicate (9 * n) 7)

  abbrev pub widest : Choices → Result ℕ Refusal
  widest c = widths.widths_at c (widths.lent_bus_tables (lookups n w).lookups (replicate n 98) (replicate n w) (n ∷ n ∷ n ∷ []))

  -- 1024 rows for each word of a tuple
  abbrev pub bounded : Choices → Option Refusal
  bounded c = height_at c (lookups n w).lookups (n ∷ []) (1024 * w ∷ [])

  -- a terminal of 5, which refusal 20 is for
  abbrev pub summed : Choices → Option Refusal
  summed c = terminals_at c (1 ∷ 5 ∷ 0 ∷ 0 ∷ 0 ∷ [])

  abbrev pub prefixed : Choices → prefixes.Outcome
  prefixed c = prefixes.prefixes_at c (5 ∷ 0 ∷ 0 ∷ 0 ∷ []) (0 ∷ 1 ∷ 0 ∷ 0 ∷ []) w n (replicate (4 * n) 7)

  abbrev pub counted : Choices → count.Outcome
  counted c = count.from_i32_at c (0 ∷ 3 ∷ 0 ∷ 7 ∷ 7 ∷ 7 ∷ []) 1 (negsuc n)

  abbrev pub turned : Choices → count.Outcome
  turned c = count.negated_at c (0 ∷ 3 ∷ 0 ∷ 7 ∷ 7 ∷ 7 ∷ []) 1 (count.count_of 0 n)

  -- nothing is received on the bus, which refusal 18 is for
  abbrev pub balanced : Choices → balance.Outcome
  balanced c = balance.check_at c (tables n w) (replicate 20 7)

  abbrev pub generated_bytes : ℕ → Choices → generate_bytes.Generation
  generated_bytes rule c =
      generate_bytes.generation_on_bytes c rule (byte_table n w) (bytes_of (challenges n)) (bytes_of (replicate (4 * (n + 1)) 7)) (replicate 5 7)
      (room_for (generate_bytes.lists_of (byte_table n w) (bytes_of (challenges n)))) (replicate (4 * (n + 1)) 7)

  abbrev pub packed_bytes : Choices → pack_bytes.Packing
  packed_bytes c =
      let l = encoded_lookups (lookups n w) in
      pack_bytes.packing_on_bytes c 3 columns (bytes_of nodes) l l (replicate 6 7) (room_for (bytes_of nodes ∷ lookup_lists l)) (room_for (lookup_lists l))

  abbrev pub balanced_bytes : Choices → balance_bytes.Balance
  balanced_bytes c =
      balance_bytes.balance_on_bytes c (byte_tables n w) (bytes_of (replicate 20 7)) (room_for (balance_bytes.lists_of (byte_tables n w))) (replicate 20 7)
