-- Where the parts of a lookup begin in the lists, and the entries that it has on a row and on all rows.
use Rattle.std.specs.Prelude.{ℕ, ◌+◌, ◌≤◌, ◌≡◌, true, cond, List, [], ◌∷◌, map, length, take, drop}
use Rattle.lists.specs.Count.{joined}
use Rattle.field.specs.Word.{mul_m}
use Rattle.expression.specs.Words.{word}
use Rattle.expression.specs.Window.{Traces}
use Rattle.expression.specs.Values.{row_values}
use Rattle.lookup.specs.Lookups.{exclusive, tuple_count, tuple_start, multiplicity_start, flag_start, element_start}
use Rattle.lookup.specs.declared.table.LentLookups.{LentLookups}
use Rattle.logup.specs.Ledger.{Entry}
use Rattle.balance.specs.declared.starts.LookupStarts.{LookupStarts}
use Rattle.balance_slots.specs.Workspace.{tuple_words}

-- the starts of lookup i
unfoldable pub lookup_starts_at : List ℕ → List ℕ → ℕ → LookupStarts
lookup_starts_at lookups tuples i =
    record {
      exclusive = exclusive lookups i;
      count = tuple_count lookups i;
      tuples = tuple_start lookups i;
      multiplicities = multiplicity_start lookups i;
      flags = flag_start lookups i;
      elements = element_start tuples (tuple_start lookups i);
    }

-- the lists that hold the parts of all lookups
pub record PartLists : Type 0 where
  pub tuples : List ℕ
  pub multiplicities : List ℕ
  pub flags : List ℕ
  pub elements : List ℕ

abbrev pub part_lists : List ℕ → List ℕ → List ℕ → List ℕ → PartLists
part_lists tuples multiplicities flags elements =
    record { tuples = tuples; multiplicities = multiplicities; flags = flags; elements = elements }

-- the lists of the parts, from what a caller lends
abbrev pub as_parts : LentLookups → PartLists
as_parts l = part_lists l.tuples.now l.multiplicities.now l.flags.now l.elements.now

-- what a lookup's entries are read from: its table's traces and nodes, and the lists of the parts
pub record Source : Type 0 where
  pub traces : Traces
  pub nodes : List ℕ
  pub parts : PartLists

abbrev pub source : Traces → List ℕ → PartLists → Source
source traces nodes parts = record { traces = traces; nodes = nodes; parts = parts }

-- the parts lie in the lists, and no tuple has more than eight words
pub record StartsWithin (starts : LookupStarts) (l : PartLists) : Type 0 where
  pub tuples_in : starts.tuples + starts.count ≤ length l.tuples
  pub multiplicities_in : starts.multiplicities + starts.count ≤ length l.multiplicities
  pub flags_in : starts.exclusive ≡ true → starts.flags + starts.count ≤ length l.flags
  pub elements_in : element_start l.tuples (starts.tuples + starts.count) ≤ length l.elements
  pub first : starts.elements ≡ element_start l.tuples starts.tuples
  pub narrow : (j : ℕ) → word l.tuples j ≤ tuple_words

-- how often tuple k counts, from the values of the nodes
unfoldable pub count_from : ℕ → LookupStarts → List ℕ → List ℕ → List ℕ → ℕ → ℕ
count_from p starts multiplicities flags vals k =
    cond starts.exclusive (mul_m p (word vals (word multiplicities (starts.multiplicities + k))) (word vals (word flags (starts.flags + k))))
    (word vals (word multiplicities (starts.multiplicities + k)))

-- the nodes of tuple k
unfoldable pub nodes_from : LookupStarts → PartLists → ℕ → List ℕ
nodes_from starts l k = take (word l.tuples (starts.tuples + k)) (drop (element_start l.tuples (starts.tuples + k)) l.elements)

module _ (p : ℕ) (starts : LookupStarts) where
  abbrev pub entry_from : PartLists → List ℕ → ℕ → Entry
  entry_from l vals k =
      record { tuple = map (word vals) (nodes_from starts l k); count = count_from p starts l.multiplicities l.flags vals k }

  -- the entries on a row
  unfoldable pub entries_from : PartLists → List ℕ → List Entry
  entries_from l vals = joined (λ k. entry_from l vals k ∷ []) 0 starts.count

  -- the entries on the first n rows
  unfoldable pub rows_entries : Source → ℕ → List Entry
  rows_entries s n = joined (λ r. entries_from s.parts (row_values p s.nodes s.traces r)) 0 n
