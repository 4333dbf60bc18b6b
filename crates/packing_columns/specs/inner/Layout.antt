-- The packed table as the code lays it out: from the plan and the table's own lists.
use Rattle.std.specs.Prelude.{◌≡◌, Bool, not, ◌&&◌, List, [], ℕ, ◌*◌, ◌-◌, ◌≤◌, leb, length, take, drop}
use Rattle.std.proofs.Math.Option.{Option, none}
use Rattle.lists.specs.Count.{total, or_else}
use Rattle.expression.specs.Words.{word}
use Rattle.expression.specs.Refusal.{unless}
use Rattle.expression.specs.declared.refusal.Refusal.{Refusal}
use Rattle.expression.specs.declared.refusal.Refusal.TheVariants.{WeightTooLarge}
use Rattle.lookup.specs.Lookups.{Lookups, lookup_words, lookup_count, name_start, tuple_start, bus_lookups}
use Rattle.lookup.specs.Requires.{Fitting}
use Rattle.lookup_buses.specs.Widths.{widths_refusal}
use Rattle.packing_columns.specs.inner.LookupLists.{list_length, list_parts}
use Rattle.packing_columns.specs.inner.LookupListsRequires.{LookupNumbers, FewTuples}
use Rattle.packing_columns.specs.declared.lookup_lists.LookupList.{LookupList}
use Rattle.packing_columns.specs.declared.lookup_lists.LookupList.TheVariants.{Names, Tuples, Multiplicities, Flags, Elements}
use Rattle.packing_columns.specs.declared.columns.Plan.{Plan}
use Rattle.packing.specs.Packing.{overweight}
use Rattle.packing.specs.Written.{words_of}
use Rattle.packing.specs.PackSameBus.{Outcome, single_table, columns, counts, outcome}
use Rattle.packing.specs.declared.answer.Counts.{Counts}

-- the first n of an array, as they are lent
abbrev pub front : ℕ → List ℕ → List ℕ
front n l = take (n - 0) (drop 0 l)

-- the words of the packed table
abbrev pub plan_words : Plan → Lookups → Lookups
plan_words r l =
    record {
      lookups = front (lookup_words * r.columns) r.words;
      names = list_parts Names l.lookups [] l.names (front r.columns r.heads);
      tuples = list_parts Tuples l.lookups l.tuples l.tuples (front (lookup_count l.lookups) r.order);
      multiplicities = list_parts Multiplicities l.lookups l.tuples l.multiplicities (front (lookup_count l.lookups) r.order);
      flags = list_parts Flags l.lookups l.tuples l.flags (front (lookup_count l.lookups) r.order);
      elements = list_parts Elements l.lookups l.tuples l.elements (front (lookup_count l.lookups) r.order);
    }

-- how many words the parts of these lookups have
abbrev pub list_totals : LookupList → List ℕ → List ℕ → List ℕ → ℕ
list_totals list lookups tuples is = total (λ t. list_length list lookups tuples (word is t)) (length is)

abbrev pub plan_counts : Plan → List ℕ → List ℕ → Counts
plan_counts r lookups tuples =
    record {
      lookups = lookup_words * r.columns;
      names = list_totals Names lookups tuples (front r.columns r.heads);
      tuples = list_totals Tuples lookups tuples (front (lookup_count lookups) r.order);
      multiplicities = list_totals Multiplicities lookups tuples (front (lookup_count lookups) r.order);
      flags = list_totals Flags lookups tuples (front (lookup_count lookups) r.order);
      elements = list_totals Elements lookups tuples (front (lookup_count lookups) r.order);
    }

-- `holds`, by the lengths of the lists: no lent list is shorter than the table's own
unfoldable pub counts_hold : Counts → Counts → Bool
counts_hold own lent =
    leb own.lookups lent.lookups
    && leb own.names lent.names
    && leb own.tuples lent.tuples
    && leb own.multiplicities lent.multiplicities
    && leb own.flags lent.flags
    && leb own.elements lent.elements

-- the refusals after 1 to 5
unfoldable pub plan_refusal : Bool → List ℕ → List ℕ → List ℕ → Option Refusal
plan_refusal over lookups names tuples =
    or_else (widths_refusal (single_table (bus_lookups lookups names tuples))) (unless (not over) WeightTooLarge none)

-- the same, and the outcome, of a table that has none of 1 to 5
unfoldable pub formed_refusal : ℕ → List ℕ → Lookups → Option Refusal
formed_refusal limit nodes l =
    or_else (widths_refusal (single_table l)) (unless (not (overweight (columns limit nodes l))) WeightTooLarge none)

unfoldable pub formed_outcome : ℕ → List ℕ → Lookups → Lookups → Outcome
formed_outcome limit nodes l lent = outcome (formed_refusal limit nodes l) (words_of (columns limit nodes l)) lent

-- numbers of the plan's arrays are lookups
pub record PlanNumbers (r : Plan) (lookups : List ℕ) : Type 0 where
  pub parted : FewTuples lookups
  pub order : LookupNumbers (lookup_count lookups) (front (lookup_count lookups) r.order)
  pub heads : LookupNumbers (lookup_count lookups) (front r.columns r.heads)
  pub few : r.columns ≤ lookup_count lookups
  pub order_room : lookup_count lookups ≤ length r.order
  pub heads_room : r.columns ≤ length r.heads
  pub words_room : lookup_words * r.columns ≤ length r.words

-- the plan r is that of the packing of l
pub record Layout (limit : ℕ) (nodes : List ℕ) (l : Lookups) (r : Plan) : Type 0 where
  pub numbered : PlanNumbers r l.lookups
  pub over : r.over ≡ overweight (columns limit nodes l)
  pub counted : counts (words_of (columns limit nodes l)) ≡ plan_counts r l.lookups l.tuples
  pub words : words_of (columns limit nodes l) ≡ plan_words r l

-- one table's lists, of which each is as long as its lookups say
pub record ListsExact (lookups names tuples : List ℕ) : Type 0 where
  pub few : lookup_count lookups ≤ 64
  pub lookups_long : length lookups ≡ lookup_words * lookup_count lookups
  pub names_long : length names ≡ name_start lookups (lookup_count lookups)
  pub names_few : length names ≤ 4294967295
  pub tuples_long : length tuples ≡ tuple_start lookups (lookup_count lookups)
  pub tuples_few : length tuples ≤ 64

-- the table's own lists, and the lent ones
pub record PackLists : Type 0 where
  pub own : Lookups
  pub lent : Lookups

abbrev pub pack_lists : Lookups → Lookups → PackLists
pack_lists own lent = record { own = own; lent = lent }

-- the table's nodes as well
pub record PackSource : Type 0 where
  pub nodes : List ℕ
  pub own : Lookups
  pub lent : Lookups

abbrev pub pack_source : List ℕ → Lookups → Lookups → PackSource
pack_source nodes own lent = record { nodes = nodes; own = own; lent = lent }

-- the lent lists hold the words
pub record OutputsHold (r : Plan) (l lent : Lookups) : Type 0 where
  pub numbered : PlanNumbers r l.lookups
  pub fitting : Fitting l
  pub lookups : lookup_words * r.columns ≤ length lent.lookups
  pub names : length (plan_words r l).names ≤ length lent.names
  pub tuples : length (plan_words r l).tuples ≤ length lent.tuples
  pub multiplicities : length (plan_words r l).multiplicities ≤ length lent.multiplicities
  pub flags : length (plan_words r l).flags ≤ length lent.flags
  pub elements : length (plan_words r l).elements ≤ length lent.elements
