-- What the code adds for lookup m is what the definition lists.
use Rattle.std.specs.Prelude.{◌≡◌, Bool, List, ℕ, ◌+◌, ◌*◌, ◌-◌, ◌<◌, ◌≤◌, length, take, drop}
use Rattle.std.proofs.Math.Path.{refl, sym, ap}
use Rattle.std.proofs.Common.{◌∙◌, arith}
use Rattle.std.proofs.Math.Bool.{cond}
use Rattle.lists.specs.Fold.{fold}
use Rattle.expression.specs.Window.{Traces, lent_traces}
use Rattle.expression.specs.Values.{row_values}
use Rattle.expression.specs.Requires.{Evaluable}
use Rattle.expression.specs.declared.sizes.Shape.{Shape}
use Rattle.expression.specs.laws.Values.{row_values-below}
use Rattle.lookup.specs.Lookups.{Lookups, lookup_words, lookup_count, tuple_count, flag_count, tuple_start, tuple_width, tuple_nodes, multiplicity_node, flag_node, lookup_at}
use Rattle.lookup.specs.Requires.{Placed}
use Rattle.lookup.specs.laws.Tested.{placed, element_start-le}
use Rattle.lookup.specs.Table.{values_of}
use Rattle.logup.specs.Tuple.{tuple}
use Rattle.logup.specs.Ledger as logup
use Rattle.lookup.specs.laws.Sizes.{part_is}
use Rattle.balance.specs.declared.starts.LookupStarts.{LookupStarts}
use Rattle.balance.specs.inner.LookupStarts.{PartLists, part_lists, source, lookup_starts_at, StartsWithin, count_from, nodes_from, entries_from, rows_entries}
use Rattle.balance_slots.specs.inner.Work.{Work, step}
use Rattle.balance.specs.Tables.{TableLists, table_sizes, table_count, size, size_start, table_part, shape_at, table_at, main_count_size, preprocessed_count_size, public_value_count_size, node_count_size}
use Rattle.balance.specs.Entries.{row_entries, member_entries}
use Rattle.balance.specs.Members.{table_of, member_at}
use Rattle.balance.specs.inner.Requires.{TablesTested}
use Rattle.balance.proofs.laws.Lists.{joined_same}
use Rattle.balance.proofs.laws.Ledger.{lookup_entries_is}
use Rattle.expression.specs.Node.{node_words}

module _ (p : ℕ) (l : TableLists) (w : TablesTested p l) (m : ℕ) (h : m < lookup_count l.lookups.lookups) where
  abbrev G : Lookups
  G = l.lookups

  -- the lists of its parts
  abbrev parts : PartLists
  parts = part_lists G.tuples G.multiplicities G.flags G.elements

  own : Placed G m
  own = placed G w.fitting m h

  -- the lookup's parts lie in the lists
  pub starts-within : StartsWithin (lookup_starts_at G.lookups G.tuples m) parts
  unfolding lookup_starts_at
  starts-within =
      record {
        tuples_in = own.tuples;
        multiplicities_in = omega (arith, own.multiplicities, w.multiplicities m h);
        flags_in = λ x. (let e : flag_count G.lookups m ≡ tuple_count G.lookups m = w.flags m h ∙ ap (λ (b : Bool). cond b (tuple_count G.lookups m) 0) x in omega (arith, own.flags));
        elements_in = element_start-le G w.fitting (tuple_start G.lookups m + tuple_count G.lookups m) own.tuples;
        first = refl;
        narrow = w.narrow;
      }

  entries_from_is : (vals : List ℕ) → entries_from p (lookup_starts_at G.lookups G.tuples m) parts vals ≡ logup.lookup_entries p G vals m
  unfolding entries_from nodes_from count_from lookup_starts_at logup.lookup_entries logup.count tuple tuple_nodes tuple_width multiplicity_node flag_node
  entries_from_is vals = refl

  abbrev T : ℕ
  T = table_of l.sizes m

  -- on all rows
  pub member_is : rows_entries p (lookup_starts_at G.lookups G.tuples m) (source (table_at l T).traces (table_at l T).nodes parts) (table_at l T).traces.shape.height
      ≡ member_entries p (member_at l m)
  unfolding rows_entries member_entries member_at
  member_is =
      joined_same (λ r. entries_from p (lookup_starts_at G.lookups G.tuples m) parts (row_values p (table_at l T).nodes (table_at l T).traces r))
      (λ r. row_entries p (lookup_at G m) (values_of p (table_at l T) r)) (table_at l T).traces.shape.height
      (λ r g. entries_from_is (values_of p (table_at l T) r) ∙ sym (lookup_entries_is p G (values_of p (table_at l T) r) (row_values-below r (w.rowed m h).evaluable) m (w.multiplicities m h) (w.flags m h)))

  -- the parts that the code cuts are the table's
  pub traces-cut : {t a b c d e f : ℕ} {s : Shape} → t ≡ T → s ≡ shape_at l.sizes t → a ≡ 1 * size_start l.sizes main_count_size t → b ≡ 1 * size_start l.sizes main_count_size t + 1 * size l.sizes main_count_size t
      → c ≡ 1 * size_start l.sizes preprocessed_count_size t → d ≡ 1 * size_start l.sizes preprocessed_count_size t + 1 * size l.sizes preprocessed_count_size t → e ≡ 1 * size_start l.sizes public_value_count_size t → f ≡ 1 * size_start l.sizes public_value_count_size t + 1 * size l.sizes public_value_count_size t
      → lent_traces s (take (b - a) (drop a l.main)) (take (d - c) (drop c l.preprocessed)) (take (f - e) (drop e l.public_values)) ≡ (table_at l T).traces
  unfolding table_at
  traces-cut {t} et es ea eb ec ed ee ef =
      (λ j. lent_traces (es j) (part_is table_sizes l.sizes l.main main_count_size 1 t ea eb j) (part_is table_sizes l.sizes l.preprocessed preprocessed_count_size 1 t ec ed j) (part_is table_sizes l.sizes l.public_values public_value_count_size 1 t ee ef j))
      ∙ ap (λ (x : ℕ). lent_traces (shape_at l.sizes x) (table_part l.sizes main_count_size 1 x l.main) (table_part l.sizes preprocessed_count_size 1 x l.preprocessed) (table_part l.sizes public_value_count_size 1 x l.public_values)) et

  pub nodes-cut : {t a b : ℕ} → t ≡ T → a ≡ node_words * size_start l.sizes node_count_size t → b ≡ node_words * size_start l.sizes node_count_size t + node_words * size l.sizes node_count_size t → take (b - a) (drop a l.nodes) ≡ (table_at l T).nodes
  unfolding table_at
  nodes-cut {t} et ea eb = part_is table_sizes l.sizes l.nodes node_count_size node_words t ea eb ∙ ap (λ (x : ℕ). table_part l.sizes node_count_size node_words x l.nodes) et

  pub member_able : {tr : Traces} {nd : List ℕ} → tr ≡ (table_at l T).traces → nd ≡ (table_at l T).nodes → Evaluable p tr nd
  member_able e q = rw (e, q) (w.rowed m h).evaluable

  pub member-entered : {tr : Traces} {nd : List ℕ} {starts : LookupStarts} {x : Work} (v : Work) → tr ≡ (table_at l T).traces → nd ≡ (table_at l T).nodes → starts ≡ lookup_starts_at G.lookups G.tuples m
      → x ≡ fold (step p) v (rows_entries p starts (source tr nd parts) tr.shape.height) → x ≡ fold (step p) v (member_entries p (member_at l m))
  member-entered {tr} {nd} {starts} v et en ep q =
      q ∙ ap (fold (step p) v) ((λ j. rows_entries p (ep j) (source (et j) (en j) parts) (et j).shape.height) ∙ member_is)

  -- the table of lookup m, whatever it is called
  pub table_there : {t : ℕ} → t ≡ T → t < table_count l.sizes
  table_there e = rw e (w.rowed m h).there

  pub few-rows : {t : ℕ} {s : Shape} → t ≡ T → s ≡ shape_at l.sizes t → s.height ≤ 1048576
  few-rows {t} e q = rw (ap (λ (x : Shape). x.height) (q ∙ ap (shape_at l.sizes) e)) (w.rowed m h).rows

  pub start_in : (lookup_words * m + lookup_words ≤ length G.lookups) × (m ≤ 1024) × (tuple_start G.lookups m ≤ length G.tuples) × (length G.tuples ≤ 4294967295)
  start_in = (own.words, omega (arith, w.few), omega (arith, own.tuples), omega (arith, w.few_tuples))
