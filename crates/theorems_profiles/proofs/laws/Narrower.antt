-- Limits of which none is above another profile's: a size that is within the former is within the latter.
use Prim.Native.Nat.{ℕ, suc, ◌+◌, ◌*◌, ◌/◌, ◌%◌, ◌≤◌}
use Rattle.std.specs.Prelude.{◌≡◌, true, ◌&&◌, List, [], ◌∷◌, ltb, length}
use Rattle.std.proofs.Math.Path.{refl}
use Rattle.std.proofs.Math.Bool.{Bool}
use Rattle.std.proofs.Common.{le_trans, leb→le, le→leb, lit≤}
use Rattle.std.proofs.Math.Dec.{eqb, leb}
use Rattle.lists.specs.Count.{every}
use Rattle.lists.specs.laws.Count.{of_true, true_of}
use Rattle.lists.specs.laws.Tests.{chain, both_left, both_right, passed, every_true, every_of}
use Rattle.expression.specs.Words.{word, all_within}
use Rattle.expression.specs.Limits.{cabinet, gateway}
use Rattle.expression.specs.Node.{node_words, node_count}
use Rattle.expression.specs.Tests.{traces_within, nodes_within, traces_fit, nodes_fit}
use Rattle.expression.specs.declared.sizes.Limits.{Limits}
use Rattle.expression.specs.declared.sizes.Shape.{Shape}
use Rattle.lookup.specs.Lookups.{Lookups, lookup_words, lookup_count, name_length, weight, name_start, tuple_start}
use Rattle.lookup.specs.Table.{Table}
use Rattle.lookup.specs.Tests.{weight_limit, lookup_within, lookups_within, lookups_fit, sizes}
use Rattle.lookup.specs.Refusals.{columns_within, form_sizes}
use Rattle.lookup.specs.declared.refusals.Columns.{Columns}
use Rattle.lookup.specs.Sizes.{table_count, covers}
use Rattle.lookup_challenges.specs.Prefixes.{prefixes_fit}
use Rattle.lookup_protocol.specs.Height.{table_lookups, lookups_small, tables_within, tables_fit}
use Rattle.lookup_buses.specs.CheckBusWidths as widths
use Rattle.lookup_builder.specs.Building.{interaction_words, interaction_count, tuple_number, first_tuple}
use Rattle.lookup_builder.specs.FromInteractions.{building_fits}
use Rattle.lookup_builder.specs.declared.answer.Kinds.{Kinds}
use Rattle.balance.specs.Tables as tables
use Rattle.balance.specs.Refusals.{all}

-- the degree's limit is the same, since refusal 4 reads it, which is not 1
pub record Narrower (m n : Limits) : Type 0 where
  pub tables : m.tables ≤ n.tables
  pub lookups : m.lookups ≤ n.lookups
  pub tuples : m.tuples ≤ n.tuples
  pub tuple_words : m.tuple_words ≤ n.tuple_words
  pub nodes : m.nodes ≤ n.nodes
  pub main_columns : m.main_columns ≤ n.main_columns
  pub pre_columns : m.pre_columns ≤ n.pre_columns
  public_values : m.public_values ≤ n.public_values
  pub height : m.height ≤ n.height
  pub name_bytes : m.name_bytes ≤ n.name_bytes
  pub degree : m.degree ≡ n.degree
  pub prefixes : m.prefixes ≤ n.prefixes
  pub prefix_width : m.prefix_width ≤ n.prefix_width

pub gateway_narrower : Narrower gateway cabinet
unfolding gateway cabinet
gateway_narrower =
    record {
      tables = lit≤ tt;
      lookups = lit≤ tt;
      tuples = lit≤ tt;
      tuple_words = lit≤ tt;
      nodes = lit≤ tt;
      main_columns = lit≤ tt;
      pre_columns = lit≤ tt;
      public_values = lit≤ tt;
      height = lit≤ tt;
      name_bytes = lit≤ tt;
      degree = refl;
      prefixes = lit≤ tt;
      prefix_width = lit≤ tt;
    }

-- the second test passes wherever the first does
abbrev pub Passes : Bool → Bool → Type 0
Passes a b = a ≡ true → b ≡ true

leb-passes : {b c : ℕ} (a : ℕ) → b ≤ c → Passes (leb a b) (leb a c)
leb-passes {b} {c} a l e = true_of (leb a c) (le→leb a c (le_trans (leb→le a b (of_true e)) l))

-- with further tests that read no limit
chain-passes : (a b : Bool) (ts : List Bool) → Passes a b → Passes (chain a ts) (chain b ts)
chain-passes a b [] h = h
chain-passes a b (t ∷ ts) h = chain-passes (a && t) (b && t) ts (λ e. rw (h (both_left a t e), both_right a t e) refl)

every-passes : (f g : ℕ → Bool) (n : ℕ) → ((i : ℕ) → Passes (f i) (g i)) → Passes (every f n) (every g n)
every-passes f g n h e = every_of g n (λ i l. h i (every_true f n i e l))

all-passes : (f g : Table → Bool) (ts : List Table) → ((t : Table) → Passes (f t) (g t)) → Passes (all f ts) (all g ts)
unfolding all
all-passes f g [] h e = refl
all-passes f g (t ∷ ts) h e = rw (h t (both_left (f t) (all f ts) e), all-passes f g ts h (both_right (f t) (all f ts) e)) refl

within-passes : {a b : ℕ} (l : List ℕ) → a ≤ b → Passes (all_within a l) (all_within b l)
unfolding all_within
within-passes {a} {b} l h = every-passes (λ i. leb (word l i) a) (λ i. leb (word l i) b) (length l) (λ i. leb-passes (word l i) h)

module _ (m n : Limits) (k : Narrower m n) where
  lookup_pass : (lookups : List ℕ) (i : ℕ) → Passes (lookup_within m lookups i) (lookup_within n lookups i)
  unfolding lookup_within
  lookup_pass lookups i e =
      let q = passed (leb (name_length lookups i) m.name_bytes) (leb (weight lookups i) (weight_limit lookups i) ∷ []) e in
      rw (leb-passes (name_length lookups i) k.name_bytes q.0, q.1.0) refl

  each_pass : (lookups : List ℕ) → Passes (every (lookup_within m lookups) (lookup_count lookups)) (every (lookup_within n lookups) (lookup_count lookups))
  each_pass lookups = every-passes (lookup_within m lookups) (lookup_within n lookups) (lookup_count lookups) (lookup_pass lookups)

  traces_pass : (s : Shape) (public_values : List ℕ) → Passes (traces_within m s public_values) (traces_within n s public_values)
  unfolding traces_within
  traces_pass s public_values e =
      let q =
      passed (ltb 0 s.main_width)
      (leb s.main_width m.main_columns
      ∷ leb s.height m.height
      ∷ leb s.pre_width m.pre_columns
      ∷ leb s.pre_height m.height
      ∷ leb (length public_values) m.public_values
      ∷ [])
      e in
      rw (
        q.0,
        leb-passes s.main_width k.main_columns q.1.0,
        leb-passes s.height k.height q.1.1.0,
        leb-passes s.pre_width k.pre_columns q.1.1.1.0,
        leb-passes s.pre_height k.height q.1.1.1.1.0,
        leb-passes (length public_values) k.public_values q.1.1.1.1.1.0,
      ) refl

  nodes_pass : (nodes : List ℕ) → Passes (nodes_within m nodes) (nodes_within n nodes)
  unfolding nodes_within
  nodes_pass nodes = leb-passes (node_count nodes) k.nodes

  lookups_pass : (lookups tuples : List ℕ) → Passes (lookups_within m lookups tuples) (lookups_within n lookups tuples)
  unfolding lookups_within
  lookups_pass lookups tuples e =
      let q =
      passed (leb (lookup_count lookups) m.lookups)
      (leb (length tuples) m.tuples
      ∷ all_within m.tuple_words tuples
      ∷ every (lookup_within m lookups) (lookup_count lookups)
      ∷ [])
      e in
      rw (
        leb-passes (lookup_count lookups) k.lookups q.0,
        leb-passes (length tuples) k.tuples q.1.0,
        within-passes tuples k.tuple_words q.1.1.0,
        each_pass lookups q.1.1.1.0,
      ) refl

  pub sizes_pass : (t : Table) → Passes (sizes m t) (sizes n t)
  unfolding sizes
  sizes_pass t e =
      let q =
      passed (traces_within m t.traces.shape t.traces.public_values)
      (nodes_within m t.nodes
      ∷ lookups_within m t.lookups.lookups t.lookups.tuples
      ∷ traces_fit t.traces.shape t.traces.main t.traces.preprocessed
      ∷ nodes_fit t.nodes
      ∷ lookups_fit t.lookups
      ∷ [])
      e in
      rw (
        traces_pass t.traces.shape t.traces.public_values q.0,
        nodes_pass t.nodes q.1.0,
        lookups_pass t.lookups.lookups t.lookups.tuples q.1.1.0,
        q.1.1.1.0,
        q.1.1.1.1.0,
        q.1.1.1.1.1.0,
      ) refl

  columns_pass : (c : Columns) → Passes (columns_within m c) (columns_within n c)
  unfolding columns_within
  columns_pass c e =
      let q =
      passed (ltb 0 c.main)
      (leb c.main m.main_columns ∷ leb c.preprocessed m.pre_columns ∷ leb c.public_values m.public_values ∷ [])
      e in
      rw (
        q.0,
        leb-passes c.main k.main_columns q.1.0,
        leb-passes c.preprocessed k.pre_columns q.1.1.0,
        leb-passes c.public_values k.public_values q.1.1.1.0,
      ) refl

  pub form_pass : (c : Columns) (nodes : List ℕ) (l : Lookups) → Passes (form_sizes m c nodes l) (form_sizes n c nodes l)
  unfolding form_sizes
  form_pass c nodes l e =
      let q =
      passed (columns_within m c)
      (nodes_within m nodes ∷ lookups_within m l.lookups l.tuples ∷ nodes_fit nodes ∷ lookups_fit l ∷ [])
      e in
      rw (
        columns_pass c q.0,
        nodes_pass nodes q.1.0,
        lookups_pass l.lookups l.tuples q.1.1.0,
        q.1.1.1.0,
        q.1.1.1.1.0,
      ) refl

  pub building_pass : (kinds : Kinds) (interactions weights tuples : List ℕ) (room : ℕ)
      → Passes (building_fits m kinds interactions weights tuples room) (building_fits n kinds interactions weights tuples room)
  unfolding building_fits
  building_pass kinds interactions weights tuples room e =
      let q =
      passed (leb (interaction_count kinds) m.lookups)
      (eqb (length interactions) (interaction_words * interaction_count kinds)
      ∷ leb (length tuples) m.tuples
      ∷ eqb (length tuples) (first_tuple interactions (interaction_count kinds))
      ∷ eqb (length weights) (length tuples)
      ∷ every (λ j. eqb (tuple_number interactions (kinds.locals + j)) 1) kinds.globals
      ∷ leb (lookup_words * interaction_count kinds) room
      ∷ [])
      e in
      rw (
        leb-passes (interaction_count kinds) k.lookups q.0,
        q.1.0,
        leb-passes (length tuples) k.tuples q.1.1.0,
        q.1.1.1.0,
        q.1.1.1.1.0,
        q.1.1.1.1.1.0,
        q.1.1.1.1.1.1.0,
      ) refl

  table_pass : (l : Lookups) → Passes (widths.table_fits m l) (widths.table_fits n l)
  unfolding widths.table_fits
  table_pass l =
      chain-passes (lookups_within m l.lookups l.tuples) (lookups_within n l.lookups l.tuples)
      (eqb (length l.names) (name_start l.lookups (lookup_count l.lookups))
      ∷ eqb (length l.tuples) (tuple_start l.lookups (lookup_count l.lookups))
      ∷ [])
      (lookups_pass l.lookups l.tuples)

  -- the number of tables, which stands after the test that the sizes are whole
  pub count_pass : (whole : Bool) (count : ℕ) → Passes (whole && leb count m.tables) (whole && leb count n.tables)
  count_pass whole count e =
      rw (both_left whole (leb count m.tables) e, leb-passes count k.tables (both_right whole (leb count m.tables) e)) refl

  bus-lists_pass : (l : widths.BusTables) → Passes (widths.lists_fit m l) (widths.lists_fit n l)
  unfolding widths.lists_fit
  bus-lists_pass l =
      chain-passes _ _
      (covers widths.bus_sizes l.sizes widths.lookup_count_size lookup_words l.lookups
      ∷ covers widths.bus_sizes l.sizes widths.name_bytes_size 1 l.names
      ∷ covers widths.bus_sizes l.sizes widths.tuple_count_size 1 l.tuples
      ∷ [])
      (count_pass (eqb (length l.sizes % widths.bus_sizes) 0) (table_count widths.bus_sizes l.sizes))

  pub widths_pass : (l : widths.BusTables) → Passes (widths.all_fit m l) (widths.all_fit n l)
  unfolding widths.all_fit
  widths_pass l e =
      let count = table_count widths.bus_sizes l.sizes in
      let fits : ℕ → Bool = λ t. widths.table_fits m (widths.table_at l t) in
      rw (
        bus-lists_pass l (both_left (widths.lists_fit m l) (every fits count) e),
        every-passes fits (λ t. widths.table_fits n (widths.table_at l t)) count (λ t. table_pass (widths.table_at l t))
            (both_right (widths.lists_fit m l) (every fits count) e),
      ) refl

  small_pass : (lookups : List ℕ) → Passes (lookups_small m lookups) (lookups_small n lookups)
  unfolding lookups_small
  small_pass lookups e =
      let q =
      passed (leb (tuple_start lookups (lookup_count lookups)) m.tuples)
      (every (lookup_within m lookups) (lookup_count lookups) ∷ [])
      e in
      rw (leb-passes (tuple_start lookups (lookup_count lookups)) k.tuples q.0, each_pass lookups q.1.0) refl

  within_pass : (counts heights : List ℕ) → Passes (tables_within m counts heights) (tables_within n counts heights)
  unfolding tables_within
  within_pass counts heights e =
      let q =
      passed (leb (length counts) m.tables) (eqb (length heights) (length counts) ∷ all_within m.lookups counts ∷ all_within m.height heights ∷ []) e in
      rw (
        leb-passes (length counts) k.tables q.0,
        q.1.0,
        within-passes counts k.lookups q.1.1.0,
        within-passes heights k.height q.1.1.1.0,
      ) refl

  pub heights_pass : (lookups counts heights : List ℕ) → Passes (tables_fit m lookups counts heights) (tables_fit n lookups counts heights)
  unfolding tables_fit
  heights_pass lookups counts heights e =
      let q =
      passed (tables_within m counts heights) (_ ∷ every (λ t. lookups_small m (table_lookups lookups counts t)) (length counts) ∷ []) e in
      rw (
        within_pass counts heights q.0,
        q.1.0,
        every-passes (λ t. lookups_small m (table_lookups lookups counts t)) (λ t. lookups_small n (table_lookups lookups counts t)) (length counts)
            (λ t. small_pass (table_lookups lookups counts t)) q.1.1.0,
      ) refl

  pub prefixes_pass : (alpha beta : List ℕ) (width count room : ℕ)
      → Passes (prefixes_fit m alpha beta width count room) (prefixes_fit n alpha beta width count room)
  unfolding prefixes_fit
  prefixes_pass alpha beta width count room e =
      let q =
      passed (eqb (length alpha) 4) (eqb (length beta) 4 ∷ leb width m.prefix_width ∷ leb count m.prefixes ∷ leb count room ∷ []) e in
      rw (
        q.0,
        q.1.0,
        leb-passes width k.prefix_width q.1.1.0,
        leb-passes count k.prefixes q.1.1.1.0,
        q.1.1.1.1.0,
      ) refl

  -- a table that is not full, with room for one node more
  pub node-passes : (nodes : List ℕ) (used : ℕ)
      → Passes (ltb used m.nodes && ltb used (length nodes / node_words)) (ltb used n.nodes && ltb used (length nodes / node_words))
  node-passes nodes used e =
      let q = passed (ltb used m.nodes) (ltb used (length nodes / node_words) ∷ []) e in
      rw (leb-passes (suc used) k.nodes q.0, q.1.0) refl

  lists_pass : (l : tables.TableLists) → Passes (tables.lists_fit m l) (tables.lists_fit n l)
  unfolding tables.lists_fit
  lists_pass l =
      chain-passes _ _
      (tables.covers l.sizes tables.main_count_size 1 l.main
      ∷ tables.covers l.sizes tables.preprocessed_count_size 1 l.preprocessed
      ∷ tables.covers l.sizes tables.public_value_count_size 1 l.public_values
      ∷ tables.covers l.sizes tables.node_count_size node_words l.nodes
      ∷ tables.covers l.sizes tables.lookup_count_size lookup_words l.lookups.lookups
      ∷ tables.covers l.sizes tables.name_byte_count_size 1 l.lookups.names
      ∷ tables.covers l.sizes tables.tuple_count_size 1 l.lookups.tuples
      ∷ tables.covers l.sizes tables.multiplicity_count_size 1 l.lookups.multiplicities
      ∷ tables.covers l.sizes tables.flag_count_size 1 l.lookups.flags
      ∷ tables.covers l.sizes tables.element_count_size 1 l.lookups.elements
      ∷ [])
      (count_pass (eqb (length l.sizes % tables.table_sizes) 0) (tables.table_count l.sizes))

  pub tables_pass : (l : tables.TableLists)
      → Passes (tables.lists_fit m l && all (sizes m) (tables.tables_of l)) (tables.lists_fit n l && all (sizes n) (tables.tables_of l))
  tables_pass l e =
      rw (
        lists_pass l (both_left (tables.lists_fit m l) (all (sizes m) (tables.tables_of l)) e),
        all-passes (sizes m) (sizes n) (tables.tables_of l) sizes_pass (both_right (tables.lists_fit m l) (all (sizes m) (tables.tables_of l)) e),
      ) refl
