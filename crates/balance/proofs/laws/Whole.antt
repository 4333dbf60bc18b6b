-- TableLists of tables that have none of refusals 1 to 5 and 9 are as the inner functions require.
use Rattle.std.specs.Prelude.{◌≡◌, Bool, true, false, cond, not, ◌&&◌, ◌||◌, List, [], ◌∷◌, ◌++◌, ℕ, zero, suc, ◌+◌, ◌*◌, ◌-◌, ◌%◌, ◌<◌, ◌≤◌, eqb, ltb, length}
use Rattle.std.proofs.Math.Path.{refl, ap, subst}
use Rattle.std.proofs.Common.{sym, ap₂, ◌∙◌, arith}
use Rattle.std.proofs.Math.Bool.{and-true}
use Rattle.std.proofs.Math.Option.{none}
use native.Mathlib.Nat.{zero-add}
use Rattle.std.proofs.Math.Dec.{leb}
use borrow.Author.Tests.{eqb-true, leb-true, le-leb, lt-ltb, ltb-true, ltb-false}
use Rattle.lists.specs.Count.{total, every}
use Rattle.lists.specs.Tab.{tab}
use Rattle.lists.specs.laws.Tests.{both_left, both_right, passed, every_true, every_of}
use Rattle.field.specs.inner.Requires.{KnownPrime}
use Rattle.expression.specs.Words.{word, all_within}
use Rattle.expression.specs.Limits.{Sane}
use Rattle.expression.specs.Node.{node_count, node_words}
use Rattle.expression.specs.Tests.{traces_within, nodes_within, traces_fit, traces_below, constants_below, nodes_known, degrees_low}
use Rattle.expression.specs.Requires.{Evaluable}
use Rattle.expression.specs.laws.Below.{within-tested}
use Rattle.expression.specs.laws.Tested.{small-tested, traces-tested}
use Rattle.expression.specs.laws.Refusal.{unless_none}
use Rattle.expression.specs.declared.sizes.Limits.{Limits}
use Rattle.expression.specs.declared.refusal.Refusal.TheVariants.{SizeAtOdds, WordTooLarge, NodeInvalid, DegreeTooHigh, LookupInvalid, RowsMissing}
use Rattle.lookup.specs.Lookups.{Lookups, lookup_count, lookup_word, exclusive, tuple_count, multiplicity_count, flag_count, lookup_words}
use Rattle.lookup.specs.Table.{Table}
use Rattle.lookup.specs.Tests.{sizes, words_below, known, has_lookups, preprocessed_enough}
use Rattle.lookup.specs.Requires.{Limited, Fitting, Agreeing}
use Rattle.lookup.specs.laws.Tested.{limited, fitting, agreeing, sizes_passed}
use Rattle.lookup.specs.Sizes.{size_start as sized_start}
use Rattle.balance.specs.Tables.{TableLists, table_count, size, size_start, lookups_at, table_at, tables_of, lists_fit, table_sizes, main_count_size, preprocessed_count_size, public_value_count_size, node_count_size, lookup_count_size, name_byte_count_size, tuple_count_size, multiplicity_count_size, flag_count_size, element_count_size}
use Rattle.balance.specs.Members.{table_of}
use Rattle.balance.specs.Refusals.{all, listed, covered, tables_refusal}
use Rattle.balance.specs.inner.Requires.{ListsCovered, Rowed, TablesTested}
use Rattle.balance.proofs.laws.Members.{Fitted, table_lookups, entry_of-table, width_of_table, tuples_of-table, whole-count, whole-fitting, table_of_is}

-- a test of every table, by number
all_append : (t : Table → Bool) (xs ys : List Table) → all t (xs ++ ys) ≡ (all t xs && all t ys)
unfolding all
all_append t [] ys = refl
all_append t (x ∷ xs) ys = go (t x) (all_append t xs ys)
  where
    go : (b : Bool) → all t (xs ++ ys) ≡ (all t xs && all t ys) → (b && all t (xs ++ ys)) ≡ ((b && all t xs) && all t ys)
    go true e = e
    go false e = refl

all-tab : (t : Table → Bool) (f : ℕ → Table) (n : ℕ) → all t (tab f 0 n) ≡ every (λ i. t (f i)) n
unfolding tab every
all-tab t f zero = unfold all in refl
all-tab t f (suc n) =
    all_append t (tab f 0 n) (f (0 + n) ∷ []) ∙ ap₂ ◌&&◌ (all-tab t f n) (one (f (0 + n)) ∙ ap (λ (i : ℕ). t (f i)) (zero-add n))
  where
    one : (x : Table) → all t (x ∷ []) ≡ t x
    one x = unfold all in and-true (t x)

pub all-tables : (t : Table → Bool) (l : TableLists) → all t (tables_of l) ≡ every (λ i. t (table_at l i)) (table_count l.sizes)
unfolding tables_of
all-tables t l = all-tab t (table_at l) (table_count l.sizes)

-- what no refusal says of each table
record Tested (m : Limits) (p : ℕ) (t : Table) : Type 0 where
  within : traces_within m t.traces.shape t.traces.public_values ≡ true
  nodes_few : nodes_within m t.nodes ≡ true
  limits : Limited m t.lookups.lookups t.lookups.tuples
  traces : traces_fit t.traces.shape t.traces.main t.traces.preprocessed ≡ true
  lists : Fitting t.lookups
  below : traces_below p t.traces ≡ true
  constants : constants_below p t.nodes ≡ true
  all_known : nodes_known t.traces.shape (length t.traces.public_values) t.nodes ≡ true
  agree : Agreeing (node_count t.nodes) t.lookups
  rows : (not (has_lookups t.lookups.lookups) || preprocessed_enough t.traces.shape) ≡ true

tested : (m : Limits) (p : ℕ) (t : Table) → sizes m t ≡ true → words_below p t ≡ true → known t ≡ true → listed t ≡ true → covered t ≡ true → Tested m p t
unfolding words_below known listed covered
tested m p t s w k a c =
    let z = sizes_passed m t s in
    record {
      within = z.0;
      nodes_few = z.1;
      limits = limited m t.lookups.lookups t.lookups.tuples z.2;
      traces = z.3;
      lists = fitting t.lookups z.4;
      below = both_left (traces_below p t.traces) (constants_below p t.nodes) w;
      constants = both_right (traces_below p t.traces) (constants_below p t.nodes) w;
      all_known = k;
      agree = agreeing (node_count t.nodes) t.lookups a;
      rows = c;
    }

-- a table's rows may be evaluated where it has lookups
rows_able : (m : Limits) (p : ℕ) (t : Table) → Sane m → KnownPrime p → Tested m p t → 0 < lookup_count t.lookups.lookups → Evaluable p t.traces t.nodes
unfolding has_lookups preprocessed_enough
rows_able m p t g o s h =
    let e : ltb 0 (lookup_count t.lookups.lookups) ≡ true = lt-ltb 0 (lookup_count t.lookups.lookups) h in
    let r : (eqb t.traces.shape.pre_width 0 || leb t.traces.shape.height t.traces.shape.pre_height) ≡ true =
    subst (λ (b : Bool). (not b || (eqb t.traces.shape.pre_width 0 || leb t.traces.shape.height t.traces.shape.pre_height)) ≡ true) e s.rows in
    traces-tested m p t.traces t.nodes g o s.nodes_few s.traces s.below s.constants s.all_known r

-- the lists as a whole
pub lists_covered : (m : Limits) (l : TableLists) → Sane m → lists_fit m l ≡ true → ListsCovered l
unfolding lists_fit
lists_covered m l g h =
    let N : ℕ = table_count l.sizes in
    let k =
    passed (eqb (length l.sizes % table_sizes) 0)
    (leb N m.tables
    ∷ eqb (length l.main) (1 * size_start l.sizes main_count_size N)
    ∷ eqb (length l.preprocessed) (1 * size_start l.sizes preprocessed_count_size N)
    ∷ eqb (length l.public_values) (1 * size_start l.sizes public_value_count_size N)
    ∷ eqb (length l.nodes) (node_words * size_start l.sizes node_count_size N)
    ∷ eqb (length l.lookups.lookups) (lookup_words * size_start l.sizes lookup_count_size N)
    ∷ eqb (length l.lookups.names) (1 * size_start l.sizes name_byte_count_size N)
    ∷ eqb (length l.lookups.tuples) (1 * size_start l.sizes tuple_count_size N)
    ∷ eqb (length l.lookups.multiplicities) (1 * size_start l.sizes multiplicity_count_size N)
    ∷ eqb (length l.lookups.flags) (1 * size_start l.sizes flag_count_size N)
    ∷ eqb (length l.lookups.elements) (1 * size_start l.sizes element_count_size N)
    ∷ [])
    h in
    let b : N ≤ m.tables = leb-true N m.tables k.1.0 in
    let q = k.1.1.1.1.1 in
    record {
      tables = omega (arith, b, g.tables);
      main = eqb-true _ _ k.1.1.0;
      preprocessed = eqb-true _ _ k.1.1.1.0;
      public_values = eqb-true _ _ k.1.1.1.1.0;
      nodes = eqb-true _ _ q.0;
      lookups = eqb-true _ _ q.1.0;
      names = eqb-true _ _ q.1.1.0;
      tuples = eqb-true _ _ q.1.1.1.0;
      multiplicities = eqb-true _ _ q.1.1.1.1.0;
      flags = eqb-true _ _ q.1.1.1.1.1.0;
      elements = eqb-true _ _ q.1.1.1.1.1.1.0;
    }

-- sums of small numbers, and where a number lies among sums
total_most : (c : ℕ → ℕ) (b n : ℕ) → ((t : ℕ) → t < n → c t ≤ b) → total c n ≤ n * b
unfolding total
total_most c b zero h = omega arith
total_most c b (suc n) h = let e : suc n * b ≡ n * b + b = native.Mathlib.Nat.suc-mul n b in omega (arith, e, total_most c b n (λ t g. h t (omega arith)), h n (omega arith))

record At (c : ℕ → ℕ) (n m : ℕ) : Type 0 where
  table : ℕ
  inner : ℕ
  there : table < n
  short : inner < c table
  is : m ≡ total c table + inner

located : (c : ℕ → ℕ) (n m : ℕ) → m < total c n → At c n m
unfolding total
located c zero m h = absurd (omega arith)
located c (suc n) m h = go (ltb m (total c n)) refl (λ g. located c n m g)
  where
    go : (b : Bool) → ltb m (total c n) ≡ b → (m < total c n → At c n m) → At c (suc n) m
    go true e ih = let a : At c n m = ih (ltb-true m (total c n) e) in record { table = a.table; inner = a.inner; there = omega (arith, a.there); short = a.short; is = a.is }
    go false e ih = let g : total c n ≤ m = ltb-false m (total c n) e in record { table = n; inner = m - total c n; there = omega arith; short = omega arith; is = omega arith }

module _ (m : Limits) (p : ℕ) (l : TableLists) (g : Sane m) (o : KnownPrime p) (e : tables_refusal m p l ≡ none) where
  abbrev N : ℕ
  N = table_count l.sizes

  abbrev G : Lookups
  G = l.lookups

  -- the six runs of tests
  record Runs : Type 0 where
    fit : lists_fit m l ≡ true
    one : (t : ℕ) → t < N → Tested m p (table_at l t)

  runs : Runs
  unfolding tables_refusal
  runs =
      let (s, h2) = unless_none (lists_fit m l && all (sizes m) (tables_of l)) SizeAtOdds _ e in
      let (w, h3) = unless_none (all (words_below p) (tables_of l)) WordTooLarge _ h2 in
      let (k, h4) = unless_none (all known (tables_of l)) NodeInvalid _ h3 in
      let (d, h5) = unless_none (all (λ (t : Table). degrees_low m t.nodes) (tables_of l)) DegreeTooHigh _ h4 in
      let (a, h6) = unless_none (all listed (tables_of l)) LookupInvalid _ h5 in
      let (c, h7) = unless_none (all covered (tables_of l)) RowsMissing _ h6 in
      record {
        fit = both_left (lists_fit m l) (all (sizes m) (tables_of l)) s;
        one = λ t h. tested m p (table_at l t)
            (every_true (λ i. sizes m (table_at l i)) N t (sym (all-tables (sizes m) l) ∙ both_right (lists_fit m l) (all (sizes m) (tables_of l)) s) h)
            (every_true (λ i. words_below p (table_at l i)) N t (sym (all-tables (words_below p) l) ∙ w) h)
            (every_true (λ i. known (table_at l i)) N t (sym (all-tables known l) ∙ k) h)
            (every_true (λ i. listed (table_at l i)) N t (sym (all-tables listed l) ∙ a) h)
            (every_true (λ i. covered (table_at l i)) N t (sym (all-tables covered l) ∙ c) h);
      }

  pub fitted : Fitted l
  unfolding table_at
  fitted = record { lists_covered = lists_covered m l g runs.fit; each = λ t h. (runs.one t h).lists }

  -- what each table has
  limits_of : (t : ℕ) → t < N → Limited m (lookups_at l t).lookups (lookups_at l t).tuples
  unfolding table_at
  limits_of t h = (runs.one t h).limits

  agree_of : (t : ℕ) → t < N → Agreeing (node_count (table_at l t).nodes) (lookups_at l t)
  unfolding table_at
  agree_of t h = (runs.one t h).agree

  few_of : (t : ℕ) → t < N → (size l.sizes lookup_count_size t ≤ 64) × (size l.sizes tuple_count_size t ≤ 64)
  few_of t h = (
    omega (arith, table_lookups l fitted t h, (limits_of t h).few_lookups, g.lookups),
    omega (arith, tuples_of-table l fitted t h, (limits_of t h).few_tuples, g.tuples),
  )

  rows_of : (t : ℕ) → t < N → 0 < size l.sizes lookup_count_size t → Rowed p l t
  unfolding table_at
  rows_of t h k =
      record {
        there = h;
        rows = (small-tested m (table_at l t).traces.shape (table_at l t).traces.public_values g (runs.one t h).within).height;
        evaluable = rows_able m p (table_at l t) g o (runs.one t h) (rw (table_lookups l fitted t h) k);
      }

  -- lookup k of all lookups is lookup i of table t
  find : (k : ℕ) → k < lookup_count G.lookups → At (size l.sizes lookup_count_size) N k
  unfolding sized_start
  find k h = located (size l.sizes lookup_count_size) N k (omega (arith, whole-count l fitted))

  entry_at : (k f : ℕ) (h : k < lookup_count G.lookups) → f < lookup_words → lookup_word G.lookups k f ≡ lookup_word (lookups_at l (find k h).table).lookups (find k h).inner f
  unfolding sized_start
  entry_at k f h b = ap (λ (x : ℕ). lookup_word G.lookups x f) (find k h).is ∙ entry_of-table l fitted (find k h).table (find k h).inner f (find k h).short b

  inside : (k : ℕ) (h : k < lookup_count G.lookups) → (find k h).inner < lookup_count (lookups_at l (find k h).table).lookups
  inside k h = rw (table_lookups l fitted (find k h).table (find k h).there) (find k h).short

  agreed : (k : ℕ) (h : k < lookup_count G.lookups) → multiplicity_count G.lookups k ≡ tuple_count G.lookups k
  agreed k h = entry_at k 6 h (omega arith) ∙ (agree_of (find k h).table (find k h).there).multiplicities_agree (find k h).inner (inside k h) ∙ sym (entry_at k 5 h (omega arith))

  flagged : (k : ℕ) (h : k < lookup_count G.lookups) → flag_count G.lookups k ≡ cond (exclusive G.lookups k) (tuple_count G.lookups k) 0
  flagged k h =
      entry_at k 7 h (omega arith) ∙ (agree_of (find k h).table (find k h).there).flags_agree (find k h).inner (inside k h)
      ∙ ap₂ (λ (x y : ℕ). cond (not (eqb x 0)) y 0) (sym (entry_at k 4 h (omega arith))) (sym (entry_at k 5 h (omega arith)))

  rowed : (k : ℕ) → k < lookup_count G.lookups → Rowed p l (table_of l.sizes k)
  unfolding sized_start
  rowed k h =
      let e : table_of l.sizes k ≡ (find k h).table = ap (table_of l.sizes) (find k h).is ∙ table_of_is l.sizes (find k h).table (find k h).inner (find k h).there (find k h).short in
      subst (Rowed p l) (sym e) (rows_of (find k h).table (find k h).there (omega (arith, (find k h).short)))

  width_at : (j : ℕ) → j < length G.tuples → word G.tuples j ≤ 8
  unfolding sized_start
  width_at j h =
      let a : At (size l.sizes tuple_count_size) N j = located (size l.sizes tuple_count_size) N j (omega (arith, fitted.lists_covered.tuples)) in
      rw (ap (word G.tuples) a.is ∙ width_of_table l fitted a.table a.inner a.short) (omega (arith, (limits_of a.table a.there).width a.inner, g.tuple_words))

  narrow : (j : ℕ) → word G.tuples j ≤ 8
  unfolding all_within
  narrow = within-tested 8 G.tuples (every_of (λ i. leb (word G.tuples i) 8) (length G.tuples) (λ i h. le-leb (word G.tuples i) 8 (width_at i h)))

  pub whole : TablesTested p l
  unfolding sized_start
  whole =
      let q : ListsCovered l = lists_covered m l g runs.fit in
      record {
        modulus = o;
        tables = q.tables;
        main = q.main;
        preprocessed = q.preprocessed;
        public_values = q.public_values;
        nodes = q.nodes;
        few = omega (arith, whole-count l fitted, q.tables, total_most (size l.sizes lookup_count_size) 64 N (λ t h. (few_of t h).0));
        few_tuples = omega (arith, q.tuples, q.tables, total_most (size l.sizes tuple_count_size) 64 N (λ t h. (few_of t h).1));
        fitting = whole-fitting l fitted;
        narrow = narrow;
        multiplicities = agreed;
        flags = flagged;
        rowed = rowed;
      }
