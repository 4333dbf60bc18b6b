-- The plan of a table that passed the tests is the layout of its packing.
use mathlib.Core.Path.{◌≡◌, refl, sym, ap, ◌∙◌}
use mathlib.Core.Bool.{Bool, true}
use mathlib.Core.List.{List, [], ◌∷◌, ◌++◌}
use Prim.Native.Nat.{ℕ, suc, ◌*◌, ◌-◌, ◌≤◌, zero-le}
use native.Mathlib.Omega.{arith}
use lib.ListN.{length, take, drop, replicate, length-append}
use lib.Seq.{take_at}
use Rattle.lists.specs.Tab.{tab}
use Rattle.expression.specs.Words.{word, all_within}
use Rattle.expression.specs.Node.{node_count}
use Rattle.expression.specs.Degree.{degrees}
use Rattle.expression.specs.laws.Degree.{degrees_low_at}
use Rattle.expression.specs.laws.Below.{word-zeros, within-tested}
use Rattle.expression.specs.declared.sizes.Limits.{Limits}
use Rattle.lookup.specs.Lookups.{Lookups, lookup_count, tuple_start, element_start}
use Rattle.lookup.specs.Requires.{Fitting}
use Rattle.lookup.specs.laws.Tested.{tuple_start-le}
use Rattle.lookup.specs.Buses.{name_at, alone_at}
use Rattle.lookup_degree.specs.inner.At.{tuple_degree_at}
use Rattle.lookup_degree.specs.Formed.{Formed}
use Rattle.lookup_degree.specs.laws.Formed.{few}
use Rattle.lookup_buses.specs.laws.Order.{arranged-length, arranged-below}
use Rattle.packing_columns.specs.inner.LookupLists.{list_start, list_length, list_parts}
use Rattle.packing_columns.specs.inner.LookupListsRequires.{FewTuples}
use Rattle.packing_columns.specs.laws.Starts.{parts-long}
use Rattle.packing_columns.specs.declared.lookup_lists.LookupList.{LookupList}
use Rattle.packing_columns.specs.declared.lookup_lists.LookupList.TheVariants.{Names, Tuples, Multiplicities, Flags, Elements}
use Rattle.packing_columns.specs.inner.Columns.{plan_source, columns_of, ordered, column_words, words_from, heads_of}
use Rattle.packing_columns.specs.inner.ColumnsRequires.{PlanInputs, Planned}
use Rattle.packing_columns.specs.declared.columns.OpenColumn.{OpenColumn}
use Rattle.packing_columns.specs.declared.columns.Plan.{Plan}
use Rattle.packing_columns.specs.inner.Layout.{front, list_totals, plan_counts, Layout}
use Rattle.packing_columns.specs.laws.Planned.{heads-long}
use Rattle.packing_columns.specs.laws.Laid.{Laid, laid}
use Rattle.packing.specs.declared.answer.Counts.{Counts}

module _ (m : Limits) (nodes : List ℕ) (l : Lookups) (f : Formed m nodes l) where
  -- the degrees of the nodes stand in the array: none is over the limit
  pub degrees_are : {r : Bool} {b : List ℕ} → (r ≡ all_within m.degree (degrees 0 nodes (node_count nodes))) × (r ≡ true → b ≡ degrees 0 nodes (node_count nodes) ++ replicate (1024 - node_count nodes) 0)
      → b ≡ degrees 0 nodes (node_count nodes) ++ replicate (1024 - node_count nodes) 0
  degrees_are e = e.1 (e.0 ∙ degrees_low_at m 0 nodes zero-le f.low)

  pub ready : {b : List ℕ} → b ≡ degrees 0 nodes (node_count nodes) ++ replicate (1024 - node_count nodes) 0 → PlanInputs b l.lookups l.names
  ready {b} e =
      record {
        named = record { few = f.few_lookups; room = omega (arith, f.fitting.names) };
        each = few m nodes l f;
        weights = f.weights;
        low = λ j. rw (ap (λ (x : List ℕ). word x j) e ∙ word-zeros (degrees 0 nodes (node_count nodes)) (1024 - node_count nodes) j)
            (omega (arith, within-tested m.degree (degrees 0 nodes (node_count nodes)) (degrees_low_at m 0 nodes zero-le f.low) j, f.degree));
      }

  parted : FewTuples l.lookups
  parted = record { few = f.few_lookups; short = λ i h. omega (arith, tuple_start-le l f.fitting i h, f.few_tuples) }

-- every part lies in its list
pub names-room : (l : Lookups) → Fitting l → list_start Names l.lookups [] (lookup_count l.lookups) ≤ length l.names
unfolding list_start
names-room l f = omega (arith, f.names)

pub tuples-room : (l : Lookups) → Fitting l → list_start Tuples l.lookups l.tuples (lookup_count l.lookups) ≤ length l.tuples
unfolding list_start
tuples-room l f = omega (arith, f.tuples)

pub multiplicities-room : (l : Lookups) → Fitting l → list_start Multiplicities l.lookups l.tuples (lookup_count l.lookups) ≤ length l.multiplicities
unfolding list_start
multiplicities-room l f = omega (arith, f.multiplicities)

pub flags-room : (l : Lookups) → Fitting l → list_start Flags l.lookups l.tuples (lookup_count l.lookups) ≤ length l.flags
unfolding list_start
flags-room l f = omega (arith, f.flags)

pub elements-room : (l : Lookups) → Fitting l → list_start Elements l.lookups l.tuples (lookup_count l.lookups) ≤ length l.elements
unfolding list_start
elements-room l f = let e : element_start l.tuples (tuple_start l.lookups (lookup_count l.lookups)) ≡ length l.elements = ap (element_start l.tuples) (sym f.tuples) ∙ sym f.elements in omega arith

-- how many bytes the names have does not depend on the tuples
names_spans : (lookups tuples is : List ℕ) → list_totals Names lookups [] is ≡ list_totals Names lookups tuples is
unfolding list_length list_start
names_spans lookups tuples is = refl

-- the front of a padded array
front_is : (n k : ℕ) (p d : List ℕ) → length p ≡ n → front n (p ++ drop k d) ≡ p
front_is n k p d e = let z : n - 0 ≡ n = omega arith in ap (λ (j : ℕ). take j (p ++ drop k d)) z ∙ take_at p (drop k d) n e

words-nine : (lookups : List ℕ) (k : ℕ) (os : List OpenColumn) → length (words_from lookups k os) ≡ 9 * length os
unfolding words_from column_words
words-nine lookups k [] = refl
words-nine lookups k (o ∷ os) = omega (arith, words-nine lookups (suc k) os)

at_front : {b : List ℕ} (p q : List ℕ) (n : ℕ) → b ≡ p ++ q → length p ≡ n → n ≤ length b
at_front p q n e l = omega (arith, ap length e ∙ length-append p q)

pub layout_is : (m : Limits) (nodes : List ℕ) (l : Lookups) → Formed m nodes l → (limit : ℕ) {b d : List ℕ} {r : Plan} → b ≡ degrees 0 nodes (node_count nodes) ++ replicate (1024 - node_count nodes) 0
    → d ≡ tab (tuple_degree_at (word b) l.tuples l.elements) 0 (length l.tuples) ++ drop (length l.tuples) (replicate 64 0)
    → Planned (plan_source b d l.lookups l.names l.multiplicities limit) r → Layout limit nodes l r
layout_is m nodes l f limit {b} {d} {r} eb ed p =
    record {
      numbered = record {
        parted = parted m nodes l f;
        order = rw order_is (record { short = omega (arith, long, f.few_lookups); below = λ t h. arranged-below (alone_at true l.lookups) (name_at l.lookups l.names) N t (omega (arith, long, h)) });
        heads = rw heads_are (record { short = omega (arith, heads-long os, p.columns, p.few, f.few_lookups); below = k.heads });
        few = p.few;
        order_room = at_front (ordered l.lookups l.names) (drop N (replicate 64 0)) N p.order long;
        heads_room = at_front (heads_of os) (drop r.columns (replicate 64 0)) r.columns p.heads (heads-long os ∙ sym p.columns);
        words_room = at_front (words_from l.lookups 0 os) (drop (9 * r.columns) (replicate 576 0)) (9 * r.columns) p.words words_long;
      };
      over = p.over ∙ k.over;
      counted = λ j. record {
        lookups = (k.count ∙ ap (λ (x : ℕ). 9 * x) (sym p.columns)) j;
        names = (ap length k.names ∙ parts-long Names l.lookups [] l.names (names-room l fit) (heads_of os) k.heads ∙ names_spans l.lookups l.tuples (heads_of os) ∙ ap (list_totals Names l.lookups l.tuples) (sym heads_are)) j;
        tuples = (ap length k.tuples ∙ counted Tuples l.tuples (tuples-room l fit)) j;
        multiplicities = (ap length k.multiplicities ∙ counted Multiplicities l.multiplicities (multiplicities-room l fit)) j;
        flags = (ap length k.flags ∙ counted Flags l.flags (flags-room l fit)) j;
        elements = (ap length k.elements ∙ counted Elements l.elements (elements-room l fit)) j;
      };
      words = λ j. record {
        lookups = (k.lookups ∙ sym words_are) j;
        names = (k.names ∙ ap (list_parts Names l.lookups [] l.names) (sym heads_are)) j;
        tuples = (k.tuples ∙ ap (list_parts Tuples l.lookups l.tuples l.tuples) (sym order_is)) j;
        multiplicities = (k.multiplicities ∙ ap (list_parts Multiplicities l.lookups l.tuples l.multiplicities) (sym order_is)) j;
        flags = (k.flags ∙ ap (list_parts Flags l.lookups l.tuples l.flags) (sym order_is)) j;
        elements = (k.elements ∙ ap (list_parts Elements l.lookups l.tuples l.elements) (sym order_is)) j;
      };
    }
  where
    N : ℕ
    N = lookup_count l.lookups

    fit : Fitting l
    fit = f.fitting

    os : List OpenColumn
    os = columns_of (plan_source b d l.lookups l.names l.multiplicities limit) (ordered l.lookups l.names)

    k : Laid limit nodes l os
    k = laid m nodes l f limit b d eb ed

    long : length (ordered l.lookups l.names) ≡ N
    long = arranged-length (alone_at true l.lookups) (name_at l.lookups l.names) N

    order_is : front N r.order ≡ ordered l.lookups l.names
    order_is = ap (front N) p.order ∙ front_is N N (ordered l.lookups l.names) (replicate 64 0) long

    heads_are : front r.columns r.heads ≡ heads_of os
    heads_are = ap (front r.columns) p.heads ∙ front_is r.columns r.columns (heads_of os) (replicate 64 0) (heads-long os ∙ sym p.columns)

    words_long : length (words_from l.lookups 0 os) ≡ 9 * r.columns
    words_long = words-nine l.lookups 0 os ∙ ap (λ (x : ℕ). 9 * x) (sym p.columns)

    words_are : front (9 * r.columns) r.words ≡ words_from l.lookups 0 os
    words_are = ap (front (9 * r.columns)) p.words ∙ front_is (9 * r.columns) (9 * r.columns) (words_from l.lookups 0 os) (replicate 576 0) words_long

    counted : (list : LookupList) (src : List ℕ) → list_start list l.lookups l.tuples N ≤ length src
        → length (list_parts list l.lookups l.tuples src (ordered l.lookups l.names)) ≡ list_totals list l.lookups l.tuples (front N r.order)
    counted list src room =
        parts-long list l.lookups l.tuples src room (ordered l.lookups l.names) (λ t h. arranged-below (alone_at true l.lookups) (name_at l.lookups l.names) N t (omega (arith, long, h)))
        ∙ ap (list_totals list l.lookups l.tuples) (sym order_is)

-- the counts, one by one
pub counts_are : {a b c d e : ℕ} (r : Plan) (lookups tuples : List ℕ) → a ≡ list_totals Names lookups tuples (front r.columns r.heads) → b ≡ list_totals Tuples lookups tuples (front (lookup_count lookups) r.order)
    → c ≡ list_totals Multiplicities lookups tuples (front (lookup_count lookups) r.order) → d ≡ list_totals Flags lookups tuples (front (lookup_count lookups) r.order)
    → e ≡ list_totals Elements lookups tuples (front (lookup_count lookups) r.order)
    → ◌≡◌ {A = Counts} (record { lookups = 9 * r.columns; names = a; tuples = b; multiplicities = c; flags = d; elements = e }) (plan_counts r lookups tuples)
counts_are r lookups tuples ea eb ec ed ee = λ j. record { lookups = 9 * r.columns; names = ea j; tuples = eb j; multiplicities = ec j; flags = ed j; elements = ee j }
