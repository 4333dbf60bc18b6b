-- The lists of several tables, read back: they hold these tables, and their sizes fit.
use Rattle.std.specs.Prelude.{◌≡◌, true, ◌&&◌, eqb, leb, drop}
use Rattle.std.proofs.Math.Path.{refl, ap, ap₂}
use Rattle.std.proofs.Common.{sym, ◌∙◌, length-append, get_or-append-add, eqb-true, leb-true, eq-eqb, le-leb}
use mathlib.Core.List.{List, [], ◌∷◌, ◌++◌, flat_map}
use Prim.Native.Nat.{ℕ, suc, ◌+◌, ◌*◌, ◌/◌, ◌%◌, ◌<◌, ◌≤◌}
use native.Mathlib.Omega.{arith}
use Rattle.std.proofs.Math.ListN.{length, take, get_or-append}
use Rattle.std.proofs.Math.Seq.{drop-append-add, take_at}
use Rattle.lists.specs.Count.{total}
use Rattle.lists.specs.Tab.{tab}
use Rattle.lists.specs.laws.Tab.{tab-length, tab_none, tab_cons, tab_cong}
use Rattle.lists.specs.laws.Tests.{passed}
use Rattle.lists.specs.laws.Sums.{total_head}
use Rattle.expression.specs.Words.{word}
use Rattle.expression.specs.Tests.{traces_within, nodes_within, traces_fit, nodes_fit}
use Rattle.expression.specs.declared.sizes.Limits.{Limits}
use Rattle.lookup.specs.Sizes.{size, size_start, table_part}
use Rattle.lookup.specs.Table.{Table, lent_table}
use Rattle.lookup.specs.Tests.{lookups_within, lookups_fit, sizes}
use Rattle.lookup.specs.laws.Tested.{fitting}
use Rattle.balance.specs.Tables.{TableLists, table_count, covers, shape_at, lookups_at, table_at, tables_of, lists_fit}
use Rattle.theorems_packing.specs.Lists.{sizes_of, lists_of}
use Rattle.theorems_packing.proofs.laws.Each.{Each}

-- one table more in front: its sizes, and its part of a list
module _ (x rest : List ℕ) (long : length x ≡ 14) where
  size_later : (f t : ℕ) → size 14 (x ++ rest) f (suc t) ≡ size 14 rest f t
  size_later f t =
      let z : 14 * suc t + f ≡ length x + (14 * t + f) = omega arith in
      ap (word (x ++ rest)) z ∙ get_or-append-add x rest (14 * t + f) 0

  size_now : (f : ℕ) → f < 14 → size 14 (x ++ rest) f 0 ≡ word x f
  size_now f h =
      let z : 14 * 0 + f ≡ f = omega arith in
      ap (word (x ++ rest)) z ∙ get_or-append x rest 0 f (omega arith)

  start_later : (f t : ℕ) → f < 14 → size_start 14 (x ++ rest) f (suc t) ≡ word x f + size_start 14 rest f t
  unfolding size_start
  start_later f t h =
      total_head (size 14 (x ++ rest) f) t ∙ ap₂ ◌+◌ (size_now f h) (ap (λ (s : ℕ → ℕ). total s t) (λ j k. size_later f k j))

  part_later : (f unit t : ℕ) (ys zs : List ℕ) → f < 14 → unit * word x f ≡ length ys
      → table_part 14 (x ++ rest) f unit (suc t) (ys ++ zs) ≡ table_part 14 rest f unit t zs
  unfolding table_part
  part_later f unit t ys zs h e =
      let S : ℕ = size_start 14 rest f t in
      let z : unit * size_start 14 (x ++ rest) f (suc t) ≡ length ys + unit * S = ap (λ (n : ℕ). unit * n) (start_later f t h) ∙ (let y : unit * (word x f + S) ≡ length ys + unit * S = omega (arith, e) in y) in
      ap₂ (λ (n k : ℕ). take (unit * n) (drop k (ys ++ zs))) (size_later f t) z
      ∙ ap (take (unit * size 14 rest f t)) (drop-append-add ys zs (unit * S))

  part_now : (f unit : ℕ) (ys zs : List ℕ) → f < 14 → unit * word x f ≡ length ys → table_part 14 (x ++ rest) f unit 0 (ys ++ zs) ≡ ys
  unfolding table_part size_start total
  part_now f unit ys zs h e =
      let z : unit * 0 ≡ 0 = omega arith in
      ap₂ (λ (n k : ℕ). take n (drop k (ys ++ zs))) (ap (λ (n : ℕ). unit * n) (size_now f h) ∙ e) z ∙ take_at ys zs (length ys) refl

-- a table whose nodes and lookups are whole records
pub record Whole (t : Table) : Type 0 where
  pub nodes : 3 * (length t.nodes / 3) ≡ length t.nodes
  pub lookups : 9 * (length t.lookups.lookups / 9) ≡ length t.lookups.lookups

sizes-long : (t : Table) → length (sizes_of t) ≡ 14
unfolding sizes_of
sizes-long t = refl

once : (n : ℕ) → 1 * n ≡ n
once n = omega arith

-- how long each of its lists is, as its sizes say
record Sized (t : Table) : Type 0 where
  main_long : 1 * word (sizes_of t) 4 ≡ length t.traces.main
  preprocessed_long : 1 * word (sizes_of t) 5 ≡ length t.traces.preprocessed
  public_values_long : 1 * word (sizes_of t) 6 ≡ length t.traces.public_values
  nodes_long : 3 * word (sizes_of t) 7 ≡ length t.nodes
  lookups_long : 9 * word (sizes_of t) 8 ≡ length t.lookups.lookups
  names_long : 1 * word (sizes_of t) 9 ≡ length t.lookups.names
  tuples_long : 1 * word (sizes_of t) 10 ≡ length t.lookups.tuples
  multiplicities_long : 1 * word (sizes_of t) 11 ≡ length t.lookups.multiplicities
  flags_long : 1 * word (sizes_of t) 12 ≡ length t.lookups.flags
  elements_long : 1 * word (sizes_of t) 13 ≡ length t.lookups.elements

sized : (t : Table) → Whole t → Sized t
unfolding sizes_of
sized t q =
    record {
      main_long = once (length t.traces.main);
      preprocessed_long = once (length t.traces.preprocessed);
      public_values_long = once (length t.traces.public_values);
      nodes_long = q.nodes;
      lookups_long = q.lookups;
      names_long = once (length t.lookups.names);
      tuples_long = once (length t.lookups.tuples);
      multiplicities_long = once (length t.lookups.multiplicities);
      flags_long = once (length t.lookups.flags);
      elements_long = once (length t.lookups.elements);
    }

module _ (t : Table) (q : Whole t) (ts : List Table) where
  abbrev more : List ℕ
  more = flat_map sizes_of ts

  later : (j : ℕ) → table_at (lists_of (t ∷ ts)) (suc j) ≡ table_at (lists_of ts) j
  unfolding table_at shape_at lookups_at lists_of flat_map
  later j =
      let k : Sized t = sized t q in
      let L : (f unit : ℕ) (ys zs : List ℕ) → f < 14 → unit * word (sizes_of t) f ≡ length ys → table_part 14 (sizes_of t ++ more) f unit (suc j) (ys ++ zs) ≡ table_part 14 more f unit j zs =
      λ f unit ys zs. part_later (sizes_of t) more (sizes-long t) f unit j ys zs in
      let S : (f : ℕ) → size 14 (sizes_of t ++ more) f (suc j) ≡ size 14 more f j = λ f. size_later (sizes_of t) more (sizes-long t) f j in
      let ma = L 4 1 t.traces.main (flat_map (λ (t : Table). t.traces.main) ts) (omega arith) k.main_long in
      let pr = L 5 1 t.traces.preprocessed (flat_map (λ (t : Table). t.traces.preprocessed) ts) (omega arith) k.preprocessed_long in
      let pu = L 6 1 t.traces.public_values (flat_map (λ (t : Table). t.traces.public_values) ts) (omega arith) k.public_values_long in
      let no = L 7 3 t.nodes (flat_map (λ (t : Table). t.nodes) ts) (omega arith) k.nodes_long in
      let lo = L 8 9 t.lookups.lookups (flat_map (λ (t : Table). t.lookups.lookups) ts) (omega arith) k.lookups_long in
      let na = L 9 1 t.lookups.names (flat_map (λ (t : Table). t.lookups.names) ts) (omega arith) k.names_long in
      let tu = L 10 1 t.lookups.tuples (flat_map (λ (t : Table). t.lookups.tuples) ts) (omega arith) k.tuples_long in
      let mu = L 11 1 t.lookups.multiplicities (flat_map (λ (t : Table). t.lookups.multiplicities) ts) (omega arith) k.multiplicities_long in
      let fl = L 12 1 t.lookups.flags (flat_map (λ (t : Table). t.lookups.flags) ts) (omega arith) k.flags_long in
      let el = L 13 1 t.lookups.elements (flat_map (λ (t : Table). t.lookups.elements) ts) (omega arith) k.elements_long in
      λ x. lent_table (record { main_width = S 0 x; height = S 1 x; pre_width = S 2 x; pre_height = S 3 x }) (ma x) (pr x) (pu x) (no x)
      (record { lookups = lo x; names = na x; tuples = tu x; multiplicities = mu x; flags = fl x; elements = el x })

  now : table_at (lists_of (t ∷ ts)) 0 ≡ t
  unfolding table_at shape_at lookups_at lists_of flat_map
  now =
      let k : Sized t = sized t q in
      let L : (f unit : ℕ) (ys zs : List ℕ) → f < 14 → unit * word (sizes_of t) f ≡ length ys → table_part 14 (sizes_of t ++ more) f unit 0 (ys ++ zs) ≡ ys =
      λ f unit ys zs. part_now (sizes_of t) more (sizes-long t) f unit ys zs in
      let S : (f : ℕ) → f < 14 → size 14 (sizes_of t ++ more) f 0 ≡ word (sizes_of t) f = λ f h. size_now (sizes_of t) more (sizes-long t) f h in
      let s0 : size 14 (sizes_of t ++ more) 0 0 ≡ t.traces.shape.main_width = S 0 (omega arith) ∙ own0 in
      let s1 : size 14 (sizes_of t ++ more) 1 0 ≡ t.traces.shape.height = S 1 (omega arith) ∙ own1 in
      let s2 : size 14 (sizes_of t ++ more) 2 0 ≡ t.traces.shape.pre_width = S 2 (omega arith) ∙ own2 in
      let s3 : size 14 (sizes_of t ++ more) 3 0 ≡ t.traces.shape.pre_height = S 3 (omega arith) ∙ own3 in
      let ma = L 4 1 t.traces.main (flat_map (λ (t : Table). t.traces.main) ts) (omega arith) k.main_long in
      let pr = L 5 1 t.traces.preprocessed (flat_map (λ (t : Table). t.traces.preprocessed) ts) (omega arith) k.preprocessed_long in
      let pu = L 6 1 t.traces.public_values (flat_map (λ (t : Table). t.traces.public_values) ts) (omega arith) k.public_values_long in
      let no = L 7 3 t.nodes (flat_map (λ (t : Table). t.nodes) ts) (omega arith) k.nodes_long in
      let lo = L 8 9 t.lookups.lookups (flat_map (λ (t : Table). t.lookups.lookups) ts) (omega arith) k.lookups_long in
      let na = L 9 1 t.lookups.names (flat_map (λ (t : Table). t.lookups.names) ts) (omega arith) k.names_long in
      let tu = L 10 1 t.lookups.tuples (flat_map (λ (t : Table). t.lookups.tuples) ts) (omega arith) k.tuples_long in
      let mu = L 11 1 t.lookups.multiplicities (flat_map (λ (t : Table). t.lookups.multiplicities) ts) (omega arith) k.multiplicities_long in
      let fl = L 12 1 t.lookups.flags (flat_map (λ (t : Table). t.lookups.flags) ts) (omega arith) k.flags_long in
      let el = L 13 1 t.lookups.elements (flat_map (λ (t : Table). t.lookups.elements) ts) (omega arith) k.elements_long in
      λ j. lent_table (record { main_width = s0 j; height = s1 j; pre_width = s2 j; pre_height = s3 j }) (ma j) (pr j) (pu j) (no j)
      (record { lookups = lo j; names = na j; tuples = tu j; multiplicities = mu j; flags = fl j; elements = el j })
    where
      own0 : word (sizes_of t) 0 ≡ t.traces.shape.main_width
      own0 = unfold sizes_of in refl

      own1 : word (sizes_of t) 1 ≡ t.traces.shape.height
      own1 = unfold sizes_of in refl

      own2 : word (sizes_of t) 2 ≡ t.traces.shape.pre_width
      own2 = unfold sizes_of in refl

      own3 : word (sizes_of t) 3 ≡ t.traces.shape.pre_height
      own3 = unfold sizes_of in refl

-- as many tables as were put in
all-long : (ts : List Table) → length (lists_of ts).sizes ≡ 14 * length ts
unfolding lists_of flat_map
all-long [] = refl
all-long (t ∷ ts) =
    length-append (sizes_of t) (lists_of ts).sizes
    ∙ (let z : length (sizes_of t) + length (lists_of ts).sizes ≡ 14 * suc (length ts) = omega (arith, sizes-long t, all-long ts) in z)

count_is : (ts : List Table) → table_count (lists_of ts).sizes ≡ length ts
count_is ts = let z : length (lists_of ts).sizes / 14 ≡ length ts = omega (arith, all-long ts) in z

each_back : (ts : List Table) → Each Whole ts → tab (table_at (lists_of ts)) 0 (length ts) ≡ ts
each_back [] w = tab_none (table_at (lists_of [])) 0
each_back (t ∷ ts) w =
    tab_cons (table_at (lists_of (t ∷ ts))) (length ts)
    ∙ ap₂ (λ (x : Table) (y : List Table). x ∷ y) (now t w.0 ts) (tab_cong (λ k. table_at (lists_of (t ∷ ts)) (suc k)) (table_at (lists_of ts)) (length ts) (λ k h. later t w.0 ts k) ∙ each_back ts w.1)

-- The lists hold these tables.
pub tables-back : (ts : List Table) → Each Whole ts → tables_of (lists_of ts) ≡ ts
unfolding tables_of
tables-back ts w = ap (tab (table_at (lists_of ts)) 0) (count_is ts) ∙ each_back ts w

-- each list is as long as the sizes say
covered_by : (f unit : ℕ) (g : Table → List ℕ) → f < 14 → ((t : Table) → Whole t → unit * word (sizes_of t) f ≡ length (g t))
    → (ts : List Table) → Each Whole ts → length (flat_map g ts) ≡ unit * size_start 14 (flat_map sizes_of ts) f (length ts)
unfolding flat_map
covered_by f unit g h e [] w = unfold size_start in unfold total in (let z : 0 ≡ unit * 0 = omega arith in z)
covered_by f unit g h e (t ∷ ts) w =
    let S : ℕ = size_start 14 (flat_map sizes_of ts) f (length ts) in
    length-append (g t) (flat_map g ts)
    ∙ (let z : length (g t) + length (flat_map g ts) ≡ unit * (word (sizes_of t) f + S) = omega (arith, e t w.0, covered_by f unit g h e ts w.1) in z)
    ∙ ap (λ (n : ℕ). unit * n) (sym (start_later (sizes_of t) (flat_map sizes_of ts) (sizes-long t) f (length ts) h))

pub lists_of-fit : (m : Limits) (ts : List Table) → length ts ≤ m.tables → Each Whole ts → lists_fit m (lists_of ts) ≡ true
unfolding lists_fit lists_of
lists_of-fit m ts few w =
    let c2 = eq-eqb (length sizes % 14) 0 (omega (arith, long)) in
    let c3 = ap₂ ◌&&◌ c2 (le-leb (table_count sizes) m.tables (omega (arith, count))) in
    let c4 = ap₂ ◌&&◌ c3 (fits 4 1 (λ (t : Table). t.traces.main) (omega arith) (λ t q. (sized t q).main_long)) in
    let c5 = ap₂ ◌&&◌ c4 (fits 5 1 (λ (t : Table). t.traces.preprocessed) (omega arith) (λ t q. (sized t q).preprocessed_long)) in
    let c6 = ap₂ ◌&&◌ c5 (fits 6 1 (λ (t : Table). t.traces.public_values) (omega arith) (λ t q. (sized t q).public_values_long)) in
    let c7 = ap₂ ◌&&◌ c6 (fits 7 3 (λ (t : Table). t.nodes) (omega arith) (λ t q. (sized t q).nodes_long)) in
    let c8 = ap₂ ◌&&◌ c7 (fits 8 9 (λ (t : Table). t.lookups.lookups) (omega arith) (λ t q. (sized t q).lookups_long)) in
    let c9 = ap₂ ◌&&◌ c8 (fits 9 1 (λ (t : Table). t.lookups.names) (omega arith) (λ t q. (sized t q).names_long)) in
    let c10 = ap₂ ◌&&◌ c9 (fits 10 1 (λ (t : Table). t.lookups.tuples) (omega arith) (λ t q. (sized t q).tuples_long)) in
    let c11 = ap₂ ◌&&◌ c10 (fits 11 1 (λ (t : Table). t.lookups.multiplicities) (omega arith) (λ t q. (sized t q).multiplicities_long)) in
    let c12 = ap₂ ◌&&◌ c11 (fits 12 1 (λ (t : Table). t.lookups.flags) (omega arith) (λ t q. (sized t q).flags_long)) in
    ap₂ ◌&&◌ c12 (fits 13 1 (λ (t : Table). t.lookups.elements) (omega arith) (λ t q. (sized t q).elements_long))
  where
    sizes : List ℕ
    sizes = flat_map sizes_of ts

    long : length sizes ≡ 14 * length ts
    long = unfold lists_of in all-long ts

    count : table_count sizes ≡ length ts
    count = unfold lists_of in count_is ts

    fits : (f unit : ℕ) (g : Table → List ℕ) → f < 14 → ((t : Table) → Whole t → unit * word (sizes_of t) f ≡ length (g t))
        → covers sizes f unit (flat_map g ts) ≡ true
    fits f unit g h e =
        eq-eqb (length (flat_map g ts)) (unit * size_start 14 sizes f (table_count sizes)) (covered_by f unit g h e ts w ∙ ap (λ (n : ℕ). unit * size_start 14 sizes f n) (sym count))

-- what passed tests say: no more tables than the limit, and whole records
pub few_tables : (m : Limits) (l : TableLists) → lists_fit m l ≡ true → length (tables_of l) ≤ m.tables
unfolding lists_fit tables_of
few_tables m l e =
    let k =
    passed (eqb (length l.sizes % 14) 0)
    (leb (table_count l.sizes) m.tables
    ∷ covers l.sizes 4 1 l.main
    ∷ covers l.sizes 5 1 l.preprocessed
    ∷ covers l.sizes 6 1 l.public_values
    ∷ covers l.sizes 7 3 l.nodes
    ∷ covers l.sizes 8 9 l.lookups.lookups
    ∷ covers l.sizes 9 1 l.lookups.names
    ∷ covers l.sizes 10 1 l.lookups.tuples
    ∷ covers l.sizes 11 1 l.lookups.multiplicities
    ∷ covers l.sizes 12 1 l.lookups.flags
    ∷ covers l.sizes 13 1 l.lookups.elements
    ∷ [])
    e in
    omega (arith, leb-true (table_count l.sizes) m.tables k.1.0, tab-length (table_at l) 0 (table_count l.sizes))

pub whole_of : (m : Limits) (t : Table) → sizes m t ≡ true → Whole t
unfolding sizes nodes_fit lookups_fit
whole_of m t e =
    let k =
    passed (traces_within m t.traces.shape t.traces.public_values)
    (nodes_within m t.nodes
    ∷ lookups_within m t.lookups.lookups t.lookups.tuples
    ∷ traces_fit t.traces.shape t.traces.main t.traces.preprocessed
    ∷ eqb (length t.nodes % 3) 0
    ∷ lookups_fit t.lookups
    ∷ [])
    e in
    record {
      nodes = omega (arith, eqb-true (length t.nodes % 3) 0 k.1.1.1.1.0);
      lookups = omega (arith, (fitting t.lookups k.1.1.1.1.1.0).lookups);
    }
