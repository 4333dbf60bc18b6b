-- The height sum and the widths of the buses are sums over lookups, and a sum that merges keep stays.
use Rattle.std.specs.Prelude.{◌≡◌, Bool, eqb, length, take, drop}
use Rattle.std.proofs.Math.Path.{refl, sym, ap, ap₂}
use Rattle.std.proofs.Common.{◌∙◌, subst, true≢false, arith}
use Rattle.std.proofs.Math.Bool.{true, false, cond, not, ◌&&◌}
use Rattle.std.proofs.Math.Option.{Option, none, some, some-ne-none}
use mathlib.Core.List.{List, [], ◌∷◌, ◌++◌, map}
use Prim.Native.Nat.{ℕ, zero, ◌+◌, ◌*◌, ◌<◌, ◌≤◌}
use Rattle.std.proofs.Math.Dec.{ltb}
use Rattle.std.proofs.Math.ListN.{length-drop}
use Rattle.std.proofs.Math.Seq.{length-take-le}
use borrow.Author.Tests.{eqb-true, eq-eqb, ltb-true, ltb-false, lt-ltb, le-ltb}
use Rattle.lists.specs.Same.{same_list}
use Rattle.lists.specs.Count.{total, first}
use Rattle.lists.specs.laws.Same.{same_list-eq, same_list_refl}
use Rattle.lists.specs.laws.Count.{first_none, total_in, first-all}
use Rattle.lists.specs.laws.Sums.{total_cong, total-zero}
use Rattle.expression.specs.Words.{word}
use Rattle.expression.specs.Values.{bit}
use Rattle.expression.specs.declared.refusal.Refusal.{Refusal}
use Rattle.lookup.specs.Lookups.{Lookups, Lookup, lookup_count, on_bus, name_length, weight, tuple_count, name_start, tuple_start, element_start, tuple_width, tuple_nodes, lookup_at, lookups_of}
use Rattle.lookup.specs.Buses.{name_at, alone_at}
use Rattle.lookup.specs.Table.{Table}
use Rattle.lookup.specs.Requires.{Fitting}
use Rattle.lookup.specs.laws.Tested.{fitting, tuple-placed}
use Rattle.lookup_degree.specs.Sums.{sum_of, greatest}
use Rattle.lookup_degree.specs.Degree.{node_degrees}
use Rattle.lookup_degree.specs.laws.Degree.{sum-tab}
use Rattle.lookup_degree.specs.laws.Greatest.{greatest-le}
use Rattle.lookup_buses.specs.Order.{numbers}
use Rattle.lookup_buses.specs.Widths.{Tables, width_in_lookup, width_in_table, expected, tuple_refusal, by_bus, lookup_refusal, table_refusal, widths_refusal, widest_in_lookup, widest_in_table, widest}
use Rattle.lookup_buses.specs.laws.Order.{sum-append, tab-map, arranged-sum, arranged-length, arranged-below}
use Rattle.lookup_protocol.specs.Height.{weight_sum, table_weight, height_sum}
use Rattle.packing.specs.Packing.{on_one_bus, merged}
use Rattle.packing.specs.Written.{words_of}
use Rattle.packing.specs.PackSameBus.{columns}
use Rattle.packing.proofs.laws.Columns.{on_one, packed-sum}
use Rattle.theorems_packing.specs.Packed.{packed_table}
use Rattle.theorems_packing.specs.Bounds.{SameWeightSum, packed_tables, SameHeightSum, bus_tables, SameWidths}
use Rattle.theorems_packing.proofs.laws.Each.{packed-sum-each}
use Rattle.theorems_packing.proofs.laws.Counting.{total-some, first_some, sum-word, le-greatest}
use Rattle.theorems_packing.proofs.laws.Back.{columns-unnamed, columns-back, words-fit}
use Rattle.theorems_packing.proofs.laws.Entries.{local-both}

-- weights
own-weights : (l : Lookups) → weight_sum l.lookups ≡ sum_of (λ (x : Lookup). x.weight) (lookups_of l)
unfolding weight_sum lookups_of
own-weights l =
    sym (sum-tab (λ (x : Lookup). x.weight) (lookup_at l) (lookup_count l.lookups)
    ∙ total_cong (λ i. (lookup_at l i).weight) (weight l.lookups) (lookup_count l.lookups) (λ i h. unfold lookup_at in refl))

pub same-weight_sum : SameWeightSum
same-weight_sum limit t =
    own-weights (words_of (columns limit t.nodes t.lookups))
    ∙ ap (sum_of (λ (x : Lookup). x.weight)) (columns-back limit t.nodes t.lookups)
    ∙ kept
    ∙ sym (own-weights t.lookups)
  where
    kept : sum_of (λ (x : Lookup). x.weight) (columns limit t.nodes t.lookups) ≡ sum_of (λ (x : Lookup). x.weight) (lookups_of t.lookups)
    kept =
        unfold columns in packed-sum (λ (x : Lookup). x.weight) (λ (a b : Lookup). refl) (λ (k : ℕ) (x : Lookup). refl) (node_degrees 0 t.nodes) limit t.lookups

pub same-height_sum : SameHeightSum
unfolding height_sum
same-height_sum n limit tables lookups counts lookups' counts' heights a b =
    ap (total (table_weight lookups' counts' heights)) b.count
    ∙ total_cong (table_weight lookups' counts' heights) (table_weight lookups counts heights) n each
    ∙ ap (total (table_weight lookups counts heights)) (sym a.count)
  where
    each : (t : ℕ) → t < n → table_weight lookups' counts' heights t ≡ table_weight lookups counts heights t
    each t h =
        unfold table_weight in
        ap (λ (k : ℕ). k * word heights t) (ap weight_sum (b.each t h) ∙ same-weight_sum (limit t) (tables t) ∙ ap weight_sum (sym (a.each t h)))

-- the tuples on the buses whose names pass a test, counted by their widths
module _ (Q : List ℕ → Bool) (H : ℕ → ℕ) where
  unfoldable in_lookup : Lookups → ℕ → ℕ
  in_lookup l i =
      cond (on_bus l.lookups i && Q (name_at l.lookups l.names i)) (total (λ k. H (tuple_width l.lookups l.tuples i k)) (tuple_count l.lookups i)) 0

  unfoldable in_table : Lookups → ℕ
  in_table l = total (in_lookup l) (lookup_count l.lookups)

  unfoldable in_tables : Tables → ℕ
  in_tables ts = total (λ t. in_table (ts.table t)) ts.count

  -- of a lookup as a record
  abbrev of_lookup : Lookup → ℕ
  of_lookup x = cond (not x.local && Q x.name) (sum_of (λ (t : List ℕ). H (length t)) x.tuples) 0

  in_table_is : (l : Lookups) → Fitting l → in_table l ≡ sum_of of_lookup (lookups_of l)
  unfolding in_table lookups_of
  in_table_is l f =
      sym (sum-tab of_lookup (lookup_at l) (lookup_count l.lookups) ∙ total_cong (λ i. of_lookup (lookup_at l i)) (in_lookup l) (lookup_count l.lookups) one)
    where
      twice : (b : Bool) → not (not b) ≡ b
      twice true = refl
      twice false = refl

      wide : (i k : ℕ) → i < lookup_count l.lookups → k < tuple_count l.lookups i
          → length (tuple_nodes l i k) ≡ tuple_width l.lookups l.tuples i k
      wide i k h g =
          unfold tuple_nodes in
          length-take-le _ _ (omega (arith, length-drop (element_start l.tuples (tuple_start l.lookups i + k)) l.elements, tuple-placed l f i k h g))

      one : (i : ℕ) → i < lookup_count l.lookups → of_lookup (lookup_at l i) ≡ in_lookup l i
      one i h =
          unfold lookup_at in unfold in_lookup in unfold name_at in
          ap₂ (λ (b : Bool) (n : ℕ). cond (b && Q (take (name_length l.lookups i) (drop (name_start l.lookups i) l.names))) n 0) (twice (on_bus l.lookups i))
          (sum-tab (λ (t : List ℕ). H (length t)) (tuple_nodes l i) (tuple_count l.lookups i)
          ∙ total_cong (λ k. H (length (tuple_nodes l i k))) (λ k. H (tuple_width l.lookups l.tuples i k)) (tuple_count l.lookups i) (λ k g. ap H (wide i k h g)))

  -- a merge has what its parts have
  of_merged : (a b : Lookup) → on_one_bus a b ≡ true → of_lookup (merged a b) ≡ of_lookup a + of_lookup b
  of_merged a b o =
      let l = local-both a b o in
      go a.local b.local a.name b.name l.0 l.1 (on_one a b o).2
    where
      parts : (c : Bool) (s t u : ℕ) → u ≡ s + t → cond c u 0 ≡ cond c s 0 + cond c t 0
      parts true s t u e = e
      parts false s t u e = refl

      go : (x y : Bool) (n k : List ℕ) → x ≡ false → y ≡ false → n ≡ k
          → cond (not x && Q n) (sum_of (λ (t : List ℕ). H (length t)) (a.tuples ++ b.tuples)) 0
          ≡ cond (not x && Q n) (sum_of (λ (t : List ℕ). H (length t)) a.tuples) 0 + cond (not y && Q k) (sum_of (λ (t : List ℕ). H (length t)) b.tuples) 0
      go x y n k e f g =
          parts (not x && Q n) (sum_of (λ (t : List ℕ). H (length t)) a.tuples) (sum_of (λ (t : List ℕ). H (length t)) b.tuples) (sum_of (λ (t : List ℕ). H (length t)) (a.tuples ++ b.tuples))
          (sum-append (λ (t : List ℕ). H (length t)) a.tuples b.tuples)
          ∙ ap (λ (c : Bool). cond (not x && Q n) (sum_of (λ (t : List ℕ). H (length t)) a.tuples) 0 + cond c (sum_of (λ (t : List ℕ). H (length t)) b.tuples) 0)
          (ap₂ (λ (x : Bool) (n : List ℕ). not x && Q n) (e ∙ sym f) g)

  table_same : (limit : ℕ) (t : Table) → Fitting t.lookups → in_table (packed_table limit t).lookups ≡ in_table t.lookups
  table_same limit t f =
      in_table_is (words_of (columns limit t.nodes t.lookups)) (words-fit (columns limit t.nodes t.lookups) (columns-unnamed limit t.nodes t.lookups))
      ∙ ap (sum_of of_lookup) (columns-back limit t.nodes t.lookups)
      ∙ kept
      ∙ sym (in_table_is t.lookups f)
    where
      kept : sum_of of_lookup (columns limit t.nodes t.lookups) ≡ sum_of of_lookup (lookups_of t.lookups)
      kept = unfold columns in packed-sum-each (λ (x : Lookup). Unit {0}) (λ a b o s t. tt) of_lookup (λ a b o s t. of_merged a b o) (λ k x. refl) t.lookups (λ i h. tt) (node_degrees 0 t.nodes) limit

  tables-same : (n : ℕ) (limit : ℕ → ℕ) (tables : ℕ → Table) → ((t : ℕ) → t < n → Fitting (tables t).lookups)
      → in_tables (bus_tables n (packed_tables limit tables)) ≡ in_tables (bus_tables n tables)
  unfolding in_tables in_table in_lookup
  tables-same n limit tables f =
      total_cong (λ t. in_table (packed_table (limit t) (tables t)).lookups) (λ t. in_table (tables t).lookups) n (λ t h. table_same (limit t) (tables t) (f t h))

-- a tuple on a bus whose name passes a test: tuple k of lookup i of table t
record OnBus (Q : List ℕ → Bool) (ts : Tables) (t i k : ℕ) : Type 0 where
  table_there : t < ts.count
  lookup_there : i < lookup_count (ts.table t).lookups
  bus : on_bus (ts.table t).lookups i ≡ true
  named : Q (name_at (ts.table t).lookups (ts.table t).names i) ≡ true
  tuple_there : k < tuple_count (ts.table t).lookups i

abbrev width_at : Tables → ℕ → ℕ → ℕ → ℕ
width_at ts t i k = tuple_width (ts.table t).lookups (ts.table t).tuples i k

module _ (Q : List ℕ → Bool) (H : ℕ → ℕ) (ts : Tables) where
  counted_at : (t i k : ℕ) → OnBus Q ts t i k → 0 < H (width_at ts t i k) → 0 < in_tables Q H ts
  unfolding in_tables in_table in_lookup
  counted_at t i k o h =
      let l : Lookups = ts.table t in
      let W : ℕ → ℕ = λ k. H (tuple_width l.lookups l.tuples i k) in
      let a : W k ≤ total W (tuple_count l.lookups i) = omega (arith, total_in W k (tuple_count l.lookups i) o.tuple_there) in
      let e : (on_bus l.lookups i && Q (name_at l.lookups l.names i)) ≡ true = ap₂ ◌&&◌ o.bus o.named in
      let b : 0 < in_lookup Q H l i = rw e (omega arith) in
      let c : 0 < in_table Q H l = omega (arith, total_in (in_lookup Q H l) i (lookup_count l.lookups) o.lookup_there) in
      omega (arith, total_in (λ t. in_table Q H (ts.table t)) t ts.count o.table_there)

  counted_from : 0 < in_tables Q H ts → (t : ℕ) × (i : ℕ) × (k : ℕ) × OnBus Q ts t i k × (0 < H (width_at ts t i k))
  unfolding in_tables in_table in_lookup
  counted_from h =
      let a = total-some (λ t. in_table Q H (ts.table t)) ts.count h in
      let l : Lookups = ts.table a.0 in
      let b = total-some (in_lookup Q H l) (lookup_count l.lookups) a.2 in
      let c = inside (on_bus l.lookups b.0) (Q (name_at l.lookups l.names b.0)) (total (λ k. H (tuple_width l.lookups l.tuples b.0 k)) (tuple_count l.lookups b.0)) b.2 in
      let d = total-some (λ k. H (tuple_width l.lookups l.tuples b.0 k)) (tuple_count l.lookups b.0) c.2 in
      (a.0, b.0, d.0, record { table_there = a.1; lookup_there = b.1; bus = c.0; named = c.1; tuple_there = d.1 }, d.2)
    where
      inside : (b c : Bool) (n : ℕ) → 0 < cond (b && c) n 0 → (b ≡ true) × (c ≡ true) × (0 < n)
      inside true true n h = (refl, refl, h)
      inside true false n h = absurd (omega arith)
      inside false c n h = absurd (omega arith)

-- the tests on all lookups of a table, in whichever order
abbrev given : Option Refusal → ℕ
given none = 0
given (some f) = 1

given_none : (o : Option Refusal) → given o ≡ 0 → o ≡ none
given_none none e = refl
given_none (some f) e = absurd (omega arith)

module _ (ts : Tables) where
  all_looked : (l : Lookups) → table_refusal ts l ≡ none → (i : ℕ) → i < lookup_count l.lookups → lookup_refusal ts l i ≡ none
  unfolding table_refusal
  all_looked l e i h = given_none (lookup_refusal ts l i) (let s = total_in g i n h in omega (arith, zero))
    where
      n : ℕ
      n = lookup_count l.lookups

      g : ℕ → ℕ
      g i = given (lookup_refusal ts l i)

      long : length (by_bus l) ≡ n
      long = unfold by_bus in arranged-length (alone_at false l.lookups) (name_at l.lookups l.names) n

      -- the same sum in the order of the buses, where each is none
      zero : total g n ≡ 0
      zero =
          let order : sum_of g (by_bus l) ≡ sum_of g (numbers n) = unfold by_bus in arranged-sum (alone_at false l.lookups) (name_at l.lookups l.names) n g in
          sym (sum-tab g (λ i. i) n) ∙ ap (sum_of g) (tab-map (λ i. i) n ∙ same (numbers n)) ∙ sym order ∙ sum-word g (by_bus l)
          ∙ ap (total (λ k. g (word (by_bus l) k))) long
          ∙ total_cong (λ k. g (word (by_bus l) k)) (λ k. 0) n (λ k q. ap given (first_none (λ k. lookup_refusal ts l (word (by_bus l) k)) n k e q))
          ∙ total-zero n
        where
          same : (xs : List ℕ) → map (λ (i : ℕ). i) xs ≡ xs
          same [] = refl
          same (x ∷ xs) = ap (λ (ys : List ℕ). x ∷ ys) (same xs)

  looked_all : (l : Lookups) → ((i : ℕ) → i < lookup_count l.lookups → lookup_refusal ts l i ≡ none) → table_refusal ts l ≡ none
  unfolding table_refusal by_bus
  looked_all l h =
      first-all (λ k. lookup_refusal ts l (word (by_bus l) k)) (lookup_count l.lookups)
      (λ k q. h (word (by_bus l) k) (arranged-below (alone_at false l.lookups) (name_at l.lookups l.names) (lookup_count l.lookups) k (omega arith)))

  abbrev any : List ℕ → Bool
  any bus = true

  abbrev name_of : ℕ → ℕ → List ℕ
  name_of t i = name_at (ts.table t).lookups (ts.table t).names i

  -- no refusal 6 exactly where no tuple on a bus has it
  tuples_pass : widths_refusal ts ≡ none → (t i k : ℕ) → OnBus any ts t i k
      → tuple_refusal i (expected ts (name_of t i)) (width_at ts t i k) ≡ none
  unfolding widths_refusal lookup_refusal
  tuples_pass e t i k o =
      let l : Lookups = ts.table t in
      let a : lookup_refusal ts l i ≡ none = all_looked l (first_none (λ t. table_refusal ts (ts.table t)) ts.count t e o.table_there) i o.lookup_there in
      first_none (λ k. tuple_refusal i (expected ts (name_of t i)) (width_at ts t i k)) (tuple_count l.lookups i) k
      (sym (ap (λ (b : Bool). cond b (first (λ k. tuple_refusal i (expected ts (name_of t i)) (width_at ts t i k)) (tuple_count l.lookups i)) none) o.bus) ∙ a) o.tuple_there

  pass_tuples : ((t i k : ℕ) → OnBus any ts t i k → tuple_refusal i (expected ts (name_of t i)) (width_at ts t i k) ≡ none)
      → widths_refusal ts ≡ none
  unfolding widths_refusal
  pass_tuples h =
      first-all (λ t. table_refusal ts (ts.table t)) ts.count (λ t a. looked_all (ts.table t) (λ i b. one t a i b (on_bus (ts.table t).lookups i) refl))
    where
      one : (t : ℕ) → t < ts.count → (i : ℕ) → i < lookup_count (ts.table t).lookups → (b : Bool) → on_bus (ts.table t).lookups i ≡ b
          → lookup_refusal ts (ts.table t) i ≡ none
      one t a i q b e =
          unfold lookup_refusal in
          ap (λ (b : Bool). cond b (first (λ k. tuple_refusal i (expected ts (name_of t i)) (width_at ts t i k)) (tuple_count (ts.table t).lookups i)) none) e
          ∙ go b e
        where
          go : (b : Bool) → on_bus (ts.table t).lookups i ≡ b
              → cond b (first (λ k. tuple_refusal i (expected ts (name_of t i)) (width_at ts t i k)) (tuple_count (ts.table t).lookups i)) none ≡ none
          go true e =
              first-all (λ k. tuple_refusal i (expected ts (name_of t i)) (width_at ts t i k)) (tuple_count (ts.table t).lookups i)
              (λ k c. h t i k (record { table_there = a; lookup_there = q; bus = e; named = refl; tuple_there = c }))
          go false e = refl

  -- the width that is expected on a bus is that of a tuple on it, and there is one where there is a tuple
  abbrev wide : ℕ → ℕ → ℕ
  wide w v = bit (eqb v w)

  expected_from : (bus : List ℕ) (e : ℕ) → expected ts bus ≡ some e → 0 < in_tables (same_list bus) (wide e) ts
  unfolding expected width_in_table width_in_lookup
  expected_from bus e q =
      let a = first_some (λ t. width_in_table bus (ts.table t)) ts.count e q in
      let l : Lookups = ts.table a.0 in
      let b = first_some (width_in_lookup bus l) (lookup_count l.lookups) e a.2 in
      let c = inside (on_bus l.lookups b.0) (same_list bus (name_at l.lookups l.names b.0)) (ltb 0 (tuple_count l.lookups b.0)) (tuple_width l.lookups l.tuples b.0 0) b.2 in
      counted_at (same_list bus) (wide e) ts a.0 b.0 0
      (record { table_there = a.1; lookup_there = b.1; bus = c.0; named = c.1; tuple_there = ltb-true 0 (tuple_count l.lookups b.0) c.2 })
      (rw (eq-eqb (tuple_width l.lookups l.tuples b.0 0) e c.3) (omega arith))
    where
      inside : (b c d : Bool) (n : ℕ) → cond (b && c && d) (some n) none ≡ some e → (b ≡ true) × (c ≡ true) × (d ≡ true) × (n ≡ e)
      inside true true true n q = (refl, refl, refl, cc)
      inside true true false n q = absurd (some-ne-none e (sym q))
      inside true false d n q = absurd (some-ne-none e (sym q))
      inside false c d n q = absurd (some-ne-none e (sym q))

  expected-there : (bus : List ℕ) (t i k : ℕ) → OnBus (same_list bus) ts t i k → expected ts bus ≡ none → ⊥
  unfolding expected width_in_table width_in_lookup
  expected-there bus t i k o q =
      let l : Lookups = ts.table t in
      let a : width_in_table bus l ≡ none = first_none (λ t. width_in_table bus (ts.table t)) ts.count t q o.table_there in
      let b : width_in_lookup bus l i ≡ none = first_none (width_in_lookup bus l) (lookup_count l.lookups) i a o.lookup_there in
      let c : (on_bus l.lookups i && same_list bus (name_of t i) && ltb 0 (tuple_count l.lookups i)) ≡ true = ap₂ ◌&&◌ (ap₂ ◌&&◌ o.bus o.named) (lt-ltb 0 (tuple_count l.lookups i) (omega (arith, o.tuple_there))) in
      some-ne-none (tuple_width l.lookups l.tuples i 0) (sym (ap (λ (b : Bool). cond b (some (tuple_width l.lookups l.tuples i 0)) none) c) ∙ b)

  -- all tuples on one bus have one width
  abbrev Uniform : Type 0
  Uniform = (bus : List ℕ) (v w : ℕ) → 0 < in_tables (same_list bus) (wide v) ts → 0 < in_tables (same_list bus) (wide w) ts → v ≡ w

  passed_uniform : widths_refusal ts ≡ none → Uniform
  passed_uniform e bus v w a b = let x = met v a in let y = met w b in agree x.0 y.0 x.1 y.1 x.2 y.2
    where
      agree : (x y : ℕ) → expected ts bus ≡ some x → expected ts bus ≡ some y → v ≡ x → w ≡ y → v ≡ w
      agree x y p q f g = cc

      met : (v : ℕ) → 0 < in_tables (same_list bus) (wide v) ts → (x : ℕ) × (expected ts bus ≡ some x) × (v ≡ x)
      met v a =
          let r = counted_from (same_list bus) (wide v) ts a in
          let o = r.3 in
          let n : bus ≡ name_of r.0 r.1 = same_list-eq bus (name_of r.0 r.1) o.named in
          let is : width_at ts r.0 r.1 r.2 ≡ v = held (eqb (width_at ts r.0 r.1 r.2) v) refl r.4 in
          let p = tuples_pass e r.0 r.1 r.2 (record { table_there = o.table_there; lookup_there = o.lookup_there; bus = o.bus; named = refl; tuple_there = o.tuple_there }) in
          go r.1 (width_at ts r.0 r.1 r.2) (expected ts bus) refl (expected-there bus r.0 r.1 r.2 o)
          (ap (λ (bus : List ℕ). tuple_refusal r.1 (expected ts bus) (width_at ts r.0 r.1 r.2)) n ∙ p) is
        where
          held : {u : ℕ} (b : Bool) → eqb u v ≡ b → 0 < bit b → u ≡ v
          held {u} true q h = eqb-true u v q
          held false q h = absurd (omega arith)

          go : (i u : ℕ) (o : Option ℕ) → expected ts bus ≡ o → (expected ts bus ≡ none → ⊥) → tuple_refusal i o u ≡ none → u ≡ v
              → (x : ℕ) × (expected ts bus ≡ some x) × (v ≡ x)
          go i u none q n p is = absurd (n q)
          go i u (some x) q n p is = (x, q, sym is ∙ equal (eqb u x) refl p)
            where
              equal : (b : Bool) → eqb u x ≡ b
                  → cond b none (some (Rattle.expression.specs.declared.refusal.Refusal.TheVariants.WidthsDiffer i x u)) ≡ none → u ≡ x
              equal true q p = eqb-true u x q
              equal false q p = absurd (some-ne-none _ p)

  uniform_passed : Uniform → widths_refusal ts ≡ none
  uniform_passed u = pass_tuples (λ t i k o. go t i k o (expected ts (name_of t i)) refl)
    where
      go : (t i k : ℕ) → OnBus any ts t i k → (o : Option ℕ) → expected ts (name_of t i) ≡ o → tuple_refusal i o (width_at ts t i k) ≡ none
      go t i k o none q = refl
      go t i k o (some x) q =
          let here : 0 < in_tables (same_list (name_of t i)) (wide (width_at ts t i k)) ts =
          counted_at (same_list (name_of t i)) (wide (width_at ts t i k)) ts t i k
          (record { table_there = o.table_there; lookup_there = o.lookup_there; bus = o.bus; named = same_list_refl (name_of t i); tuple_there = o.tuple_there })
          (rw (eq-eqb (width_at ts t i k) (width_at ts t i k) refl) (omega arith)) in
          rw (eq-eqb (width_at ts t i k) x (u (name_of t i) (width_at ts t i k) x here (expected_from (name_of t i) x q)))

-- the widest tuple on any bus: none is wider
module _ (ts : Tables) (b : ℕ) where
  abbrev wider : ℕ → ℕ
  wider v = bit (ltb b v)

  none_wider : in_tables (any ts) wider ts ≡ 0 → widest ts ≤ b
  unfolding widest widest_in_table widest_in_lookup
  none_wider e =
      greatest-le (λ t. widest_in_table (ts.table t)) ts.count b
      (λ t h. greatest-le (widest_in_lookup (ts.table t)) (lookup_count (ts.table t).lookups) b (λ i g. one t h i g (on_bus (ts.table t).lookups i) refl))
    where
      low : (t i k : ℕ) → OnBus (any ts) ts t i k → width_at ts t i k ≤ b
      low t i k o = go (ltb b (width_at ts t i k)) refl
        where
          go : (c : Bool) → ltb b (width_at ts t i k) ≡ c → width_at ts t i k ≤ b
          go true q =
              absurd (let h : 0 < in_tables (any ts) wider ts = counted_at (any ts) wider ts t i k o (rw q (omega arith)) in omega (arith, e))
          go false q = ltb-false b (width_at ts t i k) q

      one : (t : ℕ) → t < ts.count → (i : ℕ) → i < lookup_count (ts.table t).lookups → (c : Bool) → on_bus (ts.table t).lookups i ≡ c
          → cond c (greatest (width_at ts t i) (tuple_count (ts.table t).lookups i)) 0 ≤ b
      one t h i g true q =
          greatest-le (width_at ts t i) (tuple_count (ts.table t).lookups i) b (λ k l. low t i k (record { table_there = h; lookup_there = g; bus = q; named = refl; tuple_there = l }))
      one t h i g false q = omega arith

  wider_none : widest ts ≤ b → in_tables (any ts) wider ts ≡ 0
  unfolding widest widest_in_table widest_in_lookup
  wider_none e = go (ltb 0 (in_tables (any ts) wider ts)) refl
    where
      low : (t i k : ℕ) → OnBus (any ts) ts t i k → width_at ts t i k ≤ b
      low t i k o =
          let l : Lookups = ts.table t in
          let x : width_at ts t i k ≤ greatest (width_at ts t i) (tuple_count l.lookups i) = le-greatest (width_at ts t i) (tuple_count l.lookups i) k o.tuple_there in
          let y : widest_in_lookup l i ≤ widest_in_table l = le-greatest (widest_in_lookup l) (lookup_count l.lookups) i o.lookup_there in
          let z : widest_in_table l ≤ widest ts = le-greatest (λ t. widest_in_table (ts.table t)) ts.count t o.table_there in
          let q : widest_in_lookup l i ≡ greatest (width_at ts t i) (tuple_count l.lookups i) = ap (λ (c : Bool). cond c (greatest (width_at ts t i) (tuple_count l.lookups i)) 0) o.bus in
          omega (arith, x, y, z, q, e)

      go : (c : Bool) → ltb 0 (in_tables (any ts) wider ts) ≡ c → in_tables (any ts) wider ts ≡ 0
      go true q =
          let r = counted_from (any ts) wider ts (ltb-true 0 (in_tables (any ts) wider ts) q) in
          absurd (none (ltb b (width_at ts r.0 r.1 r.2)) (le-ltb b (width_at ts r.0 r.1 r.2) (low r.0 r.1 r.2 r.3)) r.4)
        where
          none : (c : Bool) → c ≡ false → 0 < bit c → ⊥
          none true e h = true≢false e
          none false e h = omega arith
      go false q = let h = ltb-false 0 (in_tables (any ts) wider ts) q in omega arith

pub same-widths : SameWidths
same-widths n limit tables fit =
    record {
      refusal = (
        λ e. uniform_passed us (λ bus v w a b. passed_uniform ts e bus v w (subst (λ (k : ℕ). 0 < k) (kept (same_list bus) (wide ts v)) a) (subst (λ (k : ℕ). 0 < k) (kept (same_list bus) (wide ts w)) b)),
        λ e. uniform_passed ts (λ bus v w a b. passed_uniform us e bus v w (subst (λ (k : ℕ). 0 < k) (sym (kept (same_list bus) (wide ts v))) a) (subst (λ (k : ℕ). 0 < k) (sym (kept (same_list bus) (wide ts w))) b)),
      );
      widest_same =
          let x = none_wider us (widest ts) (kept (any ts) (wider ts (widest ts)) ∙ wider_none ts (widest ts) (omega arith)) in
          let y = none_wider ts (widest us) (sym (kept (any ts) (wider us (widest us))) ∙ wider_none us (widest us) (omega arith)) in
          omega arith;
    }
  where
    ts : Tables
    ts = bus_tables n tables

    us : Tables
    us = bus_tables n (packed_tables limit tables)

    kept : (Q : List ℕ → Bool) (H : ℕ → ℕ) → in_tables Q H us ≡ in_tables Q H ts
    kept Q H = tables-same Q H n limit tables (λ t h. fitting (tables t).lookups (fit t h))
