-- The words of the packed table from the plan: the lookups' words from its columns, the other lists as the lookups' parts in order.
use Rattle.std.specs.Prelude.{◌≡◌, Bool, not, ◌&&◌, ◌||◌, ltb, drop, replicate}
use Rattle.std.proofs.Math.Path.{refl, sym, ap, ap₂}
use Rattle.std.proofs.Common.{◌∙◌, zero-add, length-drop, take-add, drop-drop}
use Rattle.std.proofs.Math.Bool.{true, false, cond}
use mathlib.Core.List.{List, [], ◌∷◌, ◌++◌, append_assoc, append-nil, map, map-append, flat_map, Memᴰ}
use Prim.Native.Nat.{ℕ, zero, suc, ◌+◌, ◌*◌, ◌-◌, ◌<◌, ◌≤◌, zero-le}
use native.Mathlib.Omega.{arith}
use Rattle.std.proofs.Math.ListN.{length, take, length-append, length-take}
use Rattle.lists.specs.Count.{total}
use Rattle.lists.specs.Tab.{tab}
use Rattle.lists.specs.laws.Count.{total-one}
use Rattle.lists.specs.laws.Parts.{get_or_pad}
use Rattle.lists.specs.laws.Tab.{tab-length, tab_cong, tab_get, map-tab, flat_append}
use Rattle.expression.specs.Words.{word}
use Rattle.expression.specs.Node.{node_count}
use Rattle.expression.specs.Degree.{degrees}
use Rattle.expression.specs.laws.Below.{word-zeros}
use Rattle.expression.specs.declared.sizes.Limits.{Limits}
use Rattle.lookup.specs.Lookups.{Lookups, Lookup, lookup_count, exclusive, name_length, tuple_count, multiplicity_count, flag_count, name_start, tuple_start, multiplicity_start, flag_start, element_start, tuple_width, tuple_nodes, lookup_at, lookups_of}
use Rattle.lookup.specs.Requires.{Fitting}
use Rattle.lookup.specs.laws.Tested.{placed, tuple-placed, element-next, element_le}
use Rattle.lookup.specs.Buses.{name_at, alone_at}
use Rattle.lookup_degree.specs.Sums.{sum_of}
use Rattle.lookup_degree.specs.Degree.{node_degrees}
use Rattle.lookup_degree.specs.inner.At.{tuple_degree_at}
use Rattle.lookup_degree.specs.Formed.{Formed}
use Rattle.lookup_degree.specs.laws.Degree.{sum-tab, part-tab}
use Rattle.lookup_buses.specs.laws.Order.{arranged_in}
use Rattle.packing_columns.specs.inner.LookupLists.{list_start, list_length, list_part, list_parts}
use Rattle.packing_columns.specs.declared.lookup_lists.LookupList.TheVariants.{Names, Tuples, Multiplicities, Flags, Elements}
use Rattle.packing_columns.specs.inner.Columns.{plan_source, columns_of, ordered, words_from, heads_of, over_of}
use Rattle.packing_columns.specs.declared.columns.OpenColumn.{OpenColumn}
use Rattle.packing.specs.Packing.{in_order, merged, joins, fill, filled, numbered, renumbered, packed, overweight}
use Rattle.packing.specs.Written.{lookup_words, words_of}
use Rattle.packing.specs.PackSameBus.{columns}
use Rattle.packing.proofs.laws.Columns.{filled-sum, order-sum}
use Rattle.packing_columns.specs.laws.Planned.{Matched, plan_matches, over_matches, names_match, count_matches, words_match, heads_match}

-- what each lookup carries is carried by the columns, in order
module _ {B : Type 0} (g : Lookup → List B) where
  flat-fill : (deg : ℕ → ℕ) (limit : ℕ) → ((a b : Lookup) → g (merged a b) ≡ g a ++ g b) → (c : Lookup) (ls : List Lookup) → flat_map g (fill deg limit c ls) ≡ g c ++ flat_map g ls
  unfolding fill flat_map
  flat-fill deg limit adds c [] = refl
  flat-fill deg limit adds c (l ∷ ls) = go (joins deg limit c l) (flat-fill deg limit adds (merged c l) ls) (flat-fill deg limit adds l ls)
    where
      go : (b : Bool) → flat_map g (fill deg limit (merged c l) ls) ≡ g (merged c l) ++ flat_map g ls → flat_map g (fill deg limit l ls) ≡ g l ++ flat_map g ls
          → flat_map g (cond b (fill deg limit (merged c l) ls) (c ∷ fill deg limit l ls)) ≡ g c ++ (g l ++ flat_map g ls)
      go true x y = x ∙ ap (λ (z : List B). z ++ flat_map g ls) (adds c l) ∙ append_assoc (g c) (g l) (flat_map g ls)
      go false x y = ap (λ (z : List B). g c ++ z) y

  flat-filled : (deg : ℕ → ℕ) (limit : ℕ) → ((a b : Lookup) → g (merged a b) ≡ g a ++ g b) → (ls : List Lookup) → flat_map g (filled deg limit ls) ≡ flat_map g ls
  unfolding filled flat_map
  flat-filled deg limit adds [] = refl
  flat-filled deg limit adds (l ∷ ls) = flat-fill deg limit adds l ls

  flat-renumbered : ((k : ℕ) (l : Lookup) → g (numbered k l) ≡ g l) → (k : ℕ) (ls : List Lookup) → flat_map g (renumbered k ls) ≡ flat_map g ls
  unfolding renumbered flat_map
  flat-renumbered free k [] = refl
  flat-renumbered free k (l ∷ ls) = ap₂ (λ (x y : List B). x ++ y) (free k l) (flat-renumbered free (suc k) ls)

  -- of lookups by number
  flat-map : (f : ℕ → Lookup) (h : ℕ → List B) (is : List ℕ) → ((i : ℕ) → Memᴰ i is → g (f i) ≡ h i) → flat_map g (map f is) ≡ flat_map h is
  unfolding flat_map
  flat-map f h [] e = refl
  flat-map f h (i ∷ is) e = ap₂ (λ (x y : List B). x ++ y) (e i (Memᴰ.head refl)) (flat-map f h is (λ (j : ℕ) m. e j (Memᴰ.tail m)))

total_mono : (f g : ℕ → ℕ) (n : ℕ) → ((i : ℕ) → i < n → f i ≤ g i) → total f n ≤ total g n
unfolding total
total_mono f g zero h = zero-le
total_mono f g (suc n) h = omega (arith, total_mono f g n (λ i l. h i (omega arith)), h n (omega arith))

-- a part from a sum of lengths
part_of_total : (f : ℕ → ℕ) (i : ℕ) (src : List ℕ) → take (total f (i + 1) - total f i) (drop (total f i) src) ≡ take (f i) (drop (total f i) src)
part_of_total f i src = let e : total f (i + 1) - total f i ≡ f i = omega (arith, total-one f i) in ap (λ (n : ℕ). take n (drop (total f i) src)) e

tuple-own : (l : Lookups) (i k : ℕ) → tuple_nodes l i k ≡ take (word l.tuples (tuple_start l.lookups i + k)) (drop (element_start l.tuples (tuple_start l.lookups i + k)) l.elements)
unfolding tuple_nodes tuple_width
tuple-own l i k = refl

tuple_in : (l : Lookups) → Fitting l → (i k : ℕ) → i < lookup_count l.lookups → k < tuple_count l.lookups i
    → element_start l.tuples (tuple_start l.lookups i + k) + word l.tuples (tuple_start l.lookups i + k) ≤ length l.elements
unfolding tuple_width
tuple_in l fit i k h g = tuple-placed l fit i k h g

tuple-next : (lookups : List ℕ) (i : ℕ) → tuple_start lookups (i + 1) ≡ tuple_start lookups i + tuple_count lookups i
unfolding tuple_start
tuple-next lookups i = total-one (tuple_count lookups) i

-- the parts of lookup i
module _ (l : Lookups) (fit : Fitting l) (i : ℕ) (here : i < lookup_count l.lookups) where
  multiplicities-part : (lookup_at l i).multiplicities ≡ list_part Multiplicities l.lookups l.tuples l.multiplicities i
  unfolding lookup_at list_part list_length list_start multiplicity_start
  multiplicities-part = sym (part_of_total (multiplicity_count l.lookups) i l.multiplicities)

  flags-part : (lookup_at l i).flags ≡ list_part Flags l.lookups l.tuples l.flags i
  unfolding lookup_at list_part list_length list_start flag_start
  flags-part = sym (part_of_total (flag_count l.lookups) i l.flags)

  widths-part : map (λ (t : List ℕ). length t) (lookup_at l i).tuples ≡ list_part Tuples l.lookups l.tuples l.tuples i
  unfolding lookup_at list_part list_length list_start
  widths-part =
      let p = (placed l fit i here).tuples in
      map-tab (λ (t : List ℕ). length t) (tuple_nodes l i) (tuple_count l.lookups i)
      ∙ tab_cong (λ k. length (tuple_nodes l i k)) (λ k. word l.tuples (tuple_start l.lookups i + k)) (tuple_count l.lookups i) width
      ∙ sym (part-tab l.tuples (tuple_start l.lookups i) (tuple_count l.lookups i) p)
      ∙ ap (λ (n : ℕ). take n (drop (tuple_start l.lookups i) l.tuples)) (let e : tuple_count l.lookups i ≡ tuple_start l.lookups (i + 1) - tuple_start l.lookups i = omega (arith, tuple-next l.lookups i) in e)
    where
      width : (k : ℕ) → k < tuple_count l.lookups i → length (tuple_nodes l i k) ≡ word l.tuples (tuple_start l.lookups i + k)
      width k h = ap length (tuple-own l i k) ∙ simp (length-take, length-drop) (omega (arith, tuple_in l fit i k here h))

  -- the elements of the first k tuples
  first-elements : (k : ℕ) → flat_map (λ (t : List ℕ). t) (tab (tuple_nodes l i) 0 k)
      ≡ take (element_start l.tuples (tuple_start l.lookups i + k) - element_start l.tuples (tuple_start l.lookups i)) (drop (element_start l.tuples (tuple_start l.lookups i)) l.elements)
  unfolding tab flat_map
  first-elements zero =
      let T : ℕ = tuple_start l.lookups i in
      let z : T + 0 ≡ T = omega arith in
      let s : element_start l.tuples T - element_start l.tuples T ≡ 0 = omega arith in
      let e : element_start l.tuples (T + 0) - element_start l.tuples T ≡ 0 = ap (λ (n : ℕ). element_start l.tuples n - element_start l.tuples T) z ∙ s in
      ap (λ (n : ℕ). take n (drop (element_start l.tuples T) l.elements)) (sym e)
  first-elements (suc k) =
      let T : ℕ = tuple_start l.lookups i in
      let E : ℕ → ℕ = element_start l.tuples in
      let z : T + suc k ≡ (T + k) + 1 = omega arith in
      let le : E T ≤ E (T + k) = element_le l.tuples T (T + k) (omega arith) in
      let one : E (T + suc k) ≡ E (T + k) + word l.tuples (T + k) = ap E z ∙ element-next l.tuples (T + k) in
      let sz : E (T + suc k) - E T ≡ (E (T + k) - E T) + word l.tuples (T + k) = omega (arith, le, one) in
      let at : E T + (E (T + k) - E T) ≡ E (T + k) = omega (arith, le) in
      flat_append (λ (t : List ℕ). t) (tab (tuple_nodes l i) 0 k) (tuple_nodes l i (0 + k) ∷ [])
      ∙ ap₂ (λ (x y : List ℕ). x ++ y) (first-elements k) (append-nil (tuple_nodes l i (0 + k)) ∙ ap (tuple_nodes l i) (zero-add k) ∙ tuple-own l i k)
      ∙ ap (λ (n : ℕ). take (E (T + k) - E T) (drop (E T) l.elements) ++ take (word l.tuples (T + k)) (drop n l.elements)) (sym at)
      ∙ ap (λ (x : List ℕ). take (E (T + k) - E T) (drop (E T) l.elements) ++ take (word l.tuples (T + k)) x) (sym (drop-drop (E (T + k) - E T) (E T) l.elements))
      ∙ sym (take-add (E (T + k) - E T) (word l.tuples (T + k)) (drop (E T) l.elements))
      ∙ ap (λ (n : ℕ). take n (drop (E T) l.elements)) (sym sz)

  elements-part : flat_map (λ (t : List ℕ). t) (lookup_at l i).tuples ≡ list_part Elements l.lookups l.tuples l.elements i
  unfolding lookup_at list_part list_length list_start
  elements-part =
      first-elements (tuple_count l.lookups i)
      ∙ ap (λ (n : ℕ). take (element_start l.tuples n - element_start l.tuples (tuple_start l.lookups i)) (drop (element_start l.tuples (tuple_start l.lookups i)) l.elements)) (sym (tuple-next l.lookups i))

name-part : (lookups names tuples : List ℕ) (i : ℕ) → list_part Names lookups tuples names i ≡ name_at lookups names i
unfolding list_part list_length list_start name_start name_at
name-part lookups names tuples i = part_of_total (name_length lookups) i names

-- the plan's columns are `os`
pub record Laid (limit : ℕ) (nodes : List ℕ) (l : Lookups) (os : List OpenColumn) : Type 0 where
  pub heads : (t : ℕ) → t < length (heads_of os) → word (heads_of os) t < lookup_count l.lookups
  pub over : over_of l.lookups os ≡ overweight (columns limit nodes l)
  pub count : length (words_of (columns limit nodes l)).lookups ≡ 9 * length os
  pub lookups : (words_of (columns limit nodes l)).lookups ≡ words_from l.lookups 0 os
  pub names : (words_of (columns limit nodes l)).names ≡ list_parts Names l.lookups [] l.names (heads_of os)
  pub tuples : (words_of (columns limit nodes l)).tuples ≡ list_parts Tuples l.lookups l.tuples l.tuples (ordered l.lookups l.names)
  pub multiplicities : (words_of (columns limit nodes l)).multiplicities ≡ list_parts Multiplicities l.lookups l.tuples l.multiplicities (ordered l.lookups l.names)
  pub flags : (words_of (columns limit nodes l)).flags ≡ list_parts Flags l.lookups l.tuples l.flags (ordered l.lookups l.names)
  pub elements : (words_of (columns limit nodes l)).elements ≡ list_parts Elements l.lookups l.tuples l.elements (ordered l.lookups l.names)

overweight-renumbered : (k : ℕ) (ls : List Lookup) → overweight (renumbered k ls) ≡ overweight ls
unfolding overweight renumbered
overweight-renumbered k [] = refl
overweight-renumbered k (l ∷ ls) = ap (λ (b : Bool). (not l.local && ltb 4294967295 l.weight) || b) (overweight-renumbered (suc k) ls)

module _ (m : Limits) (nodes : List ℕ) (l : Lookups) (f : Formed m nodes l) (limit : ℕ) where
  abbrev O : List ℕ
  O = ordered l.lookups l.names

  order-map : in_order l ≡ map (lookup_at l) (ordered l.lookups l.names)
  unfolding in_order lookup_at alone_at name_at
  order-map = refl

  order_below : (i : ℕ) → Memᴰ i (ordered l.lookups l.names) → i < lookup_count l.lookups
  order_below = arranged_in (alone_at true l.lookups) (name_at l.lookups l.names) (lookup_count l.lookups)

  -- a list of the packed table is the lookups' parts in order
  listed : (deg : ℕ → ℕ) (g : Lookup → List ℕ) (h : ℕ → List ℕ) → ((a b : Lookup) → g (merged a b) ≡ g a ++ g b) → ((k : ℕ) (x : Lookup) → g (numbered k x) ≡ g x)
      → ((i : ℕ) → i < lookup_count l.lookups → g (lookup_at l i) ≡ h i) → flat_map g (packed deg limit l) ≡ flat_map h (ordered l.lookups l.names)
  unfolding packed
  listed deg g h adds free e =
      flat-renumbered g free 0 (filled deg limit (in_order l)) ∙ flat-filled g deg limit adds (in_order l) ∙ ap (flat_map g) order-map
      ∙ flat-map g (lookup_at l) h (ordered l.lookups l.names) (λ (i : ℕ) q. e i (order_below i q))

  -- no list has more than 64 entries in all
  fewer : (g : Lookup → ℕ) → ((i : ℕ) → i < lookup_count l.lookups → g (lookup_at l i) ≤ tuple_count l.lookups i) → sum_of g (lookups_of l) ≤ 64
  unfolding lookups_of tuple_start
  fewer g h =
      rw (sum-tab g (lookup_at l) (lookup_count l.lookups))
      (omega (arith, total_mono (λ i. g (lookup_at l i)) (tuple_count l.lookups) (lookup_count l.lookups) h, f.fitting.tuples, f.few_tuples))

  few_tuples : sum_of (λ (c : Lookup). length c.tuples) (lookups_of l) ≤ 64
  unfolding lookup_at
  few_tuples = fewer (λ (c : Lookup). length c.tuples) (λ i h. omega (arith, tab-length (tuple_nodes l i) 0 (tuple_count l.lookups i)))

  few-multiplicities : sum_of (λ (c : Lookup). length c.multiplicities) (lookups_of l) ≤ 64
  unfolding lookup_at
  few-multiplicities = fewer (λ (c : Lookup). length c.multiplicities) (λ i h. simp length-take (omega (arith, f.agreeing.multiplicities_agree i h)))

  few-flags : sum_of (λ (c : Lookup). length c.flags) (lookups_of l) ≤ 64
  unfolding lookup_at
  few-flags = fewer (λ (c : Lookup). length c.flags) (λ i h. simp length-take (let e : flag_count l.lookups i ≤ tuple_count l.lookups i = rw (f.agreeing.flags_agree i h) (less i (exclusive l.lookups i)) in omega arith))
    where
      less : (i : ℕ) (b : Bool) → cond b (tuple_count l.lookups i) 0 ≤ tuple_count l.lookups i
      less i true = omega arith
      less i false = zero-le

  kept-sum : (deg : ℕ → ℕ) (g : Lookup → ℕ) → ((a b : Lookup) → g (merged a b) ≡ g a + g b) → sum_of g (lookups_of l) ≤ 64 → sum_of g (filled deg limit (map (lookup_at l) (ordered l.lookups l.names))) ≤ 4294967295
  kept-sum deg g adds h = omega (arith, ap (λ (x : List Lookup). sum_of g (filled deg limit x)) (sym order-map) ∙ filled-sum g adds deg limit (in_order l) ∙ order-sum l g, h)

  pub laid : (b d : List ℕ) → b ≡ degrees 0 nodes (node_count nodes) ++ replicate (1024 - node_count nodes) 0
      → d ≡ tab (tuple_degree_at (word b) l.tuples l.elements) 0 (length l.tuples) ++ drop (length l.tuples) (replicate 64 0)
      → Laid limit nodes l (columns_of (plan_source b d l.lookups l.names l.multiplicities limit) (ordered l.lookups l.names))
  unfolding columns packed words_of list_parts
  laid b d eb ed =
      record {
        heads = heads_match (word b) l.lookups l.names os cs ms;
        over = over_matches (word b) l.lookups l.names os cs ms ∙ sym (overweight-renumbered 0 cs) ∙ ap overweight same;
        count = ap (λ (x : List Lookup). length (flat_map lookup_words x)) (sym same) ∙ count_matches (word b) l.lookups l.names 0 os cs ms;
        lookups = ap (flat_map lookup_words) (sym same)
            ∙ words_match (word b) l.lookups l.names 0 os cs ms
            (kept-sum (word b) (λ (c : Lookup). length c.tuples) (λ (x y : Lookup). length-append x.tuples y.tuples) few_tuples)
            (kept-sum (word b) (λ (c : Lookup). length c.multiplicities) (λ (x y : Lookup). length-append x.multiplicities y.multiplicities) few-multiplicities)
            (kept-sum (word b) (λ (c : Lookup). length c.flags) (λ (x y : Lookup). length-append x.flags y.flags) few-flags);
        names = ap (flat_map (λ (c : Lookup). c.name)) (sym same) ∙ flat-renumbered (λ (c : Lookup). c.name) (λ (k : ℕ) (x : Lookup). refl) 0 cs
            ∙ names_match (word b) l.lookups l.names (list_part Names l.lookups [] l.names) (λ i h. name-part l.lookups l.names [] i) os cs ms;
        tuples = listed (node_degrees 0 nodes) (λ (c : Lookup). map (λ (t : List ℕ). length t) c.tuples) (list_part Tuples l.lookups l.tuples l.tuples)
            (λ (x y : Lookup). map-append (λ (t : List ℕ). length t) x.tuples y.tuples) (λ (k : ℕ) (x : Lookup). refl) (widths-part l f.fitting);
        multiplicities = listed (node_degrees 0 nodes) (λ (c : Lookup). c.multiplicities) (list_part Multiplicities l.lookups l.tuples l.multiplicities)
            (λ (x y : Lookup). refl) (λ (k : ℕ) (x : Lookup). refl) (multiplicities-part l f.fitting);
        flags = listed (node_degrees 0 nodes) (λ (c : Lookup). c.flags) (list_part Flags l.lookups l.tuples l.flags)
            (λ (x y : Lookup). refl) (λ (k : ℕ) (x : Lookup). refl) (flags-part l f.fitting);
        elements = listed (node_degrees 0 nodes) (λ (c : Lookup). flat_map (λ (t : List ℕ). t) c.tuples) (list_part Elements l.lookups l.tuples l.elements)
            (λ (x y : Lookup). flat_append (λ (t : List ℕ). t) x.tuples y.tuples) (λ (k : ℕ) (x : Lookup). refl) (elements-part l f.fitting);
      }
    where
      os : List OpenColumn
      os = columns_of (plan_source b d l.lookups l.names l.multiplicities limit) (ordered l.lookups l.names)

      cs : List Lookup
      cs = filled (word b) limit (map (lookup_at l) (ordered l.lookups l.names))

      right : (j : ℕ) → j < length l.tuples → word d j ≡ tuple_degree_at (word b) l.tuples l.elements j
      right j h =
          ap (λ (x : List ℕ). word x j) ed ∙ get_or_pad (tab (tuple_degree_at (word b) l.tuples l.elements) 0 (length l.tuples)) 64 (length l.tuples) j
          ∙ tab_get (tuple_degree_at (word b) l.tuples l.elements) 0 (length l.tuples) j h ∙ ap (tuple_degree_at (word b) l.tuples l.elements) (zero-add j)

      ms : Matched (word b) l.lookups l.names os cs
      ms = plan_matches (node_count nodes) l b d f.fitting f.agreeing right limit (ordered l.lookups l.names) order_below

      same-degrees : word b ≡ node_degrees 0 nodes
      same-degrees = λ k a. (ap (λ (x : List ℕ). word x a) eb ∙ word-zeros (degrees 0 nodes (node_count nodes)) (1024 - node_count nodes) a) k

      same : renumbered 0 cs ≡ renumbered 0 (filled (node_degrees 0 nodes) limit (in_order l))
      same = ap₂ (λ (g : ℕ → ℕ) (x : List Lookup). renumbered 0 (filled g limit x)) same-degrees (sym order-map)
