-- The lookups of all tables, one table after the other, are the lookups of the whole lists by number.
use Rattle.std.proofs.Math.Path.{◌≡◌, refl, sym, ap, ap₂}
use Rattle.std.proofs.Common.{◌∙◌, length-take, length-drop, lt-ltb, le-ltb}
use Rattle.std.specs.Prelude.{Bool, true, false, cond, eqb, ltb, drop}
use Rattle.std.proofs.Math.Bool.{not}
use mathlib.Core.List.{List, [], ◌∷◌, ◌++◌, map}
use Prim.Native.Nat.{ℕ, zero, suc, ◌+◌, ◌*◌, ◌-◌, ◌<◌, ◌≤◌}
use native.Mathlib.Nat.{zero-add, add-zero, mul-le-mul_left}
use native.Mathlib.Omega.{arith}
use Rattle.std.proofs.Math.ListN.{length, take}
use lib.Seq.{take-take, drop-drop}
use Rattle.lists.specs.Count.{total, joined}
use Rattle.lists.specs.Tab.{tab}
use Rattle.lists.specs.laws.Count.{total-le, total_in}
use Rattle.lists.specs.laws.Tab.{tab-add, tab_cong, map-tab}
use Rattle.expression.specs.Words.{word}
use Rattle.lookup.specs.Lookups.{Lookups, Lookup, lookup_count, lookup_word, on_bus, name_length, weight, column, exclusive, tuple_count, multiplicity_count, flag_count, name_start, tuple_start, multiplicity_start, flag_start, element_start, tuple_width, tuple_nodes, lookup_at, lookups_of, lookup_words}
use Rattle.lookup.specs.Table.{Table}
use Rattle.lookup.specs.Requires.{Fitting, Placed}
use Rattle.lookup.specs.laws.Tested.{placed, tuple-placed}
use Rattle.lookup.specs.Sizes.{size_start as sized_start, table_part as sized_part}
use Rattle.balance.specs.Tables.{TableLists, table_count, size, size_start, table_part, lookups_at, table_at, tables_of, lookup_count_size, name_byte_count_size, tuple_count_size, multiplicity_count_size, flag_count_size, element_count_size}
use Rattle.balance.specs.Groups.{members}
use Rattle.balance.specs.Members.{table_from, table_of, member_at}
use Rattle.balance.specs.inner.Requires.{ListsCovered}
use Rattle.balance.proofs.laws.Lists.{joined_same, flat-tab}
use Rattle.balance.proofs.laws.Ledger.{part-word}

-- The lists are those of the tables, and each table's lists of lookups fit.
pub record Fitted (l : TableLists) : Type 0 where
  pub lists_covered : ListsCovered l
  pub each : (t : ℕ) → t < table_count l.sizes → Fitting (lookups_at l t)

-- a table's table-part lies within its list
pub part_in : (sizes : List ℕ) (f unit t n : ℕ) → t < n → unit * size_start sizes f t + unit * size sizes f t ≤ unit * size_start sizes f n
unfolding sized_start
part_in sizes f unit t n h =
    let k : unit * (total (size sizes f) t + size sizes f t) ≤ unit * total (size sizes f) n = mul-le-mul_left unit (total_in (size sizes f) t n h) in
    let e : unit * (total (size sizes f) t + size sizes f t) ≡ unit * total (size sizes f) t + unit * size sizes f t = native.Mathlib.Nat.mul-add unit (total (size sizes f) t) (size sizes f t) in
    rw (sym e) k

pub part-long : (sizes : List ℕ) (f unit t n : ℕ) (l : List ℕ) → t < n → length l ≡ unit * size_start sizes f n → length (table_part sizes f unit t l) ≡ unit * size sizes f t
unfolding sized_part
part-long sizes f unit t n l h e =
    length-take (unit * size sizes f t) (drop (unit * size_start sizes f t) l)
    ∙ (let k : Prim.Native.Nat.min (unit * size sizes f t) (length (drop (unit * size_start sizes f t) l)) ≡ unit * size sizes f t = rw (length-drop (unit * size_start sizes f t) l) (omega (arith, part_in sizes f unit t n h)) in k)

part_at : (sizes : List ℕ) (f unit t j : ℕ) (l : List ℕ) → j < unit * size sizes f t → word (table_part sizes f unit t l) j ≡ word l (unit * size_start sizes f t + j)
unfolding sized_part
part_at sizes f unit t j l h = part-word (unit * size sizes f t) (unit * size_start sizes f t) j l h

-- a table-part of a table-part
inner : (a n s c : ℕ) (l : List ℕ) → a + n ≤ c → take n (drop a (take c (drop s l))) ≡ take n (drop (s + a) l)
inner a n s c l h =
    ap (take n) (drop-take a c (drop s l))
    ∙ take-take n (c - a) (drop a (drop s l)) (omega arith)
    ∙ ap (take n) (drop-drop a s l)
  where
    drop-take : (a c : ℕ) (l : List ℕ) → drop a (take c l) ≡ take (c - a) (drop a l)
    drop-take zero c l = ap (λ (n : ℕ). take n l) (let e : c ≡ c - 0 = omega arith in e)
    drop-take (suc a) zero l = sym (ap (λ (n : ℕ). take n (drop (suc a) l)) (let e : 0 - suc a ≡ 0 = omega arith in e))
    drop-take (suc a) (suc c) [] = sym (lib.Seq.take-nil (suc c - suc a))
    drop-take (suc a) (suc c) (x ∷ l) = drop-take a c l ∙ ap (λ (n : ℕ). take n (drop a l)) (let e : c - a ≡ suc c - suc a = omega arith in e)

part-inner : (sizes : List ℕ) (f t a n : ℕ) (l : List ℕ) → a + n ≤ size sizes f t → take n (drop a (table_part sizes f 1 t l)) ≡ take n (drop (size_start sizes f t + a) l)
unfolding sized_part
part-inner sizes f t a n l h =
    let e : 1 * size sizes f t ≡ size sizes f t = omega arith in
    let g : 1 * size_start sizes f t ≡ size_start sizes f t = omega arith in
    rw (e, g) (inner a n (size_start sizes f t) (size sizes f t) l h)

-- sums over all lookups, table by table: c counts the lookups of a table, F is over all of them, f over a table's, z a table's whole
module _ (c : ℕ → ℕ) (F : ℕ → ℕ) (f : ℕ → ℕ → ℕ) (z : ℕ → ℕ) (n : ℕ) (agree : (t j : ℕ) → t < n → j < c t → F (total c t + j) ≡ f t j) (whole : (t : ℕ) → t < n → z t ≡ total (f t) (c t)) where
  within-table : (t i : ℕ) → t < n → i ≤ c t → total F (total c t + i) ≡ total F (total c t) + total (f t) i
  unfolding total
  within-table t zero h g = ap (total F) (add-zero (total c t)) ∙ sym (add-zero (total F (total c t)))
  within-table t (suc i) h g =
      let e : total c t + suc i ≡ suc (total c t + i) = omega arith in
      ap (total F) e ∙ (let k : total F (total c t + i) + F (total c t + i) ≡ total F (total c t) + (total (f t) i + f t i) = omega (arith, within-table t i h (omega arith), agree t i h (omega arith)) in k)

  table-starts : (t : ℕ) → t ≤ n → total F (total c t) ≡ total z t
  unfolding total
  table-starts zero h = refl
  table-starts (suc t) h = within-table t (c t) (omega arith) (omega arith) ∙ (let k : total F (total c t) + total (f t) (c t) ≡ total z t + z t = omega (arith, table-starts t (omega arith), whole t (omega arith)) in k)

  starts : (t i : ℕ) → t < n → i ≤ c t → total F (total c t + i) ≡ total z t + total (f t) i
  starts t i h g = within-table t i h g ∙ ap (λ (k : ℕ). k + total (f t) i) (table-starts t (omega arith))

-- lists of the tables' lookups, one after the other
module _ {A : Type 0} (c : ℕ → ℕ) (g : ℕ → ℕ → A) (h : ℕ → A) where
  shifted : (a n : ℕ) (k : ℕ → A) → ((i : ℕ) → i < n → k i ≡ h (a + i)) → tab k 0 n ≡ tab h a n
  unfolding tab
  shifted a zero k e = refl
  shifted a (suc n) k e = ap₂ (λ (l : List A) (x : A). l ++ (x ∷ [])) (shifted a n k (λ i q. e i (omega arith))) (ap k (zero-add n) ∙ e n (omega arith))

  tables-tab : (n : ℕ) → ((t i : ℕ) → t < n → i < c t → g t i ≡ h (total c t + i)) → joined (λ t. tab (g t) 0 (c t)) 0 n ≡ tab h 0 (total c n)
  unfolding joined total
  tables-tab zero e = unfold tab in refl
  tables-tab (suc n) e =
      ap₂ (λ (x y : List A). x ++ y) (tables-tab n (λ t i q r. e t i (omega arith) r))
      (ap (λ (t : ℕ). tab (g t) 0 (c t)) (zero-add n) ∙ shifted (total c n) (c n) (g n) (λ i q. e n i (omega arith) q) ∙ ap (λ (a : ℕ). tab h a (c n)) (sym (zero-add (total c n))))
      ∙ sym (tab-add h 0 (total c n) (c n))

pub size-next : (sizes : List ℕ) (f t : ℕ) → size_start sizes f (suc t) ≡ size_start sizes f t + size sizes f t
unfolding sized_start total
size-next sizes f t = refl

pub size-le : (sizes : List ℕ) (f i t : ℕ) → i ≤ t → size_start sizes f i ≤ size_start sizes f t
unfolding sized_start
size-le sizes f i t h = total-le (size sizes f) i t h

-- one table more is looked at
table_step : (sizes : List ℕ) (m k n : ℕ) (b : Bool) → k < n → ltb m (size_start sizes lookup_count_size (suc k)) ≡ b → table_from sizes m k (n - k) ≡ cond b k (table_from sizes m (suc k) (n - suc k))
unfolding table_from
table_step sizes m k n b h e =
    let q : n - k ≡ suc (n - suc k) = omega arith in
    ap (table_from sizes m k) q ∙ ap (λ (x : Bool). cond x k (table_from sizes m (suc k) (n - suc k))) e

-- the table of a lookup
table_found : (sizes : List ℕ) (n t i d k : ℕ) → d + k ≡ t → t < n → i < size sizes lookup_count_size t → table_from sizes (size_start sizes lookup_count_size t + i) k (n - k) ≡ t
table_found sizes n t i zero k e h g =
    let s : k ≡ t = omega arith in
    let b : size_start sizes lookup_count_size (suc k) ≡ size_start sizes lookup_count_size t + size sizes lookup_count_size t = ap (λ (x : ℕ). size_start sizes lookup_count_size (suc x)) s ∙ size-next sizes lookup_count_size t in
    table_step sizes (size_start sizes lookup_count_size t + i) k n true (omega arith) (lt-ltb (size_start sizes lookup_count_size t + i) (size_start sizes lookup_count_size (suc k)) (omega arith)) ∙ s
table_found sizes n t i (suc d) k e h g =
    let r : size_start sizes lookup_count_size (suc k) ≤ size_start sizes lookup_count_size t = size-le sizes 8 (suc k) t (omega arith) in
    table_step sizes (size_start sizes lookup_count_size t + i) k n false (omega arith) (le-ltb (size_start sizes lookup_count_size t + i) (size_start sizes lookup_count_size (suc k)) (omega arith))
    ∙ table_found sizes n t i d (suc k) (omega arith) h g

pub table_of_is : (sizes : List ℕ) (t i : ℕ) → t < table_count sizes → i < size sizes lookup_count_size t → table_of sizes (size_start sizes lookup_count_size t + i) ≡ t
unfolding table_of
table_of_is sizes t i h g =
    ap (table_from sizes (size_start sizes lookup_count_size t + i) 0) (let e : table_count sizes ≡ table_count sizes - 0 = omega arith in e)
    ∙ table_found sizes (table_count sizes) t i t 0 (omega arith) h g

module _ (l : TableLists) (f : Fitted l) where
  abbrev G : Lookups
  G = l.lookups

  abbrev T : ℕ → Lookups
  T t = lookups_at l t

  abbrev N : ℕ
  N = table_count l.sizes

  -- how many lookups a table has
  pub table_lookups : (t : ℕ) → t < N → lookup_count (T t).lookups ≡ size l.sizes lookup_count_size t
  unfolding lookups_at
  table_lookups t h =
      let e : length (table_part l.sizes lookup_count_size lookup_words t G.lookups) ≡ lookup_words * size l.sizes lookup_count_size t = part-long l.sizes lookup_count_size lookup_words t N G.lookups h f.lists_covered.lookups in
      omega (arith, e)

  -- a word of a lookup
  pub entry_of-table : (t i k : ℕ) → i < size l.sizes lookup_count_size t → k < lookup_words → lookup_word G.lookups (size_start l.sizes lookup_count_size t + i) k ≡ lookup_word (T t).lookups i k
  unfolding lookups_at
  entry_of-table t i k h g =
      let e : lookup_words * (size_start l.sizes lookup_count_size t + i) + k ≡ lookup_words * size_start l.sizes lookup_count_size t + (lookup_words * i + k) = omega arith in
      ap (word G.lookups) e ∙ sym (part_at l.sizes lookup_count_size lookup_words t (lookup_words * i + k) G.lookups (omega arith))

  name_of-table : (t i : ℕ) → i < size l.sizes lookup_count_size t → name_length G.lookups (size_start l.sizes lookup_count_size t + i) ≡ name_length (T t).lookups i
  name_of-table t i h = ap₂ (λ (x y : ℕ). cond (not (eqb x 0)) y 0) (entry_of-table t i 0 h (omega arith)) (entry_of-table t i 1 h (omega arith))

  -- a table's own list is as long as its size says
  own-size : (k t : ℕ) (xs : List ℕ) (g : ℕ → ℕ) → t < N → length xs ≡ 1 * size_start l.sizes k N → length (table_part l.sizes k 1 t xs) ≡ total g (lookup_count (T t).lookups)
      → size l.sizes k t ≡ total g (size l.sizes lookup_count_size t)
  own-size k t xs g h e q =
      let a : length (table_part l.sizes k 1 t xs) ≡ 1 * size l.sizes k t = part-long l.sizes k 1 t N xs h e in
      let b : total g (lookup_count (T t).lookups) ≡ total g (size l.sizes lookup_count_size t) = ap (total g) (table_lookups t h) in
      omega (arith, a, b, q)

  -- where the parts of a table's lookup begin in the whole lists
  name-starts : (t i : ℕ) → t < N → i ≤ size l.sizes lookup_count_size t → name_start G.lookups (size_start l.sizes lookup_count_size t + i) ≡ size_start l.sizes name_byte_count_size t + name_start (T t).lookups i
  unfolding name_start sized_start lookups_at
  name-starts t i h g =
      starts (size l.sizes lookup_count_size) (name_length G.lookups) (λ t. name_length (T t).lookups) (size l.sizes name_byte_count_size) N (λ t j q r. name_of-table t j r)
      (λ t q. own-size 9 t G.names (name_length (T t).lookups) q f.lists_covered.names (f.each t q).names) t i h g

  tuple-starts : (t i : ℕ) → t < N → i ≤ size l.sizes lookup_count_size t → tuple_start G.lookups (size_start l.sizes lookup_count_size t + i) ≡ size_start l.sizes tuple_count_size t + tuple_start (T t).lookups i
  unfolding tuple_start sized_start lookups_at
  tuple-starts t i h g =
      starts (size l.sizes lookup_count_size) (tuple_count G.lookups) (λ t. tuple_count (T t).lookups) (size l.sizes tuple_count_size) N (λ t j q r. entry_of-table t j 5 r (omega arith))
      (λ t q. own-size 10 t G.tuples (tuple_count (T t).lookups) q f.lists_covered.tuples (f.each t q).tuples) t i h g

  multiplicity-starts : (t i : ℕ) → t < N → i ≤ size l.sizes lookup_count_size t → multiplicity_start G.lookups (size_start l.sizes lookup_count_size t + i) ≡ size_start l.sizes multiplicity_count_size t + multiplicity_start (T t).lookups i
  unfolding multiplicity_start sized_start lookups_at
  multiplicity-starts t i h g =
      starts (size l.sizes lookup_count_size) (multiplicity_count G.lookups) (λ t. multiplicity_count (T t).lookups) (size l.sizes multiplicity_count_size) N (λ t j q r. entry_of-table t j 6 r (omega arith))
      (λ t q. own-size 11 t G.multiplicities (multiplicity_count (T t).lookups) q f.lists_covered.multiplicities (f.each t q).multiplicities) t i h g

  flag-starts : (t i : ℕ) → t < N → i ≤ size l.sizes lookup_count_size t → flag_start G.lookups (size_start l.sizes lookup_count_size t + i) ≡ size_start l.sizes flag_count_size t + flag_start (T t).lookups i
  unfolding flag_start sized_start lookups_at
  flag-starts t i h g =
      starts (size l.sizes lookup_count_size) (flag_count G.lookups) (λ t. flag_count (T t).lookups) (size l.sizes flag_count_size) N (λ t j q r. entry_of-table t j 7 r (omega arith))
      (λ t q. own-size 12 t G.flags (flag_count (T t).lookups) q f.lists_covered.flags (f.each t q).flags) t i h g

  -- a width of a table's tuple
  pub width_of_table : (t j : ℕ) → j < size l.sizes tuple_count_size t → word G.tuples (size_start l.sizes tuple_count_size t + j) ≡ word (T t).tuples j
  unfolding lookups_at
  width_of_table t j h =
      let e : size_start l.sizes tuple_count_size t + j ≡ 1 * size_start l.sizes tuple_count_size t + j = omega arith in
      ap (word G.tuples) e ∙ sym (part_at l.sizes tuple_count_size 1 t j G.tuples (omega arith))

  pub tuples_of-table : (t : ℕ) → t < N → length (T t).tuples ≡ size l.sizes tuple_count_size t
  unfolding lookups_at
  tuples_of-table t h = part-long l.sizes tuple_count_size 1 t N G.tuples h f.lists_covered.tuples ∙ (let e : 1 * size l.sizes tuple_count_size t ≡ size l.sizes tuple_count_size t = omega arith in e)

  elements_of_table : (t : ℕ) → t < N → size l.sizes element_count_size t ≡ total (word (T t).tuples) (size l.sizes tuple_count_size t)
  unfolding lookups_at element_start
  elements_of_table t h =
      let a : length (table_part l.sizes element_count_size 1 t G.elements) ≡ 1 * size l.sizes element_count_size t = part-long l.sizes element_count_size 1 t N G.elements h f.lists_covered.elements in
      let b : total (word (T t).tuples) (length (T t).tuples) ≡ total (word (T t).tuples) (size l.sizes tuple_count_size t) = ap (total (word (T t).tuples)) (tuples_of-table t h) in
      let q : length (table_part l.sizes element_count_size 1 t G.elements) ≡ total (word (T t).tuples) (length (T t).tuples) = (f.each t h).elements in
      omega (arith, a, b, q)

  element-starts : (t j : ℕ) → t < N → j ≤ size l.sizes tuple_count_size t → element_start G.tuples (size_start l.sizes tuple_count_size t + j) ≡ size_start l.sizes element_count_size t + element_start (T t).tuples j
  unfolding element_start sized_start
  element-starts t j h g =
      starts (size l.sizes tuple_count_size) (word G.tuples) (λ t. word (T t).tuples) (size l.sizes element_count_size) N (λ t j q r. width_of_table t j r) elements_of_table t j h g

  -- lengths of a table's lists
  length_of_table : (k t : ℕ) (xs : List ℕ) → t < N → length xs ≡ 1 * size_start l.sizes k N → length (table_part l.sizes k 1 t xs) ≡ size l.sizes k t
  length_of_table k t xs h e = part-long l.sizes k 1 t N xs h e ∙ (let z : 1 * size l.sizes k t ≡ size l.sizes k t = omega arith in z)

  module _ (t i : ℕ) (h : t < N) (g : i < size l.sizes lookup_count_size t) where
    abbrev M : ℕ
    M = size_start l.sizes lookup_count_size t + i

    known : i < lookup_count (T t).lookups
    known = rw (table_lookups t h) g

    own : Placed (T t) i
    own = placed (T t) (f.each t h) i known

    name_is : take (name_length G.lookups M) (drop (name_start G.lookups M) G.names) ≡ take (name_length (T t).lookups i) (drop (name_start (T t).lookups i) (T t).names)
    unfolding lookups_at
    name_is =
        ap₂ (λ (n a : ℕ). take n (drop a G.names)) (name_of-table t i g) (name-starts t i h (omega arith))
        ∙ sym (part-inner l.sizes 9 t (name_start (T t).lookups i) (name_length (T t).lookups i) G.names (omega (arith, own.names, length_of_table 9 t G.names h f.lists_covered.names)))

    multiplicities_is : take (multiplicity_count G.lookups M) (drop (multiplicity_start G.lookups M) G.multiplicities)
        ≡ take (multiplicity_count (T t).lookups i) (drop (multiplicity_start (T t).lookups i) (T t).multiplicities)
    unfolding lookups_at
    multiplicities_is =
        ap₂ (λ (n a : ℕ). take n (drop a G.multiplicities)) (entry_of-table t i 6 g (omega arith)) (multiplicity-starts t i h (omega arith))
        ∙ sym (part-inner l.sizes 11 t (multiplicity_start (T t).lookups i) (multiplicity_count (T t).lookups i) G.multiplicities
        (omega (arith, own.multiplicities, length_of_table 11 t G.multiplicities h f.lists_covered.multiplicities)))

    flags_is : take (flag_count G.lookups M) (drop (flag_start G.lookups M) G.flags) ≡ take (flag_count (T t).lookups i) (drop (flag_start (T t).lookups i) (T t).flags)
    unfolding lookups_at
    flags_is =
        ap₂ (λ (n a : ℕ). take n (drop a G.flags)) (entry_of-table t i 7 g (omega arith)) (flag-starts t i h (omega arith))
        ∙ sym (part-inner l.sizes 12 t (flag_start (T t).lookups i) (flag_count (T t).lookups i) G.flags (omega (arith, own.flags, length_of_table 12 t G.flags h f.lists_covered.flags)))

    tuple_is : (k : ℕ) → k < tuple_count (T t).lookups i → tuple_nodes G M k ≡ tuple_nodes (T t) i k
    unfolding tuple_nodes tuple_width lookups_at
    tuple_is k q =
        let J : ℕ = tuple_start (T t).lookups i + k in
        let s : tuple_start G.lookups M + k ≡ size_start l.sizes tuple_count_size t + J = omega (arith, tuple-starts t i h (omega arith)) in
        let b : J < size l.sizes tuple_count_size t = omega (arith, own.tuples, tuples_of-table t h) in
        let w : word G.tuples (tuple_start G.lookups M + k) ≡ word (T t).tuples J = ap (word G.tuples) s ∙ width_of_table t J b in
        let a : element_start G.tuples (tuple_start G.lookups M + k) ≡ size_start l.sizes element_count_size t + element_start (T t).tuples J = ap (element_start G.tuples) s ∙ element-starts t J h (omega arith) in
        let r : element_start (T t).tuples J + word (T t).tuples J ≤ length (T t).elements = tuple-placed (T t) (f.each t h) i k known q in
        ap₂ (λ (n x : ℕ). take n (drop x G.elements)) w a
        ∙ sym (part-inner l.sizes 13 t (element_start (T t).tuples J) (word (T t).tuples J) G.elements (omega (arith, r, length_of_table 13 t G.elements h f.lists_covered.elements)))

    tuples_is : tab (tuple_nodes G M) 0 (tuple_count G.lookups M) ≡ tab (tuple_nodes (T t) i) 0 (tuple_count (T t).lookups i)
    tuples_is = ap (tab (tuple_nodes G M) 0) (entry_of-table t i 5 g (omega arith)) ∙ tab_cong (tuple_nodes G M) (tuple_nodes (T t) i) (tuple_count (T t).lookups i) tuple_is

    pub lookup_of-table : lookup_at G M ≡ lookup_at (T t) i
    unfolding lookup_at
    lookup_of-table =
        let a : not (on_bus G.lookups M) ≡ not (on_bus (T t).lookups i) = ap (λ (x : ℕ). not (not (eqb x 0))) (entry_of-table t i 0 g (omega arith)) in
        let b : weight G.lookups M ≡ weight (T t).lookups i =
        ap₂ (λ (low high : ℕ). low + 4294967296 * high) (entry_of-table t i 2 g (omega arith)) (entry_of-table t i 8 g (omega arith)) in
        let c : column G.lookups M ≡ column (T t).lookups i = entry_of-table t i 3 g (omega arith) in
        let x : exclusive G.lookups M ≡ exclusive (T t).lookups i = ap (λ (x : ℕ). not (eqb x 0)) (entry_of-table t i 4 g (omega arith)) in
        let n : take (name_length G.lookups M) (drop (name_start G.lookups M) G.names) ≡ take (name_length (T t).lookups i) (drop (name_start (T t).lookups i) (T t).names) = name_is in
        let u : tab (tuple_nodes G M) 0 (tuple_count G.lookups M) ≡ tab (tuple_nodes (T t) i) 0 (tuple_count (T t).lookups i) = tuples_is in
        let m : take (multiplicity_count G.lookups M) (drop (multiplicity_start G.lookups M) G.multiplicities) ≡ take (multiplicity_count (T t).lookups i) (drop (multiplicity_start (T t).lookups i) (T t).multiplicities) = multiplicities_is in
        let y : take (flag_count G.lookups M) (drop (flag_start G.lookups M) G.flags) ≡ take (flag_count (T t).lookups i) (drop (flag_start (T t).lookups i) (T t).flags) = flags_is in
        made a n b c x u m y
      where
        made : {a₀ a₁ : Bool} {n₀ n₁ : List ℕ} {b₀ b₁ c₀ c₁ : ℕ} {x₀ x₁ : Bool} {u₀ u₁ : List (List ℕ)} {m₀ m₁ y₀ y₁ : List ℕ}
            → a₀ ≡ a₁ → n₀ ≡ n₁ → b₀ ≡ b₁ → c₀ ≡ c₁ → x₀ ≡ x₁ → u₀ ≡ u₁ → m₀ ≡ m₁ → y₀ ≡ y₁
            → ◌≡◌ {A = Lookup} (record { local = a₀; name = n₀; weight = b₀; column = c₀; exclusive = x₀; tuples = u₀; multiplicities = m₀; flags = y₀ })
            (record { local = a₁; name = n₁; weight = b₁; column = c₁; exclusive = x₁; tuples = u₁; multiplicities = m₁; flags = y₁ })
        made a n b c x u m y = λ j. record { local = a j; name = n j; weight = b j; column = c j; exclusive = x j; tuples = u j; multiplicities = m j; flags = y j }

  pub whole-count : lookup_count G.lookups ≡ size_start l.sizes lookup_count_size N
  whole-count = omega (arith, f.lists_covered.lookups)

  -- the whole lists are as long as the lookups say
  whole-names : name_start G.lookups (size_start l.sizes lookup_count_size N) ≡ size_start l.sizes name_byte_count_size N
  unfolding name_start sized_start lookups_at
  whole-names =
      table-starts (size l.sizes lookup_count_size) (name_length G.lookups) (λ t. name_length (T t).lookups) (size l.sizes name_byte_count_size) N (λ t j q r. name_of-table t j r)
      (λ t q. own-size 9 t G.names (name_length (T t).lookups) q f.lists_covered.names (f.each t q).names) N (omega arith)

  -- a word f of each lookup, and the size g of each table that is its sum
  whole-sums : (k g : ℕ) → k < lookup_words → ((t : ℕ) → t < N → size l.sizes g t ≡ total (λ i. lookup_word (T t).lookups i k) (size l.sizes lookup_count_size t))
      → total (λ i. lookup_word G.lookups i k) (size_start l.sizes lookup_count_size N) ≡ size_start l.sizes g N
  unfolding sized_start
  whole-sums k g h e =
      table-starts (size l.sizes lookup_count_size) (λ i. lookup_word G.lookups i k) (λ t i. lookup_word (T t).lookups i k) (size l.sizes g) N (λ t j q r. entry_of-table t j k r h) e N (omega arith)

  whole-elements : element_start G.tuples (size_start l.sizes tuple_count_size N) ≡ size_start l.sizes element_count_size N
  unfolding element_start sized_start
  whole-elements =
      table-starts (size l.sizes tuple_count_size) (word G.tuples) (λ t. word (T t).tuples) (size l.sizes element_count_size) N (λ t j q r. width_of_table t j r) elements_of_table N (omega arith)

  pub whole-fitting : Fitting G
  unfolding tuple_start multiplicity_start flag_start lookups_at
  whole-fitting =
      record {
        lookups = omega (arith, f.lists_covered.lookups);
        names = f.lists_covered.names ∙ one_time (size_start l.sizes name_byte_count_size N) ∙ sym whole-names ∙ ap (name_start G.lookups) (sym whole-count);
        tuples =
            f.lists_covered.tuples ∙ one_time (size_start l.sizes tuple_count_size N)
            ∙ sym (whole-sums 5 10 (omega arith) (λ t q. own-size 10 t G.tuples (tuple_count (T t).lookups) q f.lists_covered.tuples (f.each t q).tuples)) ∙ ap (total (tuple_count G.lookups)) (sym whole-count);
        multiplicities =
            f.lists_covered.multiplicities ∙ one_time (size_start l.sizes multiplicity_count_size N)
            ∙ sym (whole-sums 6 11 (omega arith) (λ t q. own-size 11 t G.multiplicities (multiplicity_count (T t).lookups) q f.lists_covered.multiplicities (f.each t q).multiplicities)) ∙ ap (total (multiplicity_count G.lookups)) (sym whole-count);
        flags =
            f.lists_covered.flags ∙ one_time (size_start l.sizes flag_count_size N)
            ∙ sym (whole-sums 7 12 (omega arith) (λ t q. own-size 12 t G.flags (flag_count (T t).lookups) q f.lists_covered.flags (f.each t q).flags)) ∙ ap (total (flag_count G.lookups)) (sym whole-count);
        elements =
            f.lists_covered.elements ∙ one_time (size_start l.sizes element_count_size N) ∙ sym whole-elements
            ∙ ap (element_start G.tuples) (sym (f.lists_covered.tuples ∙ one_time (size_start l.sizes tuple_count_size N)));
      }
    where
      one_time : (n : ℕ) → 1 * n ≡ n
      one_time n = omega arith

  -- The members of all tables are the lookups of the whole lists by number.
  pub members_are : members (tables_of l) ≡ tab (member_at l) 0 (lookup_count G.lookups)
  unfolding members tables_of sized_start lookups_of member_at table_at
  members_are =
      flat-tab (λ (t : Table). map (λ (k : Lookup). record { table = t; lookup = k }) (tab (lookup_at t.lookups) 0 (lookup_count t.lookups.lookups))) (table_at l) N
      ∙ joined_same (λ t. map (λ (k : Lookup). record { table = table_at l t; lookup = k }) (tab (lookup_at (T t)) 0 (lookup_count (T t).lookups)))
      (λ t. tab (λ i. record { table = table_at l t; lookup = lookup_at (T t) i }) 0 (size l.sizes lookup_count_size t)) N
      (λ t h. map-tab (λ (k : Lookup). record { table = table_at l t; lookup = k }) (lookup_at (T t)) (lookup_count (T t).lookups)
      ∙ ap (tab (λ i. record { table = table_at l t; lookup = lookup_at (T t) i }) 0) (table_lookups t h))
      ∙ tables-tab (size l.sizes lookup_count_size) (λ t i. record { table = table_at l t; lookup = lookup_at (T t) i }) (member_at l) N
      (λ t i h g. ap₂ (λ (x : ℕ) (k : Lookup). record { table = table_at l x; lookup = k }) (sym (table_of_is l.sizes t i h g)) (sym (lookup_of-table t i h g)))
      ∙ ap (tab (member_at l) 0) (sym whole-count)
