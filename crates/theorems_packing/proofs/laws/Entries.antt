-- The packed table has the same entries on every row.
use Rattle.std.specs.Prelude.{◌≡◌, Bool, not, ◌&&◌, leb}
use Rattle.std.proofs.Math.Path.{refl, sym, ap, ap₂}
use Rattle.std.proofs.Common.{◌∙◌, zero-add}
use Rattle.std.proofs.Math.Bool.{true, false, cond}
use mathlib.Core.List.{List, [], ◌∷◌, ◌++◌, append_assoc, append-nil, map, flat_map, zip_with, map-append}
use Prim.Native.Nat.{ℕ, zero, suc, ◌+◌, ◌<◌, ◌≤◌}
use native.Mathlib.Omega.{arith}
use lib.ListN.{length, take, drop, length-append, length-take, length-map}
use lib.Seq.{get_or-take, get_or-drop}
use Rattle.lists.specs.Same.{same_list}
use Rattle.lists.specs.Count.{joined}
use Rattle.lists.specs.Tab.{tab}
use Rattle.lists.specs.laws.Count.{or_left_false, or_right_false}
use Rattle.lists.specs.laws.Tab.{tab-length, tab_cong, map-tab, flat_append, zip_append}
use Rattle.lists.specs.laws.Joined.{joined-singles}
use Rattle.field.specs.Word.{mul_m}
use Rattle.expression.specs.Words.{word}
use Rattle.expression.specs.Node.{node_count}
use Rattle.lookup.specs.Lookups.{Lookups, Lookup, lookup_count, exclusive, tuple_count, multiplicity_count, flag_count, multiplicity_start, flag_start, multiplicity_node, flag_node, tuple_nodes, lookup_at, lookups_of}
use Rattle.lookup.specs.Requires.{Fitting, Agreeing}
use Rattle.lookup.specs.laws.Tested.{placed}
use Rattle.lookup_degree.specs.Sums.{sum_of}
use Rattle.lookup_degree.specs.Degree.{node_degrees, lookup_degree}
use Rattle.lookup_degree.specs.laws.Degree.{zip_tab, part-tab}
use Rattle.lookup_buses.specs.Order.{keep}
use Rattle.lookup_buses.specs.laws.Order.{sum-append}
use Rattle.logup.specs.Tuple.{tuple}
use Rattle.logup.specs.Ledger.{Entry, entry, count, lookup_entries, row_entries}
use Rattle.packing.specs.Packing.{on_one_bus, in_order, merged, joins, fill, filled, numbered, renumbered, packed}
use Rattle.packing.specs.Written.{words_of}
use Rattle.packing.specs.PackSameBus.{columns}
use Rattle.packing.proofs.laws.Columns.{and_both, on_one, order-sum}
use Rattle.theorems_packing.specs.inner.Entries.{record_counts, entered, record_entries, Aligned}
use Rattle.theorems_packing.proofs.laws.Each.{Each, lookups-each, order-each, packed-each, packed-sum-each}
use Rattle.theorems_packing.proofs.laws.Back.{at_unnamed, columns-back}

-- a part whose length is n, by number
pub part_by : (m : List ℕ) (c s n : ℕ) → length (take c (drop s m)) ≡ n → take c (drop s m) ≡ tab (λ k. word m (s + k)) 0 n
part_by m c s n e =
    let h : n ≤ length (drop s m) = omega (arith, sym e ∙ length-take c (drop s m)) in
    let g : n ≤ c = omega (arith, sym e ∙ length-take c (drop s m)) in
    cut (take c (drop s m)) n e
    ∙ tab_cong (λ k. word (take c (drop s m)) (0 + k)) (λ k. word m (s + k)) n (λ k l. get_or-take c (drop s m) (0 + k) 0 (omega arith) ∙ get_or-drop s m (0 + k) 0 ∙ ap (λ (q : ℕ). word m (s + q)) (zero-add k))
  where
    cut : (xs : List ℕ) (n : ℕ) → length xs ≡ n → xs ≡ tab (λ k. word xs (0 + k)) 0 n
    cut xs n e = sym (lib.Seq.take_all n xs (omega arith)) ∙ part-tab xs 0 n (omega arith)

-- a kept merge is aligned where its parts are
pub additive-both : (a b : Lookup) → on_one_bus a b ≡ true → (a.exclusive ≡ false) × (b.exclusive ≡ false)
additive-both a b e =
    let s = on_one a b e in (or_right_false a.local a.exclusive s.0, or_right_false b.local b.exclusive s.1)

-- both are on a bus
pub local-both : (a b : Lookup) → on_one_bus a b ≡ true → (a.local ≡ false) × (b.local ≡ false)
local-both a b e = let s = on_one a b e in (or_left_false a.local a.exclusive s.0, or_left_false b.local b.exclusive s.1)

pub merged_sound : (a b : Lookup) → on_one_bus a b ≡ true → Aligned a → Aligned b → Aligned (merged a b)
merged_sound a b o s t =
    let ea : a.exclusive ≡ false = (additive-both a b o).0 in
    record {
      aligned =
          length-append a.multiplicities b.multiplicities ∙ ap₂ ◌+◌ s.aligned t.aligned
          ∙ sym (length-append a.tuples b.tuples);
      flagged = λ e. cc;
      unnamed = s.unnamed;
    }

pub numbered_sound : (k : ℕ) (x : Lookup) → Aligned x → Aligned (numbered k x)
numbered_sound k x e = record { aligned = e.aligned; flagged = e.flagged; unnamed = e.unnamed }

-- what lookup i enters, from its record
module _ (p : ℕ) (vals : List ℕ) where
  counts_at : (l : Lookups) (i : ℕ) → Aligned (lookup_at l i)
      → record_counts p vals (lookup_at l i) ≡ tab (count p l vals i) 0 (tuple_count l.lookups i)
  unfolding record_counts lookup_at count multiplicity_node flag_node
  counts_at l i s = go (exclusive l.lookups i) refl
    where
      N : ℕ
      N = tuple_count l.lookups i

      tuples_long : length (tab (tuple_nodes l i) 0 N) ≡ N
      tuples_long = tab-length (tuple_nodes l i) 0 N

      M : List ℕ
      M = take (multiplicity_count l.lookups i) (drop (multiplicity_start l.lookups i) l.multiplicities)

      F : List ℕ
      F = take (flag_count l.lookups i) (drop (flag_start l.lookups i) l.flags)

      ms : M ≡ tab (λ k. word l.multiplicities (multiplicity_start l.lookups i + k)) 0 N
      ms = part_by l.multiplicities (multiplicity_count l.lookups i) (multiplicity_start l.lookups i) N (s.aligned ∙ tuples_long)

      go : (b : Bool) → exclusive l.lookups i ≡ b
          → cond b (zip_with (λ m f. mul_m p (word vals m) (word vals f)) M F) (map (word vals) M)
          ≡ tab (λ k. cond b (mul_m p (word vals (word l.multiplicities (multiplicity_start l.lookups i + k))) (word vals (word l.flags (flag_start l.lookups i + k)))) (word vals (word l.multiplicities (multiplicity_start l.lookups i + k)))) 0 N
      go true e =
          ap₂ (λ (x y : List ℕ). zip_with (λ m f. mul_m p (word vals m) (word vals f)) x y) ms (part_by l.flags (flag_count l.lookups i) (flag_start l.lookups i) N (s.flagged e ∙ tuples_long))
          ∙ zip_tab (λ m f. mul_m p (word vals m) (word vals f)) (λ k. word l.multiplicities (multiplicity_start l.lookups i + k)) (λ k. word l.flags (flag_start l.lookups i + k)) N
      go false e = ap (map (word vals)) ms ∙ map-tab (word vals) (λ k. word l.multiplicities (multiplicity_start l.lookups i + k)) N

  entries_at : (l : Lookups) (i : ℕ) → Aligned (lookup_at l i) → lookup_entries p l vals i ≡ record_entries p vals (lookup_at l i)
  unfolding lookup_entries record_entries tuple
  entries_at l i s =
      joined-singles (λ k. entry p l vals i k) (tuple_count l.lookups i)
      ∙ sym (zip_tab (entered vals) (tuple_nodes l i) (count p l vals i) (tuple_count l.lookups i))
      ∙ ap₂ (λ (x : List (List ℕ)) (y : List ℕ). zip_with (entered vals) x y) (sym (tuples_are l i)) (sym (counts_at l i s))
    where
      tuples_are : (l : Lookups) (i : ℕ) → (lookup_at l i).tuples ≡ tab (tuple_nodes l i) 0 (tuple_count l.lookups i)
      tuples_are l i = unfold lookup_at in refl

  each_snoc : (xs : List Lookup) (y : Lookup) → Each Aligned (xs ++ (y ∷ [])) → Each Aligned xs × Aligned y
  each_snoc [] y e = (tt, e.0)
  each_snoc (x ∷ xs) y e = let r = each_snoc xs y e.1 in ((e.0, r.0), r.1)

  -- the entries of a row: those of each lookup, in list order
  rows_at : (l : Lookups) (n : ℕ) → Each Aligned (tab (lookup_at l) 0 n)
      → joined (lookup_entries p l vals) 0 n ≡ flat_map (record_entries p vals) (tab (lookup_at l) 0 n)
  unfolding joined tab flat_map
  rows_at l zero e = refl
  rows_at l (suc n) e =
      let r = each_snoc (tab (lookup_at l) 0 n) (lookup_at l (0 + n)) e in
      ap₂ (λ (x y : List Entry). x ++ y) (rows_at l n r.0) (entries_at l (0 + n) r.1 ∙ sym (append-nil (record_entries p vals (lookup_at l (0 + n)))))
      ∙ sym (flat_append (record_entries p vals) (tab (lookup_at l) 0 n) (lookup_at l (0 + n) ∷ []))

  pub row_is : (l : Lookups) → Each Aligned (lookups_of l) → row_entries p l vals ≡ flat_map (record_entries p vals) (lookups_of l)
  unfolding row_entries lookups_of
  row_is l e = rows_at l (lookup_count l.lookups) e

  -- a kept merge enters what its parts enter
  merged-entries : (a b : Lookup) → a.exclusive ≡ false → b.exclusive ≡ false → Aligned a
      → record_entries p vals (merged a b) ≡ record_entries p vals a ++ record_entries p vals b
  unfolding record_entries record_counts
  merged-entries a b ea eb s =
      rw (ea, eb)
      (ap (zip_with (entered vals) (a.tuples ++ b.tuples)) (map-append (word vals) a.multiplicities b.multiplicities)
      ∙ zip_append (entered vals) a.tuples b.tuples (map (word vals) a.multiplicities) (map (word vals) b.multiplicities) (sym s.aligned ∙ sym (length-map a.multiplicities (word vals))))

  fill-entries : (deg : ℕ → ℕ) (limit : ℕ) (c : Lookup) (ls : List Lookup) → Aligned c → Each Aligned ls
      → flat_map (record_entries p vals) (fill deg limit c ls) ≡ record_entries p vals c ++ flat_map (record_entries p vals) ls
  unfolding fill flat_map
  fill-entries deg limit c [] s e = refl
  fill-entries deg limit c (l ∷ ls) s e =
      go (joins deg limit c l) refl (λ (q : Aligned (merged c l)). fill-entries deg limit (merged c l) ls q e.1) (fill-entries deg limit l ls e.0 e.1)
    where
      E : Lookup → List Entry
      E = record_entries p vals

      go : (b : Bool) → joins deg limit c l ≡ b
          → (Aligned (merged c l) → flat_map E (fill deg limit (merged c l) ls) ≡ E (merged c l) ++ flat_map E ls)
          → flat_map E (fill deg limit l ls) ≡ E l ++ flat_map E ls
          → flat_map E (cond b (fill deg limit (merged c l) ls) (c ∷ fill deg limit l ls)) ≡ E c ++ (E l ++ flat_map E ls)
      go true j x y =
          let o = (and_both (on_one_bus c l) (leb (lookup_degree deg (merged c l)) limit) j).0 in
          let a = additive-both c l o in
          x (merged_sound c l o s e.0) ∙ ap (λ (z : List Entry). z ++ flat_map E ls) (merged-entries c l a.0 a.1 s)
          ∙ append_assoc (E c) (E l) (flat_map E ls)
      go false j x y = ap (λ (z : List Entry). E c ++ z) y

  filled-entries : (deg : ℕ → ℕ) (limit : ℕ) (ls : List Lookup) → Each Aligned ls
      → flat_map (record_entries p vals) (filled deg limit ls) ≡ flat_map (record_entries p vals) ls
  unfolding filled flat_map
  filled-entries deg limit [] e = refl
  filled-entries deg limit (l ∷ ls) e = fill-entries deg limit l ls e.0 e.1

  numbered-entries : (k : ℕ) (ls : List Lookup) → flat_map (record_entries p vals) (renumbered k ls) ≡ flat_map (record_entries p vals) ls
  unfolding renumbered flat_map record_entries record_counts
  numbered-entries k [] = refl
  numbered-entries k (l ∷ ls) = ap (λ (z : List Entry). record_entries p vals l ++ z) (numbered-entries (suc k) ls)

  -- a sum over the entries is a sum over the lookups
  flat-sum : (h : Entry → ℕ) (ls : List Lookup)
      → sum_of h (flat_map (record_entries p vals) ls) ≡ sum_of (λ (x : Lookup). sum_of h (record_entries p vals x)) ls
  unfolding flat_map sum_of
  flat-sum h [] = refl
  flat-sum h (l ∷ ls) =
      sum-append h (record_entries p vals l) (flat_map (record_entries p vals) ls)
      ∙ ap (λ (n : ℕ). sum_of h (record_entries p vals l) + n) (flat-sum h ls)

-- the lookups of a table that passed the tests
module _ (nodes : List ℕ) (l : Lookups) (f : Fitting l) (a : Agreeing (node_count nodes) l) where
  pub at_sound : (i : ℕ) → i < lookup_count l.lookups → Aligned (lookup_at l i)
  unfolding lookup_at
  at_sound i h =
      let q = placed l (f) i h in
      let t : length (lookup_at l i).tuples ≡ tuple_count l.lookups i = tab-length (tuple_nodes l i) 0 (tuple_count l.lookups i) in
      record {
        aligned = lib.Seq.length-take-le _ _ (fits l.multiplicities _ _ q.multiplicities) ∙ a.multiplicities_agree i h ∙ sym t;
        flagged = λ e. lib.Seq.length-take-le _ _ (fits l.flags _ _ q.flags) ∙ a.flags_agree i h
            ∙ ap (λ (b : Bool). cond b (tuple_count l.lookups i) 0) e ∙ sym t;
        unnamed = at_unnamed l i;
      }
    where
      fits : (xs : List ℕ) (s n : ℕ) → s + n ≤ length xs → n ≤ length (drop s xs)
      fits xs s n h = simp lib.ListN.length-drop (omega arith)

  pub lookups_sound : Each Aligned (lookups_of l)
  lookups_sound = lookups-each Aligned l at_sound

  order_sound : Each Aligned (in_order l)
  order_sound = order-each Aligned l at_sound

  pub columns_sound : (limit : ℕ) → Each Aligned (columns limit nodes l)
  unfolding columns
  columns_sound limit = packed-each Aligned l at_sound merged_sound numbered_sound (node_degrees 0 nodes) limit

  -- the packed table enters on a row what the lookups enter in packing's order
  pub packed-row : (limit p : ℕ) (vals : List ℕ)
      → row_entries p (words_of (columns limit nodes l)) vals ≡ flat_map (record_entries p vals) (in_order l)
  packed-row limit p vals =
      row_is p vals (words_of (columns limit nodes l)) (rw (columns-back limit nodes l) (columns_sound limit))
      ∙ ap (flat_map (record_entries p vals)) (columns-back limit nodes l)
      ∙ opened limit p vals
    where
      opened : (limit p : ℕ) (vals : List ℕ)
          → flat_map (record_entries p vals) (columns limit nodes l) ≡ flat_map (record_entries p vals) (in_order l)
      opened limit p vals = unfold columns in unfold packed in (numbered-entries p vals 0 (filled (node_degrees 0 nodes) limit (in_order l)) ∙ filled-entries p vals (node_degrees 0 nodes) limit (in_order l) order_sound)

  -- the same entries for every row, whatever is counted of them
  pub same-row_entries : (limit p : ℕ) (vals : List ℕ) (h : Entry → ℕ)
      → sum_of h (row_entries p (words_of (columns limit nodes l)) vals) ≡ sum_of h (row_entries p l vals)
  unfolding lookups_of
  same-row_entries limit p vals h =
      ap (sum_of h) (packed-row limit p vals)
      ∙ flat-sum p vals h (in_order l)
      ∙ order-sum l (λ (x : Lookup). sum_of h (record_entries p vals x))
      ∙ sym (flat-sum p vals h (lookups_of l))
      ∙ ap (sum_of h) (sym (row_is p vals l lookups_sound))

  columns-sum : (g : Lookup → ℕ) → ((a b : Lookup) → on_one_bus a b ≡ true → Aligned a → Aligned b → g (merged a b) ≡ g a + g b)
      → ((k : ℕ) (x : Lookup) → g (numbered k x) ≡ g x)
      → (limit : ℕ) → sum_of g (columns limit nodes l) ≡ sum_of g (lookups_of l)
  unfolding columns
  columns-sum g adds free limit = packed-sum-each Aligned merged_sound g adds free l at_sound (node_degrees 0 nodes) limit

  -- of the lookups on one bus, exclusives too
  abbrev pub on : List ℕ → Lookup → Bool
  on bus x = not x.local && same_list bus x.name

  kept-sum : (f : Lookup → Bool) (h : Entry → ℕ) (p : ℕ) (vals : List ℕ) (ls : List Lookup)
      → sum_of h (flat_map (record_entries p vals) (keep f ls)) ≡ sum_of (λ (x : Lookup). cond (f x) (sum_of h (record_entries p vals x)) 0) ls
  unfolding keep flat_map sum_of
  kept-sum f h p vals [] = refl
  kept-sum f h p vals (x ∷ ls) = go (f x) (kept-sum f h p vals ls)
    where
      go : {n : ℕ} (b : Bool) → sum_of h (flat_map (record_entries p vals) (keep f ls)) ≡ n
          → sum_of h (flat_map (record_entries p vals) (cond b (x ∷ keep f ls) (keep f ls))) ≡ cond b (sum_of h (record_entries p vals x)) 0 + n
      go true e =
          sum-append h (record_entries p vals x) (flat_map (record_entries p vals) (keep f ls))
          ∙ ap (λ (n : ℕ). sum_of h (record_entries p vals x) + n) e
      go false e = e ∙ omega arith

  -- every bus has the same entries for every row
  pub same_bus-entries : (limit p : ℕ) (vals : List ℕ) (h : Entry → ℕ) (bus : List ℕ)
      → sum_of h (flat_map (record_entries p vals) (keep (on bus) (columns limit nodes l))) ≡ sum_of h (flat_map (record_entries p vals) (keep (on bus) (lookups_of l)))
  same_bus-entries limit p vals h bus =
      kept-sum (on bus) h p vals (columns limit nodes l)
      ∙ columns-sum (λ (x : Lookup). cond (on bus x) (sum_of h (record_entries p vals x)) 0) adds free limit
      ∙ sym (kept-sum (on bus) h p vals (lookups_of l))
    where
      free : (k : ℕ) (x : Lookup)
          → cond (on bus (numbered k x)) (sum_of h (record_entries p vals (numbered k x))) 0 ≡ cond (on bus x) (sum_of h (record_entries p vals x)) 0
      free k x = unfold record_entries in unfold record_counts in refl

      own : (a b : Bool) (s t : List ℕ) → a ≡ false → b ≡ false → s ≡ t → (not b && same_list bus t) ≡ (not a && same_list bus s)
      own a b s t e g q = rw (e, g, q)

      part : (b : Bool) (x y z : ℕ) → z ≡ x + y → cond b z 0 ≡ cond b x 0 + cond b y 0
      part true x y z e = e
      part false x y z e = refl

      adds : (a b : Lookup) → on_one_bus a b ≡ true → Aligned a → Aligned b
          → cond (on bus (merged a b)) (sum_of h (record_entries p vals (merged a b))) 0 ≡ cond (on bus a) (sum_of h (record_entries p vals a)) 0 + cond (on bus b) (sum_of h (record_entries p vals b)) 0
      adds a b o s _ =
          let q = on_one a b o in
          let (ea, eb) = additive-both a b o in
          let same_on : on bus b ≡ on bus a = own a.local b.local a.name b.name (or_left_false a.local a.exclusive q.0) (or_left_false b.local b.exclusive q.1) q.2 in
          part (on bus a) (sum_of h (record_entries p vals a)) (sum_of h (record_entries p vals b)) (sum_of h (record_entries p vals (merged a b)))
          (ap (sum_of h) (merged-entries p vals a b ea eb s) ∙ sum-append h (record_entries p vals a) (record_entries p vals b))
          ∙ ap (λ (c : Bool). cond (on bus a) (sum_of h (record_entries p vals a)) 0 + cond c (sum_of h (record_entries p vals b)) 0) (sym same_on)
