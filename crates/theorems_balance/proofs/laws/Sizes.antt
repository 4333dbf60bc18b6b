-- How many entries a group has, and how wide its tuples are, in tables within the limits.
use Rattle.std.specs.Prelude.{◌≡◌, refl, ◌⊎◌, Bool, cond, ◌&&◌, ℕ, ◌+◌, ◌*◌, ◌≤◌, ltb}
use Rattle.std.proofs.Math.Path.{sym, ap}
use Rattle.std.proofs.Common.{◌∙◌, subst, ⊎_elim, arith, le_trans, mul-le-mul, leb→le, length-take, leb-true}
use Rattle.std.proofs.Math.Bool.{true, false}
use Rattle.std.proofs.Math.Option.{none}
use mathlib.Core.List.Memᴰ
use mathlib.Core.List.{List, [], ◌∷◌, flat_map, Memᴰ}
use Rattle.std.proofs.Math.Nat.{le_refl}
use Rattle.std.proofs.Math.Dec.{T, leb}
use Rattle.std.proofs.Math.ListN.{length, length-append}
use Rattle.lists.specs.Tab.{tab}
use Rattle.lists.specs.laws.Count.{and_left, and_right, of_true}
use Rattle.lists.specs.laws.Joined.{joined_length, joined-total}
use Rattle.lists.specs.laws.Sums.{total_times}
use Rattle.lists.specs.laws.Tab.{tab-length, map-tab, flat_append}
use Rattle.lists.specs.laws.Tests.{both_left, passed}
use Rattle.lists.specs.laws.Members.{tab_in}
use Rattle.expression.specs.Tests.{traces_within}
use Rattle.expression.specs.laws.Refusal.{unless_none}
use Rattle.expression.specs.declared.sizes.Limits.{Limits}
use Rattle.expression.specs.declared.refusal.Refusal.TheVariants.{SizeAtOdds}
use Rattle.lookup.specs.Lookups.{Lookup, lookup_count, tuple_count, tuple_start, tuple_width, tuple_nodes, lookup_at, lookups_of}
use Rattle.lookup.specs.Table.{Table, values_of}
use Rattle.lookup.specs.Tests.{sizes}
use Rattle.lookup.specs.laws.Tested.{limited, fitting, sizes_passed}
use Rattle.lookup_buses.specs.Order.{keep}
use Rattle.balance.specs.Tables.{TableLists, table_count, table_at, tables_of, lists_fit}
use Rattle.balance.specs.Groups.{Member, members_of, members}
use Rattle.balance.specs.Entries.{entry_of, row_entries, member_entries, entries}
use Rattle.balance.specs.Refusals.{all, tables_refusal}
use Rattle.balance.specs.Passes.{groups_of}
use Rattle.balance.proofs.laws.Lists.{flat_in, flat-one, flat-tab}
use Rattle.theorems_balance.specs.OneBus.{member_of}
use Rattle.theorems_balance.proofs.laws.Groups.{Kind, group_kind, in_group, sizes_of-tables}

-- a part of the lists that are put together is no longer than all of them
module _ {A B : Type 0} (f : A → List B) where
  flat-member : (xs : List A) {x : A} → Memᴰ x xs → length (f x) ≤ length (flat_map f xs)
  unfolding flat_map
  flat-member [] m = absurd (Memᴰ.not-nil m)
  flat-member (y ∷ xs) {x} m =
      rw length-append
      (⊎_elim (λ e. let k : length (f x) ≡ length (f y) = ap (λ (z : A). length (f z)) e in omega arith)
      (λ n. let k = flat-member xs n in omega arith)
      (Memᴰ.cases_cons m))

  flat_keep : (test : A → Bool) (xs : List A) → length (flat_map f (keep test xs)) ≤ length (flat_map f xs)
  unfolding keep
  flat_keep test [] = le_refl _
  flat_keep test (x ∷ xs) = go (test x) (flat_keep test xs)
    where
      go : (b : Bool) → length (flat_map f (keep test xs)) ≤ length (flat_map f xs)
          → length (flat_map f (cond b (x ∷ keep test xs) (keep test xs))) ≤ length (flat_map f (x ∷ xs))
      go true h = unfold flat_map in rw (length-append, length-append) (omega arith)
      go false h = unfold flat_map in rw length-append (omega arith)

pub group-entries : (p : ℕ) (lookups : List Member) {g : List Member} → Kind lookups g → length (entries p g) ≤ length (entries p lookups)
unfolding entries
group-entries p lookups =
    ⊎_elim
    (λ a. rw (ap (flat_map (member_entries p)) a.2 ∙ flat-one (member_entries p) a.0) (flat-member (member_entries p) lookups a.1))
    (λ a. rw a.1 (flat_keep (member_entries p) a.0 lookups))

-- the entries of one table: for each tuple one on each row
member-length : (p : ℕ) (m : Member) → length (member_entries p m) ≡ length m.lookup.tuples * m.table.traces.shape.height
unfolding member_entries row_entries
member-length p m =
    joined_length (λ r. tab (entry_of p m.lookup (values_of p m.table r)) 0 (length m.lookup.tuples)) (length m.lookup.tuples)
    m.table.traces.shape.height
    (λ r. tab-length (entry_of p m.lookup (values_of p m.table r)) 0 (length m.lookup.tuples))

table-length : (p : ℕ) (t : Table) → length (entries p (members_of t))
    ≡ tuple_start t.lookups.lookups (lookup_count t.lookups.lookups) * t.traces.shape.height
unfolding entries lookups_of tuple_start lookup_at
table-length p t =
    ap (λ (ms : List Member). length (flat_map (member_entries p) ms))
    (map-tab (λ (l : Lookup). record { table = t; lookup = l }) (lookup_at t.lookups) (lookup_count t.lookups.lookups))
    ∙ ap length (flat-tab (member_entries p) (member_of t) (lookup_count t.lookups.lookups))
    ∙ joined-total (λ i. member_entries p (member_of t i)) (λ i. tuple_count t.lookups.lookups i * t.traces.shape.height) (lookup_count t.lookups.lookups)
    (λ i. member-length p (member_of t i)
    ∙ ap (λ (n : ℕ). n * t.traces.shape.height) (tab-length (tuple_nodes t.lookups i) 0 (tuple_count t.lookups.lookups i)))
    ∙ total_times (tuple_count t.lookups.lookups) t.traces.shape.height (lookup_count t.lookups.lookups)

-- all tables together
tables-length : (p b : ℕ) (tables : List Table) → ((t : Table) → Memᴰ t tables → length (entries p (members_of t)) ≤ b)
    → length (entries p (members tables)) ≤ length tables * b
unfolding entries members flat_map
tables-length p b [] h = omega arith
tables-length p b (t ∷ tables) h =
    rw (flat_append (member_entries p) (members_of t) (members tables), length-append)
    (let x = h t (Memᴰ.head refl) in let y = tables-length p b tables (λ u k. h u (Memᴰ.tail k)) in omega arith)

module _ (m : Limits) (p : ℕ) (l : TableLists) (e : tables_refusal m p l ≡ none) where
  -- at most as many as tables, tuples and rows allow
  few_tables : length (tables_of l) ≤ m.tables
  unfolding tables_refusal lists_fit tables_of
  few_tables =
      let (b, _) = unless_none (lists_fit m l && all (sizes m) (tables_of l)) SizeAtOdds _ e in
      let fit : T (lists_fit m l) = of_true (both_left (lists_fit m l) (all (sizes m) (tables_of l)) b) in
      rw (tab-length (table_at l) 0 (table_count l.sizes)) (leb→le (table_count l.sizes) m.tables (search (and_left, and_right) depth 14))

  few-entries : (t : Table) → Memᴰ t (tables_of l) → length (entries p (members_of t)) ≤ m.tuples * m.height
  unfolding traces_within
  few-entries t k =
      let s = sizes_passed m t (sizes_of-tables m p l e k) in
      let high = passed (ltb 0 t.traces.shape.main_width)
      (leb t.traces.shape.main_width m.main_columns ∷ leb t.traces.shape.height m.height
      ∷ leb t.traces.shape.pre_width m.pre_columns
      ∷ leb t.traces.shape.pre_height m.height ∷ leb (length t.traces.public_values) m.public_values ∷ [])
      s.0 in
      rw (table-length p t, sym (fitting t.lookups s.4).tuples)
      (mul-le-mul (limited m t.lookups.lookups t.lookups.tuples s.2).few_tuples (leb-true _ _ high.1.1.0))

  pub few_of_group : {g : List Member} → Memᴰ g (groups_of l) → length (entries p g) ≤ m.tables * (m.tuples * m.height)
  few_of_group k =
      le_trans (group-entries p (members (tables_of l)) (group_kind (members (tables_of l)) k))
      (le_trans (tables-length p (m.tuples * m.height) (tables_of l) few-entries) (mul-le-mul few_tables (le_refl (m.tuples * m.height))))

  -- a tuple's nodes are no more than the limit
  pub narrow : {g : List Member} → Memᴰ g (groups_of l) → {x : Member} → Memᴰ x g → {nodes : List ℕ}
      → Memᴰ nodes x.lookup.tuples → length nodes ≤ m.tuple_words
  unfolding members lookups_of lookup_at tuple_nodes tuple_width
  narrow k {x} i {nodes} j =
      let (t, kt, kx) = flat_in members_of (tables_of l) (in_group (members (tables_of l)) k i) in
      let (u, ku, at) = Memᴰ.of_map (λ (l : Lookup). record { table = t; lookup = l }) (lookups_of t.lookups) kx in
      let (n, _, is) = tab_in (lookup_at t.lookups) 0 (lookup_count t.lookups.lookups) ku in
      let (c, _, those) = tab_in (tuple_nodes t.lookups n) 0 (tuple_count t.lookups.lookups n)
      (subst (λ (l : Lookup). Memᴰ nodes l.tuples) is (subst (λ (x : Member). Memᴰ nodes x.lookup.tuples) (sym at) j)) in
      let wide = (limited m t.lookups.lookups t.lookups.tuples (sizes_passed m t (sizes_of-tables m p l e kt)).2).width
      (tuple_start t.lookups.lookups n + c) in
      rw (those, length-take) (omega arith)
