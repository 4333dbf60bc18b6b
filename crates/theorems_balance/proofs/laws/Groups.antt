-- The lookups of a group are lookups of the tables, and where the tables' words are below p the group's entries are of words below p.
use Rattle.std.specs.Prelude.{◌≡◌, ◌⊎◌, Bool, cond, ◌&&◌, ◌||◌, ℕ, ◌+◌, ◌<◌, length, get_or}
use Rattle.std.proofs.Common.{sym, ap, ◌∙◌, subst, arith}
use Rattle.std.proofs.Math.Logic.{inl, inr, ⊎_elim}
use Rattle.std.proofs.Math.Bool.{true, false}
use Rattle.std.proofs.Math.Option.{none}
use mathlib.Core.List.Memᴰ
use mathlib.Core.List.{List, [], ◌∷◌, ◌++◌, map, flat_map, Memᴰ}
use Rattle.std.proofs.lemmas.List.{length-map}
use Rattle.lists.specs.laws.Count.{joined-member, of_true}
use Rattle.lists.specs.laws.Tests.{both_left, both_right}
use Rattle.lists.specs.laws.Members.{get_or_in, tab_in}
use Rattle.field.specs.Modulus.{Modulus, Certificate}
use Rattle.field.specs.Extension.{K}
use Rattle.field.specs.laws.Extension.{h}
use Rattle.theorems_logup.specs.Tables as Tables
use Rattle.expression.specs.Words.{word}
use Rattle.expression.specs.laws.Refusal.{unless_none}
use Rattle.expression.specs.declared.sizes.Limits.{Limits}
use Rattle.expression.specs.declared.refusal.Refusal.TheVariants.{SizeAtOdds, WordTooLarge}
use Rattle.lookup.specs.Lookups.{Lookup, lookups_of}
use Rattle.lookup.specs.Table.{Table, values_of}
use Rattle.lookup.specs.Tests.{sizes, words_below}
use Rattle.lookup_buses.specs.Order.{keep}
use Rattle.lookup_buses.specs.laws.Order.{keep_in}
use Rattle.logup.specs.Ledger.{Entry}
use Rattle.balance.specs.Tables.{TableLists, tables_of, lists_fit}
use Rattle.balance.specs.Groups.{Member, members, local, same_bus, appears, local_group, bus_group, bus_groups, groups}
use Rattle.balance.specs.Entries.{entry_of, row_entries, member_entries, entries}
use Rattle.balance.specs.Refusals.{all, tables_refusal}
use Rattle.balance.specs.Passes.{groups_of}
use Rattle.balance.proofs.laws.Lists.{flat_in}
use Rattle.balance.proofs.laws.Passes.{counted}
use Rattle.theorems_soundness.specs.Entries.{N}
use Rattle.theorems_soundness.proofs.laws.Values.{row_below}
use Rattle.theorems_balance.specs.Sums.{Wide}
use Rattle.theorems_balance.specs.Balance.{WordsBelow}

-- A group of these lookups is one of them by itself, or those of them that a test keeps.
module _ (lookups : List Member) where
  abbrev pub Kind : List Member → Type 0
  Kind g = ((x : Member) × Memᴰ x lookups × (g ≡ x ∷ [])) ⊎ ((test : Member → Bool) × (g ≡ keep test lookups))

  local_kind : (x : Member) → Memᴰ x lookups → {g : List Member} → Memᴰ g (local_group x) → Kind g
  unfolding local_group
  local_kind x k {g} m = go (local x) m
    where
      go : (b : Bool) → Memᴰ g (cond b ((x ∷ []) ∷ []) []) → Kind g
      go true i = inl (x, k, Memᴰ.eq_of_singleton i)
      go false i = absurd (Memᴰ.not-nil i)

  bus_kind : (before : List Member) (x : Member) {g : List Member} → Memᴰ g (bus_group lookups before x) → Kind g
  unfolding bus_group
  bus_kind before x {g} m = go (local x || appears x before) m
    where
      go : (b : Bool) → Memᴰ g (cond b [] (keep (same_bus x) lookups ∷ [])) → Kind g
      go true i = absurd (Memᴰ.not-nil i)
      go false i = inr (same_bus x, Memᴰ.eq_of_singleton i)

  buses_kind : (before ms : List Member) {g : List Member} → Memᴰ g (bus_groups lookups before ms) → Kind g
  unfolding bus_groups
  buses_kind before [] m = absurd (Memᴰ.not-nil m)
  buses_kind before (x ∷ ms) {g} m =
      ⊎_elim {C = Kind g} (λ i. bus_kind before x i) (λ i. buses_kind (before ++ (x ∷ [])) ms i)
      (Memᴰ.append_cases (bus_group lookups before x) m)

  pub group_kind : {g : List Member} → Memᴰ g (groups lookups) → Kind g
  unfolding groups
  group_kind {g} m =
      ⊎_elim {C = Kind g} (λ i. let (x, k, n) = flat_in local_group lookups i in local_kind x k n) (λ i. buses_kind [] lookups i)
      (Memᴰ.append_cases (flat_map local_group lookups) m)

  -- a lookup of a group is one of them
  pub in_group : {g : List Member} → Memᴰ g (groups lookups) → {x : Member} → Memᴰ x g → Memᴰ x lookups
  in_group k {x} i =
      ⊎_elim (λ a. subst (λ (y : Member). Memᴰ y lookups) (sym (Memᴰ.eq_of_singleton (subst (Memᴰ x) a.2 i))) a.1)
      (λ a. keep_in a.0 lookups (subst (Memᴰ x) a.1 i)) (group_kind k)

-- and its table is one of the tables
pub in_members : (tables : List Table) {m : Member} → Memᴰ m (members tables) → Memᴰ m.table tables
unfolding members
in_members tables k =
    let (t, kt, km) = flat_in (λ (t : Table). map (λ (l : Lookup). record { table = t; lookup = l }) (lookups_of t.lookups)) tables k in
    let (l, _, at) = Memᴰ.of_map (λ (l : Lookup). record { table = t; lookup = l }) (lookups_of t.lookups) km in
    subst (λ (m : Member). Memᴰ m.table tables) at kt

all_in : (f : Table → Bool) (tables : List Table) {t : Table} → all f tables ≡ true → Memᴰ t tables → f t ≡ true
unfolding all
all_in f [] e k = absurd (Memᴰ.not-nil k)
all_in f (x ∷ tables) e k =
    ⊎_elim (λ q. ap f q ∙ both_left (f x) (all f tables) e) (λ j. all_in f tables (both_right (f x) (all f tables) e) j) (Memᴰ.cases_cons k)

-- refusals 1 and 2 are not given: what each table has
pub sizes_of-tables : (m : Limits) (p : ℕ) (l : TableLists) → tables_refusal m p l ≡ none → {t : Table} → Memᴰ t (tables_of l) → sizes m t ≡ true
unfolding tables_refusal
sizes_of-tables m p l e k =
    let (b, _) = unless_none (lists_fit m l && all (sizes m) (tables_of l)) SizeAtOdds _ e in
    all_in (sizes m) (tables_of l) (both_right (lists_fit m l) (all (sizes m) (tables_of l)) b) k

words_of-tables : (m : Limits) (p : ℕ) (l : TableLists) → tables_refusal m p l ≡ none → {t : Table} → Memᴰ t (tables_of l)
    → words_below p t ≡ true
unfolding tables_refusal
words_of-tables m p l e k =
    let (_, later) = unless_none (lists_fit m l && all (sizes m) (tables_of l)) SizeAtOdds _ e in
    let (b, _) = unless_none (all (words_below p) (tables_of l)) WordTooLarge _ later in
    all_in (words_below p) (tables_of l) b k

-- so the words of every group are below p
pub words_of-groups : (m : Limits) (p : ℕ) (l : TableLists) → tables_refusal m p l ≡ none → (ms : List Member) → Memᴰ ms (groups_of l)
    → WordsBelow p ms
words_of-groups m p l e ms k x i =
    of_true (words_of-tables m p l e (in_members (tables_of l) (in_group (members (tables_of l)) k i)))

-- where an entry of a group comes from
pub record Source (p : ℕ) (ms : List Member) (e : Entry) : Type 0 where
  pub member : Member
  pub row : ℕ
  pub nodes : List ℕ
  pub member_there : Memᴰ member ms
  pub nodes_there : Memᴰ nodes member.lookup.tuples
  pub tuple_is : e.tuple ≡ map (word (values_of p member.table row)) nodes

pub source : (p : ℕ) (ms : List Member) {e : Entry} → Memᴰ e (entries p ms) → Source p ms e
unfolding entries member_entries row_entries entry_of
source p ms k =
    let (m, km, ke) = flat_in (member_entries p) ms k in
    let (r, _, kr) = joined-member (λ r. row_entries p m.lookup (values_of p m.table r)) m.table.traces.shape.height ke in
    let (j, lj, at) = tab_in (entry_of p m.lookup (values_of p m.table r)) 0 (length m.lookup.tuples) kr in
    record {
      member = m;
      row = r;
      nodes = get_or m.lookup.tuples j [];
      member_there = km;
      nodes_there = get_or_in m.lookup.tuples j [] (omega (arith, lj));
      tuple_is = ap (λ (e : Entry). e.tuple) at;
    }

-- the entries of a group, as the theorem about sums takes them
pub table_of-group : (p w : ℕ) → Modulus p → (C : Certificate p w) (ms : List Member) → WordsBelow p ms → (width : ℕ) → Wide width ms
    → Tables.Table (K p w C) (N p w C) width (entries p ms)
table_of-group p w M C ms below width wide =
    record {
      width =
          λ e k.
          let o = source p ms k in
          ap length o.tuple_is ∙ length-map o.nodes (word (values_of p o.member.table o.row))
          ∙ wide o.member o.member_there o.nodes o.nodes_there;
      words =
          λ e k a ka.
          let o = source p ms k in
          let (j, _, at) = Memᴰ.of_map (word (values_of p o.member.table o.row)) o.nodes (subst (Memᴰ a) o.tuple_is ka) in
          subst (λ (n : ℕ). n < p) at ((row_below p M o.member.table (below o.member o.member_there) o.row).each j);
      counts = counted p (h p w C) ms;
    }
