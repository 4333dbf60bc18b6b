-- Where all lookups of a table are on one bus, balance has one group, and its nets are the words of the table's ledger.
use Rattle.std.specs.Prelude.{◌≡◌, Bool, cond, not, ◌&&◌, ◌||◌, ℕ, ◌<◌, T, length}
use Rattle.std.proofs.Math.Path.{refl}
use Rattle.std.proofs.Common.{sym, ap, ap₂, ◌∙◌, subst, true≢false, arith}
use Rattle.std.proofs.Math.Bool.{true, false}
use mathlib.Core.List.{List, [], ◌∷◌, ◌++◌, flat_map, Memᴰ}
use Rattle.lists.specs.Same.{same_list}
use Rattle.lists.specs.Tab.{tab}
use Rattle.lists.specs.laws.Same.{same_list_refl}
use Rattle.lists.specs.laws.Tab.{tab-length}
use Rattle.lists.specs.laws.Count.{and_left, true_of}
use Rattle.lists.specs.laws.Members.{tab_in}
use Rattle.field.specs.Modulus.{Modulus}
use Rattle.expression.specs.Node.{node_count}
use Rattle.expression.specs.declared.sizes.Limits.{Limits}
use Rattle.lookup.specs.Lookups.{lookup_count}
use Rattle.lookup.specs.Table.{Table}
use Rattle.lookup.specs.Tests.{lists_agree, in_position}
use Rattle.lookup.specs.Requires.{Agreeing}
use Rattle.lookup.specs.laws.Tested.{agreeing}
use Rattle.logup.specs.Ledger.{has_ledger}
use Rattle.lookup_buses.specs.laws.Order.{keep_all}
use Rattle.balance.specs.Groups.{Member, members, local, same_bus, appears, local_group, bus_group, bus_groups, groups}
use Rattle.theorems_soundness.specs.Soundness.{OnBus}
use Rattle.theorems_soundness.proofs.laws.Values.{row_below}
use Rattle.theorems_soundness.proofs.laws.Entered.{ledgered}
use Rattle.theorems_soundness.proofs.laws.Soundness.{words_of}
use Rattle.theorems_balance.specs.OneBus.{member_of, OneBus, OneBusLedger}
use Rattle.theorems_balance.proofs.laws.Ledger.{members-one, ledger_nets}

-- members that are all on one bus are one group
module _ (all : List Member) where
  appears-append : (m : Member) (xs ys : List Member) → appears m xs ≡ true → appears m (xs ++ ys) ≡ true
  unfolding appears
  appears-append m [] ys e = absurd (true≢false (sym e))
  appears-append m (x ∷ xs) ys e = go (same_bus m x) (appears-append m xs ys) e
    where
      go : (b : Bool) → (appears m xs ≡ true → appears m (xs ++ ys) ≡ true) → (b || appears m xs) ≡ true → (b || appears m (xs ++ ys)) ≡ true
      go true ih q = refl
      go false ih q = ih q

  or_true : (a b : Bool) → b ≡ true → (a || b) ≡ true
  or_true true b e = refl
  or_true false b e = e

  known-groups : (before ms : List Member) → ((m : Member) → Memᴰ m ms → appears m before ≡ true) → bus_groups all before ms ≡ []
  unfolding bus_groups bus_group
  known-groups before [] h = refl
  known-groups before (m ∷ ms) h =
      rw (or_true (local m) (appears m before) (h m (Memᴰ.head refl)))
      (known-groups (before ++ (m ∷ [])) ms (λ x k. appears-append x before (m ∷ []) (h x (Memᴰ.tail k))))

bus_not_local : (m n : Member) → same_bus m n ≡ true → local m ≡ false
unfolding same_bus
bus_not_local m n e = go (local m) e
  where
    go : (b : Bool) → (not b && (not (local n) && same_list m.lookup.name n.lookup.name)) ≡ true → b ≡ false
    go true q = sym q
    go false q = refl

no_locals : (ms : List Member) → ((m : Member) → Memᴰ m ms → local m ≡ false) → flat_map local_group ms ≡ []
unfolding flat_map local_group
no_locals [] h = refl
no_locals (m ∷ ms) h = rw (h m (Memᴰ.head refl)) (no_locals ms (λ x k. h x (Memᴰ.tail k)))

one-group : (m : Member) (ms : List Member) → ((x y : Member) → Memᴰ x (m ∷ ms) → Memᴰ y (m ∷ ms) → same_bus x y ≡ true)
    → groups (m ∷ ms) ≡ (m ∷ ms) ∷ []
unfolding groups bus_groups bus_group appears
one-group m ms h =
    let self : same_bus m m ≡ true = h m m (Memᴰ.head refl) (Memᴰ.head refl) in
    let free : local m ≡ false = bus_not_local m m self in
    ap₂ (λ (a b : List (List Member)). a ++ b)
    (no_locals (m ∷ ms) (λ x k. bus_not_local x x (h x x k k)))
    (ap₂ (λ (b : Bool) (g : List Member). cond (b || false) [] (g ∷ []) ++ bus_groups (m ∷ ms) (m ∷ []) ms) free
    (keep_all (same_bus m) (m ∷ ms) (λ x k. h m x (Memᴰ.head refl) k))
    ∙ ap (λ (l : List (List Member)). (m ∷ ms) ∷ l)
    (known-groups (m ∷ ms) (m ∷ []) ms (λ x k. rw (h x m (Memᴰ.tail k) (Memᴰ.head refl)))))

first_of : (f : ℕ → Member) (n : ℕ) → 0 < n → (m : Member) × (ms : List Member) × (tab f 0 n ≡ m ∷ ms)
first_of f n h = go (tab f 0 n) (tab-length f 0 n)
  where
    go : (l : List Member) → length l ≡ n → (m : Member) × (ms : List Member) × (l ≡ m ∷ ms)
    go [] e = absurd (omega arith)
    go (m ∷ ms) e = (m, ms, refl)

-- the table's lookups are one group
pub ledger-group : (t : Table) → OneBus t → groups (members (t ∷ [])) ≡ members (t ∷ []) ∷ []
ledger-group t o =
    let n : ℕ = lookup_count t.lookups.lookups in
    let (m, ms, q) = first_of (member_of t) n o.some in
    let e : members (t ∷ []) ≡ m ∷ ms = members-one t ∙ q in
    rw e
    (one-group m ms
    (λ x y a b.
    let (i, li, ei) = tab_in (member_of t) 0 n (subst (Memᴰ x) (sym q) a) in
    let (j, lj, ej) = tab_in (member_of t) 0 n (subst (Memᴰ y) (sym q) b) in
    ap₂ same_bus ei ej ∙ o.each i j (omega (arith, li, lj)) (omega (arith, li, lj))))

agreeing_of : (m : Limits) (p : ℕ) (t : Table) → T (has_ledger m p t) → Agreeing (node_count t.nodes) t.lookups
agreeing_of m p t ok =
    agreeing (node_count t.nodes) t.lookups
    (true_of (lists_agree (node_count t.nodes) t.lookups)
    (and_left (lists_agree (node_count t.nodes) t.lookups) (in_position t.lookups.lookups) (ledgered m p t ok).five))

-- and its nets are the table's ledger
pub one_bus-ledger : (m : Limits) (p : ℕ) → Modulus p → OneBusLedger m p
one_bus-ledger m p M t o ok = (
  ledger-group t o,
  ledger_nets p (node_count t.nodes) t (omega (arith, M.big)) (row_below p M t (words_of m p t ok)) (agreeing_of m p t ok),
)

-- lookups that are not local and have one name are on one bus
pub on_one_bus : (bus : List ℕ) (t : Table) → 0 < lookup_count t.lookups.lookups → OnBus bus t → OneBus t
unfolding same_bus
on_one_bus bus t z on = record {
  some = z;
  each = λ i j li lj. rw ((on i li).0, (on j lj).0, (on i li).1, (on j lj).1) (same_list_refl bus);
}
