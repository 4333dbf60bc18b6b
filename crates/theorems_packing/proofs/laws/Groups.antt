-- What holds of the entries of all groups holds of those of each local and of each bus, and the other way round.
use Rattle.std.specs.Prelude.{◌≡◌, Bool, ◌&&◌, ◌||◌, ◌⊎◌, ℕ}
use Rattle.std.proofs.Math.Path.{refl, ap, subst}
use Rattle.std.proofs.Common.{sym, ap₂, ◌∙◌, true≢false, inr}
use Rattle.std.proofs.Math.Bool.{true, false, cond, not}
use mathlib.Core.List.{List, [], ◌∷◌, ◌++◌, map, flat_map}
use Rattle.std.proofs.Math.Logic.{inl}
use Rattle.lists.specs.Same.{same_list}
use Rattle.lists.specs.laws.Same.{same_list-eq}
use Rattle.logup.specs.Ledger.{Entry}
use Rattle.lookup_buses.specs.Order.{keep}
use Rattle.lookup_buses.specs.laws.Order.{keep_append, keep_cong}
use Rattle.balance.specs.Groups.{Member, local, same_bus, appears, local_group, bus_group, bus_groups, groups}
use Rattle.balance.specs.Entries.{member_entries, entries}
use Rattle.balance.proofs.laws.Lists.{flat-one}
use Rattle.balance.specs.Passes.{AllGroups}
use Rattle.theorems_packing.specs.Same.{on}
use Rattle.theorems_packing.proofs.laws.Each.{Each}

all_append : (P : List Member → Type 0) (xs ys : List (List Member)) → AllGroups P (xs ++ ys) → AllGroups P xs × AllGroups P ys
all_append P [] ys a = (tt, a)
all_append P (x ∷ xs) ys a = let r = all_append P xs ys a.1 in ((a.0, r.0), r.1)

append-all : (P : List Member → Type 0) (xs ys : List (List Member)) → AllGroups P xs → AllGroups P ys → AllGroups P (xs ++ ys)
append-all P [] ys a b = b
append-all P (x ∷ xs) ys a b = (a.0, append-all P xs ys a.1 b)

-- the locals, one by one
module _ (p : ℕ) (Q : List Entry → Type 0) where
  one-entries : (m : Member) → entries p (m ∷ []) ≡ member_entries p m
  unfolding entries
  one-entries m = flat-one (member_entries p) m

  locals-each : (ms : List Member) → AllGroups (λ ms. Q (entries p ms)) (flat_map local_group ms)
      → Each Q (map (member_entries p) (keep local ms))
  unfolding flat_map keep local_group
  locals-each [] a = tt
  locals-each (m ∷ ms) a = go (local m) (λ b. locals-each ms b) a
    where
      go : (b : Bool) → (AllGroups (λ ms. Q (entries p ms)) (flat_map local_group ms) → Each Q (map (member_entries p) (keep local ms)))
          → AllGroups (λ ms. Q (entries p ms)) (cond b ((m ∷ []) ∷ []) [] ++ flat_map local_group ms) → Each Q (map (member_entries p) (cond b (m ∷ keep local ms) (keep local ms)))
      go true ih a = (subst Q (one-entries m) a.0, ih a.1)
      go false ih a = ih a

  each_local : (ms : List Member) → Each Q (map (member_entries p) (keep local ms))
      → AllGroups (λ ms. Q (entries p ms)) (flat_map local_group ms)
  unfolding flat_map keep local_group
  each_local [] a = tt
  each_local (m ∷ ms) a = go (local m) (λ b. each_local ms b) a
    where
      go : (b : Bool) → (Each Q (map (member_entries p) (keep local ms)) → AllGroups (λ ms. Q (entries p ms)) (flat_map local_group ms))
          → Each Q (map (member_entries p) (cond b (m ∷ keep local ms) (keep local ms))) → AllGroups (λ ms. Q (entries p ms)) (cond b ((m ∷ []) ∷ []) [] ++ flat_map local_group ms)
      go true ih a = (subst Q (sym (one-entries m)) a.0, ih a.1)
      go false ih a = ih a

-- the bus of a lookup is the bus of its name
keep_on : (m : Member) (all : List Member) → local m ≡ false → keep (same_bus m) all ≡ keep (on m.lookup.name) all
unfolding same_bus
keep_on m all e =
    keep_cong (same_bus m) (on m.lookup.name) (λ n. ap (λ (b : Bool). not b && (not (local n) && same_list m.lookup.name n.lookup.name)) e) all

-- where none of them is on that bus, the lookup does not appear among them
appears_not : (m : Member) (xs : List Member) → local m ≡ false → keep (on m.lookup.name) xs ≡ [] → appears m xs ≡ false
unfolding appears keep same_bus
appears_not m [] e k = refl
appears_not m (x ∷ xs) e k = go (on m.lookup.name x) refl (appears_not m xs e) k
  where
    first : same_bus m x ≡ on m.lookup.name x
    first = unfold same_bus in ap (λ (b : Bool). not b && (not (local x) && same_list m.lookup.name x.lookup.name)) e

    go : (b : Bool) → on m.lookup.name x ≡ b → (keep (on m.lookup.name) xs ≡ [] → appears m xs ≡ false)
        → cond b (x ∷ keep (on m.lookup.name) xs) (keep (on m.lookup.name) xs) ≡ [] → (same_bus m x || appears m xs) ≡ false
    go true q ih n = cc
    go false q ih n = ap₂ (λ (a b : Bool). a || b) (first ∙ q) (ih n)

module _ (P : List Member → Type 0) (all : List Member) where
  -- a bus that one of them is on has its group
  bus_found : (bus : List ℕ) (before ms : List Member) → keep (on bus) before ≡ [] → AllGroups P (bus_groups all before ms)
      → (keep (on bus) ms ≡ []) ⊎ P (keep (on bus) all)
  unfolding keep bus_groups
  bus_found bus before [] k a = inl refl
  bus_found bus before (m ∷ ms) k a =
      let r = all_append P (bus_group all before m) (bus_groups all (before ++ (m ∷ [])) ms) a in
      go (on bus m) refl (λ q. bus_found bus (before ++ (m ∷ [])) ms q r.1) r.0
    where
      here : (m : Member) → on bus m ≡ true → (local m ≡ false) × (bus ≡ m.lookup.name)
      here m e = split (local m) refl e
        where
          split : (b : Bool) → local m ≡ b → (not b && same_list bus m.lookup.name) ≡ true → (local m ≡ false) × (bus ≡ m.lookup.name)
          split true q n = absurd (true≢false (sym n))
          split false q n = (q, same_list-eq bus m.lookup.name n)

      own : (local m ≡ false) × (bus ≡ m.lookup.name) → AllGroups P (bus_group all before m) → P (keep (on bus) all)
      own (e, n) g =
          let s : (local m || appears m before) ≡ false = ap₂ (λ (a b : Bool). a || b) e (appears_not m before e (subst (λ (b : List ℕ). keep (on b) before ≡ []) n k)) in
          subst P (keep_on m all e ∙ ap (λ (b : List ℕ). keep (on b) all) (sym n)) (group_of s g)
        where
          group_of : (local m || appears m before) ≡ false → AllGroups P (bus_group all before m) → P (keep (same_bus m) all)
          group_of s g = unfold bus_group in (subst (λ (b : Bool). AllGroups P (cond b [] (keep (same_bus m) all ∷ []))) s g).0

      go : (b : Bool) → on bus m ≡ b → (keep (on bus) (before ++ (m ∷ [])) ≡ [] → (keep (on bus) ms ≡ []) ⊎ P (keep (on bus) all))
          → AllGroups P (bus_group all before m)
          → (cond b (m ∷ keep (on bus) ms) (keep (on bus) ms) ≡ []) ⊎ P (keep (on bus) all)
      go true q ih g = inr (own (here m q) g)
      go false q ih g =
          ih (keep_append (on bus) before (m ∷ []) ∙ ap₂ (λ (x y : List Member). x ++ y) k (unfold keep in ap (λ (b : Bool). cond b (m ∷ []) []) q))

  -- every group is that of some bus
  found_buses : (before ms : List Member) → ((bus : List ℕ) → P (keep (on bus) all)) → AllGroups P (bus_groups all before ms)
  unfolding bus_groups bus_group
  found_buses before [] h = tt
  found_buses before (m ∷ ms) h =
      append-all P (cond (local m || appears m before) [] (keep (same_bus m) all ∷ [])) (bus_groups all (before ++ (m ∷ [])) ms) (go (local m) (appears m before) refl) (found_buses (before ++ (m ∷ [])) ms h)
    where
      go : (a b : Bool) → local m ≡ a → AllGroups P (cond (a || b) [] (keep (same_bus m) all ∷ []))
      go true b e = tt
      go false true e = tt
      go false false e = (subst P (sym (keep_on m all e)) (h m.lookup.name), tt)

-- All groups, by locals and buses: what the entries of each have.
pub record Level (p : ℕ) (Q : List Entry → Type 0) (ms : List Member) : Type 0 where
  pub locals : Each Q (map (member_entries p) (keep local ms))
  pub buses : (bus : List ℕ) → Q (entries p (keep (on bus) ms))

module _ (p : ℕ) (Q : List Entry → Type 0) (empty : Q []) where
  none_has : (ms : List Member) → ms ≡ [] → Q (entries p ms)
  unfolding entries flat_map
  none_has ms e = subst (λ (xs : List Member). Q (entries p xs)) (sym e) empty

  pub groups_level : (ms : List Member) → AllGroups (λ ms. Q (entries p ms)) (groups ms) → Level p Q ms
  unfolding groups
  groups_level ms a =
      let r = all_append (λ ms. Q (entries p ms)) (flat_map local_group ms) (bus_groups ms [] ms) a in
      record { locals = locals-each p Q ms r.0; buses = λ bus. either bus (bus_found (λ ms. Q (entries p ms)) ms bus [] ms (unfold keep in refl) r.1) }
    where
      either : (bus : List ℕ) → (keep (on bus) ms ≡ []) ⊎ Q (entries p (keep (on bus) ms)) → Q (entries p (keep (on bus) ms))
      either bus (inl e) = none_has (keep (on bus) ms) e
      either bus (inr b) = b

  pub level_groups : (ms : List Member) → Level p Q ms → AllGroups (λ ms. Q (entries p ms)) (groups ms)
  unfolding groups
  level_groups ms h =
      append-all (λ ms. Q (entries p ms)) (flat_map local_group ms) (bus_groups ms [] ms) (each_local p Q ms h.locals) (found_buses (λ ms. Q (entries p ms)) ms [] ms h.buses)
