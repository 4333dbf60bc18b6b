-- The groups by number are the groups.
use Rattle.std.specs.Prelude.{◌≡◌, Bool, ◌&&◌, ◌||◌}
use Rattle.std.proofs.Math.Path.{refl, sym, ap, ap₂}
use Rattle.std.proofs.Common.{◌∙◌, ⊎_elim, zero-add, eq-or-lt_of_le, le_of_suc-le-suc, arith}
use Rattle.std.proofs.Math.Bool.{true, false, cond, not, or-false}
use mathlib.Core.List.{List, [], ◌∷◌, ◌++◌, append-nil, append_assoc, flat_map}
use Prim.Native.Nat.{ℕ, zero, suc, ◌+◌, ◌<◌, ◌≤◌}
use Rattle.std.proofs.Math.Dec.{eqb}
use borrow.Author.Tests.{eqb-true, eqb-false, ne_eqb}
use Rattle.lists.specs.Same.{same_list}
use Rattle.lists.specs.Count.{every, joined}
use Rattle.lists.specs.Tab.{tab}
use Rattle.lookup.specs.Lookups.{lookup_count, on_bus, lookup_at}
use Rattle.lookup.specs.Buses.{name_at}
use Rattle.lookup_buses.specs.Order.{keep}
use Rattle.lookup_buses.specs.laws.Order.{keep_append}
use Rattle.balance.specs.Tables.{TableLists, tables_of}
use Rattle.balance.specs.Groups.{Member, members, local, same_bus, appears, local_group, bus_group, bus_groups, groups}
use Rattle.balance.specs.Members.{member_at}
use Rattle.balance.proofs.laws.Lists.{flat-tab}
use Rattle.balance.proofs.laws.Members.{Fitted, members_are}
use Rattle.balance_groups.specs.inner.ByNumber.{kept, same_group, first_of_bus, starts_group, group_at, groups_to}

module _ {A : Type 0} where
  -- tests that agree on the first n
  pub kept_same : (t u : ℕ → Bool) (f : ℕ → A) (n : ℕ) → ((k : ℕ) → k < n → t k ≡ u k) → kept t f n ≡ kept u f n
  unfolding kept
  kept_same t u f zero h = refl
  kept_same t u f (suc n) h =
      ap₂ (λ (l : List A) (b : Bool). l ++ cond b (f n ∷ []) []) (kept_same t u f n (λ k g. h k (omega arith))) (h n (omega arith))

  -- a test of the elements
  pub kept-keep : (t : A → Bool) (f : ℕ → A) (n : ℕ) → kept (λ k. t (f k)) f n ≡ keep t (tab f 0 n)
  unfolding kept tab
  kept-keep t f zero = unfold keep in refl
  kept-keep t f (suc n) =
      ap₂ (λ (l : List A) (i : ℕ). l ++ cond (t (f i)) (f i ∷ []) []) (kept-keep t f n) (sym (zero-add n))
      ∙ ap (λ (l : List A). keep t (tab f 0 n) ++ l) (one (f (0 + n)))
      ∙ sym (keep_append t (tab f 0 n) (f (0 + n) ∷ []))
    where
      one : (x : A) → cond (t x) (x ∷ []) [] ≡ keep t (x ∷ [])
      one x = unfold keep in refl

  -- no test holds
  pub kept_none : (t : ℕ → Bool) (f : ℕ → A) (n : ℕ) → ((k : ℕ) → k < n → t k ≡ false) → kept t f n ≡ []
  unfolding kept
  kept_none t f zero h = refl
  kept_none t f (suc n) h = ap₂ (λ (l : List A) (b : Bool). l ++ cond b (f n ∷ []) []) (kept_none t f n (λ k g. h k (omega arith))) (h n (omega arith))

  -- one number
  pub kept-one : (f : ℕ → A) (m n : ℕ) → m < n → kept (eqb m) f n ≡ f m ∷ []
  unfolding kept
  kept-one f m zero h = absurd (omega arith)
  kept-one f m (suc n) h = go (eqb m n) refl (λ g. kept-one f m n g)
    where
      go : (b : Bool) → eqb m n ≡ b → (m < n → kept (eqb m) f n ≡ f m ∷ []) → kept (eqb m) f n ++ cond b (f n ∷ []) [] ≡ f m ∷ []
      go true e ih =
          let q : m ≡ n = eqb-true m n e in
          ap₂ (λ (l : List A) (i : ℕ). l ++ (f i ∷ [])) (kept_none (eqb m) f n (λ k g. ne_eqb m k (λ z. absurd (omega arith)))) (sym q)
      go false e ih =
          let q : m ≡ n → ⊥ = eqb-false m n e in
          append-nil (kept (eqb m) f n) ∙ ih (⊎_elim {C = m < n} (λ z. absurd (q z)) (λ k. k) (eq-or-lt_of_le (le_of_suc-le-suc h)))

module _ (all : List Member) where
  bus-append : (before xs ys : List Member) → bus_groups all before (xs ++ ys) ≡ bus_groups all before xs ++ bus_groups all (before ++ xs) ys
  unfolding bus_groups
  bus-append before [] ys = ap (λ (b : List Member). bus_groups all b ys) (sym (append-nil before))
  bus-append before (x ∷ xs) ys =
      ap (λ (l : List (List Member)). bus_group all before x ++ l) (bus-append (before ++ (x ∷ [])) xs ys)
      ∙ ap (λ (b : List Member). bus_group all before x ++ (bus_groups all (before ++ (x ∷ [])) xs ++ bus_groups all b ys)) (append_assoc before (x ∷ []) xs)
      ∙ sym (append_assoc (bus_group all before x) (bus_groups all (before ++ (x ∷ [])) xs) (bus_groups all (before ++ (x ∷ xs)) ys))

  bus-one : (before : List Member) (x : Member) → bus_groups all before (x ∷ []) ≡ bus_group all before x
  unfolding bus_groups
  bus-one before x = append-nil (bus_group all before x)

appears-append : (m : Member) (xs ys : List Member) → appears m (xs ++ ys) ≡ (appears m xs || appears m ys)
unfolding appears
appears-append m [] ys = refl
appears-append m (x ∷ xs) ys = go (same_bus m x) (appears-append m xs ys)
  where
    go : (b : Bool) → appears m (xs ++ ys) ≡ (appears m xs || appears m ys) → (b || appears m (xs ++ ys)) ≡ ((b || appears m xs) || appears m ys)
    go true e = refl
    go false e = e

-- one of the first n, or none of them not
appears-every : (m : Member) (f : ℕ → Member) (t : ℕ → Bool) (n : ℕ) → ((k : ℕ) → t k ≡ same_bus m (f k)) → appears m (tab f 0 n) ≡ not (every (λ k. not (t k)) n)
unfolding tab every
appears-every m f t zero h = unfold appears in refl
appears-every m f t (suc n) h =
    appears-append m (tab f 0 n) (f (0 + n) ∷ [])
    ∙ ap₂ (λ (a b : Bool). a || b) (appears-every m f t n h) (one (f (0 + n)) ∙ ap (λ (i : ℕ). same_bus m (f i)) (zero-add n) ∙ sym (h n))
    ∙ swap (every (λ k. not (t k)) n) (t n)
  where
    one : (x : Member) → appears m (x ∷ []) ≡ same_bus m x
    one x = unfold appears in or-false (same_bus m x)

    swap : (a b : Bool) → (not a || b) ≡ not (a && not b)
    swap true true = refl
    swap true false = refl
    swap false b = refl

module _ (l : TableLists) where
  abbrev L : List ℕ
  L = l.lookups.lookups

  abbrev N : List ℕ
  N = l.lookups.names

  abbrev F : ℕ → Member
  F = member_at l

  abbrev count : ℕ
  count = lookup_count L

  local_is : (m : ℕ) → local (F m) ≡ not (on_bus L m)
  unfolding member_at lookup_at
  local_is m = refl

  -- on the bus of a lookup that is on one
  same_group-bus : (m k : ℕ) → on_bus L m ≡ true → same_group L N m k ≡ same_bus (F m) (F k)
  unfolding same_group same_bus member_at lookup_at name_at
  same_group-bus m k e = go (on_bus L m) (on_bus L k) e
    where
      go : (a b : Bool) → a ≡ true → cond a (b && same_list (name_at L N m) (name_at L N k)) (eqb m k) ≡ (not (not a) && (not (not b) && same_list (name_at L N m) (name_at L N k)))
      go true true z = refl
      go true false z = refl
      go false b z = cc

  same_group-local : (m k : ℕ) → on_bus L m ≡ false → same_group L N m k ≡ eqb m k
  unfolding same_group
  same_group-local m k e = rw e

  group-local : (m : ℕ) → m < count → on_bus L m ≡ false → group_at l m ≡ F m ∷ []
  unfolding group_at
  group-local m h e = kept_same (same_group L N m) (eqb m) F count (λ k g. same_group-local m k e) ∙ kept-one F m count h

  group-bus : (m : ℕ) → on_bus L m ≡ true → group_at l m ≡ keep (same_bus (F m)) (tab F 0 count)
  unfolding group_at
  group-bus m e = kept_same (same_group L N m) (λ k. same_bus (F m) (F k)) F count (λ k g. same_group-bus m k e) ∙ kept-keep (same_bus (F m)) F count

  -- the locals
  local-one : (m : ℕ) → m < count → local_group (F m) ≡ cond (not (on_bus L m)) (group_at l m ∷ []) []
  unfolding local_group
  local-one m h = go (on_bus L m) refl
    where
      go : (b : Bool) → on_bus L m ≡ b → cond (local (F m)) ((F m ∷ []) ∷ []) [] ≡ cond (not b) (group_at l m ∷ []) []
      go true e = ap (λ (c : Bool). cond c ((F m ∷ []) ∷ []) []) (local_is m ∙ ap not e)
      go false e = ap₂ (λ (c : Bool) (g : List Member). cond c (g ∷ []) []) (local_is m ∙ ap not e) (sym (group-local m h e))

  locals_to : (n : ℕ) → n ≤ count → joined (λ m. local_group (F m)) 0 n ≡ groups_to l false n
  unfolding joined groups_to kept starts_group
  locals_to zero h = refl
  locals_to (suc n) h =
      ap₂ (λ (a b : List (List Member)). a ++ b) (locals_to n (omega arith)) (ap (λ (m : ℕ). local_group (F m)) (zero-add n) ∙ local-one n (omega arith))

  -- the buses
  bus-first : (m : ℕ) → bus_group (tab F 0 count) (tab F 0 m) (F m) ≡ cond (on_bus L m && first_of_bus L N m) (group_at l m ∷ []) []
  unfolding bus_group first_of_bus
  bus-first m = go (on_bus L m) refl
    where
      flip : (x : Bool) (g : List Member) → cond (false || not x) [] (g ∷ []) ≡ cond (true && x) (g ∷ []) []
      flip true g = refl
      flip false g = refl

      go : (b : Bool) → on_bus L m ≡ b
          → cond (local (F m) || appears (F m) (tab F 0 m)) [] (keep (same_bus (F m)) (tab F 0 count) ∷ []) ≡ cond (b && every (λ k. not (same_group L N m k)) m) (group_at l m ∷ []) []
      go true e =
          ap₂ (λ (c d : Bool). cond (c || d) [] (keep (same_bus (F m)) (tab F 0 count) ∷ [])) (local_is m ∙ ap not e) (appears-every (F m) F (same_group L N m) m (λ k. same_group-bus m k e))
          ∙ flip (every (λ k. not (same_group L N m k)) m) (keep (same_bus (F m)) (tab F 0 count))
          ∙ ap (λ (g : List Member). cond (true && every (λ k. not (same_group L N m k)) m) (g ∷ []) []) (sym (group-bus m e))
      go false e = ap (λ (c : Bool). cond (c || appears (F m) (tab F 0 m)) [] (keep (same_bus (F m)) (tab F 0 count) ∷ [])) (local_is m ∙ ap not e)

  buses_to : (n : ℕ) → n ≤ count → bus_groups (tab F 0 count) [] (tab F 0 n) ≡ groups_to l true n
  unfolding tab groups_to kept starts_group
  buses_to zero h = unfold bus_groups in refl
  buses_to (suc n) h =
      bus-append (tab F 0 count) [] (tab F 0 n) (F (0 + n) ∷ [])
      ∙ ap₂ (λ (a b : List (List Member)). a ++ b) (buses_to n (omega arith))
      (bus-one (tab F 0 count) (tab F 0 n) (F (0 + n)) ∙ ap (λ (m : ℕ). bus_group (tab F 0 count) (tab F 0 n) (F m)) (zero-add n) ∙ bus-first n)

  pub groups_are : Fitted l → groups (members (tables_of l)) ≡ groups_to l false count ++ groups_to l true count
  unfolding groups
  groups_are f =
      ap (λ (ms : List Member). flat_map local_group ms ++ bus_groups ms [] ms) (members_are l f)
      ∙ ap₂ (λ (a b : List (List Member)). a ++ b) (flat-tab local_group F count ∙ locals_to count (omega arith)) (buses_to count (omega arith))
