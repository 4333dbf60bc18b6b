-- The turns of the loops over all lookups, over plain lists and numbers.
use Rattle.std.specs.Prelude as Std
use Rattle.std.specs.Prelude.{Some, None}
use mathlib.Core.Path.{◌≡◌, refl, sym, ap, ap₂, ◌∙◌}
use mathlib.Core.Bool.{Bool, true, false, cond, not, ◌&&◌}
use mathlib.Core.List.{List, [], ◌∷◌, ◌++◌, flat_map}
use Prim.Native.Nat.{ℕ, zero, suc, ◌+◌, ◌*◌, ◌-◌, ◌<◌, ◌≤◌, zero-le}
use native.Mathlib.Nat.{add-zero}
use native.Mathlib.Numerals.{add-one}
use native.Mathlib.Omega.{arith}
use lib.Dec.{eqb}
use lib.ListN.{length, take, drop}
use borrow.Author.Tests.{not-true, not-false}
use Rattle.lists.specs.Same.{same_list}
use Rattle.lists.specs.Count.{every, total}
use Rattle.lists.specs.Fold.{fold}
use Rattle.lists.specs.laws.Count.{total_in, every_one, every_stop}
use Rattle.lists.specs.laws.Tab.{flat_append}
use Rattle.lookup.specs.Lookups.{lookup_count, on_bus, name_length, name_start}
use Rattle.logup.specs.Ledger.{Entry}
use Rattle.balance_slots.specs.inner.Work.{Work, work, step}
use Rattle.balance_slots.proofs.laws.Room.{Roomy, fold_roomy, fold-full, fold_more}
use Rattle.lookup.specs.Buses.{name_at}
use Rattle.balance.specs.Tables.{TableLists}
use Rattle.balance.specs.Entries.{member_entries, entries}
use Rattle.balance.specs.Members.{member_at}
use Rattle.balance.specs.inner.Requires.{TablesTested}
use Rattle.balance.proofs.laws.Lists.{flat-one}
use Rattle.balance_groups.specs.inner.ByNumber.{GroupNames, kept, same_group, first_of_bus, starts_group, group_at}
use Rattle.balance_slots.specs.Workspace.{slot_words}

-- a name lies in the list of names
pub name_in : {a w : ℕ} (lookups names : List ℕ) (i : ℕ) → GroupNames lookups names → i < lookup_count lookups → a ≡ name_start lookups i → w ≡ name_length lookups i → a + w ≤ length names
unfolding name_start
name_in lookups names i n h ea ew = omega (arith, n.room, total_in (name_length lookups) i (lookup_count lookups) h)

pub name_is : {a w : ℕ} (lookups names : List ℕ) (i : ℕ) → a ≡ name_start lookups i → w ≡ name_length lookups i → take ((a + w) - a) (drop a names) ≡ name_at lookups names i
unfolding name_at
name_is {a} {w} lookups names i ea ew = let z : (a + w) - a ≡ w = omega arith in ap₂ (λ (x y : ℕ). take x (drop y names)) (z ∙ ew) ea

-- the three ways of `same_group`
module _ (lookups names : List ℕ) (m k : ℕ) where
  pub same_group-local : {b : Bool} → b ≡ on_bus lookups m → not b ≡ true → eqb m k ≡ same_group lookups names m k
  unfolding same_group
  same_group-local {b} e t = rw (sym e ∙ not-true b t)

  pub same_group_not : {b d : Bool} → b ≡ on_bus lookups m → not b ≡ false → d ≡ on_bus lookups k → not d ≡ true → false ≡ same_group lookups names m k
  unfolding same_group
  same_group_not {b} {d} e t f s = rw (sym e ∙ not-false b t, sym f ∙ not-true d s)

  pub same_group-named : {b d r : Bool} {x y : List ℕ} → b ≡ on_bus lookups m → not b ≡ false → d ≡ on_bus lookups k → not d ≡ false → x ≡ name_at lookups names m → y ≡ name_at lookups names k → r ≡ same_list x y → r ≡ same_group lookups names m k
  unfolding same_group
  same_group-named {b} {d} {r} e t f s ex ey er = rw (sym e ∙ not-false b t, sym f ∙ not-false d s) (er ∙ ap₂ same_list ex ey)

-- `starts_group`
module _ (lookups names : List ℕ) (m : ℕ) where
  pub starts_group-bus : {s b l : Bool} → s ≡ true → b ≡ on_bus lookups m → l ≡ first_of_bus lookups names m → (b && l) ≡ starts_group lookups names s m
  unfolding starts_group
  starts_group-bus z e f = rw (z, e, f)

  pub starts_group-local : {s b : Bool} → s ≡ false → b ≡ on_bus lookups m → not b ≡ starts_group lookups names s m
  unfolding starts_group
  starts_group-local z e = rw (z, e)

-- a lookup that is not in the group, and one that is
module _ (p : ℕ) (l : TableLists) (m k : ℕ) where
  other_lookup : {b : Bool} (w : Work) → b ≡ same_group l.lookups.lookups l.lookups.names m k → b ≡ false
      → w ≡ fold (step p) w (cond (same_group l.lookups.lookups l.lookups.names m k) (member_entries p (member_at l k)) [])
  unfolding fold
  other_lookup w e t = rw (sym e ∙ t)

  lookup_of-group : {b : Bool} {v : Work} (w : Work) → b ≡ same_group l.lookups.lookups l.lookups.names m k → b ≡ true → v ≡ fold (step p) w (member_entries p (member_at l k))
      → v ≡ fold (step p) w (cond (same_group l.lookups.lookups l.lookups.names m k) (member_entries p (member_at l k)) [])
  lookup_of-group w e t q = rw (sym e ∙ t) q

-- `first_of_bus`: none of the first k is in the group, and the name of lookup k begins at `at`
pub record FirstOfBusLoop (lookups names : List ℕ) (m k at : ℕ) : Type 0 where
  pub is : every (λ j. not (same_group lookups names m j)) k ≡ true
  pub starts : at ≡ name_start lookups k
  pub small : at ≤ k * 4294967295
  pub within : k ≤ m

pub first_of_bus_loop_begins : {lookups names : List ℕ} {m : ℕ} → FirstOfBusLoop lookups names m 0 0
unfolding every name_start total
first_of_bus_loop_begins = record { is = refl; starts = refl; small = zero-le; within = zero-le }

start-next : (lookups : List ℕ) (k : ℕ) → name_start lookups (k + 1) ≡ name_start lookups k + name_length lookups k
unfolding name_start total
start-next lookups k = ap (name_start lookups) (add-one k)

pub first_of_bus_loop_turn : {lookups names : List ℕ} {m k at w : ℕ} {j : Bool} → FirstOfBusLoop lookups names m k at → k < m → j ≡ same_group lookups names m k → j ≡ false → w ≡ name_length lookups k → w ≤ 4294967295
    → FirstOfBusLoop lookups names m (k + 1) (at + w)
first_of_bus_loop_turn {lookups} {names} {m} {k} {at} {w} {j} r h ej t ew s =
    record {
      is = every_one (λ j. not (same_group lookups names m j)) k ∙ ap₂ (λ (a b : Bool). a && not b) r.is (sym ej ∙ t);
      starts = ap₂ ◌+◌ r.starts ew ∙ sym (start-next lookups k);
      small = omega (arith, r.small);
      within = omega arith;
    }

pub first_of_bus_loop_stops : {lookups names : List ℕ} {m k at : ℕ} {j : Bool} → FirstOfBusLoop lookups names m k at → k < m → j ≡ same_group lookups names m k → j ≡ true → false ≡ first_of_bus lookups names m
unfolding first_of_bus
first_of_bus_loop_stops {lookups} {names} {m} {k} r h ej t = sym (every_stop (λ j. not (same_group lookups names m j)) m k h (ap not (sym ej ∙ t)))

pub first_of_bus_loop_ends : {lookups names : List ℕ} {m k at : ℕ} → FirstOfBusLoop lookups names m k at → m ≤ k → true ≡ first_of_bus lookups names m
unfolding first_of_bus
first_of_bus_loop_ends {lookups} {names} {m} {k} r h = let e : k ≡ m = omega (arith, r.within) in sym r.is ∙ ap (every (λ j. not (same_group lookups names m j))) e

-- the entries of the first k lookups, as far as they are in the group of lookup m
abbrev upto : ℕ → TableLists → ℕ → ℕ → List Entry
upto p l m k = entries p (kept (same_group l.lookups.lookups l.lookups.names m) (member_at l) k)

upto_next : (p : ℕ) (l : TableLists) (m k : ℕ) → upto p l m (k + 1) ≡ upto p l m k ++ cond (same_group l.lookups.lookups l.lookups.names m k) (member_entries p (member_at l k)) []
unfolding entries kept
upto_next p l m k =
    ap (upto p l m) (add-one k)
    ∙ flat_append (member_entries p) (kept (same_group l.lookups.lookups l.lookups.names m) (member_at l) k) (cond (same_group l.lookups.lookups l.lookups.names m k) (member_at l k ∷ []) [])
    ∙ ap (λ (x : List Entry). upto p l m k ++ x) (one (same_group l.lookups.lookups l.lookups.names m k))
  where
    one : (b : Bool) → flat_map (member_entries p) (cond b (member_at l k ∷ []) []) ≡ cond b (member_entries p (member_at l k)) []
    one true = flat-one (member_entries p) (member_at l k)
    one false = unfold flat_map in refl

-- after a slot was missing, the lookups that are left add nothing
upto_stopped : (p : ℕ) (l : TableLists) (m : ℕ) (w v : Work) (k d : ℕ) → v.full ≡ true → v ≡ fold (step p) w (upto p l m k) → v ≡ fold (step p) w (upto p l m (k + d))
upto_stopped p l m w v k zero f e = rw (add-zero k) e
upto_stopped p l m w v k (suc d) f e =
    let es : List Entry = cond (same_group l.lookups.lookups l.lookups.names m (k + d)) (member_entries p (member_at l (k + d))) [] in
    let z : k + suc d ≡ k + d + 1 = omega arith in
    sym (fold-full p es v f) ∙ ap (λ (x : Work). fold (step p) x es) (upto_stopped p l m w v k d f e) ∙ sym (fold_more p w (upto p l m (k + d)) es)
    ∙ ap (fold (step p) w) (sym (upto_next p l m (k + d)) ∙ ap (upto p l m) (sym z))

pub record GroupLoop (p : ℕ) (l : TableLists) (m : ℕ) (w : Work) (k at : ℕ) (workspace : List ℕ) (v : ℕ) : Type 0 where
  pub is : work workspace (Some v) ≡ fold (step p) w (upto p l m k)
  pub starts : at ≡ name_start l.lookups.lookups k
  pub small : at ≤ k * 4294967295
  pub within : k ≤ lookup_count l.lookups.lookups
  pub few : lookup_count l.lookups.lookups ≤ 1024
  pub long : length workspace ≡ length w.words
  pub room : slot_words * v ≤ length workspace

module _ {p : ℕ} {l : TableLists} {m : ℕ} where
  pub group_loop_begins : {workspace : List ℕ} {used : ℕ} → TablesTested p l → slot_words * used ≤ length workspace → GroupLoop p l m (work workspace (Some used)) 0 0 workspace used
  unfolding fold entries kept flat_map name_start total
  group_loop_begins w h = record { is = refl; starts = refl; small = zero-le; within = zero-le; few = w.few; long = refl; room = h }

  group_loop_turn : {w : Work} {k at n : ℕ} {workspace workspace' : List ℕ} {v v' : ℕ} → GroupLoop p l m w k at workspace v → k < lookup_count l.lookups.lookups
      → work workspace' (Some v') ≡ fold (step p) (work workspace (Some v)) (cond (same_group l.lookups.lookups l.lookups.names m k) (member_entries p (member_at l k)) [])
      → n ≡ name_length l.lookups.lookups k → n ≤ 4294967295 → GroupLoop p l m w (k + 1) (at + n) workspace' v'
  group_loop_turn {w} {k} {at} {n} {workspace} {workspace'} {v} {v'} r h e en s =
      let es : List Entry = cond (same_group l.lookups.lookups l.lookups.names m k) (member_entries p (member_at l k)) [] in
      let g : Roomy (length w.words) (work workspace' (Some v')) = rw e (fold_roomy (length w.words) p es (work workspace (Some v)) (record { long = r.long; room = rw (sym r.long) r.room })) in
      record {
        is = e ∙ ap (λ (x : Work). fold (step p) x es) r.is ∙ sym (fold_more p w (upto p l m k) es) ∙ ap (fold (step p) w) (sym (upto_next p l m k));
        starts = ap₂ ◌+◌ r.starts en ∙ sym (start-next l.lookups.lookups k);
        small = omega (arith, r.small);
        within = omega arith;
        few = r.few;
        long = g.long;
        room = omega (arith, g.room, g.long);
      }

  -- a turn at a lookup of the group, and at another
  pub group_loop_one : {w : Work} {k at n : ℕ} {workspace workspace₁ workspace' : List ℕ} {v v₁ v' : ℕ} {x : Std.Option ℕ} {b : Bool} → GroupLoop p l m w k at workspace v → k < lookup_count l.lookups.lookups
      → b ≡ same_group l.lookups.lookups l.lookups.names m k → b ≡ true → work workspace₁ x ≡ fold (step p) (work workspace (Some v)) (member_entries p (member_at l k)) → x ≡ Some v₁
      → workspace' ≡ workspace₁ → v' ≡ v₁ → n ≡ name_length l.lookups.lookups k → n ≤ 4294967295 → GroupLoop p l m w (k + 1) (at + n) workspace' v'
  group_loop_one {w} {k} {at} {n} {workspace} {workspace₁} r h e t q z ew ev en s = rw (ew, ev) (group_loop_turn r h (lookup_of-group p l m k _ e t (ap (work workspace₁) (sym z) ∙ q)) en s)

  pub group_loop_none : {w : Work} {k at n : ℕ} {workspace workspace' : List ℕ} {v v' : ℕ} {b : Bool} → GroupLoop p l m w k at workspace v → k < lookup_count l.lookups.lookups
      → b ≡ same_group l.lookups.lookups l.lookups.names m k → b ≡ false → workspace' ≡ workspace → v' ≡ v
      → n ≡ name_length l.lookups.lookups k → n ≤ 4294967295 → GroupLoop p l m w (k + 1) (at + n) workspace' v'
  group_loop_none {w} {k} {at} {n} {workspace} r h e t ew ev en s = rw (ew, ev) (group_loop_turn r h (other_lookup p l m k _ e t) en s)

  -- a slot was missing
  pub group_loop_stops : {w : Work} {k at : ℕ} {workspace workspace₁ : List ℕ} {v : ℕ} {x : Std.Option ℕ} {b : Bool} → GroupLoop p l m w k at workspace v → k < lookup_count l.lookups.lookups
      → b ≡ same_group l.lookups.lookups l.lookups.names m k → b ≡ true → work workspace₁ x ≡ fold (step p) (work workspace (Some v)) (member_entries p (member_at l k)) → x ≡ None
      → work workspace₁ None ≡ fold (step p) w (entries p (group_at l m))
  unfolding group_at
  group_loop_stops {w} {k} {workspace = workspace} {workspace₁} r h e t q z =
      let es : List Entry = cond (same_group l.lookups.lookups l.lookups.names m k) (member_entries p (member_at l k)) [] in
      let y : k + 1 + (lookup_count l.lookups.lookups - (k + 1)) ≡ lookup_count l.lookups.lookups = omega arith in
      upto_stopped p l m w (work workspace₁ None) (k + 1) (lookup_count l.lookups.lookups - (k + 1)) refl
      (lookup_of-group p l m k _ e t (ap (work workspace₁) (sym z) ∙ q) ∙ ap (λ (x : Work). fold (step p) x es) r.is ∙ sym (fold_more p w (upto p l m k) es) ∙ ap (fold (step p) w) (sym (upto_next p l m k)))
      ∙ ap (λ (n : ℕ). fold (step p) w (upto p l m n)) y

  pub group_loop_ends : {w : Work} {k at : ℕ} {workspace : List ℕ} {v : ℕ} → GroupLoop p l m w k at workspace v → lookup_count l.lookups.lookups ≤ k → work workspace (Some v) ≡ fold (step p) w (entries p (group_at l m))
  unfolding group_at
  group_loop_ends {w} {k} r h = let e : k ≡ lookup_count l.lookups.lookups = omega (arith, r.within) in r.is ∙ ap (λ (n : ℕ). fold (step p) w (upto p l m n)) e
