-- The turns of the visit of all groups, over plain lists and numbers.
use Rattle.std.specs.Prelude.{Result, Err, Ok}
use Rattle.std.specs.Result.{IfOk}
use Rattle.std.proofs.Common.{subst, ⊎_elim, eq-or-lt_of_le}
use mathlib.Core.Path.{◌≡◌, refl, sym, ap, ap₂, ◌∙◌}
use mathlib.Core.Bool.{Bool, true, false, cond}
use mathlib.Core.Option.{Option, some}
use mathlib.Core.List.{List, [], ◌∷◌, ◌++◌}
use Prim.Native.Nat.{ℕ, zero, suc, ◌+◌, ◌<◌, ◌≤◌, zero-le}
use native.Mathlib.Numerals.{add-one}
use native.Mathlib.Omega.{arith}
use lib.ListN.{length, replicate}
use Rattle.lists.specs.Fold.{fold}
use Rattle.lists.specs.laws.Fold.{fold-append}
use Rattle.expression.specs.Refusal.{refusal}
use Rattle.expression.specs.Refusal.{Verdict}
use Rattle.expression.specs.declared.refusal.Refusal.{Refusal}
use Rattle.lookup.specs.Lookups.{lookup_count}
use Rattle.balance_slots.specs.Slots.{slots}
use Rattle.balance.specs.Tables.{TableLists}
use Rattle.balance.specs.Groups.{Member}
use Rattle.balance.specs.Entries.{entries}
use Rattle.balance.specs.Balance.{Visited, visited, visit, unvisited}
use Rattle.balance.specs.inner.Requires.{TablesTested}
use Rattle.balance_groups.specs.inner.Visits.{at_group, visited_of, group_visited}
use Rattle.balance_groups.specs.declared.check.GroupRefused.{GroupRefused}
use Rattle.balance_groups.specs.inner.ByNumber.{kept, starts_group, group_at, groups_to}

abbrev pub with_refusal : Option Refusal → List ℕ → ℕ → Visited
with_refusal o workspace g = record { refusal = o; workspace = workspace; group = g }

-- one group's verdict, carried on
pub group_passes : {v : Verdict} {u : Unit {0}} {x : Visited} {workspace : List ℕ} {n : ℕ} → v ≡ Ok u → record { refusal = refusal v; workspace = workspace; group = n } ≡ x → at_group workspace n ≡ x
group_passes {v} {u} {x} {workspace} {n} e h = sym (ap (λ (v : Verdict). with_refusal (refusal v) workspace n) e) ∙ h

pub group_stops : {v : Verdict} {f : Refusal} {x : Visited} {workspace : List ℕ} {n : ℕ} → v ≡ Err f → record { refusal = refusal v; workspace = workspace; group = n } ≡ x → with_refusal (some f) workspace n ≡ x
group_stops {v} {f} {x} {workspace} {n} e h = sym (ap (λ (v : Verdict). with_refusal (refusal v) workspace n) e) ∙ h

-- after a refusal
module _ (p room : ℕ) where
  refused-same : (v : Visited) (f : Refusal) (g : List Member) → v.refusal ≡ some f → visit p room v g ≡ v
  unfolding visit
  refused-same v f g e = ap (λ (o : Option Refusal). visited room o v (slots p (entries p g))) e

  after-refused : (v : Visited) (f : Refusal) (gs : List (List Member)) → v.refusal ≡ some f → fold (visit p room) v gs ≡ v
  unfolding fold
  after-refused v f [] e = refl
  after-refused v f (g ∷ gs) e = ap (λ (w : Visited). fold (visit p room) w gs) (refused-same v f g e) ∙ after-refused v f gs e

  one-more-refused : (l : TableLists) (buses : Bool) (start : Visited) (m n : ℕ) (f : Refusal) → (fold (visit p room) start (groups_to l buses m)).refusal ≡ some f
      → fold (visit p room) start (groups_to l buses n) ≡ fold (visit p room) start (groups_to l buses m)
      → fold (visit p room) start (groups_to l buses (suc n)) ≡ fold (visit p room) start (groups_to l buses m)
  unfolding groups_to kept
  one-more-refused l buses start m n f e ih =
      let gs : List (List Member) = cond (starts_group l.lookups.lookups l.lookups.names buses n) (group_at l n ∷ []) [] in
      fold-append (visit p room) start (groups_to l buses n) gs
      ∙ after-refused (fold (visit p room) start (groups_to l buses n)) f gs (ap (λ (v : Visited). v.refusal) ih ∙ e)
      ∙ ih

  later-refused : (l : TableLists) (buses : Bool) (start : Visited) (m n : ℕ) (f : Refusal) → m ≤ n → (fold (visit p room) start (groups_to l buses m)).refusal ≡ some f
      → fold (visit p room) start (groups_to l buses n) ≡ fold (visit p room) start (groups_to l buses m)
  later-refused l buses start m zero f h e = let k : 0 ≡ m = omega arith in ap (λ (k : ℕ). fold (visit p room) start (groups_to l buses k)) k
  later-refused l buses start m (suc n) f h e =
      ⊎_elim {C = fold (visit p room) start (groups_to l buses (suc n)) ≡ fold (visit p room) start (groups_to l buses m)}
      (λ q. ap (λ (k : ℕ). fold (visit p room) start (groups_to l buses k)) (sym q))
      (λ q. one-more-refused l buses start m n f e (later-refused l buses start m n f (omega (arith, q)) e)) (eq-or-lt_of_le h)

-- the visit of all
pub record KindLoop (p : ℕ) (l : TableLists) (buses : Bool) (start : Visited) (room top m : ℕ) (workspace : List ℕ) (g : ℕ) : Type 0 where
  pub is : at_group workspace g ≡ fold (visit p room) start (groups_to l buses m)
  pub within : m ≤ lookup_count l.lookups.lookups
  pub few : lookup_count l.lookups.lookups ≤ 1024
  pub long : length workspace ≡ room
  pub count : g ≤ top + m
  pub top_small : top ≤ 1024

module _ {p : ℕ} {l : TableLists} {buses : Bool} where
  pub kind_loop_begins : {workspace : List ℕ} {g : ℕ} → TablesTested p l → g ≤ 1024 → KindLoop p l buses (at_group workspace g) (length workspace) g 0 workspace g
  unfolding fold groups_to kept
  kind_loop_begins w h = record { is = refl; within = zero-le; few = w.few; long = refl; count = omega arith; top_small = h }

  -- the group that begins with lookup m
  one_more : {start : Visited} {room top m : ℕ} {workspace : List ℕ} {g : ℕ} → KindLoop p l buses start room top m workspace g → starts_group l.lookups.lookups l.lookups.names buses m ≡ true
      → group_visited p (length workspace) g (group_at l m) ≡ fold (visit p room) start (groups_to l buses (suc m))
  unfolding fold visit group_visited groups_to kept
  one_more {start} {room} {top} {m} {workspace} {g} r e =
      ap₂ (λ (k : ℕ) (x : Visited). visit p k x (group_at l m)) r.long r.is
      ∙ sym (fold-append (visit p room) start (groups_to l buses m) (group_at l m ∷ []) ∙ refl)
      ∙ ap (λ (b : Bool). fold (visit p room) start (groups_to l buses m ++ cond b (group_at l m ∷ []) [])) (sym e)

  -- a turn that visits a group, and one that does not
  pub kind_loop_one : {start : Visited} {room top m : ℕ} {workspace workspace₁ workspace' : List ℕ} {g n g' : ℕ} {r : Result ℕ GroupRefused} {b : Bool} → KindLoop p l buses start room top m workspace g → m < lookup_count l.lookups.lookups
      → b ≡ starts_group l.lookups.lookups l.lookups.names buses m → b ≡ true → visited_of workspace₁ r ≡ group_visited p (length workspace) g (group_at l m) → r ≡ Ok n
      → length workspace₁ ≡ length workspace → workspace' ≡ workspace₁ → g' ≡ n → KindLoop p l buses start room top (m + 1) workspace' g'
  unfolding group_visited
  kind_loop_one {start} {room} {top} {m} {workspace} {workspace₁} {workspace'} {g} {n} q h e t v er k ew eg =
      let s : at_group workspace₁ n ≡ group_visited p (length workspace) g (group_at l m) = sym (ap (visited_of workspace₁) er) ∙ v in
      let a : n ≡ suc g = ap (λ (x : Visited). x.group) s in
      rw (ew, eg) (record {
        is = s ∙ one_more q (sym e ∙ t) ∙ ap (λ (k : ℕ). fold (visit p room) start (groups_to l buses k)) (sym (add-one m));
        within = omega arith;
        few = q.few;
        long = k ∙ q.long;
        count = omega (arith, a, q.count);
        top_small = q.top_small;
      })

  pub kind_loop_none : {start : Visited} {room top m : ℕ} {workspace workspace' : List ℕ} {g g' : ℕ} {b : Bool} → KindLoop p l buses start room top m workspace g → m < lookup_count l.lookups.lookups
      → b ≡ starts_group l.lookups.lookups l.lookups.names buses m → b ≡ false → workspace' ≡ workspace → g' ≡ g → KindLoop p l buses start room top (m + 1) workspace' g'
  unfolding fold groups_to kept
  kind_loop_none {start} {room} {top} {m} {workspace} {workspace'} {g} q h e t ew eg =
      rw (ew, eg) (record {
        is =
            q.is ∙ sym (fold-append (visit p room) start (groups_to l buses m) [])
            ∙ ap (λ (b : Bool). fold (visit p room) start (groups_to l buses m ++ cond b (group_at l m ∷ []) [])) (sym t ∙ e)
            ∙ ap (λ (k : ℕ). fold (visit p room) start (groups_to l buses k)) (sym (add-one m));
        within = omega arith;
        few = q.few;
        long = q.long;
        count = omega (arith, q.count);
        top_small = q.top_small;
      })

  -- a group that is refused
  pub kind_loop_stops : {start : Visited} {room top m : ℕ} {workspace : List ℕ} (workspace' : List ℕ) {g : ℕ} {r r' : Result ℕ GroupRefused} {f : GroupRefused} {b : Bool} → KindLoop p l buses start room top m workspace g → m < lookup_count l.lookups.lookups
      → b ≡ starts_group l.lookups.lookups l.lookups.names buses m → b ≡ true → visited_of workspace' r ≡ group_visited p (length workspace) g (group_at l m) → r ≡ Err f → r' ≡ Err f
      → (visited_of workspace' r' ≡ fold (visit p room) start (groups_to l buses (lookup_count l.lookups.lookups))) × IfOk r' (λ n. n ≤ top + 1024)
  kind_loop_stops {start} {room} {top} {m} {workspace} workspace' {g} {r} {r'} {f} q h e t v er er' =
      let s : with_refusal (some f.refusal) workspace' f.next ≡ fold (visit p room) start (groups_to l buses (suc m)) =
      sym (ap (visited_of workspace') er) ∙ v ∙ one_more q (sym e ∙ t) in
      let z : fold (visit p room) start (groups_to l buses (suc m)) ≡ fold (visit p room) start (groups_to l buses (lookup_count l.lookups.lookups)) =
      sym (later-refused p room l buses start (suc m) (lookup_count l.lookups.lookups) f.refusal (omega (arith, h)) (sym (ap (λ (x : Visited). x.refusal) s))) in
      subst (λ (r : Result ℕ GroupRefused). (visited_of workspace' r ≡ fold (visit p room) start (groups_to l buses (lookup_count l.lookups.lookups))) × IfOk r (λ n. n ≤ top + 1024)) (sym er') (s ∙ z, tt)

  pub kind_loop_ends : {start : Visited} {room top m : ℕ} {workspace : List ℕ} {g : ℕ} → KindLoop p l buses start room top m workspace g → lookup_count l.lookups.lookups ≤ m
      → (at_group workspace g ≡ fold (visit p room) start (groups_to l buses (lookup_count l.lookups.lookups))) × (g ≤ top + 1024)
  kind_loop_ends {start} {room} {top} {m} r h =
      let e : m ≡ lookup_count l.lookups.lookups = omega (arith, r.within) in
      (r.is ∙ ap (λ (k : ℕ). fold (visit p room) start (groups_to l buses k)) e, omega (arith, r.count, r.few))

pub so_many : {r : Result ℕ GroupRefused} {n k : ℕ} → IfOk r (λ n. n ≤ k) → r ≡ Ok n → n ≤ k
so_many {r} {n} {k} h e = subst (λ (r : Result ℕ GroupRefused). IfOk r (λ n. n ≤ k)) e h

-- the locals, then the buses, from a workspace of zeros
module _ (p room : ℕ) (xs ys : List (List Member)) where
  locals_are : {workspace : List ℕ} {j : ℕ} {x : Visited} → workspace ≡ replicate room 0 → j ≡ room → x ≡ fold (visit p j) (at_group workspace 0) xs → x ≡ fold (visit p room) (unvisited room) xs
  locals_are ew ej h = h ∙ ap₂ (λ (n : ℕ) (z : List ℕ). fold (visit p n) (at_group z 0) xs) ej ew

  pub locals_refused : {workspace : List ℕ} (workspace₁ : List ℕ) {j : ℕ} {r r' : Result ℕ GroupRefused} {f : GroupRefused} → workspace ≡ replicate room 0 → j ≡ room
      → visited_of workspace₁ r ≡ fold (visit p j) (at_group workspace 0) xs → r ≡ Err f → r' ≡ Err f → visited_of workspace₁ r' ≡ fold (visit p room) (unvisited room) (xs ++ ys)
  locals_refused workspace₁ {f = f} ew ej h e e' =
      let q : with_refusal (some f.refusal) workspace₁ f.next ≡ fold (visit p room) (unvisited room) xs = sym (ap (visited_of workspace₁) e) ∙ locals_are ew ej h in
      ap (visited_of workspace₁) e' ∙ q
      ∙ sym (fold-append (visit p room) (unvisited room) xs ys ∙ after-refused p room (fold (visit p room) (unvisited room) xs) f.refusal ys (sym (ap (λ (x : Visited). x.refusal) q)))

  pub both_visited : {workspace : List ℕ} (workspace₁ : List ℕ) {j k n : ℕ} {r : Result ℕ GroupRefused} {x : Visited} → workspace ≡ replicate room 0 → j ≡ room → k ≡ room
      → visited_of workspace₁ r ≡ fold (visit p j) (at_group workspace 0) xs → r ≡ Ok n → x ≡ fold (visit p k) (at_group workspace₁ n) ys → x ≡ fold (visit p room) (unvisited room) (xs ++ ys)
  both_visited workspace₁ {n = n} ew ej ek h e g =
      let q : at_group workspace₁ n ≡ fold (visit p room) (unvisited room) xs = sym (ap (visited_of workspace₁) e) ∙ locals_are ew ej h in
      g ∙ ap₂ (λ (n : ℕ) (x : Visited). fold (visit p n) x ys) ek q ∙ sym (fold-append (visit p room) (unvisited room) xs ys)
