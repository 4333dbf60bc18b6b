-- What a group leaves in a workspace of zeros is what the definition says of it.
use Rattle.std.specs.Prelude as Std
use Rattle.std.proofs.Math.Path.{◌≡◌, refl, ap}
use Rattle.std.proofs.Common.{sym, ◌∙◌, subst, inl, inr, arith}
use Rattle.std.specs.Prelude.{Bool, true, false, cond, ◌⊎◌, get_or, drop, replicate}
use Rattle.std.proofs.Math.Option.{Option}
use mathlib.Core.List.Memᴰ
use mathlib.Core.List.{List, [], ◌∷◌, Memᴰ}
use Prim.Native.Nat.{ℕ, zero, suc, ◌+◌, ◌*◌, ◌<◌, ◌≤◌}
use Rattle.std.proofs.Math.Numerals.{add-one}
use Rattle.std.proofs.Math.ListN.{length, length-take, length-map}
use Rattle.std.proofs.lemmas.List.{length-replicate}
use Rattle.lists.specs.Fold.{fold}
use Rattle.lists.specs.Tab.{tab}
use Rattle.lists.specs.laws.Count.{joined-member}
use Rattle.expression.specs.Words.{word}
use Rattle.expression.specs.Refusal.{refusal}
use Rattle.expression.specs.declared.refusal.Refusal.{Refusal}
use Rattle.expression.specs.Refusal.{Verdict}
use Rattle.lookup.specs.Lookups.{lookup_count, tuple_count, tuple_start, element_start, tuple_width, tuple_nodes, lookup_at}
use Rattle.lookup.specs.Table.{values_of}
use Rattle.logup.specs.Ledger.{Entry}
use Rattle.balance_slots.specs.Slots.{slots}
use Rattle.balance_slots.specs.Workspace.{workspace_of, slot_words}
use Rattle.balance_slots.specs.inner.Work.{Work, in_use, work, step, work_of, work_refusal}
use Rattle.balance_slots.proofs.laws.Add.{Narrow, made, work-slots, slots-fit}
use Rattle.balance_slots.proofs.laws.GroupRefusal.{work_refusal_is, widths_in_use}
use Rattle.balance_slots.proofs.laws.Room.{Roomy, fold_roomy}
use Rattle.balance.specs.Tables.{TableLists}
use Rattle.balance.specs.Groups.{Member}
use Rattle.balance.specs.Entries.{entry_of, row_entries, member_entries, entries}
use Rattle.balance.specs.Members.{member_at}
use Rattle.balance.specs.Balance.{Visited}
use Rattle.balance.specs.inner.Requires.{TablesTested}
use Rattle.lists.specs.laws.Members.{tab_in}
use Rattle.balance.proofs.laws.Lists.{flat_in}
use Rattle.balance_groups.specs.inner.ByNumber.{kept, same_group, group_at}
use Rattle.balance_groups.specs.inner.Visits.{group_visited}

-- where an element comes from
kept_in : {A : Type 0} (t : ℕ → Bool) (f : ℕ → A) (n : ℕ) {e : A} → Memᴰ e (kept t f n) → (k : ℕ) × (e ≡ f k)
unfolding kept
kept_in t f zero m = elim m [ ]
kept_in {A} t f (suc n) {e} m = go (t n) (λ k. kept_in t f n k) (Memᴰ.append_cases (kept t f n) m)
  where
    go : (b : Bool) → (Memᴰ e (kept t f n) → (k : ℕ) × (e ≡ f k)) → Memᴰ e (kept t f n) ⊎ Memᴰ e (cond b (f n ∷ []) []) → (k : ℕ) × (e ≡ f k)
    go b ih (inl q) = ih q
    go true ih (inr q) = (n, Memᴰ.eq_of_singleton q)
    go false ih (inr q) = elim q [ ]

-- an element of lists that all are short, and the empty one past the end
short_at : (xs : List (List ℕ)) → ((x : List ℕ) → Memᴰ x xs → length x ≤ 8) → (j : ℕ) → length (get_or xs j []) ≤ 8
short_at [] h j = omega arith
short_at (x ∷ xs) h zero = h x (Memᴰ.head refl)
short_at (x ∷ xs) h (suc j) = short_at xs (λ y k. h y (Memᴰ.tail k)) j

module _ (p : ℕ) (l : TableLists) (w : TablesTested p l) where
  nodes-narrow : (m k : ℕ) → length (tuple_nodes l.lookups m k) ≤ 8
  unfolding tuple_nodes tuple_width
  nodes-narrow m k =
      let n : ℕ = word l.lookups.tuples (tuple_start l.lookups.lookups m + k) in
      let e = length-take n (drop (element_start l.lookups.tuples (tuple_start l.lookups.lookups m + k)) l.lookups.elements) in
      omega (arith, e, w.narrow (tuple_start l.lookups.lookups m + k))

  tuples-narrow : (m j : ℕ) → length (get_or (member_at l m).lookup.tuples j []) ≤ 8
  unfolding member_at lookup_at
  tuples-narrow m j =
      short_at (tab (tuple_nodes l.lookups m) 0 (tuple_count l.lookups.lookups m))
      (λ x k. let a = tab_in (tuple_nodes l.lookups m) 0 (tuple_count l.lookups.lookups m) k in rw a.2 (nodes-narrow m a.0)) j

  -- every tuple that a lookup adds has at most eight words
  member-narrow : (m : ℕ) → Narrow (member_entries p (member_at l m))
  unfolding member_entries row_entries entry_of
  member-narrow m e k =
      let M : Member = member_at l m in
      let a = joined-member (λ r. row_entries p M.lookup (values_of p M.table r)) M.table.traces.shape.height k in
      let b = tab_in (entry_of p M.lookup (values_of p M.table a.0)) 0 (length M.lookup.tuples) a.2 in
      rw (ap (λ (x : Entry). length x.tuple) b.2 ∙ length-map (get_or M.lookup.tuples b.0 []) (word (values_of p M.table a.0))) (tuples-narrow m b.0)

  -- so has every tuple of a group
  pub group-narrow : (m : ℕ) → Narrow (entries p (group_at l m))
  unfolding entries group_at
  group-narrow m e k =
      let a = flat_in (member_entries p) (kept (same_group l.lookups.lookups l.lookups.names m) (member_at l) (lookup_count l.lookups.lookups)) k in
      let b = kept_in (same_group l.lookups.lookups l.lookups.names m) (member_at l) (lookup_count l.lookups.lookups) a.1 in
      member-narrow b.0 e (subst (λ (x : Member). Memᴰ e (member_entries p x)) b.1 a.2)

  module _ (m room : ℕ) where
    abbrev E : List Entry
    E = entries p (group_at l m)

    -- the workspace was cleared, and the group added
    pub record Entered (workspace : List ℕ) (u : Std.Option ℕ) : Type 0 where
      pub is : work workspace u ≡ work_of room (slots p E)
      pub room_in : slot_words * in_use u ≤ length workspace
      pub long : length workspace ≡ room
      pub widths : (j : ℕ) → j < in_use u → word workspace (slot_words * j) ≤ 8

    pub entered : {zs workspace : List ℕ} {u : Std.Option ℕ} → zs ≡ replicate room 0 → work workspace u ≡ fold (step p) (made zs 0 false) E → Entered workspace u
    entered {zs} {workspace} {u} ez e =
        let q : work workspace u ≡ fold (step p) (made (replicate room 0) 0 false) E = e ∙ ap (λ (z : List ℕ). fold (step p) (made z 0 false) E) ez in
        let g : Roomy room (work workspace u) = rw q (fold_roomy room p E (made (replicate room 0) 0 false) (record { long = length-replicate room 0; room = omega arith })) in
        let s : work workspace u ≡ work_of room (slots p E) = q ∙ work-slots p room E (group-narrow m) in
        record {
          is = s;
          room_in = omega (arith, g.room, g.long);
          long = g.long;
          widths = subst (λ (x : Work). (j : ℕ) → j < x.used → word x.words (slot_words * j) ≤ 8) (sym s) (widths_in_use room (slots p E) (slots-fit p E (group-narrow m)));
        }

    words_left : (work_of room (slots p E)).words ≡ workspace_of room (slots p E)
    unfolding work_of
    words_left = refl

    -- what the visit leaves
    pub left : {workspace : List ℕ} {u : Std.Option ℕ} {n : ℕ} (v : Verdict) (g : ℕ) → Entered workspace u → refusal v ≡ work_refusal g (work workspace u) → n ≡ g + 1
        → (record { refusal = refusal v; workspace = workspace; group = n } ≡ group_visited p room g (group_at l m)) × (n ≡ g + 1)
    unfolding group_visited
    left {workspace} {u} {n} v g r e en = (
      made_of (e ∙ ap (work_refusal g) r.is ∙ work_refusal_is room g (slots p E) (slots-fit p E (group-narrow m))) (ap (λ (x : Work). x.words) r.is ∙ words_left) (en ∙ add-one g),
      en,
    )
      where
        made_of : {a b : Option Refusal} {x y : List ℕ} {i j : ℕ} → a ≡ b → x ≡ y → i ≡ j → ◌≡◌ {A = Visited} (record { refusal = a; workspace = x; group = i }) (record { refusal = b; workspace = y; group = j })
        made_of ea ex ei = λ t. record { refusal = ea t; workspace = ex t; group = ei t }
