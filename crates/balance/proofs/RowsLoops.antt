-- The turns of one lookup's loops, over plain lists and numbers.
use Rattle.std.specs.Prelude as Std
use Rattle.std.specs.Prelude.{Some, None}
use Rattle.std.proofs.Common.{subst}
use mathlib.Core.Path.{◌≡◌, refl, sym, ap, ap₂, ◌∙◌}
use mathlib.Core.Bool.{Bool, true, false, cond}
use mathlib.Core.List.{List, [], ◌∷◌, ◌++◌, map}
use Prim.Native.Nat.{ℕ, ◌+◌, ◌*◌, ◌-◌, ◌<◌, ◌≤◌, zero-le}
use native.Mathlib.Nat.{zero-add, add-zero}
use native.Mathlib.Omega.{arith}
use lib.ListN.{length, take, drop, set, replicate, length-take, length-map}
use lib.Seq.{take_all, take_at}
use Rattle.lists.specs.Count.{joined}
use Rattle.lists.specs.Fold.{fold}
use Rattle.lists.specs.laws.Count.{joined-one, joined-add}
use Rattle.lists.specs.laws.Parts.{take-one}
use Rattle.lists.specs.laws.Filled.{Filled, filled_none, filled-one}
use Rattle.field.specs.Word.{mul_m}
use Rattle.expression.specs.Words.{word}
use Rattle.expression.specs.Node.{node_count}
use Rattle.expression.specs.Requires.{Below, Evaluable}
use Rattle.expression.specs.laws.Values.{values-part, row_values-below}
use Rattle.expression.specs.laws.Below.{drop-zeros}
use Rattle.expression.specs.Window.{Traces}
use Rattle.expression.specs.Values.{row_values}
use Rattle.lookup.specs.Lookups.{exclusive, tuple_count, tuple_start, multiplicity_start, flag_start, element_start}
use Rattle.lookup.specs.laws.Tested.{element-next, element_le}
use Rattle.logup.specs.Ledger.{Entry}
use Rattle.balance_slots.specs.inner.Work.{Work, in_use, work, step}
use Rattle.balance_slots.proofs.laws.Room.{fold-full, fold_snoc, fold_more}
use Rattle.balance_slots.specs.declared.add.Linked.{Linked}
use Rattle.balance_slots.specs.declared.hash.Seed.{Seed}
use Rattle.balance_slots.specs.inner.Chain.{SlotsLinked, plain, plain_work, ChainsLinked}
use Rattle.balance_slots.proofs.laws.Plain.{plain-length, plain_none}
use Rattle.balance.specs.declared.starts.LookupStarts.{LookupStarts}
use Rattle.balance.specs.inner.LookupStarts.{PartLists, Source, lookup_starts_at, StartsWithin, count_from, nodes_from, entry_from, entries_from, rows_entries}
use Rattle.balance_slots.specs.Workspace.{slot_words}

-- the words of a tuple, from the front
pub record TupleValuesLoop (vals nodes : List ℕ) (j : ℕ) (out : List ℕ) : Type 0 where
  pub out_is : Filled (replicate 8 0) (map (word vals) (take j nodes)) j out
  pub within : j ≤ length nodes
  pub few : length nodes ≤ 8
  pub eight : length out ≡ 8

pub value-begins : {vals nodes : List ℕ} → length nodes ≤ 8 → TupleValuesLoop vals nodes 0 (replicate 8 0)
value-begins h = record { out_is = filled_none; within = zero-le; few = h; eight = refl }

map_snoc : (f : ℕ → ℕ) (xs : List ℕ) (x : ℕ) → map f (xs ++ (x ∷ [])) ≡ map f xs ++ (f x ∷ [])
map_snoc f [] x = refl
map_snoc f (y ∷ xs) x = ap (λ (l : List ℕ). f y ∷ l) (map_snoc f xs x)

pub value_turn : {vals nodes out : List ℕ} {j i v : ℕ} → TupleValuesLoop vals nodes j out → j < length nodes → v ≡ word vals i → i ≡ word nodes j → TupleValuesLoop vals nodes (j + 1) (set out j v)
value_turn {vals} {nodes} {out} {j} {i} {v} r h ev ei =
    let e : v ≡ word vals (word nodes j) = ev ∙ ap (word vals) ei in
    let f : Filled (replicate 8 0) (map (word vals) (take (j + 1) nodes)) (j + 1) (set out j v) =
    filled-one v 0 r.out_is (omega (arith, r.few))
    (ap (map (word vals)) (take-one nodes j 0 h) ∙ map_snoc (word vals) (take j nodes) (word nodes j) ∙ ap (λ (x : ℕ). map (word vals) (take j nodes) ++ (x ∷ [])) (sym e)) in
    record { out_is = f; within = omega arith; few = r.few; eight = f.len }

pub value-ends : {vals nodes out : List ℕ} {j : ℕ} → TupleValuesLoop vals nodes j out → length nodes ≤ j → out ≡ map (word vals) nodes ++ replicate (8 - length nodes) 0
value-ends {vals} {nodes} {out} {j} r h =
    let e : j ≡ length nodes = omega (arith, r.within) in
    r.out_is.is ∙ ap₂ (λ (l : List ℕ) (n : ℕ). map (word vals) l ++ drop n (replicate 8 0)) (take_all j nodes h) e
    ∙ ap (λ (l : List ℕ). map (word vals) nodes ++ l) (drop-zeros (length nodes) 8)

-- the tuple in the array's front
pub tuple-front : {t : List ℕ} (vals nodes : List ℕ) → t ≡ map (word vals) nodes ++ replicate (8 - length nodes) 0 → take (length nodes - 0) (drop 0 t) ≡ map (word vals) nodes
tuple-front {t} vals nodes e =
    let z : length nodes - 0 ≡ length nodes = omega arith in
    ap₂ (λ (n : ℕ) (l : List ℕ). take n l) z e ∙ take_at (map (word vals) nodes) (replicate (8 - length nodes) 0) (length nodes) (length-map nodes (word vals))

-- a count
pub count-exclusive : {m f r i j : ℕ} (p : ℕ) (starts : LookupStarts) (mults flags vals : List ℕ) (k : ℕ) → starts.exclusive ≡ true → m ≡ word vals i → i ≡ word mults (starts.multiplicities + k)
    → f ≡ word vals j → j ≡ word flags (starts.flags + k) → r ≡ mul_m p m f → r ≡ count_from p starts mults flags vals k
unfolding count_from
count-exclusive p starts mults flags vals k x em ei ef ej er =
    er ∙ ap₂ (mul_m p) (em ∙ ap (word vals) ei) (ef ∙ ap (word vals) ej) ∙ sym (ap (λ (b : Bool). cond b (mul_m p (word vals (word mults (starts.multiplicities + k))) (word vals (word flags (starts.flags + k)))) (word vals (word mults (starts.multiplicities + k)))) x)

pub count-additive : {m i : ℕ} (p : ℕ) (starts : LookupStarts) (mults flags vals : List ℕ) (k : ℕ) → starts.exclusive ≡ false → m ≡ word vals i → i ≡ word mults (starts.multiplicities + k) → m ≡ count_from p starts mults flags vals k
unfolding count_from
count-additive p starts mults flags vals k x em ei = em ∙ ap (word vals) ei ∙ sym (ap (λ (b : Bool). cond b (mul_m p (word vals (word mults (starts.multiplicities + k))) (word vals (word flags (starts.flags + k)))) (word vals (word mults (starts.multiplicities + k)))) x)

-- after a slot was missing, what is left adds nothing
stopped : (p : ℕ) (w v : Work) (f : ℕ → List Entry) (k n : ℕ) → k ≤ n → v ≡ fold (step p) w (joined f 0 k) → v.full ≡ true → v ≡ fold (step p) w (joined f 0 n)
stopped p w v f k n h e t =
    let z : k + (n - k) ≡ n = omega arith in
    sym (fold-full p (joined f (0 + k) (n - k)) v t)
    ∙ ap (λ (x : Work). fold (step p) x (joined f (0 + k) (n - k))) e
    ∙ sym (fold_more p w (joined f 0 k) (joined f (0 + k) (n - k)))
    ∙ ap (fold (step p) w) (sym (joined-add f 0 k (n - k)) ∙ ap (joined f 0) z)

-- where the elements of a tuple end
pub tuple-ends : {starts : LookupStarts} {parts : PartLists} {k : ℕ} → StartsWithin starts parts → k < starts.count → element_start parts.tuples (starts.tuples + k) + word parts.tuples (starts.tuples + k) ≤ length parts.elements
tuple-ends {starts} {parts} {k} r h =
    omega (arith, r.elements_in, element-next parts.tuples (starts.tuples + k), element_le parts.tuples (starts.tuples + k + 1) (starts.tuples + starts.count) (omega arith))

-- the tuples of a row: h₀, workspace₀ and w are the heads, the workspace and the work before them
pub record AddTuplesLoop (p : ℕ) (seed : Seed) (starts : LookupStarts) (parts : PartLists) (vals h₀ workspace₀ : List ℕ) (w : Work) (k at : ℕ) (heads workspace : List ℕ) (v : Linked) : Type 0 where
  pub is : plain_work workspace (Some v) ≡ fold (step p) w (joined (λ k. entry_from p starts parts vals k ∷ []) 0 k)
  pub here : at ≡ element_start parts.tuples (starts.tuples + k)
  pub within : k ≤ starts.count
  pub few : starts.count < 18446744073709551615
  pub ready : ChainsLinked seed heads workspace (Some v)
  pub wide : length heads ≡ length h₀
  pub long : length workspace ≡ length workspace₀

module _ {p : ℕ} {seed : Seed} {starts : LookupStarts} {parts : PartLists} {vals : List ℕ} where
  pub add_tuples_loop_begins : {heads workspace : List ℕ} {u : Linked} → StartsWithin starts parts → ChainsLinked seed heads workspace (Some u) → starts.count < 18446744073709551615 → AddTuplesLoop p seed starts parts vals heads workspace (plain_work workspace (Some u)) 0 starts.elements heads workspace u
  unfolding fold joined
  add_tuples_loop_begins r h f =
      record { is = refl; here = r.first ∙ ap (element_start parts.tuples) (sym (add-zero starts.tuples)); within = zero-le; few = f; ready = h; wide = refl; long = refl }

  add_tuples_next : {h₀ workspace₀ heads workspace : List ℕ} (workspace' : List ℕ) {w : Work} {k at n c : ℕ} {v : Linked} (x : Std.Option Linked) → AddTuplesLoop p seed starts parts vals h₀ workspace₀ w k at heads workspace v
      → n ≡ word parts.tuples (starts.tuples + k) → c ≡ count_from p starts parts.multiplicities parts.flags vals k
      → plain_work workspace' x ≡ step p (plain_work workspace (Some v)) (record { tuple = map (word vals) (take ((at + n) - at) (drop at parts.elements)); count = c })
      → plain_work workspace' x ≡ fold (step p) w (joined (λ k. entry_from p starts parts vals k ∷ []) 0 (k + 1))
  unfolding nodes_from
  add_tuples_next {workspace = workspace} workspace' {w} {k} {at} {n} {c} {v} x r en ec e =
      let z : (at + n) - at ≡ n = omega arith in
      let q : plain_work workspace' x ≡ step p (plain_work workspace (Some v)) (entry_from p starts parts vals k) =
      e ∙ ap₂ (λ (t : List ℕ) (x : ℕ). step p (plain_work workspace (Some v)) (record { tuple = map (word vals) t; count = x }))
      (ap₂ (λ (i j : ℕ). take i (drop j parts.elements)) (z ∙ en) r.here) ec in
      q ∙ ap (λ (x : Work). step p x (entry_from p starts parts vals k)) r.is
      ∙ sym (fold_snoc p w (joined (λ k. entry_from p starts parts vals k ∷ []) 0 k) (entry_from p starts parts vals k))
      ∙ ap (fold (step p) w) (ap (λ (i : ℕ). joined (λ k. entry_from p starts parts vals k ∷ []) 0 k ++ (entry_from p starts parts vals i ∷ [])) (sym (zero-add k)) ∙ sym (joined-one (λ k. entry_from p starts parts vals k ∷ []) 0 k))

  pub add_tuples_loop_turn : {h₀ workspace₀ heads heads' workspace workspace' : List ℕ} {w : Work} {k at n c : ℕ} {v v' : Linked} {x : Std.Option Linked} → AddTuplesLoop p seed starts parts vals h₀ workspace₀ w k at heads workspace v → k < starts.count
      → n ≡ word parts.tuples (starts.tuples + k) → c ≡ count_from p starts parts.multiplicities parts.flags vals k
      → (plain_work workspace' x ≡ step p (plain_work workspace (Some v)) (record { tuple = map (word vals) (take ((at + n) - at) (drop at parts.elements)); count = c })) × ChainsLinked seed heads' workspace' x → x ≡ Some v'
      → length heads' ≡ length heads → length workspace' ≡ length workspace → AddTuplesLoop p seed starts parts vals h₀ workspace₀ w (k + 1) (at + n) heads' workspace' v'
  add_tuples_loop_turn {h₀} {workspace₀} {heads} {heads'} {workspace} {workspace'} {w} {k} {at} {n} {c} {v} {v'} {x} r h en ec (e, y) z eh el =
      record {
        is = ap (plain_work workspace') (sym z) ∙ add_tuples_next workspace' x r en ec e;
        here = ap₂ ◌+◌ r.here en ∙ sym (element-next parts.tuples (starts.tuples + k)) ∙ ap (element_start parts.tuples) (let a : starts.tuples + k + 1 ≡ starts.tuples + (k + 1) = omega arith in a);
        within = omega arith;
        few = r.few;
        ready = rw z at y;
        wide = eh ∙ r.wide;
        long = el ∙ r.long;
      }

  pub add_tuples_loop_stops : {h₀ workspace₀ heads heads' workspace workspace' : List ℕ} {w : Work} {k at n c : ℕ} {v : Linked} {x : Std.Option Linked} → AddTuplesLoop p seed starts parts vals h₀ workspace₀ w k at heads workspace v → k < starts.count
      → n ≡ word parts.tuples (starts.tuples + k) → c ≡ count_from p starts parts.multiplicities parts.flags vals k
      → (plain_work workspace' x ≡ step p (plain_work workspace (Some v)) (record { tuple = map (word vals) (take ((at + n) - at) (drop at parts.elements)); count = c })) × ChainsLinked seed heads' workspace' x → x ≡ None
      → (plain_work workspace' None ≡ fold (step p) w (entries_from p starts parts vals)) × ChainsLinked seed heads' workspace' None
  unfolding entries_from
  add_tuples_loop_stops {workspace' = workspace'} {w} {k} {x = x} r h en ec (e, y) z =
      (stopped p w (plain_work workspace' None) (λ k. entry_from p starts parts vals k ∷ []) (k + 1) starts.count (omega arith) (ap (plain_work workspace') (sym z) ∙ add_tuples_next workspace' x r en ec e) refl, rw z at y)

  pub add_tuples_loop_ends : {h₀ workspace₀ heads workspace : List ℕ} {w : Work} {k at : ℕ} {v : Linked} → AddTuplesLoop p seed starts parts vals h₀ workspace₀ w k at heads workspace v → starts.count ≤ k
      → (plain_work workspace (Some v) ≡ fold (step p) w (entries_from p starts parts vals)) × ChainsLinked seed heads workspace (Some v)
  unfolding entries_from
  add_tuples_loop_ends {h₀} {workspace₀} {heads} {workspace} {w} {k} r h =
      let e : k ≡ starts.count = omega (arith, r.within) in
      (r.is ∙ ap (λ (n : ℕ). fold (step p) w (joined (λ k. entry_from p starts parts vals k ∷ []) 0 n)) e, r.ready)

-- the rows: h₀, workspace₀ and w are the heads, the workspace and the work before them
pub record RowsLoop (p : ℕ) (seed : Seed) (starts : LookupStarts) (s : Source) (h₀ workspace₀ : List ℕ) (w : Work) (r : ℕ) (heads workspace : List ℕ) (v : Linked) : Type 0 where
  pub is : plain_work workspace (Some v) ≡ fold (step p) w (rows_entries p starts s r)
  pub within : r ≤ s.traces.shape.height
  pub ready : ChainsLinked seed heads workspace (Some v)
  pub wide : length heads ≡ length h₀
  pub long : length workspace ≡ length workspace₀

module _ {p : ℕ} {seed : Seed} {starts : LookupStarts} {s : Source} where
  pub rows_loop_begins : {heads workspace : List ℕ} {u : Linked} → ChainsLinked seed heads workspace (Some u) → RowsLoop p seed starts s heads workspace (plain_work workspace (Some u)) 0 heads workspace u
  unfolding fold joined rows_entries
  rows_loop_begins h = record { is = refl; within = zero-le; ready = h; wide = refl; long = refl }

  rows_next : {h₀ workspace₀ heads workspace : List ℕ} (workspace' : List ℕ) {w : Work} {r : ℕ} {v : Linked} (x : Std.Option Linked) → RowsLoop p seed starts s h₀ workspace₀ w r heads workspace v
      → plain_work workspace' x ≡ fold (step p) (plain_work workspace (Some v)) (entries_from p starts s.parts (row_values p s.nodes s.traces r))
      → plain_work workspace' x ≡ fold (step p) w (joined (λ r. entries_from p starts s.parts (row_values p s.nodes s.traces r)) 0 (r + 1))
  unfolding rows_entries
  rows_next workspace' {w} {r} x i e =
      let es : List Entry = entries_from p starts s.parts (row_values p s.nodes s.traces r) in
      e ∙ ap (λ (x : Work). fold (step p) x es) i.is
      ∙ sym (fold_more p w (joined (λ r. entries_from p starts s.parts (row_values p s.nodes s.traces r)) 0 r) es)
      ∙ ap (fold (step p) w)
      (ap (λ (n : ℕ). joined (λ r. entries_from p starts s.parts (row_values p s.nodes s.traces r)) 0 r ++ entries_from p starts s.parts (row_values p s.nodes s.traces n)) (sym (zero-add r))
      ∙ sym (joined-one (λ r. entries_from p starts s.parts (row_values p s.nodes s.traces r)) 0 r))

  pub rows_loop_turn : {h₀ workspace₀ heads heads' workspace workspace' : List ℕ} {w : Work} {r : ℕ} {v v' : Linked} {x : Std.Option Linked} → RowsLoop p seed starts s h₀ workspace₀ w r heads workspace v → r < s.traces.shape.height
      → (plain_work workspace' x ≡ fold (step p) (plain_work workspace (Some v)) (entries_from p starts s.parts (row_values p s.nodes s.traces r))) × ChainsLinked seed heads' workspace' x → x ≡ Some v'
      → length heads' ≡ length heads → length workspace' ≡ length workspace → RowsLoop p seed starts s h₀ workspace₀ w (r + 1) heads' workspace' v'
  unfolding rows_entries
  rows_loop_turn {workspace' = workspace'} {x = x} i h (e, y) z eh el =
      record { is = ap (plain_work workspace') (sym z) ∙ rows_next workspace' x i e; within = omega arith; ready = rw z at y; wide = eh ∙ i.wide; long = el ∙ i.long }

  pub rows_loop_stops : {h₀ workspace₀ heads heads' workspace workspace' : List ℕ} {w : Work} {r : ℕ} {v : Linked} {x : Std.Option Linked} → RowsLoop p seed starts s h₀ workspace₀ w r heads workspace v → r < s.traces.shape.height
      → (plain_work workspace' x ≡ fold (step p) (plain_work workspace (Some v)) (entries_from p starts s.parts (row_values p s.nodes s.traces r))) × ChainsLinked seed heads' workspace' x → x ≡ None
      → (plain_work workspace' None ≡ fold (step p) w (rows_entries p starts s s.traces.shape.height)) × ChainsLinked seed heads' workspace' None
  unfolding rows_entries
  rows_loop_stops {workspace' = workspace'} {w} {r} {x = x} i h (e, y) z =
      (stopped p w (plain_work workspace' None) (λ r. entries_from p starts s.parts (row_values p s.nodes s.traces r)) (r + 1) s.traces.shape.height (omega arith) (ap (plain_work workspace') (sym z) ∙ rows_next workspace' x i e) refl, rw z at y)

  pub rows_loop_ends : {h₀ workspace₀ heads workspace : List ℕ} {w : Work} {r : ℕ} {v : Linked} → RowsLoop p seed starts s h₀ workspace₀ w r heads workspace v → s.traces.shape.height ≤ r
      → (plain_work workspace (Some v) ≡ fold (step p) w (rows_entries p starts s s.traces.shape.height)) × ChainsLinked seed heads workspace (Some v)
  rows_loop_ends {h₀} {workspace₀} {heads} {workspace} {w} {r} i h =
      let e : r ≡ s.traces.shape.height = omega (arith, i.within) in
      (i.is ∙ ap (λ (n : ℕ). fold (step p) w (rows_entries p starts s n)) e, i.ready)

-- the slots in use are linked, and unlinked at the end
abbrev linked_use : ℕ → ℕ → Std.Option Linked
linked_use n l = Some (record { used = n; linked = l })

pub linked_ready : {seed : Seed} {heads d workspace : List ℕ} {l : ℕ} (used : ℕ) → slot_words * used ≤ length d → SlotsLinked seed heads workspace l 0 used d → ChainsLinked seed heads workspace (linked_use used l)
linked_ready {seed} {heads} {d} {workspace} {l} used r s = record { chained = s.chained; inside = s.not_more; room = rw (sym (plain-length workspace l), s.same) r }

pub unlinked : {seed : Seed} {heads hs d workspace vs b : List ℕ} {l : ℕ} {v : Linked} {x : Std.Option Linked} (p used : ℕ) (es : List Entry) → SlotsLinked seed heads workspace l 0 used d
    → (plain_work vs x ≡ fold (step p) (plain_work workspace (linked_use used l)) es) × ChainsLinked seed hs vs x → x ≡ Some v → b ≡ plain vs v.linked
    → work b (Some v.used) ≡ fold (step p) (work d (Some used)) es
unlinked {vs = vs} {v = v} p used es s (q, r) z eb =
    ap (λ (x : List ℕ). work x (Some v.used)) eb ∙ ap (plain_work vs) (sym z) ∙ q ∙ ap (λ (x : List ℕ). fold (step p) (work x (Some used)) es) s.same

pub unlinked_none : {seed : Seed} {heads hs d workspace vs : List ℕ} {l : ℕ} {x : Std.Option Linked} (p used : ℕ) (es : List Entry) → SlotsLinked seed heads workspace l 0 used d
    → (plain_work vs x ≡ fold (step p) (plain_work workspace (linked_use used l)) es) × ChainsLinked seed hs vs x → x ≡ None
    → work vs None ≡ fold (step p) (work d (Some used)) es
unlinked_none {vs = vs} p used es s (q, r) z =
    ap (λ (x : List ℕ). work x None) (sym (plain_none vs)) ∙ ap (plain_work vs) (sym z) ∙ q ∙ ap (λ (x : List ℕ). fold (step p) (work x (Some used)) es) s.same

-- after a slot was missing, rows add nothing
pub rows-full : {u : Std.Option ℕ} (p : ℕ) (workspace : List ℕ) (es : List Entry) → u ≡ None → work workspace None ≡ fold (step p) (work workspace u) es
rows-full p workspace es e = sym (fold-full p es (work workspace None) refl) ∙ ap (λ (v : Std.Option ℕ). fold (step p) (work workspace v) es) (sym e)

-- how many slots are in use, where none was missing
pub used_of : {u : Std.Option ℕ} {n room : ℕ} → u ≡ Some n → slot_words * in_use u ≤ room → slot_words * n ≤ room
used_of {room = room} e h = subst (λ (v : Std.Option ℕ). slot_words * in_use v ≤ room) e h

-- the starts of a lookup
pub lookup_starts_is : {x : Bool} {n t m f e c : ℕ} (lookups tuples : List ℕ) (i : ℕ) → t ≡ tuple_start lookups i → m ≡ multiplicity_start lookups i → f ≡ flag_start lookups i
    → e ≡ element_start tuples t → x ≡ exclusive lookups i → c ≡ tuple_count lookups i → n ≡ c
    → record { exclusive = x; count = n; tuples = t; multiplicities = m; flags = f; elements = e } ≡ lookup_starts_at lookups tuples i
unfolding lookup_starts_at
lookup_starts_is {x} {n} {t} {m} {f} {e} {c} lookups tuples i et em ef ee ex ec en = rw (ex, en ∙ ec, ee, et, em, ef)

-- one tuple is added
pub tuple-entered : {seed : Seed} {t heads workspace : List ℕ} {u : Std.Option Linked} (p : ℕ) (v : Work) (count : ℕ) (vals nodes : List ℕ) → t ≡ map (word vals) nodes ++ replicate (8 - length nodes) 0
    → (plain_work workspace u ≡ step p v (record { tuple = take (length nodes - 0) (drop 0 t); count = count })) × ChainsLinked seed heads workspace u
    → (plain_work workspace u ≡ step p v (record { tuple = map (word vals) nodes; count = count })) × ChainsLinked seed heads workspace u
tuple-entered p v count vals nodes e (q, r) = (q ∙ ap (λ (l : List ℕ). step p v (record { tuple = l; count = count })) (tuple-front vals nodes e), r)

-- a tuple has at most eight words
pub part-narrow : {n m : ℕ} (at : ℕ) (elements : List ℕ) → n ≡ m → m ≤ 8 → length (take ((at + n) - at) (drop at elements)) ≤ 8
part-narrow {n} at elements e h =
    let z : (at + n) - at ≡ n = omega arith in
    rw (length-take ((at + n) - at) (drop at elements), z) (omega arith)

pub ends_in : {starts : LookupStarts} {parts : PartLists} {k n at : ℕ} → StartsWithin starts parts → k < starts.count → at ≡ element_start parts.tuples (starts.tuples + k) → n ≡ word parts.tuples (starts.tuples + k)
    → at + n ≤ length parts.elements
ends_in r h e q = rw (e, q) (tuple-ends r h)

-- the values of the nodes in the array's front
pub values-front : {b : List ℕ} (p : ℕ) (nodes : List ℕ) (t : Traces) (r : ℕ) → b ≡ row_values p nodes t r ++ replicate (1024 - node_count nodes) 0 → take (node_count nodes - 0) (drop 0 b) ≡ row_values p nodes t r
values-front {b} p nodes t r e =
    let z : node_count nodes - 0 ≡ node_count nodes = omega arith in
    ap (λ (n : ℕ). take n b) z ∙ values-part p nodes t r (1024 - node_count nodes) e

pub front_below : {b : List ℕ} (p : ℕ) (nodes : List ℕ) (t : Traces) (r : ℕ) → Evaluable p t nodes → b ≡ row_values p nodes t r ++ replicate (1024 - node_count nodes) 0 → Below p (take (node_count nodes - 0) (drop 0 b))
front_below p nodes t r v e = rw (values-front p nodes t r e) (row_values-below r v)

pub row-entered : {seed : Seed} {b heads workspace : List ℕ} {u : Std.Option Linked} (p : ℕ) (starts : LookupStarts) (parts : PartLists) (nodes : List ℕ) (t : Traces) (r : ℕ) (v : Work)
    → b ≡ row_values p nodes t r ++ replicate (1024 - node_count nodes) 0
    → (plain_work workspace u ≡ fold (step p) v (entries_from p starts parts (take (node_count nodes - 0) (drop 0 b)))) × ChainsLinked seed heads workspace u
    → (plain_work workspace u ≡ fold (step p) v (entries_from p starts parts (row_values p nodes t r))) × ChainsLinked seed heads workspace u
row-entered p starts parts nodes t r v e (q, y) =
    (q ∙ ap (λ (x : List ℕ). fold (step p) v (entries_from p starts parts x)) (values-front p nodes t r e), y)
