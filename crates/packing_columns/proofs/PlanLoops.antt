-- The turns of the plan: one column more.
use mathlib.Core.Path.{◌≡◌, refl, sym, ap, ap₂, ◌∙◌, subst}
use mathlib.Core.Bool.{Bool, true, false, ◌&&◌, ◌||◌, or-false, or_assoc}
use mathlib.Core.List.{List, [], ◌∷◌, ◌++◌, append-nil, append_assoc, head-eq_of_cons-eq, tail-eq_of_cons-eq}
use Prim.Native.Nat.{ℕ, suc, ◌+◌, ◌*◌, ◌-◌, ◌<◌, ◌≤◌, zero-le}
use native.Mathlib.Numerals.{add-one}
use native.Mathlib.Omega.{arith}
use lib.Dec.{ltb}
use lib.ListN.{length, take, drop, get_or, set, replicate, length-append, length-drop, drop_of_length-le, take-append-drop}
use lib.Seq.{drop-cons, take-suc, take_at}
use borrow.Rule.Slice.PartMut.{put_mid}
use Rattle.lists.specs.laws.Filled.{Filled, filled_none, filled-one, filled-part}
use Rattle.lookup.specs.Lookups.{lookup_count, on_bus}
use Rattle.lookup.specs.Buses.{name_at, alone_at}
use Rattle.lookup_buses.specs.laws.Order.{arranged-length, arranged-below}
use Rattle.packing_columns.specs.inner.Columns.{PlanSource, columns_of, ordered, column_words, words_from, heads_of, over_of}
use Rattle.packing_columns.specs.inner.LookupListsRequires.{LookupNumbers}
use Rattle.packing_columns.specs.inner.ColumnsRequires.{ColumnTaken, Planned}
use Rattle.packing_columns.specs.declared.columns.OpenColumn.{OpenColumn}
use Rattle.packing_columns.specs.declared.columns.NextColumn.{NextColumn}

-- a list of which x is the next
next_one : (L rest : List OpenColumn) (c : ℕ) (x : OpenColumn) → drop c L ≡ x ∷ rest → (take (c + 1) L ≡ take c L ++ (x ∷ [])) × (drop (c + 1) L ≡ rest)
next_one L rest c x e =
    let h : c < length L = omega (arith, simp length-drop at (ap length e)) in
    let q : get_or L c x ∷ drop (suc c) L ≡ x ∷ rest = sym (drop-cons L c x h) ∙ e in
    (rw (add-one c) (take-suc L c x h ∙ ap (λ (y : OpenColumn). take c L ++ (y ∷ [])) (head-eq_of_cons-eq q)), rw (add-one c) (tail-eq_of_cons-eq q))

heads_snoc : (os : List OpenColumn) (o : OpenColumn) → heads_of (os ++ (o ∷ [])) ≡ heads_of os ++ (o.head ∷ [])
unfolding heads_of
heads_snoc [] o = refl
heads_snoc (x ∷ os) o = ap (λ (l : List ℕ). x.head ∷ l) (heads_snoc os o)

over_snoc : (lookups : List ℕ) (os : List OpenColumn) (o : OpenColumn)
    → over_of lookups (os ++ (o ∷ [])) ≡ (over_of lookups os || (on_bus lookups o.head && ltb 4294967295 o.weight))
unfolding over_of
over_snoc lookups [] o = or-false (on_bus lookups o.head && ltb 4294967295 o.weight)
over_snoc lookups (x ∷ os) o =
    ap (λ (b : Bool). (on_bus lookups x.head && ltb 4294967295 x.weight) || b) (over_snoc lookups os o)
    ∙ sym (or_assoc (on_bus lookups x.head && ltb 4294967295 x.weight) (over_of lookups os) (on_bus lookups o.head && ltb 4294967295 o.weight))

words_snoc : (lookups : List ℕ) (k : ℕ) (os : List OpenColumn) (o : OpenColumn) → words_from lookups k (os ++ (o ∷ [])) ≡ words_from lookups k os ++ column_words lookups (k + length os) o
unfolding words_from
words_snoc lookups k [] o = append-nil (column_words lookups k o) ∙ ap (λ (n : ℕ). column_words lookups n o) (omega arith)
words_snoc lookups k (x ∷ os) o =
    let e : suc k + length os ≡ k + suc (length os) = omega arith in
    ap (λ (l : List ℕ). column_words lookups k x ++ l) (words_snoc lookups (suc k) os o ∙ ap (λ (n : ℕ). words_from lookups (suc k) os ++ column_words lookups n o) e)
    ∙ sym (append_assoc (column_words lookups k x) (words_from lookups (suc k) os) (column_words lookups (k + suc (length os)) o))

words-nine : (lookups : List ℕ) (k : ℕ) (o : OpenColumn) → length (column_words lookups k o) ≡ 9
unfolding column_words
words-nine lookups k o = refl

-- the order that is lent on
pub order-part : {order : List ℕ} (lookups names : List ℕ) → order ≡ ordered lookups names ++ drop (lookup_count lookups) (replicate 64 0)
    → take (lookup_count lookups - 0) (drop 0 order) ≡ ordered lookups names
order-part {order} lookups names e =
    let z : lookup_count lookups - 0 ≡ lookup_count lookups = omega arith in
    ap₂ (λ (n : ℕ) (l : List ℕ). take n l) z e
    ∙ take_at (ordered lookups names) (drop (lookup_count lookups) (replicate 64 0)) (lookup_count lookups) (arranged-length (alone_at true lookups) (name_at lookups names) (lookup_count lookups))

numbers-ordered : (lookups names : List ℕ) → lookup_count lookups ≤ 64 → LookupNumbers (lookup_count lookups) (ordered lookups names)
numbers-ordered lookups names h =
    let l : length (ordered lookups names) ≡ lookup_count lookups = arranged-length (alone_at true lookups) (name_at lookups names) (lookup_count lookups) in
    record { short = rw l h; below = λ t g. arranged-below (alone_at true lookups) (name_at lookups names) (lookup_count lookups) t (omega (arith, rw l at g)) }

pub order_asks : {order : List ℕ} (lookups names : List ℕ) → lookup_count lookups ≤ 64 → order ≡ ordered lookups names ++ drop (lookup_count lookups) (replicate 64 0)
    → LookupNumbers (lookup_count lookups) (take (lookup_count lookups - 0) (drop 0 order)) × ((k : ℕ) → k < lookup_count lookups → k < length (take (lookup_count lookups - 0) (drop 0 order)))
order_asks {order} lookups names h e =
    rw (order-part lookups names e)
    (numbers-ordered lookups names h, λ k g. rw (arranged-length (alone_at true lookups) (name_at lookups names) (lookup_count lookups)) g)

-- c columns are made of the first k of the order
pub record Planning (s : PlanSource) (d e heads words : List ℕ) (over : Bool) (c k : ℕ) : Type 0 where
  pub rest : drop c (columns_of s (ordered s.lookups s.names)) ≡ columns_of s (drop k (ordered s.lookups s.names))
  pub size : length (take c (columns_of s (ordered s.lookups s.names))) ≡ c
  pub heads_are : Filled d (heads_of (take c (columns_of s (ordered s.lookups s.names)))) c heads
  pub words_are : Filled e (words_from s.lookups 0 (take c (columns_of s (ordered s.lookups s.names)))) (9 * c) words
  pub over_is : over ≡ over_of s.lookups (take c (columns_of s (ordered s.lookups s.names)))
  pub below : c ≤ k
  pub within : k ≤ lookup_count s.lookups
  pub few : lookup_count s.lookups ≤ 64
  pub heads_room : length d ≡ 64
  pub words_room : length e ≡ 576

pub plan_begins : {s : PlanSource} {d e : List ℕ} → lookup_count s.lookups ≤ 64 → length d ≡ 64 → length e ≡ 576 → Planning s d e d e false 0 0
unfolding heads_of words_from over_of
plan_begins h l m =
    record { rest = refl; size = refl; heads_are = filled_none; words_are = filled_none; over_is = refl; below = zero-le; within = zero-le; few = h; heads_room = l; words_room = m }

pub plan_turn : {s : PlanSource} {d e heads words order ys : List ℕ} {over on : Bool} {c k h : ℕ} {r : NextColumn} → Planning s d e heads words over c k
    → order ≡ ordered s.lookups s.names ++ drop (lookup_count s.lookups) (replicate 64 0) → ColumnTaken s (take (lookup_count s.lookups - 0) (drop 0 order)) k r
    → h ≡ r.column.head → ys ≡ column_words s.lookups c r.column → on ≡ on_bus s.lookups r.column.head
    → Planning s d e (set heads c h) (put_mid (9 * c) (9 * c + 9 - 9 * c) words ys) (over || (on && ltb 4294967295 r.column.weight)) (c + 1) r.end
plan_turn {s} {d} {e} {heads} {words} {order} {ys} {over} {on} {c} {k} {h} {r} p eo tk eh ey en =
    let xs : List ℕ = ordered s.lookups s.names in
    let L : List OpenColumn = columns_of s xs in
    let t : ColumnTaken s xs k r = subst (λ (l : List ℕ). ColumnTaken s l k r) (order-part s.lookups s.names eo) tk in
    let n = next_one L (columns_of s (drop r.end xs)) c r.column (p.rest ∙ t.is) in
    let long : length xs ≡ lookup_count s.lookups = arranged-length (alone_at true s.lookups) (name_at s.lookups s.names) (lookup_count s.lookups) in
    let w : length ys ≡ 9 = ap length ey ∙ words-nine s.lookups c r.column in
    let z : 9 * c + 9 ≡ 9 * (c + 1) = omega arith in
    let b : r.end ≤ lookup_count s.lookups = rw (← long) t.within in
    record {
      rest = n.1;
      size = ap length n.0 ∙ length-append (take c L) (r.column ∷ []) ∙ omega (arith, p.size);
      heads_are = filled-one h 0 p.heads_are (omega (arith, t.above, b, p.below, p.few, p.heads_room)) (ap heads_of n.0 ∙ heads_snoc (take c L) r.column ∙ ap (λ (x : ℕ). heads_of (take c L) ++ (x ∷ [])) (sym eh));
      words_are = rw (← z) (filled-part {i = 9 * c} {e = 9 * c + 9} ys p.words_are (omega arith) (omega (arith, t.above, b, p.below, p.few, p.words_room)) (omega (arith, w))
          (ap (words_from s.lookups 0) n.0 ∙ words_snoc s.lookups 0 (take c L) r.column ∙ ap (λ (x : List ℕ). words_from s.lookups 0 (take c L) ++ x) (ap (λ (m : ℕ). column_words s.lookups m r.column) (omega (arith, p.size)) ∙ sym ey)));
      over_is = ap₂ (λ (x y : Bool). x || (y && ltb 4294967295 r.column.weight)) p.over_is en
          ∙ sym (over_snoc s.lookups (take c L) r.column) ∙ ap (over_of s.lookups) (sym n.0);
      below = omega (arith, t.above, p.below);
      within = b;
      few = p.few;
      heads_room = p.heads_room;
      words_room = p.words_room;
    }

-- all columns are made
pub plan_ends : {s : PlanSource} {heads words order : List ℕ} {over : Bool} {c k : ℕ} → Planning s (replicate 64 0) (replicate 576 0) heads words over c k → lookup_count s.lookups ≤ k
    → order ≡ ordered s.lookups s.names ++ drop (lookup_count s.lookups) (replicate 64 0)
    → Planned s (record { order = order; heads = heads; words = words; columns = c; over = over })
unfolding columns_of
plan_ends {s} {heads} {words} {order} {over} {c} {k} p h eo =
    let xs : List ℕ = ordered s.lookups s.names in
    let L : List OpenColumn = columns_of s xs in
    let long : length xs ≡ lookup_count s.lookups = arranged-length (alone_at true s.lookups) (name_at s.lookups s.names) (lookup_count s.lookups) in
    let none : drop c L ≡ [] = p.rest ∙ ap (columns_of s) (drop_of_length-le xs {i = k} (omega (arith, long))) in
    let all : take c L ≡ L = sym (append-nil (take c L)) ∙ ap (λ (x : List OpenColumn). take c L ++ x) (sym none) ∙ take-append-drop c L in
    record {
      order = eo;
      columns = sym p.size ∙ ap length all;
      few = omega (arith, p.below, p.within);
      heads = p.heads_are.is ∙ ap (λ (x : List OpenColumn). heads_of x ++ drop c (replicate 64 0)) all;
      words = p.words_are.is ∙ ap (λ (x : List OpenColumn). words_from s.lookups 0 x ++ drop (9 * c) (replicate 576 0)) all;
      over = p.over_is ∙ ap (over_of s.lookups) all;
    }
