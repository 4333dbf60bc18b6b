-- What is copied to the front of a list, and the turns of the loop that copies parts.
use mathlib.Core.Path.{◌≡◌, sym, ap, ap₂, ◌∙◌}
use mathlib.Core.List.{List, [], ◌∷◌, ◌++◌, append-nil, flat_map}
use Prim.Native.Nat.{ℕ, ◌+◌, ◌-◌, ◌<◌, ◌≤◌, zero-le}
use native.Mathlib.Omega.{arith}
use lib.ListN.{length, take, drop, get_or, set, length-append, length-take, length-drop, drop_of_length-le}
use lib.Seq.{take_all}
use borrow.Rule.Slice.PartMut.{put_mid}
use Rattle.lists.specs.laws.Parts.{take-one, take_more}
use Rattle.lists.specs.laws.Filled.{Filled, filled_none, filled-one, filled-part}
use Rattle.lists.specs.laws.Tab.{flat_append}
use Rattle.expression.specs.Words.{word}
use Rattle.lookup.specs.Lookups.{lookup_count}
use Rattle.packing_columns.specs.inner.LookupLists.{list_start, list_length, list_part}
use Rattle.packing_columns.specs.inner.LookupListsRequires.{LookupNumbers}
use Rattle.packing_columns.specs.laws.Starts.{start-le}
use Rattle.packing_columns.specs.declared.lookup_lists.LookupList.{LookupList}

-- the first i elements are copied
pub record Copying {A : Type 0} (src d b : List A) (i : ℕ) : Type 0 where
  pub out : Filled d (take i src) i b
  pub room : length src ≤ length d

pub copy_begins : {A : Type 0} {src d : List A} → length src ≤ length d → Copying src d d 0
copy_begins h = record { out = filled_none; room = h }

pub copy_turn : {A : Type 0} {src d b : List A} {i : ℕ} {v : A} → Copying src d b i → i < length src → v ≡ get_or src i v → Copying src d (set b i v) (i + 1)
copy_turn {A} {src} {d} {b} {i} {v} s h e =
    record { out = filled-one v v s.out (omega (arith, s.room)) (take-one src i v h ∙ ap (λ (x : A). take i src ++ (x ∷ [])) (sym e)); room = s.room }

pub copy_ends : {A : Type 0} {src d b : List A} {i : ℕ} → Copying src d b i → length src ≤ i → i ≤ length src → b ≡ src ++ drop (length src) d
copy_ends {A} {src} {d} {b} {i} s h g =
    let e : i ≡ length src = omega arith in s.out.is ∙ ap₂ (λ (x : List A) (n : ℕ). x ++ drop n d) (take_all i src h) e

module _ {A : Type 0} (f : ℕ → List A) where
  flat-one : (order : List ℕ) (t : ℕ) → t < length order → flat_map f (take (t + 1) order) ≡ flat_map f (take t order) ++ f (word order t)
  unfolding flat_map
  flat-one order t h = ap (flat_map f) (take-one order t 0 h) ∙ flat_append f (take t order) (word order t ∷ []) ∙ ap (λ (l : List A). flat_map f (take t order) ++ l) (append-nil (f (word order t)))

  flat-le : (order : List ℕ) (t : ℕ) → t ≤ length order → length (flat_map f (take t order)) ≤ length (flat_map f order)
  flat-le order t h =
      let e : flat_map f order ≡ flat_map f (take t order) ++ flat_map f (take (length order - t) (drop t order)) =
      ap (flat_map f) (sym (take_all (length order) order (omega arith)) ∙ take_more order t (length order) h) ∙ flat_append f (take t order) (take (length order - t) (drop t order)) in
      rw (ap length e ∙ length-append (flat_map f (take t order)) (flat_map f (take (length order - t) (drop t order)))) (omega arith)

pub record Writing {A : Type 0} (f : ℕ → List A) (order : List ℕ) (d b : List A) (end t : ℕ) : Type 0 where
  pub out : Filled d (flat_map f (take t order)) end b
  pub within : t ≤ length order
  pub room : length (flat_map f order) ≤ length d

pub write_begins : {A : Type 0} {f : ℕ → List A} {order : List ℕ} {d : List A} → length (flat_map f order) ≤ length d → Writing f order d d 0 0
unfolding flat_map
write_begins h = record { out = filled_none; within = zero-le; room = h }

pub write_room : {A : Type 0} {f : ℕ → List A} {order : List ℕ} {d b : List A} {end t : ℕ} (n : ℕ) → Writing f order d b end t → t < length order → n ≡ length (f (word order t)) → end + n ≤ length b
write_room {f = f} {order} {d} {b} {end} {t} n s h e =
    let p : length (flat_map f (take (t + 1) order)) ≡ length (flat_map f (take t order)) + length (f (word order t)) =
    ap length (flat-one f order t h) ∙ length-append (flat_map f (take t order)) (f (word order t)) in
    omega (arith, s.out.size, s.out.len, s.room, flat-le f order (t + 1) (omega arith))

pub write_turn : {A : Type 0} {f : ℕ → List A} {order : List ℕ} {d b ys : List A} {end t n : ℕ} → Writing f order d b end t → t < length order → n ≡ length (f (word order t)) → ys ≡ f (word order t)
    → Writing f order d (put_mid end (end + n - end) b ys) (end + n) (t + 1)
write_turn {A} {f} {order} {d} {b} {ys} {end} {t} {n} s h e y =
    let r : end + n ≤ length b = write_room n s h e in
    let q : length ys ≡ end + n - end = ap length y ∙ (let w : length (f (word order t)) ≡ end + n - end = omega (arith, e) in w) in
    record {
      out = filled-part ys s.out (omega arith) (omega (arith, r, s.out.len)) q (flat-one f order t h ∙ ap (λ (x : List A). flat_map f (take t order) ++ x) (sym y));
      within = omega arith;
      room = s.room;
    }

pub write_ends : {A : Type 0} {f : ℕ → List A} {order : List ℕ} {d b : List A} {end t : ℕ} → Writing f order d b end t → length order ≤ t → b ≡ flat_map f order ++ drop (length (flat_map f order)) d
write_ends {f = f} {order} {d} {b} {end} {t} s h =
    let e : take t order ≡ order = take_all t order h in
    s.out.is ∙ ap₂ (λ (x : List ℕ) (n : ℕ). flat_map f x ++ drop n d) e (sym s.out.size ∙ ap (λ (x : List ℕ). length (flat_map f x)) e)

-- a part's length
pub span_is : {a b i : ℕ} (list : LookupList) (lookups tuples order : List ℕ) (t : ℕ) → i ≡ word order t → a ≡ list_start list lookups tuples i → b ≡ list_start list lookups tuples (i + 1)
    → b - a ≡ list_length list lookups tuples (word order t)
unfolding list_length
span_is list lookups tuples order t ei ea eb = rw (← ei, ea, eb)

pub start-next : {a b : ℕ} (list : LookupList) (lookups tuples : List ℕ) (i : ℕ) → a ≡ list_start list lookups tuples i → b ≡ list_start list lookups tuples (i + 1) → a ≤ b
start-next list lookups tuples i ea eb = omega (arith, ea, eb, start-le list lookups tuples i (i + 1) (omega arith))

-- the part from a to b is that of the t-th lookup of the order
pub record Next {A : Type 0} (list : LookupList) (lookups tuples order : List ℕ) (src : List A) (t a b : ℕ) : Type 0 where
  pub le : a ≤ b
  pub in_list : b ≤ length src
  pub long : b - a ≡ length (list_part list lookups tuples src (word order t))
  pub is : take (b - a) (drop a src) ≡ list_part list lookups tuples src (word order t)

pub next-part : {A : Type 0} {a b i : ℕ} (list : LookupList) (lookups tuples order : List ℕ) (src : List A) (t : ℕ) → LookupNumbers (lookup_count lookups) order → list_start list lookups tuples (lookup_count lookups) ≤ length src
    → t < length order → i ≡ word order t → a ≡ list_start list lookups tuples i → b ≡ list_start list lookups tuples (i + 1) → Next list lookups tuples order src t a b
unfolding list_part
next-part {a = a} {b} {i} list lookups tuples order src t num room h ei ea eb =
    let below : i < lookup_count lookups = rw ei (num.below t h) in
    let s : b ≤ length src = omega (arith, eb, room, start-le list lookups tuples (i + 1) (lookup_count lookups) (omega arith)) in
    let l : a ≤ b = start-next list lookups tuples i ea eb in
    let e : take (b - a) (drop a src) ≡ take (list_length list lookups tuples (word order t)) (drop (list_start list lookups tuples (word order t)) src) =
    ap₂ (λ (n m : ℕ). take n (drop m src)) (span_is list lookups tuples order t ei ea eb) (ea ∙ ap (list_start list lookups tuples) ei) in
    record { le = l; in_list = s; long = sym (ap length (sym e) ∙ simp (length-take, length-drop) (omega arith)); is = e }

-- a part was lent as much room as it has words
pub copied : {A : Type 0} {ys : List A} (f src out : List A) (a b end : ℕ) → take (b - a) (drop a src) ≡ f → b - a ≡ length f
    → ys ≡ take (b - a) (drop a src) ++ drop (length (take (b - a) (drop a src))) (take (end + (b - a) - end) (drop end out)) → ys ≡ f
copied {A} {ys} f src out a b end e l y =
    let n : length (take (b - a) (drop a src)) ≡ b - a = ap length e ∙ sym l in
    let z : drop (length (take (b - a) (drop a src))) (take (end + (b - a) - end) (drop end out)) ≡ [] =
    drop_of_length-le (take (end + (b - a) - end) (drop end out)) {i = length (take (b - a) (drop a src))} (rw n (simp length-take (omega arith))) in
    y ∙ ap (λ (x : List A). take (b - a) (drop a src) ++ x) z ∙ append-nil (take (b - a) (drop a src)) ∙ e
