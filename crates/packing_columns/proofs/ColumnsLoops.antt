-- One column: its numbers, and the turns of the loop that fills it.
use mathlib.Core.Path.{◌≡◌, refl, sym, ap, ap₂, ◌∙◌}
use mathlib.Core.Bool.{Bool, true, false, cond, ◌||◌}
use mathlib.Core.List.{List, [], ◌∷◌}
use Prim.Native.Nat.{ℕ, ◌+◌, ◌*◌, ◌-◌, ◌<◌, ◌≤◌, max}
use native.Mathlib.Numerals.{add-one}
use native.Mathlib.Omega.{arith}
use lib.Dec.{eqb}
use lib.ListN.{length, drop, set, drop_of_length-le}
use lib.Seq.{drop-cons}
use Rattle.lists.specs.laws.Writing.{nine-set}
use Rattle.expression.specs.Words.{word, low_half, high_half}
use Rattle.std.specs.Int.{from_bool}
use Rattle.expression.specs.Values.{bit}
use Rattle.lookup.specs.Lookups.{lookup_count, on_bus, name_length, weight, exclusive, tuple_count, tuple_start, multiplicity_start}
use Rattle.lookup.specs.Tests.{weight_limit}
use Rattle.lookup_degree.specs.laws.Greatest.{greatest-le}
use Rattle.lookup_degree.specs.inner.At.{denominator_at, numerator_at, FewUpTo}
use Rattle.packing_columns.specs.inner.Columns.{PlanSource, top_at, opened, opened_at, merge, fits, joins_at, columns_from, columns_of, saturated, column_words}
use Rattle.packing_columns.specs.inner.ColumnsRequires.{ColumnWithin, DegreesSmall, ColumnTaken}
use Rattle.packing_columns.specs.declared.columns.OpenColumn.{OpenColumn}

-- the numerator is of no larger degree than a node and all denominators
numerator-le : (nodes degrees lookups multiplicities : List ℕ) (i : ℕ) → DegreesSmall nodes → numerator_at nodes degrees lookups multiplicities i ≤ 4294967295 + denominator_at degrees lookups i
unfolding numerator_at
numerator-le nodes degrees lookups multiplicities i low =
    greatest-le (λ k. word nodes (word multiplicities (multiplicity_start lookups i + k)) + (denominator_at degrees lookups i - word degrees (tuple_start lookups i + k)))
    (tuple_count lookups i) (4294967295 + denominator_at degrees lookups i) (λ k h. omega (arith, low (word multiplicities (multiplicity_start lookups i + k))))

pub top_is : {d n r : ℕ} (nodes degrees lookups multiplicities : List ℕ) (i : ℕ) → DegreesSmall nodes → (d ≡ denominator_at degrees lookups i) × (d ≤ 274877906880)
    → n ≡ numerator_at nodes degrees lookups multiplicities i → r ≡ max d n → (r ≡ top_at nodes degrees lookups multiplicities i) × (r ≤ 549755813888)
unfolding top_at
top_is {d} {n} {r} nodes degrees lookups multiplicities i low ed en er =
    let h : n ≤ 4294967295 + d = rw (en, ed.0) (numerator-le nodes degrees lookups multiplicities i low) in
    let g : d ≤ 274877906880 = ed.1 in
    (er ∙ ap₂ max ed.0 en, omega (arith, er))

-- a weight is at most that of 64 tuples
pub weight-le : (lookups : List ℕ) (i : ℕ) → FewUpTo lookups i → weight lookups i ≤ weight_limit lookups i → weight lookups i ≤ 549755813888
unfolding weight_limit
weight-le lookups i f h = omega (arith, h, most (on_bus lookups i || eqb (tuple_count lookups i) 0) (omega (arith, f.tuples)))
  where
    most : (b : Bool) → tuple_count lookups i ≤ 64 → cond b 4294967295 (tuple_count lookups i * 4294967295) ≤ 549755813888
    most true g = omega arith
    most false g = omega arith

-- a column of t lookups, and one more
within-merge : (t : ℕ) (a b : OpenColumn) → ColumnWithin (t * 549755813888) a → ColumnWithin 549755813888 b → ColumnWithin ((t + 1) * 549755813888) (merge a b)
unfolding merge
within-merge t a b x y =
    record {
      sum = omega (arith, x.sum, y.sum);
      top = omega (arith, x.top, y.top, x.sum, y.sum);
      weight = omega (arith, x.weight, y.weight);
      tuples = omega (arith, x.tuples, y.tuples);
      multiplicities = omega (arith, x.multiplicities, y.multiplicities);
      flags = omega (arith, x.flags, y.flags);
    }

pub within-le : {a b : ℕ} {o : OpenColumn} → a ≤ b → ColumnWithin a o → ColumnWithin b o
within-le h w =
    record {
      sum = omega (arith, w.sum);
      top = omega (arith, w.top);
      weight = omega (arith, w.weight);
      tuples = omega (arith, w.tuples);
      multiplicities = omega (arith, w.multiplicities);
      flags = omega (arith, w.flags);
    }

columns-head : (s : PlanSource) (xs : List ℕ) (k : ℕ) → k < length xs → columns_of s (drop k xs) ≡ columns_from s (opened_at s (word xs k)) (drop (k + 1) xs)
unfolding columns_of
columns-head s xs k h = rw (add-one k, drop-cons xs k 0 h)

columns-step : (s : PlanSource) (o : OpenColumn) (xs : List ℕ) (t : ℕ) → t < length xs
    → columns_from s o (drop t xs) ≡ cond (joins_at s o (word xs t)) (columns_from s (merge o (opened_at s (word xs t))) (drop (t + 1) xs)) (o ∷ columns_of s (drop t xs))
unfolding columns_from columns_of
columns-step s o xs t h = rw (add-one t, drop-cons xs t 0 h)

columns_done : (s : PlanSource) (o : OpenColumn) (xs : List ℕ) (t : ℕ) → length xs ≤ t → columns_from s o (drop t xs) ≡ o ∷ columns_of s (drop t xs)
unfolding columns_from columns_of
columns_done s o xs t h = rw (drop_of_length-le xs {i = t} h)

-- the column that began at k has taken what stands before t
pub record Filling (s : PlanSource) (xs : List ℕ) (k : ℕ) (o : OpenColumn) (t : ℕ) : Type 0 where
  pub is : columns_of s (drop k xs) ≡ columns_from s o (drop t xs)
  pub above : k < t
  pub within : t ≤ length xs
  pub few : length xs ≤ 64
  pub head : o.head < lookup_count s.lookups
  pub numbers : ColumnWithin (t * 549755813888) o

pub small : {s : PlanSource} {xs : List ℕ} {k t : ℕ} {o : OpenColumn} → Filling s xs k o t → ColumnWithin 35184372088832 o
small {s} {xs} {k} {t} {o} f = within-le (omega (arith, f.within, f.few)) f.numbers

head_opened : (s : PlanSource) (i : ℕ) → (opened_at s i).head ≡ i
unfolding opened
head_opened s i = refl

head-merge : (a b : OpenColumn) → (merge a b).head ≡ a.head
unfolding merge
head-merge a b = refl

pub fill_begins : {s : PlanSource} {xs : List ℕ} {k i : ℕ} {o : OpenColumn} → k < length xs → length xs ≤ 64 → i ≡ word xs k → i < lookup_count s.lookups
    → (o ≡ opened_at s i) × ColumnWithin 549755813888 o → Filling s xs k o (k + 1)
fill_begins {s} {xs} {k} {i} {o} h few ei hi eo =
    record {
      is = columns-head s xs k h ∙ ap (λ (x : OpenColumn). columns_from s x (drop (k + 1) xs)) (ap (opened_at s) (sym ei) ∙ sym eo.0);
      above = omega arith;
      within = omega arith;
      few = few;
      head = rw (eo.0, head_opened s i) hi;
      numbers = within-le (omega arith) eo.1;
    }

joined : (s : PlanSource) (o a n : OpenColumn) (i : ℕ) (f : Bool) → a ≡ opened_at s i → n ≡ merge o a → f ≡ fits s.lookups s.names s.limit o.head i n → joins_at s o i ≡ f
joined s o a n i f ea en ef = ap (fits s.lookups s.names s.limit o.head i) (ap (merge o) (sym ea) ∙ sym en) ∙ sym ef

pub fill_turn : {s : PlanSource} {xs : List ℕ} {k t i : ℕ} {o a n : OpenColumn} {f : Bool} → Filling s xs k o t → t < length xs → i ≡ word xs t
    → (a ≡ opened_at s i) × ColumnWithin 549755813888 a → n ≡ merge o a → f ≡ fits s.lookups s.names s.limit o.head i n → f ≡ true → Filling s xs k n (t + 1)
fill_turn {s} {xs} {k} {t} {i} {o} {a} {n} {f} g h ei ea en ef y =
    let j : joins_at s o (word xs t) ≡ true = ap (joins_at s o) (sym ei) ∙ joined s o a n i f ea.0 en ef ∙ y in
    let m : merge o (opened_at s (word xs t)) ≡ n = ap (λ (q : ℕ). merge o (opened_at s q)) (sym ei) ∙ ap (merge o) (sym ea.0) ∙ sym en in
    record {
      is = g.is ∙ columns-step s o xs t h
          ∙ ap₂ (λ (b : Bool) (x : OpenColumn). cond b (columns_from s x (drop (t + 1) xs)) (o ∷ columns_of s (drop t xs))) j m;
      above = omega (arith, g.above);
      within = omega arith;
      few = g.few;
      head = rw (en, head-merge o a) g.head;
      numbers = rw en (within-merge t o a g.numbers ea.1);
    }

-- the next lookup does not join
pub fill_stops : {s : PlanSource} {xs : List ℕ} {k t i : ℕ} {o a n : OpenColumn} {f : Bool} → Filling s xs k o t → t < length xs → i ≡ word xs t
    → (a ≡ opened_at s i) × ColumnWithin 549755813888 a → n ≡ merge o a → f ≡ fits s.lookups s.names s.limit o.head i n → f ≡ false
    → ColumnTaken s xs k (record { column = o; end = t })
fill_stops {s} {xs} {k} {t} {i} {o} {a} {n} {f} g h ei ea en ef y =
    let j : joins_at s o (word xs t) ≡ false = ap (joins_at s o) (sym ei) ∙ joined s o a n i f ea.0 en ef ∙ y in
    record {
      is = g.is ∙ columns-step s o xs t h
          ∙ ap (λ (b : Bool). cond b (columns_from s (merge o (opened_at s (word xs t))) (drop (t + 1) xs)) (o ∷ columns_of s (drop t xs))) j;
      above = g.above;
      within = g.within;
      head = g.head;
      small = small g;
    }

pub fill-ends : {s : PlanSource} {xs : List ℕ} {k t : ℕ} {o : OpenColumn} → Filling s xs k o t → length xs ≤ t → ColumnTaken s xs k (record { column = o; end = length xs })
fill-ends {s} {xs} {k} {t} {o} g h =
    let e : t ≡ length xs = omega (arith, g.within, h) in
    rw (← e)
    (record { is = g.is ∙ columns_done s o xs t h; above = g.above; within = g.within; head = g.head; small = small g })

pub merged-small : {s : PlanSource} {xs : List ℕ} {k t : ℕ} {o a n : OpenColumn} → Filling s xs k o t → ColumnWithin 549755813888 a → n ≡ merge o a → n.sum ≤ 70368744177664
unfolding merge
merged-small {s} {xs} {k} {t} {o} {a} {n} f w e =
    let x : o.sum ≤ 35184372088832 = (small f).sum in
    rw e (omega (arith, w.sum))

-- a mark as a word
from-bit : (b : Bool) → from_bool b ≡ bit b
from-bit true = refl
from-bit false = refl

-- the words of a column, one by one
pub column_put : {a b w x t m f v : ℕ} {on ex : Bool} (l lookups : List ℕ) (k : ℕ) (o : OpenColumn) → length l ≡ 9 → on ≡ on_bus lookups o.head → a ≡ from_bool on → b ≡ name_length lookups o.head
    → w ≡ low_half o.weight → ex ≡ exclusive lookups o.head → x ≡ from_bool ex → t ≡ saturated o.tuples → m ≡ saturated o.multiplicities → f ≡ saturated o.flags
    → v ≡ high_half o.weight → set (set (set (set (set (set (set (set (set l 0 a) 1 b) 2 w) 3 k) 4 x) 5 t) 6 m) 7 f) 8 v ≡ column_words lookups k o
unfolding column_words
column_put {a} {b} {w} {x} {t} {m} {f} {v} {on} {ex} l lookups k o h e₀ ea eb ew e₁ ex' et em ef ev =
    let pa = ea ∙ from-bit on ∙ ap bit e₀ in
    let px = ex' ∙ from-bit ex ∙ ap bit e₁ in
    nine-set l a b w k x t m f v h ∙ (λ j. pa j ∷ eb j ∷ ew j ∷ k ∷ px j ∷ et j ∷ em j ∷ ef j ∷ ev j ∷ [])
