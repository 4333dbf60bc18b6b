-- The turns of the loops of degrees, over plain lists and numbers.
use mathlib.Core.Path.{◌≡◌, refl, sym, ap, ap₂, ◌∙◌}
use mathlib.Core.List.{List, [], ◌∷◌, ◌++◌}
use Prim.Native.Nat.{ℕ, suc, ◌+◌, ◌-◌, ◌<◌, ◌≤◌, zero-le, max}
use native.Mathlib.Numerals.{add-one}
use native.Mathlib.Omega.{arith}
use native.Mathlib.Nat.{zero-add}
use lib.ListN.{length, take, drop, get_or, set, replicate, drop_of_length-le}
use lib.Seq.{drop-cons}
use Rattle.lists.specs.Count.{total}
use Rattle.lists.specs.Tab.{tab}
use Rattle.lists.specs.laws.Count.{total-one, total_in}
use Rattle.lists.specs.laws.Tab.{tab_none, tab-one}
use Rattle.lists.specs.laws.Filled.{Filled, filled_none, filled-one}
use Rattle.expression.specs.Words.{word}
use Rattle.lookup.specs.Lookups.{element_start}
use Rattle.lookup_degree.specs.Sums.{largest_of}
use Rattle.lookup_degree.specs.Degree.{tuple_degree}
use Rattle.lookup_degree.specs.inner.At.{tuple_degree_at}

-- the largest degree so far of a list's nodes
pub record Topping (f : ℕ → ℕ) (xs : List ℕ) (i m : ℕ) : Type 0 where
  pub rest : max m (largest_of f (drop i xs)) ≡ largest_of f xs
  pub within : i ≤ length xs

top-step : (f : ℕ → ℕ) (xs : List ℕ) (i : ℕ) → i < length xs → largest_of f (drop i xs) ≡ max (f (get_or xs i 0)) (largest_of f (drop (suc i) xs))
unfolding largest_of
top-step f xs i h = rw (drop-cons xs i 0 h)

pub topping_turn : {f : ℕ → ℕ} {xs : List ℕ} {i m m' j x : ℕ} → Topping f xs i m → i < length xs → j ≡ get_or xs i 0 → x ≡ f j → m' ≡ max m x → Topping f xs (i + 1) m'
topping_turn {f} {xs} {i} {m} {m'} {j} {x} s h ej ex em =
    let e : x ≡ f (get_or xs i 0) = ex ∙ ap f ej in
    record { rest = rw (add-one i) (omega (arith, s.rest, top-step f xs i h)); within = omega arith }

pub topping_ends : {f : ℕ → ℕ} {xs : List ℕ} {i m : ℕ} → Topping f xs i m → length xs ≤ i → m ≡ tuple_degree f xs
unfolding tuple_degree largest_of
topping_ends {f} {xs} {i} {m} s h = let e : largest_of f (drop i xs) ≡ 0 = ap (largest_of f) (drop_of_length-le xs {i = i} h) in omega (arith, s.rest)

-- the degrees of the first j tuples stand in b, and the elements of tuple j begin at `start`
pub record Degreed (f : ℕ → ℕ) (tuples elements : List ℕ) (j start : ℕ) (d b : List ℕ) : Type 0 where
  pub out : Filled d (tab (tuple_degree_at f tuples elements) 0 j) j b
  pub within : j ≤ length tuples
  pub start_is : start ≡ element_start tuples j
  pub zeros : d ≡ replicate 64 0

pub degreed_begins : {f : ℕ → ℕ} {tuples elements : List ℕ} → Degreed f tuples elements 0 0 (replicate 64 0) (replicate 64 0)
unfolding element_start total
degreed_begins {f} {tuples} {elements} = record { out = rw (tab_none (tuple_degree_at f tuples elements) 0) filled_none; within = zero-le; start_is = refl; zeros = refl }

pub degreed_room : {f : ℕ → ℕ} {tuples elements d b : List ℕ} {j start w : ℕ} → Degreed f tuples elements j start d b → j < length tuples → w ≡ word tuples j
    → element_start tuples (length tuples) ≤ length elements → start + w ≤ length elements
unfolding element_start
degreed_room {f} {tuples} {elements} {d} {b} {j} {start} {w} s h e g = omega (arith, s.start_is, total_in (word tuples) j (length tuples) h)

pub degreed_turn : {f : ℕ → ℕ} {tuples elements d b : List ℕ} {j start w x : ℕ} → Degreed f tuples elements j start d b → j < length tuples → length tuples ≤ 64 → w ≡ word tuples j
    → x ≡ tuple_degree f (take (start + w - start) (drop start elements)) → Degreed f tuples elements (j + 1) (start + w) d (set b j x)
unfolding tuple_degree_at element_start
degreed_turn {f} {tuples} {elements} {d} {b} {j} {start} {w} {x} s h g ew ex =
    let k : start + w - start ≡ w = omega arith in
    let e : x ≡ tuple_degree_at f tuples elements j = ex ∙ ap₂ (λ (n a : ℕ). tuple_degree f (take n (drop a elements))) (k ∙ ew) s.start_is in
    record {
      out = filled-one x 0 s.out (rw s.zeros (omega arith)) (tab-one (tuple_degree_at f tuples elements) 0 j ∙ ap (λ (v : ℕ). tab (tuple_degree_at f tuples elements) 0 j ++ (v ∷ [])) (ap (tuple_degree_at f tuples elements) (zero-add j) ∙ sym e));
      within = omega arith;
      start_is = ap₂ ◌+◌ s.start_is ew ∙ sym (total-one (word tuples) j);
      zeros = s.zeros;
    }

-- one denominator is no more than all
pub one_of : {x : ℕ} (f : ℕ → ℕ) (n k s : ℕ) → total f n ≤ s → k < n → x ≡ f k → x ≤ s
one_of f n k s h l e = omega (arith, total_in f k n l)
