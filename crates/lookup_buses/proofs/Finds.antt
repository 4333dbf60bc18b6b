-- The turns of the loops of the widths: the first of n, the largest of n, and what is read of one lookup.
use Rattle.std.specs.Prelude.{Some, None, is_some}
use Rattle.std.specs.Prelude as Std
use Rattle.std.proofs.lemmas.List.{get_or-take, get_or-drop}
use mathlib.Core.Path.{◌≡◌, refl, sym, ap, ap₂, ◌∙◌}
use mathlib.Core.Bool.{Bool, true, false, ◌&&◌}
use mathlib.Core.Option.{Option, none, some}
use mathlib.Core.List.{List, ◌++◌}
use Prim.Native.Nat.{ℕ, ◌+◌, ◌-◌, ◌<◌, ◌≤◌}
use native.Mathlib.Omega.{arith}
use native.Mathlib.Nat.{add-zero}
use borrow.Author.Tests.{lt-ltb, le-ltb}
use lib.ListN.{length, take, drop, get_or, replicate, length-take}
use Rattle.lists.specs.Same.{same_list}
use Rattle.lists.specs.Count.{every, first}
use Rattle.lists.specs.laws.Count.{total_in, every_one, every_stop}
use Rattle.expression.specs.Words.{word}
use Rattle.lookup.specs.Lookups.{lookup_count, on_bus, tuple_count, tuple_start, tuple_width, bus_lookups}
use Rattle.lookup.specs.Buses.{name_at, alone_at}
use Rattle.lookup.specs.Requires.{BusNames}
use Rattle.lookup_degree.specs.Sums.{greatest}
use Rattle.lookup_buses.specs.Order.{arranged}
use Rattle.lookup_buses.specs.laws.NoneYet.{NoneYet, none_turn, none_stops}
use Rattle.lookup_buses.specs.laws.Order.{arranged-below}
use Rattle.lists.specs.laws.Parts.{get_or_pad}
use Rattle.expression.specs.declared.refusal.Refusal.{Refusal}
use Rattle.lookup_buses.specs.Widths.{Tables, width_in_lookup, expected, tuple_refusal, by_bus, lookup_refusal, widest_in_lookup}
use Rattle.lookup_buses.specs.inner.Requires.{BusLists, width_option}

pub named : {l m t : List ℕ} → BusLists l m t → BusNames l m
named a = record { few = a.few; room = a.names_in }

-- the tuples of lookup i lie in the list
pub tuples_in : {l m t : List ℕ} (i : ℕ) → BusLists l m t → i < lookup_count l → tuple_start l i + tuple_count l i ≤ length t
unfolding tuple_start
tuples_in {l} {m} {t} i a h = omega (arith, a.tuples_in, total_in (tuple_count l) i (lookup_count l) h)

width_is : {s : ℕ} (l t : List ℕ) (i k : ℕ) → s ≡ tuple_start l i → word t (s + k) ≡ tuple_width l t i k
unfolding tuple_width
width_is {s} l t i k e = ap (λ (a : ℕ). word t (a + k)) e

-- element k of the part of the tuples that the code goes through
pub item-below : {n m k : ℕ} (s : ℕ) (t : List ℕ) → n ≡ m → k < length (take (s + n - s) (drop s t)) → k < m
item-below {n} {m} {k} s t e h = omega (arith, simp length-take at h)

pub item_is : {s : ℕ} (l t : List ℕ) (i k m : ℕ) → s ≡ tuple_start l i → k < length (take m (drop s t)) → get_or (take m (drop s t)) k 0 ≡ tuple_width l t i k
item_is {s} l t i k m e h =
    get_or-take m (drop s t) k 0 (omega (arith, simp length-take at h)) ∙ get_or-drop s t k 0 ∙ width_is l t i k e

-- a loop that leaves at the first test that fails: the first i hold
pub record Held (f : ℕ → Bool) (i : ℕ) : Type 0 where
  pub is : every f i ≡ true

pub held_begins : {f : ℕ → Bool} → Held f 0
unfolding every
held_begins = record { is = refl }

pub held_turn : {f : ℕ → Bool} {i : ℕ} {b : Bool} → Held f i → b ≡ f i → b ≡ true → Held f (i + 1)
held_turn {f} {i} {b} s e z = record { is = every_one f i ∙ ap₂ ◌&&◌ s.is (sym e ∙ z) }

pub held_stops : {f : ℕ → Bool} {n i : ℕ} {b : Bool} → Held f i → i < n → b ≡ f i → b ≡ false → false ≡ every f n
held_stops {f} {n} {i} {b} s h e z = sym (every_stop f n i h (sym e ∙ z))

pub held_ends : {f : ℕ → Bool} {n i : ℕ} → Held f i → i ≤ n → n ≤ i → true ≡ every f n
held_ends {f} {n} {i} s g k = let e : i ≡ n = omega arith in sym s.is ∙ ap (every f) e

-- a loop that leaves at the first width
pub width_turn : {f : ℕ → Option ℕ} {i : ℕ} (o : Std.Option ℕ) → NoneYet f i → width_option o ≡ f i → is_some o ≡ false → NoneYet f (i + 1)
width_turn None s e z = none_turn s (sym e)
width_turn (Some w) s e z = cc

pub width_stops : {f : ℕ → Option ℕ} {n i : ℕ} (o : Std.Option ℕ) → NoneYet f i → i < n → width_option o ≡ f i → is_some o ≡ true → width_option o ≡ first f n
width_stops None s h e z = cc
width_stops {f} {n} {i} (Some w) s h e z = none_stops s h (sym e)

-- `width_in_lookup`, return by return
module _ (bus l m t : List ℕ) (i : ℕ) where
  pub width-local : {b : Bool} → b ≡ on_bus l i → b ≡ false → none ≡ width_in_lookup bus (bus_lookups l m t) i
  unfolding width_in_lookup
  width-local {b} e z = rw (sym e ∙ z)

  pub width_other : {b d : Bool} → b ≡ on_bus l i → b ≡ true → d ≡ same_list bus (name_at l m i) → d ≡ false → none ≡ width_in_lookup bus (bus_lookups l m t) i
  unfolding width_in_lookup
  width_other {b} {d} e z f y = rw (sym e ∙ z, sym f ∙ y)

  pub width_none : {b d : Bool} {n : ℕ} → b ≡ on_bus l i → b ≡ true → d ≡ same_list bus (name_at l m i) → d ≡ true → n ≡ tuple_count l i → n ≡ 0
      → none ≡ width_in_lookup bus (bus_lookups l m t) i
  unfolding width_in_lookup
  width_none {b} {d} {n} e z f y g x = rw (sym e ∙ z, sym f ∙ y, ← g, le-ltb 0 n (omega arith))

  pub width-first : {b d : Bool} {n s : ℕ} → b ≡ on_bus l i → b ≡ true → d ≡ same_list bus (name_at l m i) → d ≡ true → n ≡ tuple_count l i → 0 < n → s ≡ tuple_start l i
      → some (word t s) ≡ width_in_lookup bus (bus_lookups l m t) i
  unfolding width_in_lookup
  width-first {b} {d} {n} {s} e z f y g x q = rw (sym e ∙ z, sym f ∙ y, ← g, lt-ltb 0 n x) (ap some (ap (word t) (sym (add-zero s)) ∙ width_is l t i 0 q))

pub widest-local : {b : Bool} (l m t : List ℕ) (i : ℕ) → b ≡ on_bus l i → b ≡ false → 0 ≡ widest_in_lookup (bus_lookups l m t) i
unfolding widest_in_lookup
widest-local l m t i e z = rw (sym e ∙ z)

pub widest-bus : {b : Bool} {r : ℕ} (l m t : List ℕ) (i : ℕ) → b ≡ on_bus l i → b ≡ true → r ≡ greatest (tuple_width l t i) (tuple_count l i) → r ≡ widest_in_lookup (bus_lookups l m t) i
unfolding widest_in_lookup
widest-bus l m t i e z g = rw (sym e ∙ z) g

-- `lookup_verdict`
module _ (ts : Tables) (l m t : List ℕ) (i : ℕ) where
  pub verdict-local : {b : Bool} → b ≡ on_bus l i → b ≡ false → none ≡ lookup_refusal ts (bus_lookups l m t) i
  unfolding lookup_refusal
  verdict-local {b} e z = rw (sym e ∙ z)

  pub verdict-bus : {b : Bool} {o : Option ℕ} {r : Option Refusal} → b ≡ on_bus l i → b ≡ true → o ≡ expected ts (name_at l m i) → r ≡ first (λ k. tuple_refusal i o (tuple_width l t i k)) (tuple_count l i)
      → r ≡ lookup_refusal ts (bus_lookups l m t) i
  unfolding lookup_refusal
  verdict-bus {b} e z f g = rw (sym e ∙ z, ← f) g

-- the order that the code fills is that of the definition
pub bus_at : {i : ℕ} {b : List ℕ} (l m t : List ℕ) (k : ℕ) → b ≡ arranged (alone_at false l) (name_at l m) (lookup_count l) ++ drop (lookup_count l) (replicate 64 0) → i ≡ get_or b k 0
    → i ≡ word (by_bus (bus_lookups l m t)) k
unfolding by_bus
bus_at l m t k e g = g ∙ ap (λ (x : List ℕ). get_or x k 0) e ∙ get_or_pad (arranged (alone_at false l) (name_at l m) (lookup_count l)) 64 (lookup_count l) k

pub bus-below : {i : ℕ} {b : List ℕ} (l m t : List ℕ) (k : ℕ) → k < lookup_count l → b ≡ arranged (alone_at false l) (name_at l m) (lookup_count l) ++ drop (lookup_count l) (replicate 64 0) → i ≡ get_or b k 0
    → i < lookup_count l
unfolding by_bus
bus-below {i} l m t k h e g = rw (bus_at l m t k e g) (arranged-below (alone_at false l) (name_at l m) (lookup_count l) k (omega arith))

pub bus_verdict : {i : ℕ} {b : List ℕ} {r : Option Refusal} (ts : Tables) (l m t : List ℕ) (k : ℕ) → b ≡ arranged (alone_at false l) (name_at l m) (lookup_count l) ++ drop (lookup_count l) (replicate 64 0) → i ≡ get_or b k 0
    → r ≡ lookup_refusal ts (bus_lookups l m t) i → r ≡ lookup_refusal ts (bus_lookups l m t) (word (by_bus (bus_lookups l m t)) k)
bus_verdict ts l m t k e g h = h ∙ ap (lookup_refusal ts (bus_lookups l m t)) (bus_at l m t k e g)
