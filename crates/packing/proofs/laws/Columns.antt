-- What the columns of packing keep of the lookups.
use Rattle.std.specs.Prelude.{◌≡◌, Bool, not, ◌&&◌, ◌⊎◌, ltb, leb}
use Rattle.std.proofs.Math.Path.{refl, sym, ap, ap₂}
use Rattle.std.proofs.Common.{◌∙◌, inl, inr, ltb-false, leb-true, lt-ltb}
use Rattle.std.proofs.Math.Bool.{true, false, cond}
use mathlib.Core.List.Memᴰ
use mathlib.Core.List.{List, [], ◌∷◌, ◌++◌, append_assoc, map, flat_map, Memᴰ, map-append}
use Prim.Native.Nat.{ℕ, suc, ◌+◌, ◌<◌, ◌≤◌}
use native.Mathlib.Omega.{arith}
use Rattle.std.proofs.Math.Dec.{eqb, eqb-suc-zero}
use Rattle.std.proofs.lemmas.Bool.{not-true}
use Rattle.lists.specs.Same.{same_list}
use Rattle.lists.specs.laws.Same.{same_list-eq}
use Rattle.lookup_degree.specs.Sums.{sum_of}
use Rattle.lookup.specs.Lookups.{Lookups, Lookup, lookup_count, lookup_at, lookups_of}
use Rattle.lookup.specs.Buses.{same_bus}
use Rattle.lookup_degree.specs.Degree.{denominator_degree, numerator_degree, additive_degree, exclusive_degree, lookup_degree}
use Rattle.lookup_buses.specs.Order.{keep, position, by_place, numbers, place, arranged}
use Rattle.packing.specs.Keeps.{Lawful}
use Rattle.packing.specs.Packing.{passes, additive_on, on_one_bus, in_order, merged, joins, fill, filled, numbered, renumbered, packed}
use Rattle.lookup_buses.specs.laws.Order.{keep_cong, keep-map, position_none, sum-map, tab-map, numbers-length, arranged-sum, arranged_in, by_place-keep, by_place-front}

pub and_both : (a b : Bool) → (a && b) ≡ true → (a ≡ true) × (b ≡ true)
and_both true b e = (refl, e)
and_both false b e = (e, cc)

-- what two lookups that share a bus agree in
pub on_one : (a b : Lookup) → on_one_bus a b ≡ true → (passes a ≡ false) × (passes b ≡ false) × (a.name ≡ b.name)
on_one a b e =
    let s = and_both (not (passes a)) (additive_on a.name b) e in
    let t = and_both (not (passes b)) (same_list a.name b.name) s.1 in
    (not-true (passes a) s.0, not-true (passes b) t.0, same_list-eq a.name b.name t.1)

agree : (n : List ℕ) (pa pb : Bool) (na nb : List ℕ) → pa ≡ false → pb ≡ false → na ≡ nb → (not pb && same_list n nb) ≡ (not pa && same_list n na)
agree n pa pb na nb e f g = rw (e, f, g)

pub bus_agrees : (n : List ℕ) (a b : Lookup) → on_one_bus a b ≡ true → additive_on n b ≡ additive_on n a
bus_agrees n a b e = let s = on_one a b e in agree n (passes a) (passes b) a.name b.name s.0 s.1 s.2

-- a table's lookups by number
module _ (l : Lookups) where
  abbrev G : ℕ → Lookup
  G = lookup_at l

  abbrev N : ℕ
  N = lookup_count l.lookups

  abbrev alone : ℕ → Bool
  alone i = passes (lookup_at l i)

  abbrev name : ℕ → List ℕ
  name i = (lookup_at l i).name

  abbrev P : ℕ → ℕ
  P = place alone name N

  all-lookups : lookups_of l ≡ map G (numbers N)
  unfolding lookups_of
  all-lookups = tab-map G N

  -- the place of a bus
  placed : (n : List ℕ) (b : Bool) (m : List ℕ) → b ≡ false → n ≡ m
      → cond b 0 (suc (position (λ j. not b && (not (passes (G j)) && same_list m (G j).name)) (numbers N))) ≡ suc (position (λ j. additive_on n (G j)) (numbers N))
  placed n b m e f = rw (e, f)

  bus-place : (n : List ℕ) (i : ℕ) → additive_on n (G i) ≡ true → P i ≡ suc (position (λ j. additive_on n (G j)) (numbers N))
  unfolding place same_bus
  bus-place n i e =
      let s = and_both (not (passes (G i))) (same_list n (G i).name) e in
      placed n (passes (G i)) (G i).name (not-true (passes (G i)) s.0) (same_list-eq n (G i).name s.1)

  -- the order keeps each bus, in list order
  pub order-bus : (n : List ℕ) → keep (additive_on n) (in_order l) ≡ keep (additive_on n) (lookups_of l)
  unfolding in_order arranged
  order-bus n =
      keep-map (additive_on n) G (by_place P (suc N) (numbers N))
      ∙ ap (map G) (by_place-keep (λ i. additive_on n (G i)) P K (bus-place n) (suc N) (numbers N) ∙ go (ltb K (suc N)) refl)
      ∙ sym (keep-map (additive_on n) G (numbers N))
      ∙ ap (keep (additive_on n)) (sym all-lookups)
    where
      K : ℕ
      K = suc (position (λ j. additive_on n (G j)) (numbers N))

      go : (b : Bool) → ltb K (suc N) ≡ b → cond b (keep (λ i. additive_on n (G i)) (numbers N)) [] ≡ keep (λ i. additive_on n (G i)) (numbers N)
      go true e = refl
      go false e =
          sym (position_none (λ i. additive_on n (G i)) (numbers N)
          (rw (numbers-length N) (let h : suc N ≤ K = ltb-false K (suc N) e in omega arith)))

  -- none is lost and none comes in: any sum over the lookups stays
  pub order-sum : (g : Lookup → ℕ) → sum_of g (in_order l) ≡ sum_of g (lookups_of l)
  unfolding in_order
  order-sum g =
      sum-map g G (arranged alone name N) ∙ arranged-sum alone name N (λ i. g (G i)) ∙ sym (sum-map g G (numbers N)) ∙ ap (sum_of g) (sym all-lookups)

  place-zero : (i : ℕ) → eqb (P i) 0 ≡ passes (G i)
  unfolding place
  place-zero i = go (passes (G i))
    where
      go : (b : Bool) → eqb (cond b 0 (suc (position (same_bus alone name i) (numbers N)))) 0 ≡ b
      go true = refl
      go false = eqb-suc-zero (position (same_bus alone name i) (numbers N))

  alone-zero : (i : ℕ) → passes (G i) ≡ true → P i ≡ 0
  unfolding place
  alone-zero i e = rw e

  -- those that pass stay, in list order
  pub order-passes : keep passes (in_order l) ≡ keep passes (lookups_of l)
  unfolding in_order arranged
  order-passes =
      keep-map passes G (by_place P (suc N) (numbers N))
      ∙ ap (map G) (by_place-keep (λ i. passes (G i)) P 0 alone-zero (suc N) (numbers N) ∙ ap (λ (b : Bool). cond b (keep (λ i. passes (G i)) (numbers N)) []) (lt-ltb 0 (suc N) (omega arith)))
      ∙ sym (keep-map passes G (numbers N))
      ∙ ap (keep passes) (sym all-lookups)

  -- those that pass stand in front
  pub order-front : (rest : List Lookup) × (in_order l ≡ keep passes (lookups_of l) ++ rest)
  unfolding in_order arranged
  order-front =
      let r = by_place-front P N (numbers N) in (
        map G r.0,
        ap (map G) r.1
            ∙ map-append G (keep (λ i. eqb (P i) 0) (numbers N)) r.0
            ∙ ap (λ (x : List Lookup). x ++ map G r.0)
            (ap (map G) (keep_cong (λ i. eqb (P i) 0) (λ i. passes (G i)) place-zero (numbers N)) ∙ sym (keep-map passes G (numbers N)) ∙ ap (keep passes) (sym all-lookups)),
      )

  map_in : (xs : List ℕ) {x : Lookup} → Memᴰ x (map G xs) → (i : ℕ) × Memᴰ i xs × (x ≡ G i)
  map_in [] m = elim m [ ]
  map_in (i ∷ xs) {x} m = go (Memᴰ.cases_cons m) (λ n. map_in xs n)
    where
      go : (x ≡ G i) ⊎ Memᴰ x (map G xs) → (Memᴰ x (map G xs) → (j : ℕ) × Memᴰ j xs × (x ≡ G j)) → (j : ℕ) × Memᴰ j (i ∷ xs) × (x ≡ G j)
      go (inl e) ih = (i, Memᴰ.head refl, e)
      go (inr n) ih = let r = ih n in (r.0, Memᴰ.tail r.1, r.2)

  -- each is one of the lookups
  pub order_in : {x : Lookup} → Memᴰ x (in_order l) → (i : ℕ) × (i < lookup_count l.lookups) × (x ≡ lookup_at l i)
  unfolding in_order
  order_in m = let r = map_in (arranged alone name N) m in (r.0, arranged_in alone name N r.0 r.1, r.2)

-- what each lookup carries is carried by the columns, in order
module _ {B : Type 0} (g : Lookup → List B) (adds : (a b : Lookup) → g (merged a b) ≡ g a ++ g b) (deg : ℕ → ℕ) (limit : ℕ) (n : List ℕ) where
  pub fill_keeps : (c : Lookup) (ls : List Lookup) → flat_map g (keep (additive_on n) (fill deg limit c ls)) ≡ flat_map g (keep (additive_on n) (c ∷ ls))
  unfolding fill keep flat_map
  fill_keeps c [] = refl
  fill_keeps c (l ∷ ls) = go (joins deg limit c l) refl (fill_keeps (merged c l) ls) (fill_keeps l ls)
    where
      K : List Lookup
      K = keep (additive_on n) ls

      joined : (b b' : Bool) → b' ≡ b → flat_map g (cond b (merged c l ∷ K) K) ≡ flat_map g (cond b (c ∷ cond b' (l ∷ K) K) (cond b' (l ∷ K) K))
      joined true b' e = rw e (ap (λ (x : List B). x ++ flat_map g K) (adds c l) ∙ append_assoc (g c) (g l) (flat_map g K))
      joined false b' e = rw e

      apart : (b : Bool) (xs ys : List Lookup) → flat_map g xs ≡ flat_map g ys → flat_map g (cond b (c ∷ xs) xs) ≡ flat_map g (cond b (c ∷ ys) ys)
      apart true xs ys e = ap (λ (x : List B). g c ++ x) e
      apart false xs ys e = e

      go : (b : Bool) → joins deg limit c l ≡ b → flat_map g (keep (additive_on n) (fill deg limit (merged c l) ls)) ≡ flat_map g (keep (additive_on n) (merged c l ∷ ls))
          → flat_map g (keep (additive_on n) (fill deg limit l ls)) ≡ flat_map g (keep (additive_on n) (l ∷ ls))
          → flat_map g (keep (additive_on n) (cond b (fill deg limit (merged c l) ls) (c ∷ fill deg limit l ls))) ≡ flat_map g (keep (additive_on n) (c ∷ l ∷ ls))
      go true e ih ih' = ih ∙ joined (additive_on n c) (additive_on n l) (bus_agrees n c l (and_both (on_one_bus c l) (leb (lookup_degree deg (merged c l)) limit) e).0)
      go false e ih ih' = apart (additive_on n c) (keep (additive_on n) (fill deg limit l ls)) (keep (additive_on n) (l ∷ ls)) ih'

  pub filled_keeps : (ls : List Lookup) → flat_map g (keep (additive_on n) (filled deg limit ls)) ≡ flat_map g (keep (additive_on n) ls)
  unfolding filled
  filled_keeps [] = refl
  filled_keeps (l ∷ ls) = fill_keeps l ls

module _ {B : Type 0} (g : Lookup → List B) (free : (k : ℕ) (l : Lookup) → g (numbered k l) ≡ g l) (n : List ℕ) where
  pub renumbered_keeps : (k : ℕ) (ls : List Lookup) → flat_map g (keep (additive_on n) (renumbered k ls)) ≡ flat_map g (keep (additive_on n) ls)
  unfolding renumbered keep flat_map
  renumbered_keeps k [] = refl
  renumbered_keeps k (l ∷ ls) = go (additive_on n l) (renumbered_keeps (suc k) ls)
    where
      go : (b : Bool) → flat_map g (keep (additive_on n) (renumbered (suc k) ls)) ≡ flat_map g (keep (additive_on n) ls)
          → flat_map g (cond b (numbered k l ∷ keep (additive_on n) (renumbered (suc k) ls)) (keep (additive_on n) (renumbered (suc k) ls))) ≡ flat_map g (cond b (l ∷ keep (additive_on n) ls) (keep (additive_on n) ls))
      go true e = ap₂ (λ (x y : List B). x ++ y) (free k l) e
      go false e = e

-- packing keeps what a bus carries
pub packed_keeps : {B : Type 0} (g : Lookup → List B) → ((a b : Lookup) → g (merged a b) ≡ g a ++ g b) → ((k : ℕ) (l : Lookup) → g (numbered k l) ≡ g l)
    → (deg : ℕ → ℕ) (limit : ℕ) (n : List ℕ) (l : Lookups) → flat_map g (keep (additive_on n) (packed deg limit l)) ≡ flat_map g (keep (additive_on n) (lookups_of l))
unfolding packed
packed_keeps g adds free deg limit n l =
    renumbered_keeps g free n 0 (filled deg limit (in_order l)) ∙ filled_keeps g adds deg limit n (in_order l) ∙ ap (flat_map g) (order-bus l n)

-- sums over all columns
module _ (g : Lookup → ℕ) (adds : (a b : Lookup) → g (merged a b) ≡ g a + g b) (deg : ℕ → ℕ) (limit : ℕ) where
  pub fill-sum : (c : Lookup) (ls : List Lookup) → sum_of g (fill deg limit c ls) ≡ g c + sum_of g ls
  unfolding fill sum_of
  fill-sum c [] = refl
  fill-sum c (l ∷ ls) = go (joins deg limit c l) (fill-sum (merged c l) ls) (fill-sum l ls)
    where
      go : (b : Bool) → sum_of g (fill deg limit (merged c l) ls) ≡ g (merged c l) + sum_of g ls → sum_of g (fill deg limit l ls) ≡ g l + sum_of g ls
          → sum_of g (cond b (fill deg limit (merged c l) ls) (c ∷ fill deg limit l ls)) ≡ g c + (g l + sum_of g ls)
      go true ih ih' = ih ∙ omega (arith, adds c l)
      go false ih ih' = omega arith

  pub filled-sum : (ls : List Lookup) → sum_of g (filled deg limit ls) ≡ sum_of g ls
  unfolding filled sum_of
  filled-sum [] = refl
  filled-sum (l ∷ ls) = fill-sum l ls

pub renumbered-sum : (g : Lookup → ℕ) → ((k : ℕ) (l : Lookup) → g (numbered k l) ≡ g l) → (k : ℕ) (ls : List Lookup) → sum_of g (renumbered k ls) ≡ sum_of g ls
unfolding renumbered sum_of
renumbered-sum g free k [] = refl
renumbered-sum g free k (l ∷ ls) = omega (arith, free k l, renumbered-sum g free (suc k) ls)

pub packed-sum : (g : Lookup → ℕ) → ((a b : Lookup) → g (merged a b) ≡ g a + g b) → ((k : ℕ) (l : Lookup) → g (numbered k l) ≡ g l)
    → (deg : ℕ → ℕ) (limit : ℕ) (l : Lookups) → sum_of g (packed deg limit l) ≡ sum_of g (lookups_of l)
unfolding packed
packed-sum g adds free deg limit l = renumbered-sum g free 0 (filled deg limit (in_order l)) ∙ filled-sum g adds deg limit (in_order l) ∙ order-sum l g

-- what holds of every lookup and of every kept merge holds of every column
module _ (P : Lookup → Type 0) (deg : ℕ → ℕ) (limit : ℕ) (kept : (a b : Lookup) → joins deg limit a b ≡ true → P (merged a b)) where
  pub fill-all : (c : Lookup) (ls : List Lookup) → P c → ((l : Lookup) → Memᴰ l ls → P l) → (x : Lookup) → Memᴰ x (fill deg limit c ls) → (y : Lookup) × (x ≡ y) × P y
  unfolding fill
  fill-all c [] pc h x m = only (Memᴰ.cases_cons m)
    where
      only : (x ≡ c) ⊎ Memᴰ x [] → (y : Lookup) × (x ≡ y) × P y
      only (inl e) = (c, e, pc)
      only (inr n) = elim n [ ]
  fill-all c (l ∷ ls) pc h x m =
      go (joins deg limit c l) refl (λ (pm : P (merged c l)). fill-all (merged c l) ls pm rest x) (λ n. fill-all l ls (h l (Memᴰ.head refl)) rest x n) m
    where
      rest : (y : Lookup) → Memᴰ y ls → P y
      rest y n = h y (Memᴰ.tail n)

      apart : (Memᴰ x (fill deg limit l ls) → (y : Lookup) × (x ≡ y) × P y) → (x ≡ c) ⊎ Memᴰ x (fill deg limit l ls) → (y : Lookup) × (x ≡ y) × P y
      apart ih (inl e) = (c, e, pc)
      apart ih (inr n) = ih n

      go : (b : Bool) → joins deg limit c l ≡ b → (P (merged c l) → Memᴰ x (fill deg limit (merged c l) ls) → (y : Lookup) × (x ≡ y) × P y)
          → (Memᴰ x (fill deg limit l ls) → (y : Lookup) × (x ≡ y) × P y) → Memᴰ x (cond b (fill deg limit (merged c l) ls) (c ∷ fill deg limit l ls)) → (y : Lookup) × (x ≡ y) × P y
      go true e ih ih' n = ih (kept c l e) n
      go false e ih ih' n = apart ih' (Memᴰ.cases_cons n)

  pub filled-all : (ls : List Lookup) → ((l : Lookup) → Memᴰ l ls → P l) → (x : Lookup) → Memᴰ x (filled deg limit ls) → (y : Lookup) × (x ≡ y) × P y
  unfolding filled
  filled-all [] h x m = elim m [ ]
  filled-all (l ∷ ls) h x m = fill-all l ls (h l (Memᴰ.head refl)) (λ (y : Lookup) n. h y (Memᴰ.tail n)) x m

pub renumbered_in : (k : ℕ) (ls : List Lookup) (x : Lookup) → Memᴰ x (renumbered k ls) → (y : Lookup) × (j : ℕ) × Memᴰ y ls × (x ≡ numbered j y)
unfolding renumbered
renumbered_in k [] x m = elim m [ ]
renumbered_in k (l ∷ ls) x m = go (Memᴰ.cases_cons m) (λ n. renumbered_in (suc k) ls x n)
  where
    go : (x ≡ numbered k l) ⊎ Memᴰ x (renumbered (suc k) ls) → (Memᴰ x (renumbered (suc k) ls) → (y : Lookup) × (j : ℕ) × Memᴰ y ls × (x ≡ numbered j y))
        → (y : Lookup) × (j : ℕ) × Memᴰ y (l ∷ ls) × (x ≡ numbered j y)
    go (inl e) ih = (l, k, Memᴰ.head refl, e)
    go (inr n) ih = let r = ih n in (r.0, r.1, Memᴰ.tail r.2, r.3)

degree-numbered : (deg : ℕ → ℕ) (j : ℕ) (y : Lookup) → lookup_degree deg (numbered j y) ≡ lookup_degree deg y
unfolding lookup_degree additive_degree exclusive_degree denominator_degree numerator_degree
degree-numbered deg j y = refl

pub packed-within : (deg : ℕ → ℕ) (limit : ℕ) (l : Lookups) (x : Lookup) → Memᴰ x (packed deg limit l) → Lawful deg limit l x
unfolding packed
packed-within deg limit l x m =
    let r = renumbered_in 0 (filled deg limit (in_order l)) x m in
    let s = filled-all (λ (y : Lookup). (lookup_degree deg y ≤ limit) ⊎ ((i : ℕ) × (i < lookup_count l.lookups) × (y ≡ lookup_at l i))) deg limit
    (λ (a b : Lookup) e. inl (leb-true (lookup_degree deg (merged a b)) limit (and_both (on_one_bus a b) (leb (lookup_degree deg (merged a b)) limit) e).1))
    (in_order l) (λ (y : Lookup) n. inr (order_in l n)) r.0 r.2 in
    go r.1 s.0 (r.3 ∙ ap (numbered r.1) s.1) s.2
  where
    go : (j : ℕ) (y : Lookup) → x ≡ numbered j y → (lookup_degree deg y ≤ limit) ⊎ ((i : ℕ) × (i < lookup_count l.lookups) × (y ≡ lookup_at l i)) → Lawful deg limit l x
    go j y e (inl h) = inl (rw (ap (lookup_degree deg) e ∙ degree-numbered deg j y) h)
    go j y e (inr n) = inr (n.0, j, n.1, e ∙ ap (numbered j) n.2)
