-- What every element of a list has, and what every column has that each lookup has.
use Rattle.std.specs.Prelude.{◌≡◌, Bool, cond, leb, length, get_or}
use Rattle.std.proofs.Math.Path.{refl}
use Rattle.std.proofs.Common.{◌∙◌, arith}
use Rattle.std.proofs.Math.Bool.{true, false}
use mathlib.Core.List.{List, [], ◌∷◌, ◌++◌, map, flat_map, Memᴰ}
use Prim.Native.Nat.{ℕ, zero, suc, ◌+◌, ◌<◌}
use Rattle.lists.specs.Tab.{tab}
use Rattle.lookup.specs.Lookups.{Lookups, Lookup, lookup_count, lookup_at, lookups_of}
use Rattle.lookup_degree.specs.Sums.{sum_of}
use Rattle.lookup_degree.specs.Degree.{lookup_degree}
use Rattle.lookup_buses.specs.Order.{arranged}
use Rattle.lookup_buses.specs.laws.Order.{arranged_in}
use Rattle.packing.specs.Packing.{passes, on_one_bus, in_order, merged, joins, fill, filled, numbered, renumbered, packed}
use Rattle.packing.proofs.laws.Columns.{and_both, order-sum, renumbered-sum}

module _ {A : Type 0} where
  -- every element has the property
  abbrev pub Each : (A → Type 0) → List A → Type 0
  Each P [] = Unit {0}
  Each P (x ∷ xs) = P x × Each P xs

  pub each_append : (P : A → Type 0) (xs ys : List A) → Each P xs → Each P ys → Each P (xs ++ ys)
  each_append P [] ys a b = b
  each_append P (x ∷ xs) ys a b = (a.0, each_append P xs ys a.1 b)

  pub append-each : (P : A → Type 0) (xs ys : List A) → Each P (xs ++ ys) → Each P xs × Each P ys
  append-each P [] ys e = (tt, e)
  append-each P (x ∷ xs) ys e = let r = append-each P xs ys e.1 in ((e.0, r.0), r.1)

  -- the elements by number
  pub each_of : (P : A → Type 0) (z : A) (xs : List A) → ((i : ℕ) → i < length xs → P (get_or xs i z)) → Each P xs
  each_of P z [] h = tt
  each_of P z (x ∷ xs) h = (h 0 (omega arith), each_of P z xs (λ i l. h (suc i) (omega arith)))

  pub each_at : (P : A → Type 0) (z : A) (xs : List A) → Each P xs → (i : ℕ) → i < length xs → P (get_or xs i z)
  each_at P z [] e i l = absurd (omega arith)
  each_at P z (x ∷ xs) e zero l = e.0
  each_at P z (x ∷ xs) e (suc i) l = each_at P z xs e.1 i (omega arith)

  pub each-tab : (P : A → Type 0) (f : ℕ → A) (n : ℕ) → ((i : ℕ) → i < n → P (f i)) → Each P (tab f 0 n)
  unfolding tab
  each-tab P f zero h = tt
  each-tab P f (suc n) h =
      each_append P (tab f 0 n) (f (0 + n) ∷ []) (each-tab P f n (λ i l. h i (omega arith))) (h (0 + n) (omega arith), tt)

  pub each_and : (P Q : A → Type 0) → ((x : A) → P x → Q x) → (xs : List A) → Each P xs → Each Q xs
  each_and P Q h [] e = tt
  each_and P Q h (x ∷ xs) e = (h x e.0, each_and P Q h xs e.1)

module _ {A B : Type 0} where
  pub each_map : (P : B → Type 0) (f : A → B) (xs : List A) → Each (λ (x : A). P (f x)) xs → Each P (map f xs)
  each_map P f [] e = tt
  each_map P f (x ∷ xs) e = (e.0, each_map P f xs e.1)

  pub each-flat : (P : B → Type 0) (f : A → List B) (xs : List A) → Each (λ (x : A). Each P (f x)) xs → Each P (flat_map f xs)
  unfolding flat_map
  each-flat P f [] e = tt
  each-flat P f (x ∷ xs) e = each_append P (f x) (flat_map f xs) e.0 (each-flat P f xs e.1)

  pub flat-each : (P : B → Type 0) (f : A → List B) (xs : List A) → Each P (flat_map f xs) → Each (λ (x : A). Each P (f x)) xs
  unfolding flat_map
  flat-each P f [] e = tt
  flat-each P f (x ∷ xs) e = let r = append-each P (f x) (flat_map f xs) e in (r.0, flat-each P f xs r.1)

-- what each lookup has, and a merge where both of its parts have it, each column has
module _ (P : Lookup → Type 0) (join : (a b : Lookup) → on_one_bus a b ≡ true → P a → P b → P (merged a b)) where
  fill-each : (deg : ℕ → ℕ) (limit : ℕ) (c : Lookup) (ls : List Lookup) → P c → Each P ls → Each P (fill deg limit c ls)
  unfolding fill
  fill-each deg limit c [] s e = (s, tt)
  fill-each deg limit c (l ∷ ls) s e =
      go (joins deg limit c l) refl (λ (q : P (merged c l)). fill-each deg limit (merged c l) ls q e.1) (fill-each deg limit l ls e.0 e.1)
    where
      go : (b : Bool) → joins deg limit c l ≡ b → (P (merged c l) → Each P (fill deg limit (merged c l) ls)) → Each P (fill deg limit l ls)
          → Each P (cond b (fill deg limit (merged c l) ls) (c ∷ fill deg limit l ls))
      go true j x y = x (join c l (and_both (on_one_bus c l) (leb (lookup_degree deg (merged c l)) limit) j).0 s e.0)
      go false j x y = (s, y)

  pub filled-each : (deg : ℕ → ℕ) (limit : ℕ) (ls : List Lookup) → Each P ls → Each P (filled deg limit ls)
  unfolding filled
  filled-each deg limit [] e = tt
  filled-each deg limit (l ∷ ls) e = fill-each deg limit l ls e.0 e.1

pub renumbered-each : (P : Lookup → Type 0) → ((k : ℕ) (x : Lookup) → P x → P (numbered k x)) → (k : ℕ) (ls : List Lookup) → Each P ls
    → Each P (renumbered k ls)
unfolding renumbered
renumbered-each P h k [] e = tt
renumbered-each P h k (l ∷ ls) e = (h k l e.0, renumbered-each P h (suc k) ls e.1)

-- the lookups of a table, as they stand and in packing's order
module _ (P : Lookup → Type 0) (l : Lookups) (h : (i : ℕ) → i < lookup_count l.lookups → P (lookup_at l i)) where
  pub lookups-each : Each P (lookups_of l)
  unfolding lookups_of
  lookups-each = each-tab P (lookup_at l) (lookup_count l.lookups) h

  at_each : (is : List ℕ) → ((i : ℕ) → Memᴰ i is → i < lookup_count l.lookups) → Each P (map (lookup_at l) is)
  at_each [] g = tt
  at_each (i ∷ is) g = (h i (g i (Memᴰ.head refl)), at_each is (λ (j : ℕ) q. g j (Memᴰ.tail q)))

  pub order-each : Each P (in_order l)
  unfolding in_order
  order-each = at_each (arranged (λ i. passes (lookup_at l i)) (λ i. (lookup_at l i).name) (lookup_count l.lookups)) (arranged_in (λ i. passes (lookup_at l i)) (λ i. (lookup_at l i).name) (lookup_count l.lookups))

  pub packed-each : ((a b : Lookup) → on_one_bus a b ≡ true → P a → P b → P (merged a b)) → ((k : ℕ) (x : Lookup) → P x → P (numbered k x))
      → (deg : ℕ → ℕ) (limit : ℕ) → Each P (packed deg limit l)
  unfolding packed
  packed-each join free deg limit =
      renumbered-each P free 0 (filled deg limit (in_order l)) (filled-each P join deg limit (in_order l) order-each)

-- none is lost and none comes in: a sum that a merge of lookups with P keeps stays
module _ (P : Lookup → Type 0) (join : (a b : Lookup) → on_one_bus a b ≡ true → P a → P b → P (merged a b)) (g : Lookup → ℕ)
    (adds : (a b : Lookup) → on_one_bus a b ≡ true → P a → P b → g (merged a b) ≡ g a + g b) where
  fill-sum : (deg : ℕ → ℕ) (limit : ℕ) (c : Lookup) (ls : List Lookup) → P c → Each P ls
      → sum_of g (fill deg limit c ls) ≡ g c + sum_of g ls
  unfolding fill sum_of
  fill-sum deg limit c [] s e = refl
  fill-sum deg limit c (x ∷ ls) s e =
      go (joins deg limit c x) refl (λ (q : P (merged c x)). fill-sum deg limit (merged c x) ls q e.1) (fill-sum deg limit x ls e.0 e.1)
    where
      go : (b : Bool) → joins deg limit c x ≡ b
          → (P (merged c x) → sum_of g (fill deg limit (merged c x) ls) ≡ g (merged c x) + sum_of g ls)
          → sum_of g (fill deg limit x ls) ≡ g x + sum_of g ls
          → sum_of g (cond b (fill deg limit (merged c x) ls) (c ∷ fill deg limit x ls)) ≡ g c + (g x + sum_of g ls)
      go true j y z =
          let o = (and_both (on_one_bus c x) (leb (lookup_degree deg (merged c x)) limit) j).0 in
          y (join c x o s e.0) ∙ omega (arith, adds c x o s e.0)
      go false j y z = omega (arith, z)

  filled-sum : (deg : ℕ → ℕ) (limit : ℕ) (ls : List Lookup) → Each P ls → sum_of g (filled deg limit ls) ≡ sum_of g ls
  unfolding filled sum_of
  filled-sum deg limit [] e = refl
  filled-sum deg limit (x ∷ ls) e = fill-sum deg limit x ls e.0 e.1

  pub packed-sum-each : ((k : ℕ) (x : Lookup) → g (numbered k x) ≡ g x) → (l : Lookups)
      → ((i : ℕ) → i < lookup_count l.lookups → P (lookup_at l i))
      → (deg : ℕ → ℕ) (limit : ℕ) → sum_of g (packed deg limit l) ≡ sum_of g (lookups_of l)
  unfolding packed
  packed-sum-each free l h deg limit =
      renumbered-sum g free 0 (filled deg limit (in_order l)) ∙ filled-sum deg limit (in_order l) (order-each P l h) ∙ order-sum l g
