-- The challenges of a list of lookups, pair by pair, and sums over the lookups, each at its pair: packing keeps them.
use Rattle.std.specs.Prelude.{◌≡◌, Bool, cond, ◌||◌, get_or}
use Rattle.std.proofs.Math.Path.{refl, ap, ap₂, subst}
use Rattle.std.proofs.Common.{sym, ◌∙◌, true≢false, length-append}
use Rattle.std.proofs.Math.Bool.{true, false}
use mathlib.Core.List.{List, [], ◌∷◌, ◌++◌, map, flat_map}
use Prim.Native.Nat.{ℕ, zero, suc, ◌+◌, ◌*◌, ◌<◌}
use native.Mathlib.Omega.{arith}
use Rattle.std.proofs.Math.ListN.{length, get_or-append}
use Rattle.std.proofs.lemmas.List.{length-map}
use Rattle.std.proofs.Math.Seq.{get_or-append-add}
use Rattle.lists.specs.Count.{total}
use Rattle.lists.specs.laws.Tab.{tab-length, tab_at}
use Rattle.lists.specs.laws.Sums.{total_cong, total_head}
use Rattle.field.specs.Element.{zero4, element}
use Rattle.field.proofs.laws.Slice.{four-words}
use Rattle.theorems_logup.specs.Sets.{Pair}
use Rattle.expression.specs.Words.{word}
use Rattle.lookup.specs.Lookups.{Lookups, Lookup, lookup_count, lookup_at, lookups_of}
use Rattle.lookup_degree.specs.Sums.{sum_of}
use Rattle.lookup_buses.specs.Order.{keep}
use Rattle.logup.specs.Rows.{place}
use Rattle.packing.specs.Packing.{on_one_bus, merged, numbered, packed}
use Rattle.packing.proofs.laws.Columns.{on_one}
use Rattle.theorems_packing.specs.Terminal.{FourWords, SharedPairs, pairs_from}
use Rattle.theorems_packing.specs.inner.Entries.{Aligned}
use Rattle.theorems_packing.proofs.laws.Each.{Each, each_at, packed-each, packed-sum-each}
use Rattle.theorems_packing.proofs.laws.Back.{nothing}
use Rattle.theorems_packing.proofs.laws.Passed.{passed_on}
use Rattle.theorems_packing.proofs.laws.Entries.{local-both, merged_sound}

-- an element by its four words
abbrev pub four : (ℕ → ℕ) → List ℕ
four f = f 0 ∷ f 1 ∷ f 2 ∷ f 3 ∷ []

-- the challenges, pair by pair
abbrev pub pair_words : Pair (List ℕ) → List ℕ
pair_words q = q.alpha ++ q.beta

abbrev pub zeros : Pair (List ℕ)
zeros = record { alpha = zero4; beta = zero4 }

pair-length : (q : Pair (List ℕ)) → FourWords q → length (pair_words q) ≡ 8
pair-length q f = omega (arith, length-append q.alpha q.beta, f.alpha_four, f.beta_four)

pair-word : (qs : List (Pair (List ℕ))) → Each FourWords qs → (i j : ℕ) → i < length qs → j < 8
    → word (flat_map pair_words qs) (8 * i + j) ≡ word (pair_words (get_or qs i zeros)) j
unfolding flat_map
pair-word [] fs i j h g = absurd (omega arith)
pair-word (q ∷ qs) fs zero j h g =
    let z : 8 * 0 + j ≡ j = omega arith in
    ap (word (pair_words q ++ flat_map pair_words qs)) z
    ∙ get_or-append (pair_words q) (flat_map pair_words qs) 0 j (omega (arith, pair-length q fs.0))
pair-word (q ∷ qs) fs (suc i) j h g =
    let z : 8 * suc i + j ≡ length (pair_words q) + (8 * i + j) = omega (arith, pair-length q fs.0) in
    ap (word (pair_words q ++ flat_map pair_words qs)) z ∙ get_or-append-add (pair_words q) (flat_map pair_words qs) (8 * i + j) 0
    ∙ pair-word qs fs.1 i j (omega arith) g

module _ (qs : List (Pair (List ℕ))) (fs : Each FourWords qs) (i : ℕ) (h : i < length qs) where
  abbrev own_pair : Pair (List ℕ)
  own_pair = get_or qs i zeros

  four-own : FourWords own_pair
  four-own = each_at FourWords zeros qs fs i h

  alpha_at : element (flat_map pair_words qs) (2 * i) ≡ own_pair.alpha
  unfolding element
  alpha_at =
      (λ x. one (4 * (2 * i)) 0 (omega arith) (omega arith) x ∷ one (4 * (2 * i) + 1) 1 (omega arith) (omega arith) x ∷ one (4 * (2 * i) + 2) 2 (omega arith) (omega arith) x ∷ one (4 * (2 * i) + 3) 3 (omega arith) (omega arith) x ∷ [])
      ∙ four-words own_pair.alpha four-own.alpha_four
    where
      one : (n j : ℕ) → n ≡ 8 * i + j → j < 4 → word (flat_map pair_words qs) n ≡ word own_pair.alpha j
      one n j e g =
          ap (word (flat_map pair_words qs)) e ∙ pair-word qs fs i j h (omega arith)
          ∙ get_or-append own_pair.alpha own_pair.beta 0 j (omega (arith, four-own.alpha_four))

  beta_at : element (flat_map pair_words qs) (2 * i + 1) ≡ own_pair.beta
  unfolding element
  beta_at =
      (λ x. one (4 * (2 * i + 1)) 0 (omega arith) (omega arith) x ∷ one (4 * (2 * i + 1) + 1) 1 (omega arith) (omega arith) x ∷ one (4 * (2 * i + 1) + 2) 2 (omega arith) (omega arith) x ∷ one (4 * (2 * i + 1) + 3) 3 (omega arith) (omega arith) x ∷ [])
      ∙ four-words own_pair.beta four-own.beta_four
    where
      one : (n j : ℕ) → n ≡ 8 * i + 4 + j → j < 4 → word (flat_map pair_words qs) n ≡ word own_pair.beta j
      one n j e g =
          let z : n ≡ 8 * i + (4 + j) = omega arith in
          let y : 4 + j ≡ length own_pair.alpha + j = omega (arith, four-own.alpha_four) in
          ap (word (flat_map pair_words qs)) z ∙ pair-word qs fs i (4 + j) h (omega arith) ∙ ap (word (pair_words own_pair)) y
          ∙ get_or-append-add own_pair.alpha own_pair.beta j 0

pub pairs-length : (c : SharedPairs) (n : ℕ) (xs : List Lookup) → length (pairs_from c n xs) ≡ length xs
unfolding pairs_from
pairs-length c n [] = refl
pairs-length c n (x ∷ xs) = go x.local (pairs-length c (suc n) xs) (pairs-length c n xs)
  where
    go : (b : Bool) → length (pairs_from c (suc n) xs) ≡ length xs → length (pairs_from c n xs) ≡ length xs
        → length (cond b (c.own n ∷ pairs_from c (suc n) xs) (c.bus x.name ∷ pairs_from c n xs)) ≡ suc (length xs)
    go true e f = ap suc e
    go false e f = ap suc f

pub pairs-four : (c : SharedPairs) (n : ℕ) (xs : List Lookup) → Each FourWords (pairs_from c n xs)
unfolding pairs_from
pairs-four c n [] = tt
pairs-four c n (x ∷ xs) = go x.local (pairs-four c (suc n) xs) (pairs-four c n xs)
  where
    go : (b : Bool) → Each FourWords (pairs_from c (suc n) xs) → Each FourWords (pairs_from c n xs)
        → Each FourWords (cond b (c.own n ∷ pairs_from c (suc n) xs) (c.bus x.name ∷ pairs_from c n xs))
    go true e f = (c.own_four n, e)
    go false e f = (c.bus_four x.name, f)

-- the lookups of a table by number
pub own_at : (l : Lookups) (i : ℕ) → i < lookup_count l.lookups → get_or (lookups_of l) i nothing ≡ lookup_at l i
own_at l i h = unfold lookups_of in tab_at (lookup_at l) (lookup_count l.lookups) i nothing h

pub own-count : (l : Lookups) → length (lookups_of l) ≡ lookup_count l.lookups
own-count l = unfold lookups_of in tab-length (lookup_at l) 0 (lookup_count l.lookups)

-- the place of lookup i on row r is at its pair, also where the lists are read otherwise
pub place_is : (p w : ℕ) (l read : Lookups) (c : SharedPairs) (values : ℕ → List ℕ) (r i : ℕ) → i < lookup_count l.lookups
    → place p w read (flat_map pair_words (pairs_from c 0 (lookups_of l))) values r i
    ≡ record { lookups = read; vals = values r; lookup = i; alpha = (get_or (pairs_from c 0 (lookups_of l)) i zeros).alpha; beta = (get_or (pairs_from c 0 (lookups_of l)) i zeros).beta }
unfolding place
place_is p w l read c values r i h =
    let q : i < length (pairs_from c 0 (lookups_of l)) = omega (arith, pairs-length c 0 (lookups_of l), own-count l) in
    λ k. record { lookups = read; vals = values r; lookup = i; alpha = alpha_at (pairs_from c 0 (lookups_of l)) (pairs-four c 0 (lookups_of l)) i q k; beta = beta_at (pairs_from c 0 (lookups_of l)) (pairs-four c 0 (lookups_of l)) i q k }

-- a sum over a list of lookups, each at its pair
module _ (c : SharedPairs) (S : Pair (List ℕ) → Lookup → ℕ) where
  unfoldable pub pair_sum : ℕ → List Lookup → ℕ
  pair_sum n [] = 0
  pair_sum n (x ∷ xs) = cond x.local (S (c.own n) x + pair_sum (suc n) xs) (S (c.bus x.name) x + pair_sum n xs)

  pub pair_sum-total : (n : ℕ) (xs : List Lookup)
      → total (λ i. S (get_or (pairs_from c n xs) i zeros) (get_or xs i nothing)) (length xs) ≡ pair_sum n xs
  unfolding pair_sum pairs_from
  pair_sum-total n [] = unfold total in refl
  pair_sum-total n (x ∷ xs) =
      total_head (λ i. S (get_or (pairs_from c n (x ∷ xs)) i zeros) (get_or (x ∷ xs) i nothing)) (length xs)
      ∙ go x.local (pair_sum-total (suc n) xs) (pair_sum-total n xs)
    where
      T : List (Pair (List ℕ)) → ℕ
      T qs = total (λ i. S (get_or qs i zeros) (get_or xs i nothing)) (length xs)

      go : (b : Bool) → T (pairs_from c (suc n) xs) ≡ pair_sum (suc n) xs → T (pairs_from c n xs) ≡ pair_sum n xs
          → S (get_or (cond b (c.own n ∷ pairs_from c (suc n) xs) (c.bus x.name ∷ pairs_from c n xs)) 0 zeros) x
          + total (λ i. S (get_or (cond b (c.own n ∷ pairs_from c (suc n) xs) (c.bus x.name ∷ pairs_from c n xs)) (suc i) zeros) (get_or xs i nothing)) (length xs)
          ≡ cond b (S (c.own n) x + pair_sum (suc n) xs) (S (c.bus x.name) x + pair_sum n xs)
      go true e f = ap (λ (k : ℕ). S (c.own n) x + k) e
      go false e f = ap (λ (k : ℕ). S (c.bus x.name) x + k) f

  -- the lookups on buses, and the locals by number
  abbrev on_bus_part : Lookup → ℕ
  on_bus_part x = cond x.local 0 (S (c.bus x.name) x)

  unfoldable own_sum : ℕ → List Lookup → ℕ
  own_sum n [] = 0
  own_sum n (x ∷ xs) = S (c.own n) x + own_sum (suc n) xs

  pair_sum_apart : (n : ℕ) (xs : List Lookup) → pair_sum n xs ≡ sum_of on_bus_part xs + own_sum n (keep (λ (x : Lookup). x.local) xs)
  unfolding pair_sum own_sum sum_of keep
  pair_sum_apart n [] = refl
  pair_sum_apart n (x ∷ xs) = go x.local (pair_sum_apart (suc n) xs) (pair_sum_apart n xs)
    where
      K : List Lookup
      K = keep (λ (x : Lookup). x.local) xs

      more : own_sum n (x ∷ K) ≡ S (c.own n) x + own_sum (suc n) K
      more = unfold own_sum in refl

      go : (b : Bool) → pair_sum (suc n) xs ≡ sum_of on_bus_part xs + own_sum (suc n) K
          → pair_sum n xs ≡ sum_of on_bus_part xs + own_sum n K
          → cond b (S (c.own n) x + pair_sum (suc n) xs) (S (c.bus x.name) x + pair_sum n xs)
          ≡ cond b 0 (S (c.bus x.name) x) + sum_of on_bus_part xs + own_sum n (cond b (x ∷ K) K)
      go true e f = omega (arith, e, more)
      go false e f = omega (arith, f)

  -- what a merge adds up, and a number does not change
  module _ (free : (q : Pair (List ℕ)) (k : ℕ) (x : Lookup) → S q (numbered k x) ≡ S q x)
      (adds : (q : Pair (List ℕ)) (a b : Lookup) → on_one_bus a b ≡ true → Aligned a → S q (merged a b) ≡ S q a + S q b) where
    own-numbered : (n : ℕ) (xs : List Lookup) → own_sum n (map (numbered 0) xs) ≡ own_sum n xs
    unfolding own_sum
    own-numbered n [] = refl
    own-numbered n (x ∷ xs) = ap₂ ◌+◌ (free (c.own n) 0 x) (own-numbered (suc n) xs)

    bus-merged : (a b : Lookup) → on_one_bus a b ≡ true → Aligned a → on_bus_part (merged a b) ≡ on_bus_part a + on_bus_part b
    bus-merged a b o s =
        let (la, lb) = local-both a b o in
        let n : a.name ≡ b.name = (on_one a b o).2 in
        both a.local b.local (S (c.bus a.name) a) (S (c.bus b.name) b) (S (c.bus a.name) (merged a b)) la lb
        (adds (c.bus a.name) a b o s ∙ ap (λ (n : List ℕ). S (c.bus a.name) a + S (c.bus n) b) n)
      where
        both : (d e : Bool) (x y z : ℕ) → d ≡ false → e ≡ false → z ≡ x + y → cond d 0 z ≡ cond d 0 x + cond e 0 y
        both d e x y z q r k = rw (q, r) k

    -- packing keeps the sum
    pub pair_sum-packed : (deg : ℕ → ℕ) (limit : ℕ) (l : Lookups) → ((i : ℕ) → i < lookup_count l.lookups → Aligned (lookup_at l i))
        → pair_sum 0 (packed deg limit l) ≡ pair_sum 0 (lookups_of l)
    pair_sum-packed deg limit l h =
        pair_sum_apart 0 (packed deg limit l)
        ∙ ap₂ ◌+◌
        (packed-sum-each Aligned merged_sound on_bus_part (λ a b o s t. bus-merged a b o s) same l h deg limit)
        (sym (own-numbered 0 (keep (λ (x : Lookup). x.local) (packed deg limit l)))
        ∙ ap (own_sum 0) (passed_on (numbered 0) (λ k x. refl) (λ (x : Lookup). x.local) (λ k x. refl) (λ x e. ap (λ (b : Bool). b || x.exclusive) e) deg limit l)
        ∙ own-numbered 0 (keep (λ (x : Lookup). x.local) (lookups_of l)))
        ∙ sym (pair_sum_apart 0 (lookups_of l))
      where
        same : (k : ℕ) (x : Lookup) → on_bus_part (numbered k x) ≡ on_bus_part x
        same k x = ap (λ (n : ℕ). cond x.local 0 n) (free (c.bus x.name) k x)

  -- the lookups of a table by number
  pub pair_sum-lookups : (l : Lookups)
      → total (λ i. S (get_or (pairs_from c 0 (lookups_of l)) i zeros) (lookup_at l i)) (lookup_count l.lookups) ≡ pair_sum 0 (lookups_of l)
  pair_sum-lookups l =
      total_cong (λ i. S (get_or (pairs_from c 0 (lookups_of l)) i zeros) (lookup_at l i)) (λ i. S (get_or (pairs_from c 0 (lookups_of l)) i zeros) (get_or (lookups_of l) i nothing)) (lookup_count l.lookups)
      (λ i h. ap (S (get_or (pairs_from c 0 (lookups_of l)) i zeros)) (sym (own_at l i h)))
      ∙ ap (total (λ i. S (get_or (pairs_from c 0 (lookups_of l)) i zeros) (get_or (lookups_of l) i nothing))) (sym (own-count l))
      ∙ pair_sum-total 0 (lookups_of l)

-- what every pair has: those of the buses, and those of as many locals as there are
module _ (c : SharedPairs) (G : Pair (List ℕ) → Type 0) where
  abbrev pub OnBusGood : Lookup → Type 0
  OnBusGood x = x.local ≡ false → G (c.bus x.name)

  abbrev pub locals : List Lookup → List Lookup
  locals xs = keep (λ (x : Lookup). x.local) xs

  pub pairs-good : (n : ℕ) (xs : List Lookup) → Each G (pairs_from c n xs)
      → Each OnBusGood xs × ((k : ℕ) → k < length (locals xs) → G (c.own (n + k)))
  unfolding pairs_from keep
  pairs-good n [] e = (tt, λ k h. absurd (omega arith))
  pairs-good n (x ∷ xs) e = go x.local refl (λ q. pairs-good (suc n) xs q) (λ q. pairs-good n xs q) e
    where
      go : (b : Bool) → x.local ≡ b
          → (Each G (pairs_from c (suc n) xs) → Each OnBusGood xs × ((k : ℕ) → k < length (locals xs) → G (c.own (suc n + k))))
          → (Each G (pairs_from c n xs) → Each OnBusGood xs × ((k : ℕ) → k < length (locals xs) → G (c.own (n + k))))
          → Each G (cond b (c.own n ∷ pairs_from c (suc n) xs) (c.bus x.name ∷ pairs_from c n xs))
          → Each OnBusGood (x ∷ xs) × ((k : ℕ) → k < length (cond b (x ∷ locals xs) (locals xs)) → G (c.own (n + k)))
      go true q f g e = let r = f e.1 in ((λ z. absurd (true≢false (sym q ∙ z)), r.0), first e.0 r.1)
        where
          first : G (c.own n) → ((k : ℕ) → k < length (locals xs) → G (c.own (suc n + k))) → (k : ℕ) → k < suc (length (locals xs))
              → G (c.own (n + k))
          first a h zero l = subst (λ (k : ℕ). G (c.own k)) (let z : n ≡ n + 0 = omega arith in z) a
          first a h (suc k) l = subst (λ (k : ℕ). G (c.own k)) (let z : suc n + k ≡ n + suc k = omega arith in z) (h k (omega arith))
      go false q f g e = let r = g e.1 in ((λ z. e.0, r.0), r.1)

  pub good-pairs : (n : ℕ) (xs : List Lookup) → Each OnBusGood xs → ((k : ℕ) → k < length (locals xs) → G (c.own (n + k)))
      → Each G (pairs_from c n xs)
  unfolding pairs_from keep
  good-pairs n [] e h = tt
  good-pairs n (x ∷ xs) e h = go x.local refl (λ q. good-pairs (suc n) xs e.1 q) (λ q. good-pairs n xs e.1 q) h
    where
      go : (b : Bool) → x.local ≡ b → (((k : ℕ) → k < length (locals xs) → G (c.own (suc n + k))) → Each G (pairs_from c (suc n) xs))
          → (((k : ℕ) → k < length (locals xs) → G (c.own (n + k))) → Each G (pairs_from c n xs))
          → ((k : ℕ) → k < length (cond b (x ∷ locals xs) (locals xs)) → G (c.own (n + k))) → Each G (cond b (c.own n ∷ pairs_from c (suc n) xs) (c.bus x.name ∷ pairs_from c n xs))
      go true q f g h =
          (subst (λ (k : ℕ). G (c.own k)) (let z : n + 0 ≡ n = omega arith in z) (h 0 (omega arith)), f (λ k l. subst (λ (k : ℕ). G (c.own k)) (let z : n + suc k ≡ suc n + k = omega arith in z) (h (suc k) (omega arith))))
      go false q f g h = (e.0 q, g h)

  -- the packed table has the same pairs
  pub packed-pairs : (deg : ℕ → ℕ) (limit : ℕ) (l : Lookups) → Each G (pairs_from c 0 (lookups_of l))
      → Each G (pairs_from c 0 (packed deg limit l))
  packed-pairs deg limit l e =
      let r = pairs-good 0 (lookups_of l) e in
      good-pairs 0 (packed deg limit l)
      (packed-each OnBusGood l (λ i h. subst OnBusGood (own_at l i h) (each_at OnBusGood nothing (lookups_of l) r.0 i (omega (arith, own-count l)))) (λ a b o s t. s) (λ k x s. s) deg limit)
      (λ k h. r.1 k (omega (arith, many)))
    where
      many : length (locals (packed deg limit l)) ≡ length (locals (lookups_of l))
      many =
          sym (length-map (locals (packed deg limit l)) (numbered 0))
          ∙ ap length (passed_on (numbered 0) (λ k x. refl) (λ (x : Lookup). x.local) (λ k x. refl) (λ x e. ap (λ (b : Bool). b || x.exclusive) e) deg limit l)
          ∙ length-map (locals (lookups_of l)) (numbered 0)

pub flat-length : (qs : List (Pair (List ℕ))) → Each FourWords qs → length (flat_map pair_words qs) ≡ 8 * length qs
unfolding flat_map
flat-length [] fs = refl
flat-length (q ∷ qs) fs =
    length-append (pair_words q) (flat_map pair_words qs)
    ∙ (let z : length (pair_words q) + length (flat_map pair_words qs) ≡ 8 * suc (length qs) = omega (arith, pair-length q fs.0, flat-length qs fs.1) in z)
