-- The turns of the loops of the order, over plain lists and numbers.
use mathlib.Core.Path.{◌≡◌, refl, sym, ap, ap₂, ◌∙◌}
use mathlib.Core.Bool.{Bool, true, false, cond}
use mathlib.Core.List.{List, [], ◌∷◌, ◌++◌, append-nil, append_assoc}
use Prim.Native.Nat.{ℕ, zero, suc, ◌+◌, ◌<◌, ◌≤◌, zero-le}
use native.Mathlib.Numerals.{add-one}
use native.Mathlib.Omega.{arith}
use native.Mathlib.Decide.{dec_le}
use lib.Dec.{eqb, ltb}
use lib.ListN.{length, take, drop, get_or, set, replicate, length-append, take-append-drop, drop_of_length-le}
use lib.Seq.{drop-cons, length-take-le, take_at, drop_at, drop-drop}
use borrow.Author.Tests.{eq-eqb, ne_eqb}
use Rattle.lists.specs.laws.Parts.{through_length, get_or_pad}
use Rattle.lists.specs.laws.Filled.{Filled, filled_none, filled-one}
use Rattle.lists.specs.Tab.{tab}
use Rattle.lists.specs.laws.Tab.{tab_none, tab-one, tab_get}
use Rattle.lookup.specs.Buses.{same_bus}
use Rattle.lookup_buses.specs.Order.{position, keep, by_place, numbers, place, arranged}
use Rattle.lookup_buses.specs.inner.Requires.{of_place, order_of}
use Rattle.lookup_buses.specs.laws.Order.{keep_append, sum-by_place, numbers-length, numbers_at, numbers-below, ones, by_place_cong, arranged-length}

-- a search: none of the first j passes
pub record Searched (f : ℕ → Bool) (n j : ℕ) : Type 0 where
  pub rest : j + position f (drop j (numbers n)) ≡ position f (numbers n)
  pub within : j ≤ n

search_step : (f : ℕ → Bool) (n j : ℕ) → j < n → position f (drop j (numbers n)) ≡ cond (f j) 0 (suc (position f (drop (suc j) (numbers n))))
unfolding position
search_step f n j h = rw (drop-cons (numbers n) j 0 (rw (numbers-length n) h), numbers_at n j h)

pub search_turn : {f : ℕ → Bool} {n j : ℕ} {t : Bool} → Searched f n j → j < n → t ≡ f j → t ≡ false → Searched f n (j + 1)
search_turn {f} {n} {j} {t} s h e z =
    let k : position f (drop j (numbers n)) ≡ suc (position f (drop (suc j) (numbers n))) = rw (sym e ∙ z) at (search_step f n j h) in
    record { rest = rw (add-one j) (omega (arith, s.rest)); within = omega arith }

pub search_hits : {f : ℕ → Bool} {n j : ℕ} {t : Bool} → Searched f n j → j < n → t ≡ f j → t ≡ true → position f (numbers n) ≡ j
search_hits {f} {n} {j} {t} s h e z =
    let k : position f (drop j (numbers n)) ≡ 0 = rw (sym e ∙ z) at (search_step f n j h) in
    omega (arith, s.rest)

pub search_ends : {f : ℕ → Bool} {n j : ℕ} → Searched f n j → n ≤ j → position f (numbers n) ≡ n
unfolding position
search_ends {f} {n} {j} s h =
    let k : position f (drop j (numbers n)) ≡ 0 = ap (position f) (drop_of_length-le (numbers n) {i = j} (rw (numbers-length n) h)) in
    omega (arith, s.rest)

module _ (alone : ℕ → Bool) (name : ℕ → List ℕ) (n i : ℕ) where
  pub place-alone : {t : Bool} → t ≡ alone i → t ≡ true → 0 ≡ place alone name n i
  unfolding place
  place-alone e z = rw (sym e ∙ z)

  pub place-bus : {t : Bool} {k : ℕ} → t ≡ alone i → t ≡ false → position (same_bus alone name i) (numbers n) ≡ k → k + 1 ≡ place alone name n i
  unfolding place
  place-bus {t} {k} e z g = rw (sym e ∙ z, g) (add-one k)

-- the places one after the other
pub record Placing (f : ℕ → ℕ) (n i : ℕ) (d b : List ℕ) : Type 0 where
  pub out : Filled d (tab f 0 i) i b
  pub within : i ≤ n
  pub zeros : d ≡ replicate 64 0

pub placing_begins : {f : ℕ → ℕ} {n : ℕ} → Placing f n 0 (replicate 64 0) (replicate 64 0)
placing_begins {f} {n} = record { out = rw (tab_none f 0) filled_none; within = zero-le; zeros = refl }

pub placing_turn : {f : ℕ → ℕ} {n i v : ℕ} {d b : List ℕ} → Placing f n i d b → i < n → n ≤ 64 → v ≡ f i → Placing f n (i + 1) d (set b i v)
placing_turn {f} {n} {i} {v} {d} {b} s h g e = record {
  out = filled-one v 0 s.out (rw s.zeros (omega arith)) (tab-one f 0 i ∙ ap (λ (x : ℕ). tab f 0 i ++ (x ∷ [])) (ap f (let k : 0 + i ≡ i = omega arith in k) ∙ sym e));
  within = omega arith;
  zeros = s.zeros;
}

-- the lookups of one place
of_place-one : (places : List ℕ) (k i : ℕ) → of_place places k (i + 1) ≡ of_place places k i ++ cond (eqb (get_or places i 0) k) (i ∷ []) []
unfolding of_place numbers keep
of_place-one places k i = rw (add-one i) (keep_append (λ (j : ℕ). eqb (get_or places j 0) k) (numbers i) (i ∷ []))

of_place-le : (places : List ℕ) (k i n : ℕ) → i ≤ n → length (of_place places k i) ≤ length (of_place places k n)
unfolding of_place numbers
of_place-le places k i zero h = let e : i ≡ 0 = omega arith in rw e (omega arith)
of_place-le places k i (suc n) h = go (dec_le i n) (λ (l : i ≤ n). of_place-le places k i n l)
  where
    f : ℕ → Bool
    f j = eqb (get_or places j 0) k

    go : Dec (i ≤ n) → (i ≤ n → length (keep f (numbers i)) ≤ length (keep f (numbers n))) → length (keep f (numbers i)) ≤ length (keep f (numbers n ++ (n ∷ [])))
    go (yes g) ih = rw (keep_append f (numbers n) (n ∷ [])) (simp length-append (omega (arith, ih g)))
    go (no g) ih = let e : i ≡ suc n = omega arith in rw e (omega arith)

pub record Pushing (places : List ℕ) (k n start i end : ℕ) (d b : List ℕ) : Type 0 where
  pub out : Filled d (take start d ++ of_place places k i) end b
  pub ends : end ≡ start + length (of_place places k i)
  pub within : i ≤ n
  pub fits : start + length (of_place places k n) ≤ length d

pub pushing_begins : {places d : List ℕ} {k n start : ℕ} → start + length (of_place places k n) ≤ length d → Pushing places k n start 0 start d d
unfolding of_place numbers keep
pushing_begins {places} {d} {k} {n} {start} h = record {
  out = record { is = rw (append-nil (take start d)) (sym (take-append-drop start d)); size = rw (append-nil (take start d)) (length-take-le start d (omega arith)); room = omega arith; len = refl };
  ends = omega arith;
  within = zero-le;
  fits = h;
}

pub pushing_room : {places d b : List ℕ} {k n start i end : ℕ} → Pushing places k n start i end d b → i < n → get_or places i 0 ≡ k → end < length b
pushing_room {places} {d} {b} {k} {n} {start} {i} {end} s h e =
    let m : length (of_place places k (i + 1)) ≡ length (of_place places k i) + 1 = rw (of_place-one places k i, eq-eqb (get_or places i 0) k e) (length-append (of_place places k i) (i ∷ [])) in
    omega (arith, s.ends, s.fits, s.out.len, of_place-le places k (i + 1) n (omega arith))

pub pushing_yes : {places d b b' : List ℕ} {k n start i end end' : ℕ} → Pushing places k n start i end d b → i < n → get_or places i 0 ≡ k → b' ≡ set b end i → end' ≡ end + 1 → Pushing places k n start (i + 1) end' d b'
pushing_yes {places} {d} {b} {b'} {k} {n} {start} {i} {end} {end'} s h e eb ee =
    let m : of_place places k (i + 1) ≡ of_place places k i ++ (i ∷ []) = rw (of_place-one places k i, eq-eqb (get_or places i 0) k e) in
    let z : length (of_place places k (i + 1)) ≡ length (of_place places k i) + 1 = ap length m ∙ length-append (of_place places k i) (i ∷ []) in
    record {
      out = rw (eb, ee) (filled-one i 0 s.out (omega (arith, pushing_room s h e, s.out.len)) (rw m (sym (append_assoc (take start d) (of_place places k i) (i ∷ [])))));
      ends = omega (arith, s.ends);
      within = omega arith;
      fits = s.fits;
    }

pub pushing_no : {places d b b' : List ℕ} {k n start i end end' : ℕ} → Pushing places k n start i end d b → i < n → (get_or places i 0 ≡ k → ⊥) → b' ≡ b → end' ≡ end → Pushing places k n start (i + 1) end' d b'
pushing_no {places} {d} {b} {b'} {k} {n} {start} {i} {end} {end'} s h e eb ee =
    let m : of_place places k (i + 1) ≡ of_place places k i = rw (of_place-one places k i, ne_eqb (get_or places i 0) k e) (append-nil (of_place places k i)) in
    record { out = rw (eb, ee, m) s.out; ends = rw (m, ee) s.ends; within = omega arith; fits = s.fits }

-- place after place
order-one : (places : List ℕ) (k n : ℕ) → order_of places (k + 1) n ≡ order_of places k n ++ of_place places k n
unfolding order_of of_place by_place
order-one places k n = rw (add-one k)

keep-length : {A : Type 0} (f : A → Bool) (xs : List A) → length (keep f xs) ≤ length xs
unfolding keep
keep-length f [] = zero-le
keep-length {A} f (x ∷ xs) = go (f x) (keep-length f xs)
  where
    go : (b : Bool) → length (keep f xs) ≤ length xs → length (cond b (x ∷ keep f xs) (keep f xs)) ≤ suc (length xs)
    go true h = omega arith
    go false h = omega arith

-- no more than n, however many places
pub order-length : (places : List ℕ) (k n : ℕ) → length (order_of places k n) ≤ n
unfolding order_of
order-length places k n =
    let f : ℕ → ℕ = λ (i : ℕ). get_or places i 0 in
    let e : length (by_place f k (numbers n)) ≡ length (keep (λ (i : ℕ). ltb (f i) k) (numbers n)) =
    sym (ones (by_place f k (numbers n))) ∙ sum-by_place (λ (x : ℕ). 1) f k (numbers n) ∙ ones (keep (λ (i : ℕ). ltb (f i) k) (numbers n)) in
    rw e (omega (arith, keep-length (λ (i : ℕ). ltb (f i) k) (numbers n), numbers-length n))

pub record Arranging (places : List ℕ) (n k end : ℕ) (d b : List ℕ) : Type 0 where
  pub out : Filled d (order_of places k n) end b
  pub within : k ≤ n + 1

pub arranging_begins : {places d : List ℕ} {n : ℕ} → Arranging places n 0 0 d d
unfolding order_of by_place
arranging_begins = record { out = filled_none; within = zero-le }

pub arranging_fits : {places d b : List ℕ} {n k end : ℕ} → Arranging places n k end d b → n ≤ length d → end + length (of_place places k n) ≤ length b
arranging_fits {places} {d} {b} {n} {k} {end} s h =
    let z : length (order_of places (k + 1) n) ≡ length (order_of places k n) + length (of_place places k n) = ap length (order-one places k n) ∙ length-append (order_of places k n) (of_place places k n) in
    omega (arith, s.out.size, s.out.len, order-length places (k + 1) n)

pub arranging_turn : {places d b b' : List ℕ} {n k end e : ℕ} → Arranging places n k end d b → k < n + 1 → n ≤ length d
    → (e ≡ end + length (of_place places k n)) × (b' ≡ (take end b ++ of_place places k n) ++ drop e b) → Arranging places n (k + 1) e d b'
arranging_turn {places} {d} {b} {b'} {n} {k} {end} {e} s h g (ee, eb) =
    let P : List ℕ = order_of places k n in
    let K : List ℕ = of_place places k n in
    let z : length (P ++ K) ≡ e = length-append P K ∙ ap (λ (m : ℕ). m + length K) s.out.size ∙ sym ee in
    let t : take end b ≡ P = rw s.out.is (take_at P (drop end d) end s.out.size) in
    let r : drop e b ≡ drop e d = rw (ee, s.out.is, ← drop-drop (length K) end (P ++ drop end d), drop_at P (drop end d) end s.out.size) (drop-drop (length K) end d) in
    let q : b' ≡ (P ++ K) ++ drop e d = eb ∙ ap₂ (λ (x y : List ℕ). (x ++ K) ++ y) t r in
    record {
      out = rw (order-one places k n) (record { is = q; size = z; room = omega (arith, arranging_fits s g, s.out.len); len = ap length q ∙ through_length d (P ++ K) e z (omega (arith, arranging_fits s g, s.out.len)) });
      within = omega arith;
    }

-- the order from the list of places
pub order_is : {ps b : List ℕ} (alone : ℕ → Bool) (name : ℕ → List ℕ) (n : ℕ) → ps ≡ tab (place alone name n) 0 n ++ drop n (replicate 64 0)
    → b ≡ order_of ps (n + 1) n ++ drop (length (order_of ps (n + 1) n)) (replicate 64 0) → b ≡ arranged alone name n ++ drop n (replicate 64 0)
unfolding order_of arranged
order_is {ps} {b} alone name n e eb =
    let q : by_place (λ (i : ℕ). get_or ps i 0) (n + 1) (numbers n) ≡ by_place (place alone name n) (suc n) (numbers n) =
    ap (λ (k : ℕ). by_place (λ (i : ℕ). get_or ps i 0) k (numbers n)) (add-one n)
    ∙ by_place_cong (λ (i : ℕ). get_or ps i 0) (place alone name n) (suc n) (numbers n)
    (λ i m. ap (λ (l : List ℕ). get_or l i 0) e ∙ get_or_pad (tab (place alone name n) 0 n) 64 n i ∙ tab_get (place alone name n) 0 n i (numbers-below n i m) ∙ ap (place alone name n) (let k : 0 + i ≡ i = omega arith in k)) in
    eb ∙ ap₂ (λ (x : List ℕ) (k : ℕ). x ++ drop k (replicate 64 0)) q (ap length q ∙ arranged-length alone name n)
