-- Lists of entries with the same counts of each tuple take the same number of slots: the different tuples that are counted at all.
use Rattle.std.specs.Prelude.{◌≡◌, refl, Bool, true, false, cond, ◌||◌, ℕ, ◌+◌, ◌<◌, ◌≤◌, eqb, ltb, length}
use Rattle.std.proofs.Math.Path.{sym, ap}
use Rattle.std.proofs.Common.{◌∙◌, zero-add, add-zero, add_assoc, arith, eqb-true, ltb-true, ltb-false, lt-ltb, le-ltb}
use mathlib.Core.List.{List, [], ◌∷◌, ◌++◌}
use Rattle.std.proofs.lemmas.List.{length-map}
use Rattle.std.proofs.lemmas.Bool.{eqb-false}
use Rattle.lists.specs.Same.{same_list}
use Rattle.lists.specs.laws.Same.{same_list-eq, same_list_refl}
use Rattle.lists.specs.Fold.{fold}
use Rattle.expression.specs.Values.{bit}
use Rattle.logup.specs.Ledger.{Entry}
use Rattle.lookup_degree.specs.Sums.{sum_of}
use Rattle.lookup_buses.specs.laws.Order.{sum-append}
use Rattle.balance_slots.specs.Slots.{Slot, slots}
use Rattle.balance_slots.proofs.laws.Nets.{listed, include, different, slots-different}
use Rattle.balance.proofs.laws.Sums.{tally}
use Rattle.theorems_packing.proofs.laws.Each.{Each, each_and}
use Rattle.theorems_packing.proofs.laws.Counting.{sum_cong, sum_swap, sum_ones}

same_flip : (a b : List ℕ) → same_list a b ≡ same_list b a
same_flip a b = go (same_list a b) (same_list b a) refl refl
  where
    go : (x y : Bool) → same_list a b ≡ x → same_list b a ≡ y → x ≡ y
    go true true e f = refl
    go true false e f = sym (same_list_refl b) ∙ ap (same_list b) (sym (same_list-eq a b e)) ∙ f
    go false true e f = sym e ∙ ap (same_list a) (same_list-eq b a f) ∙ same_list_refl a
    go false false e f = refl

-- how often a tuple is in a list
abbrev copies : List ℕ → List (List ℕ) → ℕ
copies t us = sum_of (λ (u : List ℕ). bit (same_list u t)) us

listed-copies : (t : List ℕ) (us : List (List ℕ)) → listed t us ≡ ltb 0 (copies t us)
unfolding listed sum_of
listed-copies t [] = sym (le-ltb 0 0 (omega arith))
listed-copies t (u ∷ us) = go (same_list u t) (listed-copies t us)
  where
    go : (b : Bool) → listed t us ≡ ltb 0 (copies t us) → (b || listed t us) ≡ ltb 0 (bit b + copies t us)
    go true e = sym (lt-ltb 0 (1 + copies t us) (omega arith))
    go false e = e ∙ ap (ltb 0) (sym (zero-add (copies t us)))

-- a tuple is among the different ones once where it is counted, and else not at all
module _ (t : List ℕ) (e : Entry) (ts : List (List ℕ)) (s : List ℕ → ℕ) (h : (t : List ℕ) → copies t ts ≡ bit (ltb 0 (s t))) where
  abbrev more : ℕ
  more = s t + cond (same_list e.tuple t) e.count 0

  abbrev has : ℕ → ℕ
  has n = bit (ltb 0 n)

  some-has : (n : ℕ) → 0 < n → has n ≡ 1
  some-has n k = ap bit (lt-ltb 0 n k)

  none_has : (n : ℕ) → has n ≡ 0 → n ≡ 0
  none_has n k = go (ltb 0 n) refl k
    where
      go : (b : Bool) → ltb 0 n ≡ b → bit b ≡ 0 → n ≡ 0
      go true q k = absurd (omega arith)
      go false q k = let l : n ≤ 0 = ltb-false 0 n q in omega arith

  has_some : (n : ℕ) → 0 < has n → 0 < n
  has_some n k = go (ltb 0 n) refl k
    where
      go : (b : Bool) → ltb 0 n ≡ b → 0 < bit b → 0 < n
      go true q k = ltb-true 0 n q
      go false q k = absurd (omega arith)

  -- one tuple more at the end
  last : (b : Bool) → same_list e.tuple t ≡ b → copies t (ts ++ (e.tuple ∷ [])) ≡ copies t ts + bit b
  unfolding sum_of
  last b q =
      sum-append (λ (u : List ℕ). bit (same_list u t)) ts (e.tuple ∷ [])
      ∙ ap (λ (n : ℕ). copies t ts + n) (add-zero (bit (same_list e.tuple t)) ∙ ap bit q)

  step : copies t (include ts e) ≡ has more
  step = go (eqb e.count 0) (listed e.tuple ts) refl refl
    where
      -- not counted
      idle : e.count ≡ 0 → copies t ts ≡ has more
      idle q = h t ∙ ap has (sym (none (same_list e.tuple t)))
        where
          none : (b : Bool) → s t + cond b e.count 0 ≡ s t
          none true = ap (λ (n : ℕ). s t + n) q ∙ add-zero (s t)
          none false = add-zero (s t)

      -- listed before
      again : listed e.tuple ts ≡ true → (b : Bool) → same_list e.tuple t ≡ b → copies t ts ≡ has (s t + cond b e.count 0)
      again q true r =
          let y : ltb 0 (copies t ts) ≡ true = sym (listed-copies t ts) ∙ ap (λ (u : List ℕ). listed u ts) (sym (same_list-eq e.tuple t r)) ∙ q in
          let z : 0 < copies t ts = ltb-true 0 (copies t ts) y in
          let n : 0 < s t = has_some (s t) (omega (arith, h t)) in
          h t ∙ some-has (s t) n ∙ sym (some-has (s t + e.count) (omega arith))
      again q false r = h t ∙ ap has (sym (add-zero (s t)))

      -- met for the first time
      new : listed e.tuple ts ≡ false → (e.count ≡ 0 → ⊥) → (b : Bool) → same_list e.tuple t ≡ b
          → copies t (ts ++ (e.tuple ∷ [])) ≡ has (s t + cond b e.count 0)
      new q c true r =
          let y : ltb 0 (copies t ts) ≡ false = sym (listed-copies t ts) ∙ ap (λ (u : List ℕ). listed u ts) (sym (same_list-eq e.tuple t r)) ∙ q in
          let z : copies t ts ≤ 0 = ltb-false 0 (copies t ts) y in
          let n : s t ≡ 0 = none_has (s t) (sym (h t) ∙ (let k : copies t ts ≡ 0 = omega arith in k)) in
          last true r ∙ (let k : copies t ts + 1 ≡ 1 = omega arith in k) ∙ sym (some-has (s t + e.count) (omega arith))
      new q c false r = last false r ∙ add-zero (copies t ts) ∙ h t ∙ ap has (sym (add-zero (s t)))

      go : (a b : Bool) → eqb e.count 0 ≡ a → listed e.tuple ts ≡ b → copies t (cond (a || b) ts (ts ++ (e.tuple ∷ []))) ≡ has more
      go true b q r = idle (eqb-true e.count 0 q)
      go false true q r = again r (same_list e.tuple t) refl
      go false false q r = new r (eqb-false e.count 0 q) (same_list e.tuple t) refl

fold-copies : (es : List Entry) (ts : List (List ℕ)) (s : List ℕ → ℕ) → ((t : List ℕ) → copies t ts ≡ bit (ltb 0 (s t))) → (t : List ℕ)
    → copies t (fold include ts es) ≡ bit (ltb 0 (s t + tally es t))
unfolding fold tally
fold-copies [] ts s h t = h t ∙ ap (λ (n : ℕ). bit (ltb 0 n)) (sym (add-zero (s t)))
fold-copies (e ∷ es) ts s h t =
    fold-copies es (include ts e) (λ t. s t + cond (same_list e.tuple t) e.count 0) (λ t. step t e ts s h) t
    ∙ ap (λ (n : ℕ). bit (ltb 0 n)) (add_assoc (s t) (cond (same_list e.tuple t) e.count 0) (tally es t))

different-copies : (es : List Entry) (t : List ℕ) → copies t (different es) ≡ bit (ltb 0 (tally es t))
unfolding different
different-copies es t =
    fold-copies es [] (λ t. 0) (λ t. unfold sum_of in sym (ap bit (le-ltb 0 0 (omega arith)))) t
    ∙ ap (λ (n : ℕ). bit (ltb 0 n)) (zero-add (tally es t))

-- each element of a list is in it
in_copies : (us ws : List (List ℕ)) → ((t : List ℕ) → copies t us ≤ copies t ws) → Each (λ (u : List ℕ). 1 ≤ copies u ws) us
unfolding sum_of
in_copies [] ws h = tt
in_copies (u ∷ us) ws h = (omega (arith, h u, ap bit (same_list_refl u)), in_copies us ws (λ t. omega (arith, h t)))

-- lists without repetition, with the same elements
same_length : (us vs : List (List ℕ)) → ((t : List ℕ) → copies t us ≤ 1) → ((t : List ℕ) → copies t us ≡ copies t vs)
    → length us ≡ length vs
same_length us vs once h =
    sym (own us once) ∙ sum_cong (λ u. copies u us) (λ u. copies u vs) h us ∙ sum_swap (λ u v. bit (same_list v u)) us vs
    ∙ sum_cong (λ v. sum_of (λ u. bit (same_list v u)) us) (λ v. copies v vs) (λ v. sum_cong (λ u. bit (same_list v u)) (λ u. bit (same_list u v)) (λ u. ap bit (same_flip v u)) us ∙ h v) vs
    ∙ own vs (λ t. omega (arith, once t, h t))
  where
    own : (us : List (List ℕ)) → ((t : List ℕ) → copies t us ≤ 1) → sum_of (λ (u : List ℕ). copies u us) us ≡ length us
    own us once =
        sum_ones (λ u. copies u us) us (each_and (λ u. 1 ≤ copies u us) (λ u. copies u us ≡ 1) (λ u k. omega (arith, once u)) us (in_copies us us (λ t. omega arith)))

-- The same counts of each tuple take the same number of slots.
pub same-slots : (p : ℕ) (xs ys : List Entry) → ((t : List ℕ) → tally xs t ≡ tally ys t) → length (slots p xs) ≡ length (slots p ys)
same-slots p xs ys h =
    slots-long xs
    ∙ same_length (different xs) (different ys) once (λ t. different-copies xs t ∙ ap (λ (n : ℕ). bit (ltb 0 n)) (h t) ∙ sym (different-copies ys t))
    ∙ sym (slots-long ys)
  where
    slots-long : (es : List Entry) → length (slots p es) ≡ length (different es)
    slots-long es = sym (length-map (slots p es) (λ (s : Slot). s.tuple)) ∙ ap length (slots-different p es)

    few : (b : Bool) → bit b ≤ 1
    few true = omega arith
    few false = omega arith

    once : (t : List ℕ) → copies t (different xs) ≤ 1
    once t = rw (different-copies xs t) (few (ltb 0 (tally xs t)))
