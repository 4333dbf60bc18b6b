-- A lookup on a row, from its record: the words of its fraction before they are reduced, and its faults. Both add up in a merge.
use Rattle.std.specs.Prelude.{◌≡◌, ◌||◌, ◌↔◌, eqb, take, drop, get_or}
use Rattle.std.proofs.Math.Path.{refl, sym, ap, ap₂}
use Rattle.std.proofs.Common.{◌∙◌, true≢false, arith, length-take, get_or-take, get_or-drop}
use Rattle.std.proofs.Math.Bool.{Bool, true, false, cond}
use Rattle.std.proofs.Math.Option.{Option, none, some}
use mathlib.Core.List.{List, [], map, zip_with}
use Prim.Native.Nat.{ℕ, zero, suc, ◌+◌, ◌%◌, ◌<◌}
use Rattle.std.proofs.Math.Nat.{add-mod, mod-mod}
use Rattle.std.proofs.Math.Dec.{ltb}
use Rattle.std.proofs.Math.ListN.{length}
use Rattle.lists.specs.Count.{total, some_of}
use Rattle.lists.specs.Tab.{tab}
use Rattle.lists.specs.laws.Count.{some_of-same}
use Rattle.lists.specs.laws.Tab.{tab-length, tab_at, zip_append}
use Rattle.lists.specs.laws.Sums.{total_cong}
use Rattle.field.specs.Element.{at, zero4, one4, sum4, is_zero}
use Rattle.field.proofs.laws.Element.{sum4-words}
use Rattle.theorems_logup.specs.Sets.{Pair}
use Rattle.expression.specs.Words.{word}
use Rattle.expression.specs.Values.{bit}
use Rattle.lookup.specs.Lookups.{Lookups, Lookup, exclusive, tuple_count, multiplicity_count, flag_count, multiplicity_start, flag_start, multiplicity_node, flag_node, tuple_nodes, lookup_at}
use Rattle.lookup_degree.specs.Sums.{sum_of}
use Rattle.lookup_degree.specs.laws.Degree.{sum-tab, zip_tab}
use Rattle.lookup_buses.specs.laws.Order.{sum-append}
use Rattle.logup.specs.Tuple.{tuple, denominator, quotient4}
use Rattle.logup.specs.Column.{Place, branches, multiplicity, flag, chosen, denom, used_denom, additive_fraction, additive_fault, branch_fraction, branch_fault, exclusive_fraction, exclusive_fault, fraction, fault}
use Rattle.packing.specs.Packing.{on_one_bus, merged, numbered}
use Rattle.theorems_packing.specs.inner.Entries.{Aligned}
use Rattle.theorems_packing.proofs.laws.Counting.{some-total}
use Rattle.theorems_packing.proofs.laws.Pairs.{four}
use Rattle.theorems_packing.proofs.laws.Entries.{part_by, additive-both}

pub total-mod : (p : ℕ) (f g : ℕ → ℕ) (n : ℕ) → ((i : ℕ) → i < n → f i % p ≡ g i % p) → total f n % p ≡ total g n % p
unfolding total
total-mod p f g zero h = refl
total-mod p f g (suc n) h =
    add-mod (total f n) (f n) p ∙ ap₂ (λ (a b : ℕ). (a + b) % p) (total-mod p f g n (λ i l. h i (omega arith))) (h n (omega arith))
    ∙ sym (add-mod (total g n) (g n) p)

-- what a branch has whose flag is 1, the last were there two; `z` where there is none
module _ {A : Type 0} (z : A) where
  unfoldable pub pick : (ℕ → ℕ) → (ℕ → A) → ℕ → A
  pick f d zero = z
  pick f d (suc k) = cond (eqb (f k) 1) (d k) (pick f d k)

  pick_cong : (f g : ℕ → ℕ) (d e : ℕ → A) (n : ℕ) → ((k : ℕ) → k < n → f k ≡ g k) → ((k : ℕ) → k < n → d k ≡ e k) → pick f d n ≡ pick g e n
  unfolding pick
  pick_cong f g d e zero a b = refl
  pick_cong f g d e (suc n) a b =
      rw (a n (omega arith), b n (omega arith), pick_cong f g d e n (λ k l. a k (omega arith)) (λ k l. b k (omega arith)))

  abbrev of_chosen : (ℕ → A) → Option ℕ → A
  of_chosen d none = z
  of_chosen d (some k) = d k

  picked : (f : ℕ → ℕ) (d : ℕ → A) (n : ℕ) → of_chosen d (chosen f n) ≡ pick f d n
  unfolding pick chosen
  picked f d zero = refl
  picked f d (suc n) = go (eqb (f n) 1) (picked f d n)
    where
      go : (b : Bool) → of_chosen d (chosen f n) ≡ pick f d n → of_chosen d (cond b (some n) (chosen f n)) ≡ cond b (d n) (pick f d n)
      go true e = refl
      go false e = e

-- a refusal is given for these faults
abbrev pub named : ℕ → Bool
named n = eqb n 13 || (eqb n 14 || eqb n 15)

-- a lookup as a record, at its pair, on a row with these values of the nodes
module _ (p w : ℕ) (vals : List ℕ) where
  -- m ÷ d of a tuple of an additive lookup
  abbrev part : Pair (List ℕ) → List ℕ → ℕ → List ℕ
  part q t m = quotient4 p w (word vals m) (cond (eqb (word vals m) 0) one4 (denominator p w q.alpha q.beta (map (word vals) t)))

  abbrev branch : Pair (List ℕ) → Lookup → ℕ → List ℕ
  branch q x k =
      quotient4 p w (word vals (word x.multiplicities k)) (denominator p w q.alpha q.beta (map (word vals) (get_or x.tuples k [])))

  -- word j of its fraction; of an additive one before it is reduced
  unfoldable pub fraction_word : ℕ → Pair (List ℕ) → Lookup → ℕ
  fraction_word j q x =
      cond x.exclusive (at (pick zero4 (λ k. word vals (word x.flags k)) (branch q x) (length x.tuples)) j) (sum_of (λ (a : List ℕ). at a j) (zip_with (part q) x.tuples x.multiplicities))

  pub fraction_word-numbered : (j : ℕ) (q : Pair (List ℕ)) (k : ℕ) (x : Lookup) → fraction_word j q (numbered k x) ≡ fraction_word j q x
  unfolding fraction_word
  fraction_word-numbered j q k x = refl

  pub fraction_word-merged : (j : ℕ) (q : Pair (List ℕ)) (a b : Lookup) → on_one_bus a b ≡ true → Aligned a
      → fraction_word j q (merged a b) ≡ fraction_word j q a + fraction_word j q b
  unfolding fraction_word
  fraction_word-merged j q a b o s =
      let (ea, eb) = additive-both a b o in
      rw (ea, eb)
      (ap (sum_of (λ (c : List ℕ). at c j)) (zip_append (part q) a.tuples b.tuples a.multiplicities b.multiplicities (sym s.aligned))
      ∙ sum-append (λ (c : List ℕ). at c j) (zip_with (part q) a.tuples a.multiplicities) (zip_with (part q) b.tuples b.multiplicities))

  -- the denominator that is used, and whether refusal 13, 14 or 15 is given
  abbrev used : Pair (List ℕ) → List ℕ → ℕ → List ℕ
  used q t m = cond (eqb (word vals m) 0) one4 (denominator p w q.alpha q.beta (map (word vals) t))

  abbrev branch_fault_of : Pair (List ℕ) → Lookup → ℕ → ℕ
  branch_fault_of q x k = cond (is_zero (denominator p w q.alpha q.beta (map (word vals) (get_or x.tuples k [])))) 15 0

  abbrev exclusive_fault_of : (ℕ → ℕ) → (ℕ → ℕ) → ℕ → ℕ
  exclusive_fault_of f d n = cond (some_of (λ k. ltb 1 (f k)) n) 13 (cond (ltb 1 (total (λ k. bit (eqb (f k) 1)) n)) 14 (pick 0 f d n))

  -- how many faults a lookup has on this row
  unfoldable pub fault_count : Pair (List ℕ) → Lookup → ℕ
  fault_count q x =
      cond x.exclusive (bit (named (exclusive_fault_of (λ k. word vals (word x.flags k)) (branch_fault_of q x) (length x.tuples))))
      (sum_of (λ (d : List ℕ). bit (is_zero d)) (zip_with (used q) x.tuples x.multiplicities))

  pub fault_count-numbered : (q : Pair (List ℕ)) (k : ℕ) (x : Lookup) → fault_count q (numbered k x) ≡ fault_count q x
  unfolding fault_count
  fault_count-numbered q k x = refl

  pub fault_count-merged : (q : Pair (List ℕ)) (a b : Lookup) → on_one_bus a b ≡ true → Aligned a
      → fault_count q (merged a b) ≡ fault_count q a + fault_count q b
  unfolding fault_count
  fault_count-merged q a b o s =
      let (ea, eb) = additive-both a b o in
      rw (ea, eb)
      (ap (sum_of (λ (d : List ℕ). bit (is_zero d))) (zip_append (used q) a.tuples b.tuples a.multiplicities b.multiplicities (sym s.aligned))
      ∙ sum-append (λ (d : List ℕ). bit (is_zero d)) (zip_with (used q) a.tuples a.multiplicities) (zip_with (used q) b.tuples b.multiplicities))

  -- the fraction of lookup i of a table
  module _ (l : Lookups) (i : ℕ) (q : Pair (List ℕ)) (s : Aligned (lookup_at l i)) where
    abbrev here : Place
    here = record { lookups = l; vals = vals; lookup = i; alpha = q.alpha; beta = q.beta }

    abbrev N : ℕ
    N = tuple_count l.lookups i

    abbrev M : List ℕ
    M = take (multiplicity_count l.lookups i) (drop (multiplicity_start l.lookups i) l.multiplicities)

    abbrev F : List ℕ
    F = take (flag_count l.lookups i) (drop (flag_start l.lookups i) l.flags)

    long : length (tab (tuple_nodes l i) 0 N) ≡ N
    long = tab-length (tuple_nodes l i) 0 N

    m_long : length M ≡ N
    unfolding lookup_at
    m_long = s.aligned ∙ long

    additive-words : (j : ℕ)
        → sum_of (λ (a : List ℕ). at a j) (zip_with (part q) (tab (tuple_nodes l i) 0 N) M) ≡ total (λ k. at (quotient4 p w (multiplicity here k) (used_denom p w here k)) j) N
    unfolding multiplicity used_denom denom tuple multiplicity_node
    additive-words j =
        ap (λ (ms : List ℕ). sum_of (λ (a : List ℕ). at a j) (zip_with (part q) (tab (tuple_nodes l i) 0 N) ms)) (part_by l.multiplicities (multiplicity_count l.lookups i) (multiplicity_start l.lookups i) N m_long)
        ∙ ap (sum_of (λ (a : List ℕ). at a j)) (zip_tab (part q) (tuple_nodes l i) (λ k. word l.multiplicities (multiplicity_start l.lookups i + k)) N)
        ∙ sum-tab (λ (a : List ℕ). at a j) (λ k. part q (tuple_nodes l i k) (word l.multiplicities (multiplicity_start l.lookups i + k))) N

    fraction_of : (o : Option ℕ)
        → branch_fraction p w here o ≡ of_chosen zero4 (λ k. quotient4 p w (multiplicity here k) (denom p w here k)) o
    fraction_of none = refl
    fraction_of (some k) = refl

    fault_of : (o : Option ℕ) → branch_fault p w here o ≡ of_chosen 0 (λ k. cond (is_zero (denom p w here k)) 15 0) o
    fault_of none = refl
    fault_of (some k) = refl

    in_part : (c st k : ℕ) (xs : List ℕ) → k < length (take c (drop st xs)) → word (take c (drop st xs)) k ≡ word xs (st + k)
    in_part c st k xs h = get_or-take c (drop st xs) k 0 (omega (arith, length-take c (drop st xs))) ∙ get_or-drop st xs k 0

    exclusive-words : exclusive l.lookups i ≡ true
        → pick zero4 (λ k. word vals (word F k)) (λ k. quotient4 p w (word vals (word M k)) (denominator p w q.alpha q.beta (map (word vals) (get_or (tab (tuple_nodes l i) 0 N) k [])))) (length (tab (tuple_nodes l i) 0 N)) ≡ exclusive_fraction p w here
    unfolding exclusive_fraction branches multiplicity flag denom tuple multiplicity_node flag_node lookup_at
    exclusive-words e =
        let f_long : length F ≡ N = s.flagged e ∙ long in
        ap (pick zero4 (λ k. word vals (word F k)) (λ k. quotient4 p w (word vals (word M k)) (denominator p w q.alpha q.beta (map (word vals) (get_or (tab (tuple_nodes l i) 0 N) k []))))) long
        ∙ pick_cong zero4 (λ k. word vals (word F k)) (flag here) _ _ N
        (λ k h. ap (word vals) (in_part (flag_count l.lookups i) (flag_start l.lookups i) k l.flags (omega (arith, f_long))))
        (λ k h. ap₂ (λ (m : ℕ) (t : List ℕ). quotient4 p w (word vals m) (denominator p w q.alpha q.beta (map (word vals) t)))
        (in_part (multiplicity_count l.lookups i) (multiplicity_start l.lookups i) k l.multiplicities (omega (arith, m_long))) (tab_at (tuple_nodes l i) N k [] h))
        ∙ sym (fraction_of (chosen (flag here) N) ∙ picked zero4 (flag here) (λ k. quotient4 p w (multiplicity here k) (denom p w here k)) N)

    pub fraction_words : (j : ℕ) → j < 4 → at (fraction p w here) j % p ≡ fraction_word j q (lookup_at l i) % p
    unfolding fraction fraction_word lookup_at additive_fraction branches
    fraction_words j h = go (exclusive l.lookups i) refl
      where
        at_four : (g : ℕ → ℕ) (j : ℕ) → j < 4 → at (four g) j ≡ g j
        at_four g zero h = refl
        at_four g (suc zero) h = refl
        at_four g (suc (suc zero)) h = refl
        at_four g (suc (suc (suc zero))) h = refl
        at_four g (suc (suc (suc (suc j)))) h = absurd (omega arith)

        go : (b : Bool) → exclusive l.lookups i ≡ b
            → at (cond b (exclusive_fraction p w here) (sum4 p (λ k. quotient4 p w (multiplicity here k) (used_denom p w here k)) N)) j % p
            ≡ cond b (at (pick zero4 (λ k. word vals (word F k)) (λ k. quotient4 p w (word vals (word M k)) (denominator p w q.alpha q.beta (map (word vals) (get_or (tab (tuple_nodes l i) 0 N) k [])))) (length (tab (tuple_nodes l i) 0 N))) j)
            (sum_of (λ (a : List ℕ). at a j) (zip_with (part q) (tab (tuple_nodes l i) 0 N) M)) % p
        go true e = ap (λ (a : List ℕ). at a j % p) (sym (exclusive-words e))
        go false e =
            ap (λ (a : List ℕ). at a j % p) (sum4-words p (λ k. quotient4 p w (multiplicity here k) (used_denom p w here k)) N)
            ∙ ap (λ (n : ℕ). n % p) (at_four (λ j. total (λ k. at (quotient4 p w (multiplicity here k) (used_denom p w here k)) j) N % p) j h)
            ∙ mod-mod (total (λ k. at (quotient4 p w (multiplicity here k) (used_denom p w here k)) j) N) p
            ∙ ap (λ (n : ℕ). n % p) (sym (additive-words j))

    -- the faults
    used-words : sum_of (λ (d : List ℕ). bit (is_zero d)) (zip_with (used q) (tab (tuple_nodes l i) 0 N) M) ≡ total (λ k. bit (is_zero (used_denom p w here k))) N
    unfolding multiplicity used_denom denom tuple multiplicity_node
    used-words =
        ap (λ (ms : List ℕ). sum_of (λ (d : List ℕ). bit (is_zero d)) (zip_with (used q) (tab (tuple_nodes l i) 0 N) ms)) (part_by l.multiplicities (multiplicity_count l.lookups i) (multiplicity_start l.lookups i) N m_long)
        ∙ ap (sum_of (λ (d : List ℕ). bit (is_zero d))) (zip_tab (used q) (tuple_nodes l i) (λ k. word l.multiplicities (multiplicity_start l.lookups i + k)) N)
        ∙ sum-tab (λ (d : List ℕ). bit (is_zero d)) (λ k. used q (tuple_nodes l i k) (word l.multiplicities (multiplicity_start l.lookups i + k))) N

    flags-words : exclusive l.lookups i ≡ true
        → exclusive_fault_of (λ k. word vals (word F k)) (λ k. cond (is_zero (denominator p w q.alpha q.beta (map (word vals) (get_or (tab (tuple_nodes l i) 0 N) k [])))) 15 0) (length (tab (tuple_nodes l i) 0 N)) ≡ exclusive_fault p w here
    unfolding exclusive_fault branches flag denom tuple flag_node lookup_at
    flags-words e =
        ap (exclusive_fault_of (λ k. word vals (word F k)) (λ k. cond (is_zero (denominator p w q.alpha q.beta (map (word vals) (get_or (tab (tuple_nodes l i) 0 N) k [])))) 15 0)) long
        ∙ (λ z. cond (some_of-same (λ k. ltb 1 (word vals (word F k))) (λ k. ltb 1 (flag here k)) N (λ k h. ap (ltb 1) (one k h)) z) 13
        (cond (ltb 1 (total_cong (λ k. bit (eqb (word vals (word F k)) 1)) (λ k. bit (eqb (flag here k) 1)) N (λ k h. ap (λ (n : ℕ). bit (eqb n 1)) (one k h)) z)) 14
        (branch_same z)))
      where
        f_long : length F ≡ N
        f_long = s.flagged e ∙ long

        one : (k : ℕ) → k < N → word vals (word F k) ≡ flag here k
        one k h =
            unfold flag in unfold flag_node in ap (word vals) (in_part (flag_count l.lookups i) (flag_start l.lookups i) k l.flags (omega (arith, f_long)))

        branch_same : pick 0 (λ k. word vals (word F k)) (λ k. cond (is_zero (denominator p w q.alpha q.beta (map (word vals) (get_or (tab (tuple_nodes l i) 0 N) k [])))) 15 0) N ≡ branch_fault p w here (chosen (flag here) N)
        branch_same =
            pick_cong 0 (λ k. word vals (word F k)) (flag here) _ (λ k. cond (is_zero (denom p w here k)) 15 0) N one
            (λ k h. unfold denom in unfold tuple in ap (λ (t : List ℕ). cond (is_zero (denominator p w q.alpha q.beta (map (word vals) t))) 15 0) (tab_at (tuple_nodes l i) N k [] h))
            ∙ sym (fault_of (chosen (flag here) N) ∙ picked 0 (flag here) (λ k. cond (is_zero (denom p w here k)) 15 0) N)

    pub fault-words : (named (fault p w here) ≡ false) ↔ (fault_count q (lookup_at l i) ≡ 0)
    unfolding fault fault_count lookup_at additive_fault branches
    fault-words = go (exclusive l.lookups i) refl
      where
        D : Bool
        D = some_of (λ k. is_zero (used_denom p w here k)) N

        mark : (b : Bool) → (b ≡ false) ↔ (bit b ≡ 0)
        mark true = (λ e. absurd (true≢false e), λ e. absurd (omega arith))
        mark false = (λ e. refl, λ e. refl)

        fifteen : (b : Bool) → named (cond b 15 0) ≡ b
        fifteen true = refl
        fifteen false = refl

        go : (b : Bool) → exclusive l.lookups i ≡ b
            → (named (cond b (exclusive_fault p w here) (cond D 15 0)) ≡ false)
            ↔ (cond b (bit (named (exclusive_fault_of (λ k. word vals (word F k)) (λ k. cond (is_zero (denominator p w q.alpha q.beta (map (word vals) (get_or (tab (tuple_nodes l i) 0 N) k [])))) 15 0) (length (tab (tuple_nodes l i) 0 N)))))
            (sum_of (λ (d : List ℕ). bit (is_zero d)) (zip_with (used q) (tab (tuple_nodes l i) 0 N) M)) ≡ 0)
        go true e =
            let r = mark (named (exclusive_fault p w here)) in
            (λ h. ap (λ (n : ℕ). bit (named n)) (flags-words e) ∙ r.0 h, λ h. r.1 (sym (ap (λ (n : ℕ). bit (named n)) (flags-words e)) ∙ h))
        go false e =
            let r = some-total (λ k. is_zero (used_denom p w here k)) N in
            (λ h. used-words ∙ r.0 (sym (fifteen D) ∙ h), λ h. fifteen D ∙ r.1 (sym used-words ∙ h))
