-- A lookup's fraction on a row is the sum of m ÷ (alpha - tuple) over its entries; what refusals 13 to 15 leave, and what leaves none of them.
use Rattle.std.specs.Prelude.{◌≡◌, ◌≢◌, Bool, List, [], ◌∷◌}
use Rattle.std.proofs.Math.Path.{refl, sym, ap}
use Rattle.std.proofs.Common.{ap₂, ◌∙◌, arith, le_refl, nltb→le}
use Rattle.std.proofs.Math.Bool.{true, false, cond}
use Rattle.std.proofs.Math.Option.{Option, none, some}
use Prim.Native.Nat.{ℕ, zero, suc, ◌+◌, ◌<◌, ◌≤◌}
use Rattle.std.proofs.Math.Dec.{eqb, ltb, not_T}
use Rattle.algebra.proofs.laws.Solve.{z_add, z_mul}
use Rattle.lists.specs.Count.{total, some_of, joined}
use Rattle.lists.specs.laws.Count.{last_or_below, some_of_false, not_of_false, eqb_true, eqb_false, eq_of_eqb, ne_of_eqb}
use Rattle.field.specs.Word.{mul_m}
use Rattle.field.proofs.laws.Word.{mul_m-one, mul_m-zero}
use Rattle.field.specs.Element.{one4, is_zero}
use Rattle.field.specs.Modulus.{Modulus, Certificate}
use Rattle.field.specs.Extension.{K, KEl, el}
use Rattle.field.specs.laws.Extension.{h}
use Rattle.theorems_logup.specs.Inverse.{inverse, minus}
use Rattle.theorems_logup.specs.Sums.{sum}
use Rattle.theorems_logup.specs.Tables as Tables
use Rattle.expression.specs.Values.{bit}
use Rattle.expression.specs.Requires.{Below}
use Rattle.lookup.specs.Lookups.{exclusive, tuple_count, multiplicity_node}
use Rattle.logup.specs.Tuple.{tuple, denominator, quotient4}
use Rattle.logup.specs.Column.{Place, branches, multiplicity, flag, chosen, denom, used_denom, additive_fraction, additive_fault, branch_fraction, branch_fault, exclusive_fraction, exclusive_fault, fraction, fault}
use Rattle.logup.specs.Ledger.{Entry, Element, count, entry, lookup_entries}
use Rattle.theorems_soundness.specs.Entries.{into, N}
use Rattle.theorems_soundness.proofs.laws.Elements.{element-lift, element-sub, element-sum, element-quotient, quotient_is, nonzero}
use Rattle.theorems_soundness.proofs.laws.Sums.{share, share_none, sum_one, sum-next, sum-joined}
use Rattle.theorems_soundness.proofs.laws.Tuples.{denominator_is}

-- a refusal's number that is 0 was not given
cond_code : (k : ℕ) (b : Bool) (n : ℕ) → cond b (suc k) n ≡ 0 → (b ≡ false) × (n ≡ 0)
cond_code k true n e = absurd (omega arith)
cond_code k false n e = (refl, e)

le_of_ltb : (a b : ℕ) → ltb a b ≡ false → b ≤ a
le_of_ltb a b e = nltb→le a b (not_T (ltb a b) (not_of_false e))

-- the branches among the first n whose flag is 1
abbrev pub ones : Place → ℕ → ℕ
ones c n = total (λ k. bit (eqb (flag c k) 1)) n

pub ones_pos : (c : Place) (n k : ℕ) → k < n → flag c k ≡ 1 → 1 ≤ ones c n
unfolding total
ones_pos c zero k l e = absurd (omega arith)
ones_pos c (suc n) k l e =
    last_or_below (λ k. flag c k ≡ 1 → 1 ≤ ones c (suc n)) n k l (λ e. rw (eqb_true e) (omega arith))
    (λ l e. let few : 1 ≤ ones c n = ones_pos c n k l e in omega arith) e

-- the branch with the flag 1 is the chosen one
chosen_is : (c : Place) (n k : ℕ) → k < n → flag c k ≡ 1 → ones c n ≤ 1 → chosen (flag c) n ≡ some k
unfolding chosen total
chosen_is c zero k l e few = absurd (omega arith)
chosen_is c (suc n) k l e few = go (eqb (flag c n) 1) refl few (λ l few. chosen_is c n k l e few)
  where
    go : (b : Bool) → eqb (flag c n) 1 ≡ b → ones c n + bit b ≤ 1 → (k < n → ones c n ≤ 1 → chosen (flag c) n ≡ some k)
        → cond b (some n) (chosen (flag c) n) ≡ some k
    go true q few ih =
        last_or_below (λ k. flag c k ≡ 1 → some n ≡ some k) n k l (λ _. refl) (λ l e. absurd (let one : 1 ≤ ones c n = ones_pos c n k l e in omega arith)) e
    go false q few ih =
        ih (last_or_below (λ k. flag c k ≡ 1 → k < n) n k l (λ e. absurd (ne_of_eqb (flag c n) 1 q e)) (λ l e. l) e) (omega arith)

-- lawful flags
pub record Lawful (c : Place) : Type 0 where
  pub low : (k : ℕ) → k < branches c → flag c k ≤ 1
  pub few : ones c (branches c) ≤ 1

pub flag-zero : (c : Place) → Lawful c → (k : ℕ) → k < branches c → eqb (flag c k) 1 ≡ false → flag c k ≡ 0
flag-zero c f k l e = let low : flag c k ≤ 1 = f.low k l in let ne : flag c k ≢ 1 = ne_of_eqb (flag c k) 1 e in omega arith

-- what the tests of an exclusive lookup leave
module _ (p w : ℕ) (c : Place) (ok : exclusive_fault p w c ≡ 0) where
  parts : (some_of (λ k. ltb 1 (flag c k)) (branches c) ≡ false) × (ltb 1 (ones c (branches c)) ≡ false) × (branch_fault p w c (chosen (flag c) (branches c)) ≡ 0)
  unfolding exclusive_fault
  parts =
      let one : _ =
      cond_code 12 (some_of (λ k. ltb 1 (flag c k)) (branches c)) (cond (ltb 1 (ones c (branches c))) 14 (branch_fault p w c (chosen (flag c) (branches c)))) ok in
      let two : _ = cond_code 13 (ltb 1 (ones c (branches c))) (branch_fault p w c (chosen (flag c) (branches c))) one.1 in
      (one.0, two.0, two.1)

  pub lawful : Lawful c
  lawful =
      record {
        low = λ k l. le_of_ltb 1 (flag c k) (some_of_false (λ k. ltb 1 (flag c k)) (branches c) k parts.0 l);
        few = le_of_ltb 1 (ones c (branches c)) parts.1;
      }

  pub chosen_sound : (k : ℕ) → k < branches c → flag c k ≡ 1 → is_zero (denom p w c k) ≡ false
  chosen_sound k l e =
      (cond_code 14 (is_zero (denom p w c k)) 0 (ap (branch_fault p w c) (sym (chosen_is c (branches c) k l e lawful.few)) ∙ parts.2)).0

-- what the test of an additive lookup leaves
pub additive_sound : (p w : ℕ) (c : Place) → additive_fault p w c ≡ 0 → (k : ℕ) → k < branches c → multiplicity c k ≢ 0 → is_zero (denom p w c k) ≡ false
unfolding additive_fault used_denom
additive_sound p w c ok k l n =
    sym (ap (λ (b : Bool). is_zero (cond b one4 (denom p w c k))) (eqb_false n))
    ∙ some_of_false (λ k. is_zero (used_denom p w c k)) (branches c) k (cond_code 14 _ 0 ok).0 l

-- denominators and fractions are four words below p
module _ (p w : ℕ) (C : Certificate p w) (c : Place) where
  pub denom-element : (k : ℕ) → Element p (denom p w c k)
  unfolding denom denominator
  denom-element k = element-sub p w C c.alpha _

  pub branch-element : (o : Option ℕ) → Element p (branch_fraction p w c o)
  branch-element none = element-lift p w C 0 (h p w C)
  branch-element (some k) = element-quotient p w C (multiplicity c k) (denom p w c k)

  pub additive-element : Element p (additive_fraction p w c)
  unfolding additive_fraction
  additive-element = element-sum p w C _ (branches c)

  pub fraction-element : Element p (fraction p w c)
  unfolding fraction exclusive_fraction
  fraction-element = go (exclusive c.lookups.lookups c.lookup)
    where
      go : (b : Bool) → Element p (cond b (branch_fraction p w c (chosen (flag c) (branches c))) (additive_fraction p w c))
      go true = branch-element (chosen (flag c) (branches c))
      go false = additive-element

module _ (p w : ℕ) (M : Modulus p) (C : Certificate p w) (c : Place) where
  pub branch-quotient : (k : ℕ)
      → el p w C (quotient4 p w (multiplicity c k) (denom p w c k)) ≡ (K p w C).ring.mul (into p w C (multiplicity c k)) (inverse (K p w C) (el p w C (denom p w c k)))
  branch-quotient k = quotient_is p w C M (multiplicity c k) (denom p w c k) (denom-element p w C c k)

  -- the denominator one of a zero multiplicity changes nothing
  pub used-quotient : (k : ℕ)
      → el p w C (quotient4 p w (multiplicity c k) (used_denom p w c k)) ≡ (K p w C).ring.mul (into p w C (multiplicity c k)) (inverse (K p w C) (el p w C (denom p w c k)))
  unfolding used_denom
  used-quotient k = go (eqb (multiplicity c k) 0) refl
    where
      go : (b : Bool) → eqb (multiplicity c k) 0 ≡ b
          → el p w C (quotient4 p w (multiplicity c k) (cond b one4 (denom p w c k)))
          ≡ (K p w C).ring.mul (into p w C (multiplicity c k)) (inverse (K p w C) (el p w C (denom p w c k)))
      go true q =
          let z : multiplicity c k ≡ 0 = eq_of_eqb (multiplicity c k) 0 q in
          ap (λ (m : ℕ). el p w C (quotient4 p w m one4)) z ∙ quotient_is p w C M 0 one4 (element-lift p w C 1 C.prime.big)
          ∙ z_mul (K p w C).ring (inverse (K p w C) (el p w C one4))
          ∙ sym
          (ap (λ (m : ℕ). (K p w C).ring.mul (into p w C m) (inverse (K p w C) (el p w C (denom p w c k)))) z
          ∙ z_mul (K p w C).ring (inverse (K p w C) (el p w C (denom p w c k))))
      go false q = branch-quotient k

module _ (p w : ℕ) (M : Modulus p) (C : Certificate p w) (c : Place) (below : Below p c.vals) where
  abbrev en : ℕ → Entry
  en k = entry p c.lookups c.vals c.lookup k

  abbrev sh : Entry → KEl p w C
  sh = share p w C c.alpha c.beta

  abbrev all : ℕ → List Entry
  all n = joined (λ k. en k ∷ []) 0 n

  pub denom_is : (k : ℕ)
      → el p w C (denom p w c k)
      ≡ minus (K p w C) (el p w C c.alpha) (Tables.combine (K p w C) (N p w C) (el p w C c.beta) (tuple c.lookups c.vals c.lookup k))
  unfolding denom
  denom_is k = denominator_is p w C c.beta c.alpha (tuple c.lookups c.vals c.lookup k)

  -- m ÷ denominator is the summand of an entry with the count m
  as_share : (k : ℕ) → multiplicity c k ≡ (en k).count
      → (K p w C).ring.mul (into p w C (multiplicity c k)) (inverse (K p w C) (el p w C (denom p w c k))) ≡ sh (en k)
  as_share k e = ap₂ (λ (m : ℕ) (x : KEl p w C). (K p w C).ring.mul (into p w C m) (inverse (K p w C) x)) e (denom_is k)

  -- additive
  module _ (add : exclusive c.lookups.lookups c.lookup ≡ false) where
    count-additive : (k : ℕ) → (en k).count ≡ multiplicity c k
    unfolding count multiplicity
    count-additive k = rw add refl

    pub additive_is : el p w C (additive_fraction p w c) ≡ sum (K p w C) (lookup_entries p c.lookups c.vals c.lookup) sh
    unfolding additive_fraction lookup_entries branches
    additive_is =
        sum-joined p w C sh (λ k. quotient4 p w (multiplicity c k) (used_denom p w c k)) (λ k. en k ∷ []) (branches c)
        (λ k _. used-quotient p w M C c k ∙ as_share k (sym (count-additive k)) ∙ sym (sum_one p w C sh (en k)))

  -- exclusive
  module _ (ex : exclusive c.lookups.lookups c.lookup ≡ true) where
    count-exclusive : (k : ℕ) → (en k).count ≡ mul_m p (multiplicity c k) (flag c k)
    unfolding count multiplicity flag
    count-exclusive k = rw ex refl

    count_none : (k : ℕ) → flag c k ≡ 0 → (en k).count ≡ 0
    count_none k z = count-exclusive k ∙ ap (λ (f : ℕ). mul_m p (multiplicity c k) f) z ∙ mul_m-zero p (multiplicity c k)

    count-full : (k : ℕ) → flag c k ≡ 1 → (en k).count ≡ multiplicity c k
    unfolding multiplicity
    count-full k e =
        count-exclusive k ∙ ap (λ (f : ℕ). mul_m p (multiplicity c k) f) e
        ∙ mul_m-one p (multiplicity c k) (below.each (multiplicity_node c.lookups c.lookup k))

    module _ (f : Lawful c) where
      abbrev upto : ℕ → KEl p w C
      upto n = sum (K p w C) (all n) sh

      next : (n : ℕ) → upto (suc n) ≡ (K p w C).ring.add (upto n) (sh (en n))
      next n = sum-next p w C sh (λ k. en k ∷ []) n ∙ ap ((K p w C).ring.add (upto n)) (sum_one p w C sh (en n))

      no_more : (n : ℕ) → flag c n ≡ 0 → upto (suc n) ≡ upto n
      no_more n z = next n ∙ ap ((K p w C).ring.add (upto n)) (share_none p w C c.alpha c.beta (en n) (count_none n z)) ∙ (K p w C).ring.add_z (upto n)

      none_yet : (n : ℕ) → n ≤ branches c → ones c n ≡ 0 → upto n ≡ (K p w C).ring.z
      unfolding total joined
      none_yet zero l z = refl
      none_yet (suc n) l z = no_more n (flag-zero c f n l (go (eqb (flag c n) 1) refl z)) ∙ none_yet n (omega arith) (omega arith)
        where
          go : (b : Bool) → eqb (flag c n) 1 ≡ b → ones c n + bit b ≡ 0 → eqb (flag c n) 1 ≡ false
          go true q z = absurd (omega arith)
          go false q z = q

      exclusive_to : (n : ℕ) → n ≤ branches c → ones c n ≤ 1 → el p w C (branch_fraction p w c (chosen (flag c) n)) ≡ upto n
      unfolding chosen total joined
      exclusive_to zero l few = refl
      exclusive_to (suc n) l few = go (eqb (flag c n) 1) refl few (λ few. exclusive_to n (omega arith) few)
        where
          go : (b : Bool) → eqb (flag c n) 1 ≡ b → ones c n + bit b ≤ 1
              → (ones c n ≤ 1 → el p w C (branch_fraction p w c (chosen (flag c) n)) ≡ upto n)
              → el p w C (branch_fraction p w c (cond b (some n) (chosen (flag c) n))) ≡ upto (suc n)
          go true q few ih =
              branch-quotient p w M C c n ∙ as_share n (sym (count-full n (eq_of_eqb (flag c n) 1 q)))
              ∙ sym (next n ∙ ap (λ (x : KEl p w C). (K p w C).ring.add x (sh (en n))) (none_yet n (omega arith) (omega arith)) ∙ z_add (K p w C).ring (sh (en n)))
          go false q few ih = ih (omega arith) ∙ sym (no_more n (flag-zero c f n l q))

      pub exclusive_is : el p w C (exclusive_fraction p w c) ≡ sum (K p w C) (lookup_entries p c.lookups c.vals c.lookup) sh
      unfolding exclusive_fraction lookup_entries branches
      exclusive_is = exclusive_to (branches c) (le_refl (branches c)) f.few

  -- where there is no fault
  module _ (ok : fault p w c ≡ 0) where
    pub fraction_is : el p w C (fraction p w c) ≡ sum (K p w C) (lookup_entries p c.lookups c.vals c.lookup) (share p w C c.alpha c.beta)
    unfolding fraction fault
    fraction_is = go (exclusive c.lookups.lookups c.lookup) refl ok
      where
        go : (b : Bool) → exclusive c.lookups.lookups c.lookup ≡ b → cond b (exclusive_fault p w c) (additive_fault p w c) ≡ 0
            → el p w C (cond b (exclusive_fraction p w c) (additive_fraction p w c)) ≡ sum (K p w C) (lookup_entries p c.lookups c.vals c.lookup) sh
        go true q ok = exclusive_is q (lawful p w c ok)
        go false q ok = additive_is q

    -- a counted entry's denominator is not zero
    pub sound : (k : ℕ) → k < tuple_count c.lookups.lookups c.lookup → count p c.lookups c.vals c.lookup k ≢ 0
        → minus (K p w C) (el p w C c.alpha) (Tables.combine (K p w C) (N p w C) (el p w C c.beta) (tuple c.lookups c.vals c.lookup k))
        ≢ (K p w C).ring.z
    unfolding fault branches
    sound k l n z =
        nonzero p w C (denom p w c k) (denom-element p w C c k) (go (exclusive c.lookups.lookups c.lookup) refl ok) (denom_is k ∙ z)
      where
        chosen_or_none : (ex : exclusive c.lookups.lookups c.lookup ≡ true) → exclusive_fault p w c ≡ 0 → (b : Bool) → eqb (flag c k) 1 ≡ b
            → is_zero (denom p w c k) ≡ false
        chosen_or_none ex ok true q = chosen_sound p w c ok k l (eq_of_eqb (flag c k) 1 q)
        chosen_or_none ex ok false q = absurd (n (count_none ex k (flag-zero c (lawful p w c ok) k l q)))

        go : (b : Bool) → exclusive c.lookups.lookups c.lookup ≡ b → cond b (exclusive_fault p w c) (additive_fault p w c) ≡ 0
            → is_zero (denom p w c k) ≡ false
        go true q ok = chosen_or_none q ok (eqb (flag c k) 1) refl
        go false q ok = additive_sound p w c ok k l (λ e. n (count-additive q k ∙ e))
