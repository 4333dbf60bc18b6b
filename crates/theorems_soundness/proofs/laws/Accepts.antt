-- Generation accepts a table with a ledger and lawful flags at every pair whose alpha is no tuple's combined value.
use Rattle.std.specs.Prelude.{◌≡◌, ◌≢◌, Bool, not, eqb, leb, length}
use Rattle.std.proofs.Math.Path.{refl, ap}
use Rattle.std.proofs.Common.{sym, ap₂, ◌∙◌, subst, arith, le_refl, le→leb}
use Rattle.std.proofs.Math.Bool.{true, false, cond}
use Rattle.std.proofs.Math.Option.{Option, none, some}
use mathlib.Core.List.Memᴰ
use mathlib.Core.List.{List, [], ◌∷◌, ◌++◌, Memᴰ}
use Prim.Native.Nat.{ℕ, zero, suc, ◌+◌, ◌*◌, ◌/◌, ◌%◌, ◌<◌, ◌≤◌}
use Rattle.std.proofs.Math.Dec.{T, ltb}
use Rattle.std.proofs.Math.ListN.{length-append}
use borrow.Author.Tests.{le-ltb}
use Rattle.lists.specs.Count.{total, joined}
use Rattle.lists.specs.laws.Count.{last_or_below, some_of_none, first-all, joined-next, of_true, true_of, false_of, eqb_true, eqb_false, eq_of_eqb}
use Rattle.field.specs.Element.{one4, is_zero, sub4}
use Rattle.field.specs.Modulus.{Certificate}
use Rattle.field.specs.laws.Extension.{h}
use Rattle.expression.specs.Values.{bit, row_values}
use Rattle.expression.specs.Words.{all_below}
use Rattle.expression.specs.declared.sizes.Limits.{Limits}
use Rattle.lookup.specs.Lookups.{lookup_count, exclusive, tuple_count}
use Rattle.lookup.specs.Table.{Table}
use Rattle.lookup.specs.Tests.{sizes, words_below, has_lookups}
use Rattle.logup.specs.Tuple.{tuple, combine, denominator}
use Rattle.logup.specs.Column.{Place, branches, multiplicity, flag, chosen, denom, used_denom, additive_fault, branch_fault, exclusive_fault, fault}
use Rattle.logup.specs.Rows.{fault_refusal, fault_at, row_fault, first_fault, used}
use Rattle.logup.specs.Generation.{absent, rows_outcome, entry_outcome, generation, accepts}
use Rattle.logup.specs.Ledger.{has_ledger, Entry, Element, entry, lookup_entries, row_entries, entries, at_pair}
use Rattle.theorems_soundness.specs.Lawful.{LawfulFlags}
use Rattle.theorems_soundness.proofs.laws.Joined.{length-joined}
use Rattle.theorems_soundness.proofs.laws.Setting.{same_of_el}
use Rattle.field.proofs.laws.Zero.{one_not_zero}
use Rattle.theorems_soundness.proofs.laws.Elements.{element-sum, sub_zero_iff}
use Rattle.theorems_soundness.proofs.laws.Columns.{ones, Lawful}
use Rattle.theorems_soundness.proofs.laws.Terminals.{place-at_pair}
use Rattle.theorems_soundness.proofs.laws.Entered.{Passed, entered, Ledgered, ledgered}
use Rattle.theorems_soundness.proofs.laws.Words.{and_of, or_right, all_below_of, joined-each, append-each, element-each}

-- a chosen branch is one of the n
chosen-there : (flags : ℕ → ℕ) (P : Option ℕ → Type 0) → P none → (n : ℕ) → ((k : ℕ) → k < n → P (some k)) → P (chosen flags n)
unfolding chosen
chosen-there flags P none_ok zero each = none_ok
chosen-there flags P none_ok (suc n) each = go (eqb (flags n) 1) (chosen-there flags P none_ok n (λ k l. each k (omega arith)))
  where
    go : (b : Bool) → P (chosen flags n) → P (cond b (some n) (chosen flags n))
    go true ih = each n (le_refl (suc n))
    go false ih = ih

-- flags of which at most one is 1
ones_none : (c : Place) (n : ℕ) → ((k : ℕ) → k < n → flag c k ≢ 1) → ones c n ≡ 0
unfolding total
ones_none c zero each = refl
ones_none c (suc n) each = ap₂ ◌+◌ (ones_none c n (λ k l. each k (omega arith))) (ap bit (eqb_false (each n (le_refl (suc n)))))

ones-few : (c : Place) (n : ℕ) → ((j k : ℕ) → j < n → k < n → flag c j ≡ 1 → flag c k ≡ 1 → j ≡ k) → ones c n ≤ 1
unfolding total
ones-few c zero one = omega arith
ones-few c (suc n) one = go (eqb (flag c n) 1) refl (ones-few c n (λ j k lj lk. one j k (omega arith) (omega arith)))
  where
    go : (b : Bool) → eqb (flag c n) 1 ≡ b → ones c n ≤ 1 → ones c n + bit b ≤ 1
    go true q ih =
        let none_yet : ones c n ≡ 0 =
        ones_none c n (λ k l e. let same : k ≡ n = one k n (omega arith) (le_refl (suc n)) e (eq_of_eqb (flag c n) 1 q) in omega arith) in
        omega arith
    go false q ih = omega arith

-- a lookup on a row has no fault where its flags are lawful and no denominator is zero
module _ (p w : ℕ) (c : Place) (nonzero : (k : ℕ) → k < branches c → is_zero (denom p w c k) ≡ false) where
  additive_fine : additive_fault p w c ≡ 0
  unfolding additive_fault used_denom
  additive_fine = ap (λ (b : Bool). cond b 15 0) (some_of_none (λ k. is_zero (used_denom p w c k)) (branches c) (λ k l. go k l (eqb (multiplicity c k) 0)))
    where
      go : (k : ℕ) → k < branches c → (b : Bool) → is_zero (cond b one4 (denom p w c k)) ≡ false
      go k l true = one_not_zero
      go k l false = nonzero k l

  exclusive_fine : Lawful c → exclusive_fault p w c ≡ 0
  unfolding exclusive_fault
  exclusive_fine f =
      rw (
        some_of_none (λ k. ltb 1 (flag c k)) (branches c) (λ k l. le-ltb 1 (flag c k) (f.low k l)),
        le-ltb 1 (ones c (branches c)) f.few,
      )
      (chosen-there (flag c) (λ o. branch_fault p w c o ≡ 0) refl (branches c) (λ k l. ap (λ (b : Bool). cond b 15 0) (nonzero k l)))

  fault_fine : (exclusive c.lookups.lookups c.lookup ≡ true → Lawful c) → fault p w c ≡ 0
  unfolding fault
  fault_fine f = go (exclusive c.lookups.lookups c.lookup) refl
    where
      go : (b : Bool) → exclusive c.lookups.lookups c.lookup ≡ b → cond b (exclusive_fault p w c) (additive_fault p w c) ≡ 0
      go true q = exclusive_fine (f q)
      go false q = additive_fine

-- what is in one of the lists is in all of them
joined-there : {A : Type 0} (f : ℕ → List A) (n i : ℕ) {x : A} → i < n → Memᴰ x (f i) → Memᴰ x (joined f 0 n)
joined-there f zero i l m = absurd (omega arith)
joined-there f (suc n) i {x} l m =
    subst (Memᴰ x) (sym (joined-next f n))
    (last_or_below (λ i. Memᴰ x (f i) → Memᴰ x (joined f 0 n ++ f n)) n i l (λ m. Memᴰ.append_right (joined f 0 n) m)
    (λ l m. Memᴰ.append_left (f n) (joined-there f n i l m)) m)

entry-there : (p : ℕ) (t : Table) (r i k : ℕ) → r < t.traces.shape.height → i < lookup_count t.lookups.lookups → k < tuple_count t.lookups.lookups i
    → Memᴰ (entry p t.lookups (row_values p t.nodes t.traces r) i k) (entries p t)
unfolding entries row_entries lookup_entries
entry-there p t r i k lr li lk =
    joined-there (λ r. row_entries p t.lookups (row_values p t.nodes t.traces r)) t.traces.shape.height r lr
    (joined-there (lookup_entries p t.lookups (row_values p t.nodes t.traces r)) (lookup_count t.lookups.lookups) i li
    (joined-there (λ k. entry p t.lookups (row_values p t.nodes t.traces r) i k ∷ []) (tuple_count t.lookups.lookups i) k lk (Memᴰ.head refl)))

module _ (m : Limits) (p w : ℕ) (C : Certificate p w) (t : Table) (alpha beta buffer : List ℕ) (ea : Element p alpha) (eb : Element p beta)
    (ok : T (has_ledger m p t)) (flags : LawfulFlags p t) (room : used t.lookups.lookups t.traces.shape.height ≤ length buffer)
    (off : (e : Entry) → Memᴰ e (entries p t) → alpha ≢ combine p w beta e.tuple) where
  abbrev cs : List ℕ
  cs = at_pair t alpha beta

  abbrev vs : ℕ → List ℕ
  vs = row_values p t.nodes t.traces

  abbrev n : ℕ
  n = lookup_count t.lookups.lookups

  abbrev here : ℕ → ℕ → Place
  here r i = record { lookups = t.lookups; vals = vs r; lookup = i; alpha = alpha; beta = beta }

  combine-element : (es : List ℕ) → Element p (combine p w beta es)
  unfolding combine
  combine-element es = element-sum p w C _ (length es)

  nonzero-here : (r i k : ℕ) → r < t.traces.shape.height → i < n → k < branches (here r i) → is_zero (denom p w (here r i) k) ≡ false
  unfolding denom denominator branches
  nonzero-here r i k lr li lk =
      let es : List ℕ = tuple t.lookups (vs r) i k in
      false_of (is_zero (sub4 p alpha (combine p w beta es)))
      (λ z.
      off (entry p t.lookups (vs r) i k) (entry-there p t r i k lr li lk)
      (same_of_el p w C alpha (combine p w beta es) ea (combine-element es)
      ((sub_zero_iff p w C alpha (combine p w beta es)).0 (true_of (is_zero (sub4 p alpha (combine p w beta es))) z))))

  lawful_here : (r i : ℕ) → r < t.traces.shape.height → i < n → exclusive t.lookups.lookups i ≡ true → Lawful (here r i)
  unfolding branches flag
  lawful_here r i lr li ex =
      record {
        low = λ k l. omega (arith, flags.binary r i k lr li ex l);
        few = ones-few (here r i) (branches (here r i)) (λ j k lj lk. flags.one r i j k lr li ex lj lk);
      }

  no_faults : first_fault p w t.lookups cs vs t.traces.shape.height ≡ none
  unfolding first_fault row_fault fault_at fault_refusal
  no_faults =
      first-all (row_fault p w t.lookups cs vs) t.traces.shape.height
      (λ r lr.
      first-all (fault_at p w t.lookups cs vs r) n
      (λ i li.
      ap (λ (k : ℕ). fault_refusal k r i)
      (ap (fault p w) (place-at_pair p w t alpha beta ea.four eb.four r i li)
      ∙ fault_fine p w (here r i) (λ k. nonzero-here r i k lr li) (lawful_here r i lr li))))

  challenges-length : length cs ≡ 8 * n
  unfolding at_pair
  challenges-length = length-joined (λ i. alpha ++ beta) 8 (λ i. length-append alpha beta ∙ omega (arith, ea.four, eb.four)) 0 n

  challenges-below : T (all_below p cs)
  unfolding at_pair
  challenges-below =
      all_below_of p cs
      (record {
        each =
            joined-each p (λ i. alpha ++ beta) 0 n (h p w C)
            (λ i. append-each p alpha beta (element-each p alpha (h p w C) ea) (element-each p beta (h p w C) eb));
      })

  tests : Passed m p w t cs buffer
  tests =
      let own : Ledgered m p t = ledgered m p t ok in
      let four : length cs % 4 ≡ 0 = omega (arith, challenges-length) in
      let two : length cs / 4 ≡ 2 * n = omega (arith, challenges-length) in
      record {
        one = and_of (sizes m t) (eqb (length cs % 4) 0) own.one (of_true (eqb_true four));
        two = and_of (words_below p t) (all_below p cs) own.two challenges-below;
        three = own.three;
        four = own.four;
        five = own.five;
        eight = or_right (not (has_lookups t.lookups.lookups)) (eqb (length cs / 4) (2 * n)) (of_true (eqb_true two));
        nine = own.nine;
        ten =
            or_right (not (has_lookups t.lookups.lookups)) (leb (used t.lookups.lookups t.traces.shape.height) (length buffer))
            (le→leb (used t.lookups.lookups t.traces.shape.height) (length buffer) room);
      }

  pub accepts_at : T (accepts (generation m p w t cs buffer).answer)
  unfolding generation entry_outcome rows_outcome
  accepts_at = rw (entered m p w t cs buffer tests, no_faults) (go (has_lookups t.lookups.lookups))
    where
      go : (b : Bool)
          → T (accepts (cond b (rows_outcome m p w t cs buffer none) (record { answer = absent; buffer = buffer })).answer)
      go true = tt
      go false = tt
