-- The packed table has the same ledger.
use Rattle.std.specs.Prelude.{◌≡◌, refl, Bool, true, false, cond, List, [], ◌∷◌, ℕ, zero, suc, ◌+◌, ◌%◌}
use Rattle.std.proofs.Common.{sym, ap, ap₂, ◌∙◌, add_assoc, zero-add, arith}
use Rattle.std.proofs.Math.Nat.{zero-mod}
use Rattle.lists.specs.Same.{same_list}
use Rattle.lists.specs.Count.{joined}
use Rattle.lists.specs.Fold.{fold}
use Rattle.field.specs.Word.{add_m}
use Rattle.field.proofs.laws.Word.{add_m-sum}
use Rattle.expression.specs.Values.{row_values}
use Rattle.expression.specs.Node.{node_count}
use Rattle.lookup.specs.laws.Tested.{sizes_passed, fitting, agreeing}
use Rattle.lookup.specs.Table.{Table}
use Rattle.lookup_degree.specs.Sums.{sum_of}
use Rattle.lookup_buses.specs.laws.Order.{sum-append}
use Rattle.logup.specs.Ledger.{Entry, row_entries, entries, post, ledger}
use Rattle.theorems_packing.specs.Packed.{packed_table}
use Rattle.theorems_packing.specs.Ledger.{SameEntries, PackedLedger}
use Rattle.theorems_packing.proofs.laws.Entries.{same-row_entries}

-- what an entry adds to a list's word
abbrev adds : List ℕ → Entry → ℕ
adds l e = cond (same_list e.tuple l) e.count 0

posted : (p : ℕ) (l : List ℕ) (es : List Entry) (words : List ℕ → ℕ) (n : ℕ) → words l ≡ n % p
    → fold (post p) words es l ≡ (n + sum_of (adds l) es) % p
unfolding fold sum_of
posted p l [] words n e = e ∙ ap (λ (m : ℕ). m % p) (let q : n ≡ n + 0 = omega arith in q)
posted p l (x ∷ es) words n e =
    posted p l es (post p words x) (n + adds l x) (step (same_list x.tuple l) refl)
    ∙ ap (λ (m : ℕ). m % p) (add_assoc n (adds l x) (sum_of (adds l) es))
  where
    turn : (b : Bool) → cond b (add_m p (words l) x.count) (words l) ≡ (n + cond b x.count 0) % p
    turn true = ap (λ (m : ℕ). add_m p m x.count) e ∙ add_m-sum p n x.count
    turn false = e ∙ ap (λ (m : ℕ). m % p) (let q : n ≡ n + 0 = omega arith in q)

    step : (b : Bool) → same_list x.tuple l ≡ b → post p words x l ≡ (n + adds l x) % p
    step b q = unfold post in turn (same_list x.tuple l)

-- a list's word is the sum of what the entries add to it
ledger-sum : (p : ℕ) (t : Table) (l : List ℕ) → ledger p t l ≡ sum_of (adds l) (entries p t) % p
unfolding ledger
ledger-sum p t l = posted p l (entries p t) (λ l. 0) 0 (sym (zero-mod p)) ∙ ap (λ (m : ℕ). m % p) (zero-add (sum_of (adds l) (entries p t)))

joined-sum : (h : Entry → ℕ) (f g : ℕ → List Entry) (n : ℕ) → ((r : ℕ) → sum_of h (f r) ≡ sum_of h (g r))
    → sum_of h (joined f 0 n) ≡ sum_of h (joined g 0 n)
unfolding joined
joined-sum h f g zero e = refl
joined-sum h f g (suc n) e =
    sum-append h (joined f 0 n) (f (0 + n)) ∙ ap₂ ◌+◌ (joined-sum h f g n e) (e (0 + n)) ∙ sym (sum-append h (joined g 0 n) (g (0 + n)))

pub same_entries : SameEntries
same_entries m p limit t tested r counted =
    same-row_entries t.nodes t.lookups (fitting t.lookups (sizes_passed m t tested.sizes_pass).4)
    (agreeing (node_count t.nodes) t.lookups tested.lists_pass) limit p (row_values p t.nodes t.traces r) counted

pub same-ledger : PackedLedger
same-ledger m p limit t tested l = ledger-sum p (packed_table limit t) l ∙ ap (λ (n : ℕ). n % p) rows ∙ sym (ledger-sum p t l)
  where
    rows : sum_of (adds l) (entries p (packed_table limit t)) ≡ sum_of (adds l) (entries p t)
    rows =
        unfold entries in
        joined-sum (adds l) (λ r. row_entries p (packed_table limit t).lookups (row_values p t.nodes t.traces r))
        (λ r. row_entries p t.lookups (row_values p t.nodes t.traces r)) t.traces.shape.height (λ r. same_entries m p limit t tested r (adds l))
