-- The ledger, the lists that are met and the entries, as the balance theorem takes them.
use Rattle.std.specs.Prelude.{◌≡◌, ◌≢◌, Bool, true, false, ◌||◌, ℕ, ◌<◌, T, eqb, length}
use Rattle.std.proofs.Math.Path.{refl, sym, ap}
use Rattle.std.proofs.Common.{◌∙◌, subst}
use Rattle.std.proofs.Math.Logic.{ite}
use Rattle.std.proofs.Math.Bool.{cond}
use mathlib.Core.List.Memᴰ
use mathlib.Core.List.{List, [], ◌∷◌, List-discrete, Memᴰ}
use Rattle.std.proofs.Math.Decide.{ℕ_discrete}
use Rattle.lists.specs.Same.{same_list}
use Rattle.lists.specs.laws.Same.{same_list-eq, same_list_refl}
use Rattle.lists.specs.Fold.{fold}
use Rattle.lists.specs.laws.Count.{joined-member, true_of, false_of, eqb_true, eqb_false}
use Rattle.field.specs.Word.{add_m}
use Rattle.field.proofs.laws.Word.{add_m-below, add_m_assoc, add_m-zero, zero-add_m}
use Rattle.field.specs.Modulus.{Modulus, Certificate}
use Rattle.field.specs.Extension.{K}
use Rattle.field.specs.laws.Extension.{h}
use Rattle.theorems_logup.specs.Tables as Tables
use Rattle.theorems_logup.proofs.laws.Support.{member?, support}
use Rattle.expression.specs.Values.{row_values}
use Rattle.lookup.specs.Lookups.{lookup_count, tuple_count}
use Rattle.lookup.specs.Table.{Table}
use Rattle.lookup.specs.Tests.{words_below}
use Rattle.lookup.specs.Requires.{Fitting}
use Rattle.logup.specs.Ledger.{Entry, entry, lookup_entries, row_entries, entries, post, ledger, listed, met}
use Rattle.theorems_soundness.specs.Soundness.{AllWide}
use Rattle.theorems_soundness.specs.Entries.{N}
use Rattle.theorems_soundness.proofs.laws.Values.{row_below, count-below, tuple-below, tuple-length}

-- the test of two lists
pub same_true : {a b : List ℕ} → a ≡ b → same_list a b ≡ true
same_true {a} {b} e = ap (same_list a) (sym e) ∙ same_list_refl a

pub same_false : {a b : List ℕ} → a ≢ b → same_list a b ≡ false
same_false {a} {b} n = false_of (same_list a b) (λ t. n (same_list-eq a b (true_of (same_list a b) t)))

or_true_left : (a b : Bool) → a ≡ true → (a || b) ≡ true
or_true_left a b e = rw e refl

listed_of : {l : List ℕ} {s : List (List ℕ)} → Memᴰ l s → listed l s ≡ true
unfolding listed
listed_of {l} (Memᴰ.head {x = x} {xs = xs} e) = or_true_left (same_list l x) (listed l xs) (same_true e)
listed_of {l} (Memᴰ.tail {x = x} {xs = xs} m) = go (same_list l x) (listed_of m)
  where
    go : (b : Bool) → listed l xs ≡ true → (b || listed l xs) ≡ true
    go true e = refl
    go false e = e

of_listed : (l : List ℕ) (s : List (List ℕ)) → T (listed l s) → Memᴰ l s
unfolding listed
of_listed l [] t = absurd t
of_listed l (x ∷ s) t = go (same_list l x) refl t (of_listed l s)
  where
    go : (b : Bool) → same_list l x ≡ b → T (b || listed l s) → (T (listed l s) → Memᴰ l s) → Memᴰ l (x ∷ s)
    go true q t ih = Memᴰ.head (same_list-eq l x q)
    go false q t ih = Memᴰ.tail (ih t)

module _ (p w : ℕ) (C : Certificate p w) where
  abbrev L : List Entry → List ℕ → ℕ
  L = Tables.ledger (K p w C) (N p w C)

  ledger-below : (es : List Entry) (l : List ℕ) → L es l < p
  ledger-below [] l = h p w C
  ledger-below (e ∷ es) l = pick (List-discrete ℕ_discrete e.tuple l) (ledger-below es l)
    where
      pick : (d : Dec (e.tuple ≡ l)) → L es l < p → ite d (add_m p e.count (L es l)) (L es l) < p
      pick (yes _) k = add_m-below p (h p w C) e.count (L es l)
      pick (no _) k = k

  -- what stands before, and what is added
  posted : (es : List Entry) (led : List ℕ → ℕ) (l : List ℕ) → led l < p → fold (post p) led es l ≡ add_m p (led l) (L es l)
  unfolding fold post
  posted [] led l k = sym (add_m-zero p (led l) k)
  posted (e ∷ es) led l k = pick (List-discrete ℕ_discrete e.tuple l) (posted es (post p led e) l)
    where
      pick : (d : Dec (e.tuple ≡ l)) → (post p led e l < p → fold (post p) (post p led e) es l ≡ add_m p (post p led e l) (L es l))
          → fold (post p) (post p led e) es l ≡ add_m p (led l) (ite d (add_m p e.count (L es l)) (L es l))
      pick (yes q) ih =
          let at : post p led e l ≡ add_m p (led l) e.count = rw (same_true q) refl in
          ih (subst (λ (n : ℕ). n < p) (sym at) (add_m-below p (h p w C) (led l) e.count))
          ∙ ap (λ (n : ℕ). add_m p n (L es l)) at
          ∙ add_m_assoc p (led l) e.count (L es l)
      pick (no q) ih =
          let at : post p led e l ≡ led l = rw (same_false q) refl in
          ih (subst (λ (n : ℕ). n < p) (sym at) k) ∙ ap (λ (n : ℕ). add_m p n (L es l)) at

  pub ledger_is : (t : Table) (l : List ℕ) → ledger p t l ≡ L (entries p t) l
  unfolding ledger
  ledger_is t l =
      posted (entries p t) (λ l. 0) l (h p w C) ∙ zero-add_m p (L (entries p t) l) (ledger-below (entries p t) l)

  pub met_is : (es : List Entry) → met es ≡ support (K p w C) (N p w C) es
  unfolding met
  met_is [] = refl
  met_is (e ∷ es) = go (met es) (met_is es) (ℕ_discrete e.count 0)
    where
      go : (s : List (List ℕ)) → s ≡ support (K p w C) (N p w C) es → (d : Dec (e.count ≡ 0))
          → cond (eqb e.count 0 || listed e.tuple s) s (e.tuple ∷ s)
          ≡ ite d (support (K p w C) (N p w C) es)
          (ite (member? (List-discrete ℕ_discrete) e.tuple (support (K p w C) (N p w C) es)) (support (K p w C) (N p w C) es)
          (e.tuple ∷ support (K p w C) (N p w C) es))
      go s q (yes z) = rw (eqb_true z) q
      go s q (no n) =
          rw (eqb_false n)
          (subst (λ (u : List (List ℕ)). cond (listed e.tuple s) s (e.tuple ∷ s) ≡ ite (member? (List-discrete ℕ_discrete) e.tuple u) u (e.tuple ∷ u)) q
          (known (member? (List-discrete ℕ_discrete) e.tuple s)))
        where
          known : (d : Dec (Memᴰ e.tuple s)) → cond (listed e.tuple s) s (e.tuple ∷ s) ≡ ite d s (e.tuple ∷ s)
          known (yes k) = rw (listed_of k) refl
          known (no k) = rw (false_of (listed e.tuple s) (λ t. k (of_listed e.tuple s t))) refl

-- an entry of a table: its row, lookup and tuple
pub record Whence (p : ℕ) (t : Table) (e : Entry) : Type 0 where
  pub row : ℕ
  pub lookup : ℕ
  pub number : ℕ
  pub row_there : row < t.traces.shape.height
  pub lookup_there : lookup < lookup_count t.lookups.lookups
  pub number_there : number < tuple_count t.lookups.lookups lookup
  pub is : e ≡ entry p t.lookups (row_values p t.nodes t.traces row) lookup number

pub whence : (p : ℕ) (t : Table) {e : Entry} → Memᴰ e (entries p t) → Whence p t e
unfolding entries row_entries lookup_entries
whence p t mem =
    let (r, l, mr) = joined-member (λ r. row_entries p t.lookups (row_values p t.nodes t.traces r)) t.traces.shape.height mem in
    let (i, k, mi) = joined-member (lookup_entries p t.lookups (row_values p t.nodes t.traces r)) (lookup_count t.lookups.lookups) mr in
    let (j, q, mj) =
    joined-member (λ j. entry p t.lookups (row_values p t.nodes t.traces r) i j ∷ []) (tuple_count t.lookups.lookups i) mi in
    record { row = r; lookup = i; number = j; row_there = l; lookup_there = k; number_there = q; is = Memᴰ.eq_of_singleton mj }

module _ (p w : ℕ) (M : Modulus p) (C : Certificate p w) (t : Table) (ok : T (words_below p t)) (fit : Fitting t.lookups) where
  pub table_of : (width : ℕ) → AllWide width t → Tables.Table (K p w C) (N p w C) width (entries p t)
  table_of width wide =
      record {
        width =
            λ e mem.
            let o = whence p t mem in
            ap (λ (e : Entry). length e.tuple) o.is
            ∙ tuple-length t.lookups fit (row_values p t.nodes t.traces o.row) o.lookup o.number o.lookup_there o.number_there
            ∙ wide o.lookup o.number o.lookup_there o.number_there;
        words =
            λ e mem a ma.
            let o = whence p t mem in
            tuple-below p t.lookups (row_values p t.nodes t.traces o.row) (row_below p M t ok o.row) o.lookup o.number a
            (subst (λ (e : Entry). Memᴰ a e.tuple) o.is ma);
        counts =
            λ e mem.
            let o = whence p t mem in
            subst (λ (e : Entry). e.count < p) (sym o.is)
            (count-below p t.lookups (row_values p t.nodes t.traces o.row) (row_below p M t ok o.row) (h p w C) o.lookup o.number);
      }
