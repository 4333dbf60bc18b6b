-- The terms of a run of rows, one row after the other: how many words they have, that the words are below p, and what stands where.
use Rattle.std.specs.Prelude.{◌≡◌, Bool, ℕ, zero, suc, ◌+◌, ◌*◌, ◌<◌, length}
use Rattle.std.proofs.Math.Path.{refl, ap, ap₂}
use Rattle.std.proofs.Common.{sym, ◌∙◌, subst, zero-add, mul-le-mul_right, arith}
use Rattle.std.proofs.Math.Bool.{true, false, cond}
use mathlib.Core.List.{List, [], ◌∷◌, ◌++◌}
use Rattle.std.proofs.Math.Nat.{suc-mul}
use Rattle.lists.specs.Count.{joined}
use Rattle.lists.specs.Tab.{tab}
use Rattle.lists.specs.laws.Count.{total_in}
use Rattle.lists.specs.laws.Tab.{tab_get}
use Rattle.field.specs.Modulus.{Certificate}
use Rattle.field.specs.Element.{at, Word4, one4, sub4, scale4, inverse4, element}
use Rattle.field.proofs.laws.Slice.{four-words}
use Rattle.field.proofs.laws.Element.{four-sub4, four-scale4, word-sub4, word-scale4, word-lift}
use Rattle.field.specs.laws.Extension.{h}
use Rattle.field_batch.specs.inner.Quotients.{quotient, quotient_at}
use Rattle.field_batch.specs.laws.Joined.{joined-size, joined_word, joined-element, element_of, total_times, total-same}
use Rattle.expression.specs.Requires.{Below}
use Rattle.lookup.specs.Lookups.{Lookups, lookup_count, tuple_count, tuple_start}
use Rattle.logup.specs.Tuple.{tuple, combine, denominator, quotient4}
use Rattle.logup.specs.Column.{Place, multiplicity, denom}
use Rattle.logup.specs.Rows.{place}
use Rattle.logup_column.specs.inner.Terms.{contributes_nothing, exclusive_lookup, multiplicity_by, denominator_by, branch_taken, term_multiplicity, term_denominator, term}
use Rattle.logup_rows.specs.inner.Terms.{lookup_multiplicities, lookup_denominators, row_multiplicities, row_denominators}
use Rattle.logup_rows.specs.laws.Lengths.{multiplicities-length, denominators_length, term-four}

-- every word is below p
abbrev Words : ℕ → List ℕ → Type 0
Words p l = (k : ℕ) → at l k < p

append-below : (p : ℕ) (l m : List ℕ) → Words p l → Words p m → Words p (l ++ m)
append-below p [] m a b k = b k
append-below p (x ∷ l) m a b zero = a zero
append-below p (x ∷ l) m a b (suc k) = append-below p l m (λ j. a (suc j)) b k

joined-below : (p : ℕ) (f : ℕ → List ℕ) (a n : ℕ) → 0 < p → ((i : ℕ) → Words p (f i)) → Words p (joined f a n)
unfolding joined
joined-below p f a zero h e k = h
joined-below p f a (suc n) h e k = append-below p (joined f a n) (f (a + n)) (joined-below p f a n h e) (e (a + n)) k

tab-below : (p : ℕ) (f : ℕ → ℕ) (a n : ℕ) → 0 < p → ((i : ℕ) → f i < p) → Words p (tab f a n)
unfolding tab
tab-below p f a zero h e k = h
tab-below p f a (suc n) h e k = append-below p (tab f a n) (f (a + n) ∷ []) (tab-below p f a n h e) (one (f (a + n)) (e (a + n))) k
  where
    one : (x : ℕ) → x < p → Words p (x ∷ [])
    one x l zero = l
    one x l (suc k) = h

four_below : (p : ℕ) (l : List ℕ) → 0 < p → length l ≡ 4 → Word4 p l → Words p l
four_below p l h e q = subst (Words p) (four-words l e) go
  where
    go : Words p (at l 0 ∷ at l 1 ∷ at l 2 ∷ at l 3 ∷ [])
    go zero = q.w0
    go (suc zero) = q.w1
    go (suc (suc zero)) = q.w2
    go (suc (suc (suc zero))) = q.w3
    go (suc (suc (suc (suc k)))) = h

cond_below : (p : ℕ) (b : Bool) (l m : List ℕ) → Words p l → Words p m → Words p (cond b l m)
cond_below p true l m a c = a
cond_below p false l m a c = c

quotient-four : (p w : ℕ) (ms ds : List ℕ) (i : ℕ) → length (quotient_at p w ms ds i) ≡ 4
unfolding quotient_at quotient
quotient-four p w ms ds i = four-scale4 p (at ms i) (inverse4 p w (element ds i))

pub quotients-below : (p w : ℕ) (ms ds : List ℕ) (n : ℕ) → 0 < p → (k : ℕ) → at (joined (quotient_at p w ms ds) 0 n) k < p
unfolding quotient_at quotient
quotients-below p w ms ds n h =
    joined-below p (quotient_at p w ms ds) 0 n h
    (λ i. four_below p (quotient_at p w ms ds i) h (quotient-four p w ms ds i) (word-scale4 p h (at ms i) (inverse4 p w (element ds i))))

pub quotients-length : (p w : ℕ) (ms ds : List ℕ) (n : ℕ) → length (joined (quotient_at p w ms ds) 0 n) ≡ 4 * n
quotients-length p w ms ds n = joined-size (quotient_at p w ms ds) (λ _. 4) n (quotient-four p w ms ds) ∙ total-same 4 n ∙ omega arith

-- a run of rows from row a on, counted from 0
pub shifted : (f : ℕ → List ℕ) (a n : ℕ) → joined f a n ≡ joined (λ j. f (a + j)) 0 n
unfolding joined
shifted f a zero = refl
shifted f a (suc n) = ap₂ (λ (l m : List ℕ). l ++ m) (shifted f a n) (ap (λ (j : ℕ). f (a + j)) (sym (zero-add n)))

module _ (p w : ℕ) (l : Lookups) (cs : List ℕ) (values : ℕ → List ℕ) where
  abbrev n : ℕ
  n = lookup_count l.lookups

  -- the tuples of all lookups
  abbrev size : ℕ
  size = tuple_start l.lookups n

  pub row_ms_length : (r : ℕ) → length (row_multiplicities p w l cs values r) ≡ size
  unfolding row_multiplicities tuple_start
  row_ms_length r = joined-size (lookup_multiplicities p w l cs values r) (tuple_count l.lookups) n (multiplicities-length p w l cs values r)

  pub row_ds_length : (r : ℕ) → length (row_denominators p w l cs values r) ≡ 4 * size
  unfolding row_denominators tuple_start
  row_ds_length r =
      joined-size (lookup_denominators p w l cs values r) (λ i. 4 * tuple_count l.lookups i) n (denominators_length p w l cs values r) ∙ total_times 4 (tuple_count l.lookups) n

  -- the words of a run of rows whose values are below p
  module _ (C : Certificate p w) (vals : (r : ℕ) → Below p (values r)) where
    term_multiplicity-below : (r i k : ℕ) → term_multiplicity (place p w l cs values r i) k < p
    unfolding term_multiplicity multiplicity_by multiplicity place
    term_multiplicity-below r i k = go (contributes_nothing (exclusive_lookup (place p w l cs values r i)) (branch_taken (place p w l cs values r i)) k (multiplicity (place p w l cs values r i) k))
      where
        go : (b : Bool) → cond b 0 (multiplicity (place p w l cs values r i) k) < p
        go true = h p w C
        go false = (vals r).each _

    term_denominator-below : (r i k : ℕ) → Words p (term_denominator p w (place p w l cs values r i) k)
    unfolding term_denominator denominator_by denom denominator
    term_denominator-below r i k =
        cond_below p (contributes_nothing (exclusive_lookup c) (branch_taken c) k (multiplicity c k)) one4 (denominator p w c.alpha c.beta (tuple c.lookups c.vals c.lookup k)) (four_below p one4 (h p w C) refl (word-lift p (h p w C) 1 C.prime.big))
        (four_below p (sub4 p c.alpha t) (h p w C) (four-sub4 p c.alpha t) (word-sub4 p (h p w C) c.alpha t))
      where
        c : Place
        c = place p w l cs values r i

        t : List ℕ
        t = combine p w c.beta (tuple c.lookups c.vals c.lookup k)

    pub run_ms-below : (from k : ℕ) → Words p (joined (row_multiplicities p w l cs values) from k)
    unfolding row_multiplicities lookup_multiplicities
    run_ms-below from k =
        joined-below p (row_multiplicities p w l cs values) from k (h p w C)
        (λ r. joined-below p (lookup_multiplicities p w l cs values r) 0 n (h p w C) (λ i. tab-below p (term_multiplicity (place p w l cs values r i)) 0 (tuple_count l.lookups i) (h p w C) (term_multiplicity-below r i)))

    pub run_ds-below : (from k : ℕ) → Words p (joined (row_denominators p w l cs values) from k)
    unfolding row_denominators lookup_denominators
    run_ds-below from k =
        joined-below p (row_denominators p w l cs values) from k (h p w C)
        (λ r. joined-below p (lookup_denominators p w l cs values r) 0 n (h p w C) (λ i. joined-below p (term_denominator p w (place p w l cs values r i)) 0 (tuple_count l.lookups i) (h p w C) (term_denominator-below r i)))

  module _ (from k : ℕ) where
    abbrev run_ms : List ℕ
    run_ms = joined (row_multiplicities p w l cs values) from k

    abbrev run_ds : List ℕ
    run_ds = joined (row_denominators p w l cs values) from k

    pub run_ms-length : length run_ms ≡ k * size
    run_ms-length =
        ap length (shifted (row_multiplicities p w l cs values) from k) ∙ joined-size (λ j. row_multiplicities p w l cs values (from + j)) (λ _. size) k (λ j. row_ms_length (from + j)) ∙ total-same size k

    pub run_ds-length : length run_ds ≡ 4 * (k * size)
    run_ds-length =
        ap length (shifted (row_denominators p w l cs values) from k) ∙ joined-size (λ j. row_denominators p w l cs values (from + j)) (λ _. 4 * size) k (λ j. row_ds_length (from + j))
        ∙ total_times 4 (λ _. size) k ∙ ap (λ (x : ℕ). 4 * x) (total-same size k)

    -- tuple c of lookup i on row j of the run
    module _ (j i c : ℕ) (hj : j < k) (hi : i < n) (hc : c < tuple_count l.lookups i) where
      abbrev r : ℕ
      r = from + j

      here : tuple_start l.lookups i + c < size
      unfolding tuple_start
      here = omega (arith, total_in (tuple_count l.lookups) i n hi)

      ms_at : at run_ms (j * size + (tuple_start l.lookups i + c)) ≡ term_multiplicity (place p w l cs values r i) c
      unfolding row_multiplicities lookup_multiplicities tuple_start
      ms_at =
          ap₂ at (shifted (row_multiplicities p w l cs values) from k) (ap (λ (x : ℕ). x + (tuple_start l.lookups i + c)) (sym (total-same size j)))
          ∙ joined_word (λ j. row_multiplicities p w l cs values (from + j)) (λ _. size) k j (tuple_start l.lookups i + c) (λ j. row_ms_length (from + j)) hj here
          ∙ joined_word (lookup_multiplicities p w l cs values r) (tuple_count l.lookups) n i c (multiplicities-length p w l cs values r) hi hc
          ∙ tab_get (term_multiplicity (place p w l cs values r i)) 0 (tuple_count l.lookups i) c hc ∙ ap (term_multiplicity (place p w l cs values r i)) (zero-add c)

      ds_at : element run_ds (j * size + (tuple_start l.lookups i + c)) ≡ term_denominator p w (place p w l cs values r i) c
      unfolding row_denominators lookup_denominators tuple_start
      ds_at =
          ap₂ element (shifted (row_denominators p w l cs values) from k) (ap (λ (x : ℕ). x + (tuple_start l.lookups i + c)) (sym (total-same size j)))
          ∙ joined-element (λ j. row_denominators p w l cs values (from + j)) (λ _. size) k j (tuple_start l.lookups i + c) (λ j. row_ds_length (from + j)) hj here
          ∙ joined-element (lookup_denominators p w l cs values r) (tuple_count l.lookups) n i c (denominators_length p w l cs values r) hi hc
          ∙ element_of (term_denominator p w (place p w l cs values r i)) (tuple_count l.lookups i) c (term-four p w (place p w l cs values r i)) hc

      -- its quotient
      pub quotient_is : element (joined (quotient_at p w run_ms run_ds) 0 (k * size)) (j * size + (tuple_start l.lookups i + c)) ≡ term p w (place p w l cs values r i) c
      unfolding quotient_at quotient term quotient4
      quotient_is =
          element_of (quotient_at p w run_ms run_ds) (k * size) (j * size + (tuple_start l.lookups i + c)) (quotient-four p w run_ms run_ds)
          (omega (arith, here, rw suc-mul at (mul-le-mul_right size hj)))
          ∙ ap₂ (λ (m : ℕ) (d : List ℕ). scale4 p m (inverse4 p w d)) ms_at ds_at
