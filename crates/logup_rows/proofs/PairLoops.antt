-- One row or two: the terms of the first, then those of the other.
use mathlib.Core.Path.{◌≡◌, refl, sym, ap, ap₂, ◌∙◌}
use mathlib.Core.Option.{Option, none, some}
use mathlib.Core.List.{List, ◌++◌}
use Prim.Native.Nat.{ℕ, ◌+◌, ◌*◌, ◌-◌, ◌<◌, ◌≤◌, zero-le}
use native.Mathlib.Nat.{add-zero, zero-add, suc-mul, zero-mul, mul-le-mul_right}
use native.Mathlib.Omega.{arith}
use lib.ListN.{length}
use borrow.Rule.Slice.PartMut.{put_mid}
use Rattle.lists.specs.Count.{or_else, first, joined}
use Rattle.lists.specs.laws.Count.{joined-one, first_one}
use Rattle.lists.specs.laws.Filled.{Filled, filled_none, filled-part, filled-whole}
use Rattle.expression.specs.Refusal.{refusal}
use Rattle.expression.specs.declared.refusal.Refusal.{Refusal}
use Rattle.expression.specs.Refusal.{Verdict}
use Rattle.lookup.specs.Lookups.{Lookups, lookup_count, tuple_start}
use Rattle.logup.specs.Rows.{place, fault_at, row_fault}
use Rattle.logup_rows.specs.inner.Terms.{lookup_multiplicities, lookup_denominators, row_multiplicities, row_denominators, RowTerms, RunTerms}
use Rattle.logup_rows.specs.laws.Terms.{row_ms_length, row_ds_length}

-- what a row gives, from its node values
module _ (p w : ℕ) (l : Lookups) (cs : List ℕ) (values : ℕ → List ℕ) (r : ℕ) {v : List ℕ} (e : values r ≡ v) where
  fault_from : row_fault p w l cs (λ _. v) r ≡ row_fault p w l cs values r
  unfolding row_fault fault_at place
  fault_from = ap (λ (v : List ℕ). row_fault p w l cs (λ _. v) r) (sym e)

  ms_from : row_multiplicities p w l cs (λ _. v) r ≡ row_multiplicities p w l cs values r
  unfolding row_multiplicities lookup_multiplicities place
  ms_from = ap (λ (v : List ℕ). row_multiplicities p w l cs (λ _. v) r) (sym e)

  ds_from : row_denominators p w l cs (λ _. v) r ≡ row_denominators p w l cs values r
  unfolding row_denominators lookup_denominators place
  ds_from = ap (λ (v : List ℕ). row_denominators p w l cs (λ _. v) r) (sym e)

joined-single : (f : ℕ → List ℕ) (r : ℕ) → joined f r 1 ≡ f r
unfolding joined
joined-single f r = joined-one f r 0 ∙ ap f (add-zero r)

joined-both : (f : ℕ → List ℕ) (r : ℕ) → joined f r 2 ≡ f r ++ f (r + 1)
joined-both f r = joined-one f r 1 ∙ ap (λ (x : List ℕ). x ++ f (r + 1)) (joined-single f r)

first-both : (f : ℕ → Option Refusal) (r : ℕ) → first f (r + 2) ≡ or_else (or_else (first f r) (f r)) (f (r + 1))
first-both f r =
    let e : r + 2 ≡ r + 1 + 1 = omega arith in
    ap (first f) e ∙ first_one f (r + 1) ∙ ap (λ (x : Option Refusal). or_else x (f (r + 1))) (first_one f r)

or_else_assoc : (a b c : Option Refusal) → or_else a (or_else b c) ≡ or_else (or_else a b) c
or_else_assoc none b c = refl
or_else_assoc (some a) b c = refl

-- lists for n rows, one or two, of `size` terms each
pub record Lent (size n : ℕ) (dm dd : List ℕ) : Type 0 where
  pub cap : 4 * length dd < 18446744073709551616
  pub ms_size : length dm ≡ n * size
  pub ds_size : length dd ≡ 4 * (n * size)
  pub ms_first : size ≤ length dm
  pub ds_first : 4 * size ≤ length dd

pub lent : {size n : ℕ} (dm dd : List ℕ) → 4 * length dd < 18446744073709551616 → 0 < n → length dm ≡ n * size → length dd ≡ 4 * (n * size) → Lent size n dm dd
lent {size} {n} dm dd c h em ed =
    let k : size ≤ n * size = rw (suc-mul, zero-mul, zero-add) at (mul-le-mul_right size h) in
    record { cap = c; ms_size = em; ds_size = ed; ms_first = omega arith; ds_first = omega arith }

-- the first row's terms stand in ms and ds
pub record FirstRow (p w : ℕ) (l : Lookups) (cs : List ℕ) (r size n : ℕ) (v dm dd ms ds : List ℕ) : Type 0 where
  pub lent≡ : Lent size n dm dd
  pub size≡ : size ≡ tuple_start l.lookups (lookup_count l.lookups)
  pub ms≡ : Filled dm (row_multiplicities p w l cs (λ _. v) r) size ms
  pub ds≡ : Filled dd (row_denominators p w l cs (λ _. v) r) (4 * size) ds

pub first-row : {p w : ℕ} {l : Lookups} {cs : List ℕ} {r size n : ℕ} {v dm dd : List ℕ} (ys zs : List ℕ) (fault : Verdict) → Lent size n dm dd → size ≡ tuple_start l.lookups (lookup_count l.lookups)
    → RowTerms p w l cs (λ _. v) r fault ys zs
    → FirstRow p w l cs r size n v dm dd (put_mid 0 (size - 0) dm ys) (put_mid 0 (4 * size - 0) dd zs)
first-row {p} {w} {l} {cs} {r} {size} {n} {v} ys zs fault s e t =
    record {
      lent≡ = s;
      size≡ = e;
      ms≡ = filled-part ys filled_none zero-le s.ms_first (ap length t.multiplicities≡ ∙ row_ms_length p w l cs (λ _. v) r ∙ sym e ∙ omega arith) (sym t.multiplicities≡);
      ds≡ = filled-part zs filled_none zero-le s.ds_first (ap length t.denominators≡ ∙ row_ds_length p w l cs (λ _. v) r ∙ omega (arith, e)) (sym t.denominators≡);
    }

module _ {p w : ℕ} {l : Lookups} {cs : List ℕ} {r size n : ℕ} {v dm dd ms ds : List ℕ} (t : FirstRow p w l cs r size n v dm dd ms ds) where
  pub one_row : (fault : Verdict) → 0 < n → n < 2 → refusal fault ≡ row_fault p w l cs (λ _. v) r
      → (values : ℕ → List ℕ) → values r ≡ v → (or_else (first (row_fault p w l cs values) r) (refusal fault) ≡ first (row_fault p w l cs values) (r + n))
      × RunTerms p w l cs values r n ms ds
  one_row fault h0 h2 ef values e =
      let k : n ≡ 1 = omega arith in
      let m : n * size ≡ 1 * size = ap (λ (x : ℕ). x * size) k in (
        ap (or_else (first f r)) (ef ∙ fault_from p w l cs values r e) ∙ sym (first_one f r) ∙ ap (λ (x : ℕ). first f (r + x)) (sym k),
        record {
          multiplicities≡ = filled-whole t.ms≡ (omega (arith, t.lent≡.ms_size)) ∙ ms_from p w l cs values r e ∙ sym (joined-single g r) ∙ ap (joined g r) (sym k);
          denominators≡ = filled-whole t.ds≡ (omega (arith, t.lent≡.ds_size)) ∙ ds_from p w l cs values r e ∙ sym (joined-single d r) ∙ ap (joined d r) (sym k);
        },
      )
    where
      f : ℕ → Option Refusal
      f = row_fault p w l cs values

      g : ℕ → List ℕ
      g = row_multiplicities p w l cs values

      d : ℕ → List ℕ
      d = row_denominators p w l cs values

  module _ (h : 2 ≤ n) (h' : n ≤ 2) where
    two : n * size ≡ 2 * size
    two = let k : n ≡ 2 = omega arith in ap (λ (x : ℕ). x * size) k

    pub ms_in : size + size ≤ length ms
    ms_in = omega (arith, two, t.lent≡.ms_size, t.ms≡.len)

    pub ds_in : 4 * (size + size) ≤ length ds
    ds_in = omega (arith, two, t.lent≡.ds_size, t.ds≡.len)

    module _ {ys zs : List ℕ} (u : List ℕ) (other : Verdict)
        (eo : RowTerms p w l cs (λ _. u) (r + 1) other ys zs) where
      ms_whole : Filled dm (row_multiplicities p w l cs (λ _. v) r ++ ys) (size + size) (put_mid size (size + size - size) ms ys)
      ms_whole = filled-part ys t.ms≡ (omega arith) (omega (arith, ms_in, t.ms≡.len)) (ap length eo.multiplicities≡ ∙ row_ms_length p w l cs (λ _. u) (r + 1) ∙ sym t.size≡ ∙ omega arith) refl

      ds_whole : Filled dd (row_denominators p w l cs (λ _. v) r ++ zs) (4 * (size + size)) (put_mid (4 * size) (4 * (size + size) - 4 * size) ds zs)
      ds_whole = filled-part zs t.ds≡ (omega arith) (omega (arith, ds_in, t.ds≡.len)) (ap length eo.denominators≡ ∙ row_ds_length p w l cs (λ _. u) (r + 1) ∙ omega (arith, t.size≡)) refl

      pub two_rows : (fault both : Verdict) → refusal fault ≡ row_fault p w l cs (λ _. v) r → refusal both ≡ or_else (refusal fault) (refusal other)
          → (values : ℕ → List ℕ) → values r ≡ v → (1 < n → values (r + 1) ≡ u)
          → (or_else (first (row_fault p w l cs values) r) (refusal both) ≡ first (row_fault p w l cs values) (r + n))
          × RunTerms p w l cs values r n (put_mid size (size + size - size) ms ys) (put_mid (4 * size) (4 * (size + size) - 4 * size) ds zs)
      two_rows fault both ef eb values e e' =
          let k : n ≡ 2 = omega arith in (
            ap (or_else (first f r)) (eb ∙ ap₂ or_else (ef ∙ fault_from p w l cs values r e) (eo.fault≡ ∙ fault_from p w l cs values (r + 1) e2))
                ∙ or_else_assoc (first f r) (f r) (f (r + 1)) ∙ sym (first-both f r) ∙ ap (λ (x : ℕ). first f (r + x)) (sym k),
            record {
              multiplicities≡ =
                  filled-whole ms_whole (omega (arith, two, t.lent≡.ms_size)) ∙ ap₂ (◌++◌ {A = ℕ}) (ms_from p w l cs values r e) (eo.multiplicities≡ ∙ ms_from p w l cs values (r + 1) e2)
                  ∙ sym (joined-both g r) ∙ ap (joined g r) (sym k);
              denominators≡ =
                  filled-whole ds_whole (omega (arith, two, t.lent≡.ds_size)) ∙ ap₂ (◌++◌ {A = ℕ}) (ds_from p w l cs values r e) (eo.denominators≡ ∙ ds_from p w l cs values (r + 1) e2)
                  ∙ sym (joined-both d r) ∙ ap (joined d r) (sym k);
            },
          )
        where
          e2 : values (r + 1) ≡ u
          e2 = e' (omega arith)

          f : ℕ → Option Refusal
          f = row_fault p w l cs values

          g : ℕ → List ℕ
          g = row_multiplicities p w l cs values

          d : ℕ → List ℕ
          d = row_denominators p w l cs values
