-- A block: after its terms the quotients, after these the rows.
use mathlib.Core.Path.{◌≡◌, refl, sym, ap, ap₂, ◌∙◌, subst}
use mathlib.Core.List.{List}
use Prim.Native.Nat.{ℕ, ◌+◌, ◌*◌, ◌-◌, ◌<◌, ◌≤◌, zero-le}
use native.Mathlib.Omega.{arith}
use lib.ListN.{length, take, drop}
use lib.Seq.{take_at}
use borrow.Rule.Slice.PartMut.{put_mid}
use Rattle.lists.specs.Count.{first, joined}
use Rattle.lists.specs.laws.Filled.{Filled, filled_none, filled-part}
use Rattle.field.specs.Element.{at}
use Rattle.field.specs.Ext.{ext_words}
use Rattle.field.specs.declared.extension.Ext.{Ext}
use Rattle.field_batch.specs.inner.Quotients.{quotient_at, Divisible}
use Rattle.expression.specs.Requires.{Below}
use Rattle.expression.specs.Refusal.{refusal}
use Rattle.expression.specs.Refusal.{Verdict}
use Rattle.lookup.specs.Lookups.{Lookups, lookup_count, tuple_start}
use Rattle.logup.specs.Rows.{accumulator, row_words, row_fault}
use Rattle.logup_column.specs.inner.Requires.{Field}
use Rattle.logup_rows.specs.inner.Terms.{row_multiplicities, row_denominators, RunTerms}
use Rattle.logup_rows.specs.inner.Sums.{running, row_in, Quotients, RowsWritten}
use Rattle.logup_rows.specs.inner.Progress.{Reached}
use Rattle.logup_rows.specs.laws.Terms.{run_ms-below, run_ds-below, run_ms-length, run_ds-length, quotients-below, quotients-length}
use Rattle.logup_rows.specs.laws.Sums.{after_is, rows_are}

-- what was put at the front of a list, lent again
lent_again : {d ys b : List ℕ} {n : ℕ} → Filled d ys n b → take (n - 0) (drop 0 b) ≡ ys
lent_again {d} {ys} {b} {n} s = ap (take (n - 0)) s.is ∙ take_at ys (drop n d) (n - 0) (s.size ∙ omega arith)

pub put_in : {d ys b : List ℕ} {n : ℕ} → Filled d ys n b → n ≤ length b
put_in s = omega (arith, s.room, s.len)

module _ {p w : ℕ} {ms ds : List ℕ} (l : Lookups) (cs : List ℕ) (values : ℕ → List ℕ) (from k : ℕ) (f : Field p w)
    (terms : RunTerms p w l cs values from k ms ds) where
  em : ms ≡ joined (row_multiplicities p w l cs values) from k
  em = terms.multiplicities≡

  ed : ds ≡ joined (row_denominators p w l cs values) from k
  ed = terms.denominators≡

  pub block_divisible : ((r : ℕ) → Below p (values r)) → Divisible p w ms ds
  block_divisible b =
      record {
        modulus = f.modulus;
        low = f.low;
        certificate = f.certificate;
        ms_below = λ i. subst (λ (x : List ℕ). at x i < p) (sym em) (run_ms-below p w l cs values f.certificate b from k i);
        ds_below = λ i. subst (λ (x : List ℕ). at x i < p) (sym ed) (run_ds-below p w l cs values f.certificate b from k i);
        size = ap length ed ∙ run_ds-length p w l cs values from k ∙ sym (ap (λ (x : List ℕ). 4 * length x) em ∙ ap (λ (x : ℕ). 4 * x) (run_ms-length p w l cs values from k));
      }

  pub block_length : (t : ℕ) → t ≡ tuple_start l.lookups (lookup_count l.lookups) → length ms ≡ k * t
  block_length t e = ap length em ∙ run_ms-length p w l cs values from k ∙ ap (λ (x : ℕ). k * x) (sym e)

  -- the terms stand at the front of two arrays, and are lent again from there
  module _ (t : ℕ) (e : t ≡ tuple_start l.lookups (lookup_count l.lookups)) where
    denominators_length : length ds ≡ 4 * (k * t)
    denominators_length = ap length ed ∙ run_ds-length p w l cs values from k ∙ ap (λ (x : ℕ). 4 * (k * x)) (sym e)

    pub multiplicities_put : (d : List ℕ) → k * t ≤ length d → Filled d ms (k * t) (put_mid 0 (k * t - 0) d ms)
    multiplicities_put d h = filled-part ms filled_none zero-le h (block_length t e ∙ omega arith) refl

    pub denominators_put : (d : List ℕ) → 4 * (k * t) ≤ length d → Filled d ds (4 * (k * t)) (put_mid 0 (4 * (k * t) - 0) d ds)
    denominators_put d h = filled-part ds filled_none zero-le h (denominators_length ∙ omega arith) refl

    pub terms_again : {dm dd bm bd : List ℕ} → Filled dm ms (k * t) bm → Filled dd ds (4 * (k * t)) bd
        → RunTerms p w l cs values from k (take (k * t - 0) (drop 0 bm)) (take (4 * (k * t) - 0) (drop 0 bd))
    terms_again fm fd = record { multiplicities≡ = lent_again fm ∙ em; denominators≡ = lent_again fd ∙ ed }

  module _ {qs : List ℕ} (t : ℕ) (e : t ≡ tuple_start l.lookups (lookup_count l.lookups)) (eq : qs ≡ joined (quotient_at p w ms ds) 0 (length ms)) where
    pub block_quotients : Quotients p qs
    block_quotients =
        record {
          modulus = f.modulus;
          below = λ i. subst (λ (x : List ℕ). at x i < p) (sym eq) (quotients-below p w ms ds (length ms) (omega (arith, f.modulus.big)) i);
        }

    pub block_words : length qs ≡ 4 * (k * t)
    block_words = ap length eq ∙ quotients-length p w ms ds (length ms) ∙ ap (λ (x : ℕ). 4 * x) (block_length t e)

    -- the quotients in the place of the denominators, and lent again
    pub quotients_put : {dd zs b : List ℕ} → Filled dd zs (4 * (k * t)) b → Filled b qs (4 * (k * t)) (put_mid 0 (4 * (k * t) - 0) b qs)
    quotients_put s = filled-part qs filled_none zero-le (put_in s) (block_words ∙ omega arith) refl

    pub quotients_again : {d b : List ℕ} → Filled d qs (4 * (k * t)) b → take (4 * (k * t) - 0) (drop 0 b) ≡ joined (quotient_at p w ms ds) 0 (length ms)
    quotients_again s = lent_again s ∙ eq

    block_is : qs ≡ joined (quotient_at p w (joined (row_multiplicities p w l cs values) from k) (joined (row_denominators p w l cs values) from k)) 0 (k * t)
    block_is = eq ∙ ap₂ (λ (g : ℕ → List ℕ) (x : ℕ). joined g 0 x) (ap₂ (quotient_at p w) em ed) (block_length t e)

    pub block_rows : {out : List ℕ} {acc : Ext} {verdict : Verdict} (before : List ℕ) → before ≡ accumulator p w l cs values from → RowsWritten p l.lookups qs t before k (ext_words acc) out
        → refusal verdict ≡ first (row_fault p w l cs values) (from + k)
        → Reached p w l cs values (from + k) (record { accumulator = acc; verdict = verdict }) × (out ≡ joined (row_words p w l cs values) from k)
    block_rows before eb rows ev = (
      record {
        below = rows.below;
        accumulator≡ =
            rows.accumulator≡ ∙ ap₂ (λ (x : List ℕ) (y : ℕ). running p l.lookups x y before k) whole e ∙ after_is p w f.certificate l cs values from k eb;
        verdict≡ = ev;
      },
      rows.words≡ ∙ ap₂ (λ (x : List ℕ) (y : ℕ). joined (row_in p l.lookups x y before) 0 k) whole e ∙ rows_are p w f.certificate l cs values from k eb,
    )
      where
        size : ℕ
        size = tuple_start l.lookups (lookup_count l.lookups)

        whole : qs ≡ joined (quotient_at p w (joined (row_multiplicities p w l cs values) from k) (joined (row_denominators p w l cs values) from k)) 0 (k * size)
        whole = block_is ∙ ap (λ (x : ℕ). joined (quotient_at p w (joined (row_multiplicities p w l cs values) from k) (joined (row_denominators p w l cs values) from k)) 0 (k * x)) e
