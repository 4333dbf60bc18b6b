-- The turns of the loop over the rows of a block, and the block.
use mathlib.Core.Path.{◌≡◌, refl, sym, ap, ◌∙◌}
use mathlib.Core.Option.{Option}
use mathlib.Core.List.{List, ◌++◌}
use Prim.Native.Nat.{ℕ, ◌+◌, ◌*◌, ◌-◌, ◌<◌, ◌≤◌, zero-le}
use native.Mathlib.Nat.{add-zero, mul-le-mul_right, zero-mul}
use native.Mathlib.Omega.{arith}
use lib.ListN.{length, take, drop}
use borrow.Rule.Slice.PartMut.{put_mid}
use Rattle.lists.specs.Count.{or_else, first, joined}
use Rattle.lists.specs.laws.Count.{joined-add}
use Rattle.lists.specs.laws.Filled.{Filled, filled_none, filled-part, filled-whole}
use Rattle.lists.specs.laws.Parts.{part_length}
use Rattle.expression.specs.Refusal.{refusal}
use Rattle.expression.specs.declared.refusal.Refusal.{Refusal}
use Rattle.expression.specs.Refusal.{Verdict}
use Rattle.lookup.specs.Lookups.{Lookups, lookup_count, tuple_start}
use Rattle.logup.specs.Rows.{row_fault}
use Rattle.logup_rows.specs.inner.Terms.{row_multiplicities, row_denominators, RunTerms}
use Rattle.logup_rows.specs.laws.Terms.{run_ms-length, run_ds-length}

-- j rows of a block
pub record FillLoop (p w : ℕ) (l : Lookups) (cs : List ℕ) (values : ℕ → List ℕ) (size from k : ℕ) (dm dd ms ds : List ℕ) (verdict : Verdict) (at j : ℕ) : Type 0 where
  pub cap : 4 * length dd < 18446744073709551616
  pub low : from + k ≤ 1048576
  pub size≡ : size ≡ tuple_start l.lookups (lookup_count l.lookups)
  pub within : j ≤ k
  pub at≡ : at ≡ j * size
  pub ms_size : length dm ≡ k * size
  pub ds_size : length dd ≡ 4 * (k * size)
  pub ms_len : length ms ≡ length dm
  pub ds_len : length ds ≡ length dd
  pub ms≡ : Filled dm (joined (row_multiplicities p w l cs values) from j) at ms
  pub ds≡ : Filled dd (joined (row_denominators p w l cs values) from j) (4 * at) ds
  pub verdict≡ : refusal verdict ≡ first (row_fault p w l cs values) (from + j)

pub fill_loop_begins : {p w : ℕ} {l : Lookups} {cs : List ℕ} {values : ℕ → List ℕ} {size from k : ℕ} {dm dd : List ℕ} {verdict : Verdict} → 4 * length dd < 18446744073709551616 → from + k ≤ 1048576
    → size ≡ tuple_start l.lookups (lookup_count l.lookups) → length dm ≡ k * size → length dd ≡ 4 * (k * size) → refusal verdict ≡ first (row_fault p w l cs values) from
    → FillLoop p w l cs values size from k dm dd dm dd verdict 0 0
unfolding joined
fill_loop_begins {p} {w} {l} {cs} {values} {size} {from} c lo es em ed ev =
    record {
      cap = c;
      low = lo;
      size≡ = es;
      within = zero-le;
      at≡ = sym (zero-mul size);
      ms_size = em;
      ds_size = ed;
      ms_len = refl;
      ds_len = refl;
      ms≡ = filled_none;
      ds≡ = filled_none;
      verdict≡ = ev ∙ ap (first (row_fault p w l cs values)) (sym (add-zero from));
    }

-- n rows more
module _ {p w : ℕ} {l : Lookups} {cs : List ℕ} {values : ℕ → List ℕ} {size from k : ℕ} {dm dd ms ds : List ℕ} {verdict : Verdict} {at j : ℕ}
    (s : FillLoop p w l cs values size from k dm dd ms ds verdict at j) (n : ℕ) (h : j + n ≤ k) where
  pub ms_in : at + n * size ≤ length ms
  ms_in = omega (arith, mul-le-mul_right size h, s.at≡, s.ms_size, s.ms_len)

  pub ds_in : 4 * (at + n * size) ≤ length ds
  ds_in = omega (arith, mul-le-mul_right size h, s.at≡, s.ds_size, s.ds_len)

  pub ms_part : length (take (at + n * size - at) (drop at ms)) ≡ n * size
  ms_part = part_length ms at (at + n * size) (omega arith) ms_in ∙ omega arith

  pub ds_part : length (take (4 * (at + n * size) - 4 * at) (drop (4 * at) ds)) ≡ 4 * (n * size)
  ds_part = part_length ds (4 * at) (4 * (at + n * size)) (omega arith) ds_in ∙ omega arith

  pub fill_loop_turn : {verdict' : Verdict} (ys zs : List ℕ) (fault : Verdict)
      → (or_else (first (row_fault p w l cs values) (from + j)) (refusal fault) ≡ first (row_fault p w l cs values) (from + j + n))
      × RunTerms p w l cs values (from + j) n ys zs
      → refusal verdict' ≡ or_else (refusal verdict) (refusal fault)
      → FillLoop p w l cs values size from k dm dd (put_mid at (at + n * size - at) ms ys) (put_mid (4 * at) (4 * (at + n * size) - 4 * at) ds zs) verdict' (at + n * size) (j + n)
  fill_loop_turn {verdict'} ys zs fault (ef, t) ev =
      record {
        cap = s.cap;
        low = s.low;
        size≡ = s.size≡;
        within = h;
        at≡ = omega (arith, s.at≡);
        ms_size = s.ms_size;
        ds_size = s.ds_size;
        ms_len = more.len;
        ds_len = grown.len;
        ms≡ = more;
        ds≡ = grown;
        verdict≡ = ev ∙ ap (λ (o : Option Refusal). or_else o (refusal fault)) s.verdict≡ ∙ ef ∙ ap (first (row_fault p w l cs values)) next;
      }
    where
      next : from + j + n ≡ from + (j + n)
      next = omega arith

      more : Filled dm (joined (row_multiplicities p w l cs values) from (j + n)) (at + n * size) (put_mid at (at + n * size - at) ms ys)
      more =
          filled-part ys s.ms≡ (omega arith) (omega (arith, ms_in, s.ms_len))
          (ap length t.multiplicities≡ ∙ run_ms-length p w l cs values (from + j) n ∙ ap (λ (x : ℕ). n * x) (sym s.size≡) ∙ omega arith)
          (joined-add (row_multiplicities p w l cs values) from j n ∙ ap (λ (y : List ℕ). joined (row_multiplicities p w l cs values) from j ++ y) (sym t.multiplicities≡))

      grown : Filled dd (joined (row_denominators p w l cs values) from (j + n)) (4 * (at + n * size)) (put_mid (4 * at) (4 * (at + n * size) - 4 * at) ds zs)
      grown =
          filled-part zs s.ds≡ (omega arith) (omega (arith, ds_in, s.ds_len))
          (ap length t.denominators≡ ∙ run_ds-length p w l cs values (from + j) n ∙ ap (λ (x : ℕ). 4 * (n * x)) (sym s.size≡) ∙ omega arith)
          (joined-add (row_denominators p w l cs values) from j n ∙ ap (λ (y : List ℕ). joined (row_denominators p w l cs values) from j ++ y) (sym t.denominators≡))

pub fill_loop_ends : {p w : ℕ} {l : Lookups} {cs : List ℕ} {values : ℕ → List ℕ} {size from k : ℕ} {dm dd ms ds : List ℕ} {verdict : Verdict} {at j : ℕ}
    → FillLoop p w l cs values size from k dm dd ms ds verdict at j → k ≤ j
    → (refusal verdict ≡ first (row_fault p w l cs values) (from + k)) × RunTerms p w l cs values from k ms ds
fill_loop_ends {p} {w} {l} {cs} {values} {size} {from} {k} {dm} {dd} {at = at} {j = j} s h =
    let e : j ≡ k = omega (arith, s.within) in
    let a : k * size ≡ at = ap (λ (x : ℕ). x * size) (sym e) ∙ sym s.at≡ in (
      s.verdict≡ ∙ ap (λ (x : ℕ). first (row_fault p w l cs values) (from + x)) e,
      record {
        multiplicities≡ = filled-whole s.ms≡ (omega (arith, a, s.ms_size)) ∙ ap (joined (row_multiplicities p w l cs values) from) e;
        denominators≡ = filled-whole s.ds≡ (omega (arith, a, s.ds_size)) ∙ ap (joined (row_denominators p w l cs values) from) e;
      },
    )
