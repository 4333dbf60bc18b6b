-- The turns of the loop over the lookups of a row.
use Rattle.std.specs.Prelude.{Result, Ok, Err}
use mathlib.Core.Path.{◌≡◌, refl, sym, ap, ap₂, ◌∙◌}
use mathlib.Core.List.{List, ◌++◌}
use mathlib.Core.Option.{Option, none, some}
use Prim.Native.Nat.{ℕ, ◌+◌, ◌*◌, ◌-◌, ◌<◌, ◌≤◌, zero-le}
use native.Mathlib.Nat.{zero-add}
use native.Mathlib.Numerals.{add-one}
use native.Mathlib.Omega.{arith}
use lib.ListN.{length, take, drop}
use borrow.Rule.Slice.PartMut.{put_mid}
use Rattle.lists.specs.Count.{or_else, first, joined}
use Rattle.lists.specs.laws.Count.{joined-one, total-one}
use Rattle.lists.specs.laws.Filled.{Filled, filled_none, filled-part, filled-whole}
use Rattle.lists.specs.laws.Parts.{part_length}
use Rattle.expression.specs.Refusal.{refusal}
use Rattle.expression.specs.declared.refusal.Refusal.{Refusal}
use Rattle.expression.specs.Refusal.{Verdict}
use Rattle.lookup.specs.Lookups.{lookup_count, tuple_count, tuple_start}
use Rattle.logup.specs.Column.{branches}
use Rattle.logup.specs.Rows.{fault_refusal, place, fault_at, row_fault}
use Rattle.logup_column.specs.inner.Kinds.{fault_number}
use Rattle.logup_column.specs.inner.Requires.{Listed, StartsOf, StartsWithin}
use Rattle.logup_column.specs.inner.Results.{LookupTerms}
use Rattle.logup_column.specs.inner.Source.{RowSource}
use Rattle.logup_column.specs.laws.Lookup.{stands-zero}
use Rattle.logup_column.specs.declared.column.Fault.{Fault}
use Rattle.logup_column.specs.declared.starts.Starts.{Starts}
use Rattle.logup_rows.specs.inner.Terms.{lookup_multiplicities, lookup_denominators, row_multiplicities, row_denominators, RowTerms}
use Rattle.logup_rows.specs.laws.Lengths.{multiplicities-length, denominators_length}

pub record LookupsLoop (p w : ℕ) (row : RowSource) (r : ℕ) (dm dd : List ℕ) (n : ℕ) (ms ds : List ℕ) (verdict : Verdict) (at : Starts) (i : ℕ) : Type 0 where
  pub lists : Listed row.lookups
  pub cap : 4 * length dd < 18446744073709551616
  pub few : n < 4611686018427387904
  pub count : n ≡ lookup_count row.lookups.lookups
  pub within : i ≤ n
  pub stands : StartsOf row.lookups.lookups row.lookups.tuples i at
  pub ms_size : length dm ≡ length row.lookups.tuples
  pub ds_size : length dd ≡ 4 * length row.lookups.tuples
  pub ms_len : length ms ≡ length row.lookups.tuples
  pub ds_len : length ds ≡ 4 * length row.lookups.tuples
  pub ms≡ : Filled dm (joined (lookup_multiplicities p w row.lookups row.challenges (λ _. row.vals) r) 0 i) at.tuple ms
  pub ds≡ : Filled dd (joined (lookup_denominators p w row.lookups row.challenges (λ _. row.vals) r) 0 i) (4 * at.tuple) ds
  pub verdict≡ : refusal verdict ≡ first (fault_at p w row.lookups row.challenges (λ _. row.vals) r) i

pub lookups_loop_begins : {p w : ℕ} {row : RowSource} {r n : ℕ} {dm dd : List ℕ} → Listed row.lookups → 4 * length dd < 18446744073709551616
    → 4 * length row.lookups.lookups < 18446744073709551616 → n ≡ lookup_count row.lookups.lookups → length dm ≡ length row.lookups.tuples → length dd ≡ 4 * length row.lookups.tuples
    → LookupsLoop p w row r dm dd n dm dd (Ok tt) (record { tuple = 0; multiplicity = 0; flag = 0; element = 0 }) 0
unfolding joined first
lookups_loop_begins {row = row} s c b e em ed =
    record { lists = s; cap = c; few = omega arith; count = e; within = zero-le; stands = stands-zero row.lookups.lookups row.lookups.tuples; ms_size = em; ds_size = ed; ms_len = em; ds_len = ed; ms≡ = filled_none; ds≡ = filled_none; verdict≡ = refl }

module _ {p w : ℕ} {row : RowSource} {r n : ℕ} {dm dd ms ds : List ℕ} {verdict : Verdict} {at end : Starts} {i : ℕ}
    (s : LookupsLoop p w row r dm dd n ms ds verdict at i) (st : StartsOf row.lookups.lookups row.lookups.tuples (i + 1) end × StartsWithin row.lookups.tuples row.lookups.multiplicities row.lookups.flags row.lookups.elements at end) where
  next : end.tuple ≡ at.tuple + tuple_count row.lookups.lookups i
  unfolding tuple_start
  next = st.0.tuple≡ ∙ total-one (tuple_count row.lookups.lookups) i ∙ ap (λ (x : ℕ). x + tuple_count row.lookups.lookups i) (sym s.stands.tuple≡)

  pub ms_part : length (take (end.tuple - at.tuple) (drop at.tuple ms)) ≡ tuple_count row.lookups.lookups i
  ms_part = part_length ms at.tuple end.tuple (omega (arith, next)) (omega (arith, st.1.tuple_in, s.ms_len)) ∙ omega (arith, next)

  pub ds_part : length (take (4 * end.tuple - 4 * at.tuple) (drop (4 * at.tuple) ds)) ≡ 4 * tuple_count row.lookups.lookups i
  ds_part = part_length ds (4 * at.tuple) (4 * end.tuple) (omega (arith, next)) (omega (arith, st.1.tuple_in, s.ds_len)) ∙ omega (arith, next)

  pub lookups_loop_turn : {verdict' : Verdict} {f : ℕ} (ys zs : List ℕ) → i < n
      → LookupTerms p w (place p w row.lookups row.challenges (λ _. row.vals) 0 i) f ys zs
      → refusal verdict' ≡ or_else (refusal verdict) (fault_refusal f r i)
      → LookupsLoop p w row r dm dd n (put_mid at.tuple (end.tuple - at.tuple) ms ys) (put_mid (4 * at.tuple) (4 * end.tuple - 4 * at.tuple) ds zs) verdict' end (i + 1)
  unfolding first fault_at place branches lookup_multiplicities lookup_denominators
  lookups_loop_turn {verdict'} {f} ys zs h t eo =
      record {
        lists = s.lists;
        cap = s.cap;
        few = s.few;
        count = s.count;
        within = omega arith;
        stands = st.0;
        ms_size = s.ms_size;
        ds_size = s.ds_size;
        ms_len = more.len ∙ s.ms_size;
        ds_len = grown.len ∙ s.ds_size;
        ms≡ = more;
        ds≡ = grown;
        verdict≡ = rw (add-one i) (eo ∙ ap₂ or_else s.verdict≡ (ap (λ (n : ℕ). fault_refusal n r i) t.fault≡));
      }
    where
      fm : ℕ → List ℕ
      fm = lookup_multiplicities p w row.lookups row.challenges (λ _. row.vals) r

      fd : ℕ → List ℕ
      fd = lookup_denominators p w row.lookups row.challenges (λ _. row.vals) r

      more : Filled dm (joined fm 0 (i + 1)) end.tuple (put_mid at.tuple (end.tuple - at.tuple) ms ys)
      more =
          filled-part ys s.ms≡ (omega (arith, next)) (omega (arith, st.1.tuple_in, s.ms_size)) (ap length t.multiplicities≡ ∙ multiplicities-length p w row.lookups row.challenges (λ _. row.vals) 0 i ∙ omega (arith, next))
          (joined-one fm 0 i ∙ ap (λ (y : List ℕ). joined fm 0 i ++ y) (ap fm (zero-add i) ∙ sym t.multiplicities≡))

      grown : Filled dd (joined fd 0 (i + 1)) (4 * end.tuple) (put_mid (4 * at.tuple) (4 * end.tuple - 4 * at.tuple) ds zs)
      grown =
          filled-part zs s.ds≡ (omega (arith, next)) (omega (arith, st.1.tuple_in, s.ds_size)) (ap length t.denominators≡ ∙ denominators_length p w row.lookups row.challenges (λ _. row.vals) 0 i ∙ omega (arith, next))
          (joined-one fd 0 i ∙ ap (λ (y : List ℕ). joined fd 0 i ++ y) (ap fd (zero-add i) ∙ sym t.denominators≡))

-- a verdict after a lookup without a fault, and after one with a fault
pub no_fault : {x : Result (Unit {0}) Fault} (v : Option Refusal) (r i : ℕ) → x ≡ Ok tt → v ≡ or_else v (fault_refusal (fault_number x) r i)
unfolding fault_refusal
no_fault v r i e = rw e (nothing-more v)
  where
    nothing-more : (a : Option Refusal) → a ≡ or_else a none
    nothing-more none = refl
    nothing-more (some a) = refl

pub with_fault : {x : Result (Unit {0}) Fault} {f : Fault} {e : Refusal} (v : Option Refusal) (r i : ℕ) → x ≡ Err f → some e ≡ fault_refusal (fault_number (Err f)) r i
    → or_else v (some e) ≡ or_else v (fault_refusal (fault_number x) r i)
with_fault v r i ex ee = ap (or_else v) (ee ∙ ap (λ (x : Result (Unit {0}) Fault). fault_refusal (fault_number x) r i) (sym ex))

pub lookups_loop_ends : {p w : ℕ} {row : RowSource} {r n : ℕ} {dm dd ms ds : List ℕ} {verdict : Verdict} {at : Starts} {i : ℕ}
    → LookupsLoop p w row r dm dd n ms ds verdict at i → n ≤ i
    → RowTerms p w row.lookups row.challenges (λ _. row.vals) r verdict ms ds
unfolding row_fault row_multiplicities row_denominators
lookups_loop_ends {p} {w} {row} {r} {n} {at = at} {i = i} s h =
    let e : i ≡ lookup_count row.lookups.lookups = omega (arith, s.within, s.count) in
    let a : at.tuple ≡ length row.lookups.tuples = s.stands.tuple≡ ∙ ap (tuple_start row.lookups.lookups) e ∙ sym s.lists.fitting.tuples in
    record {
      fault≡ = s.verdict≡ ∙ ap (first _) e;
      multiplicities≡ = filled-whole s.ms≡ (omega (arith, a, s.ms_size)) ∙ ap (joined (lookup_multiplicities p w row.lookups row.challenges (λ _. row.vals) r) 0) e;
      denominators≡ = filled-whole s.ds≡ (omega (arith, a, s.ds_size)) ∙ ap (joined (lookup_denominators p w row.lookups row.challenges (λ _. row.vals) r) 0) e;
    }
