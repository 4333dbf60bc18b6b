-- The turns of the loop over the lookups of a row.
use Rattle.std.specs.Prelude.{Ok, Err}
use mathlib.Core.Path.{◌≡◌, refl, sym, ap, ap₂, ◌∙◌}
use mathlib.Core.Option.{Option, none, some}
use mathlib.Core.List.{List}
use Prim.Native.Nat.{ℕ, ◌+◌, ◌*◌, ◌<◌, ◌≤◌, zero-le}
use native.Mathlib.Numerals.{add-one}
use native.Mathlib.Omega.{arith}
use lib.ListN.{length}
use Rattle.lists.specs.Count.{or_else, first}
use Rattle.lists.specs.laws.Count.{first_stop}
use Rattle.field.specs.declared.extension.Ext.{Ext}
use Rattle.field.specs.Ext.{ext_words}
use Rattle.field.specs.Element.{Word4, add4, sum4, element}
use Rattle.expression.specs.declared.refusal.Refusal.{Refusal}
use Rattle.lookup.specs.Lookups.{lookup_count}
use Rattle.logup.specs.Rows.{place}
use Rattle.logup.specs.Constraints.{must_vanish}
use Rattle.logup_column.specs.laws.Powers.{word-zero}
use Rattle.logup_terms.specs.inner.Constraint.{vanishing}
use Rattle.logup_column.specs.inner.Requires.{StartsOf}
use Rattle.logup_column.specs.inner.Source.{RowSource}
use Rattle.logup_column.specs.laws.Lookup.{stands-zero}
use Rattle.logup_column.specs.declared.starts.Starts.{Starts}
use Rattle.logup_terms.specs.inner.ConstraintRow.{fractions_sum, fractions_verdict, FractionsEvaluated}

pub record LookupsLoop (p w : ℕ) (row : RowSource) (words : List ℕ) (base r n : ℕ) (sum : Ext) (at : Starts) (i : ℕ) : Type 0 where
  pub cap : 4 * length words < 18446744073709551616
  pub count : n ≡ lookup_count row.lookups.lookups
  pub within : i ≤ n
  pub room : 4 * (base + (n + 1)) ≤ length words
  pub stands : StartsOf row.lookups.lookups row.lookups.tuples i at
  pub word4 : Word4 p (ext_words sum)
  pub sum≡ : ext_words sum ≡ fractions_sum p words base i
  pub none≡ : fractions_verdict p w row.lookups row.challenges row.vals words base r i ≡ none

pub lookups_loop_begins : {p w : ℕ} {row : RowSource} {words : List ℕ} {base r n : ℕ} → 4 * length words < 18446744073709551616 → 1 < p → n ≡ lookup_count row.lookups.lookups
    → 4 * (base + (lookup_count row.lookups.lookups + 1)) ≤ length words
    → LookupsLoop p w row words base r n (record { c0 = 0; c1 = 0; c2 = 0; c3 = 0 }) (record { tuple = 0; multiplicity = 0; flag = 0; element = 0 }) 0
unfolding fractions_sum fractions_verdict first sum4
lookups_loop_begins {p} {row = row} c big e h =
    record { cap = c; count = e; within = zero-le; room = omega arith; stands = stands-zero row.lookups.lookups row.lookups.tuples; word4 = word-zero p big; sum≡ = refl; none≡ = refl }

module _ {p w : ℕ} {row : RowSource} {words : List ℕ} {base r n : ℕ} {sum : Ext} {at : Starts} {i : ℕ}
    (s : LookupsLoop p w row words base r n sum at i) (h : i < n) {cell value : List ℕ} {o : Option Refusal} (ec : cell ≡ element words (base + (i + 1)))
    (ev : value ≡ vanishing p w (place p w row.lookups row.challenges (λ _. row.vals) 0 i) cell) (eo : o ≡ must_vanish value r i) where
  fault_is : o ≡ must_vanish (vanishing p w (place p w row.lookups row.challenges (λ _. row.vals) 0 i) (element words (base + (i + 1)))) r i
  fault_is = eo ∙ ap (λ (x : List ℕ). must_vanish x r i) (ev ∙ ap (vanishing p w (place p w row.lookups row.challenges (λ _. row.vals) 0 i)) ec)

  pub lookups_loop_turn : {sum' : Ext} {end : Starts} → o ≡ none → StartsOf row.lookups.lookups row.lookups.tuples (i + 1) end → Word4 p (ext_words sum') × (ext_words sum' ≡ add4 p (ext_words sum) cell)
      → LookupsLoop p w row words base r n sum' end (i + 1)
  unfolding fractions_sum fractions_verdict first sum4
  lookups_loop_turn q st (k, es) =
      record {
        cap = s.cap;
        count = s.count;
        within = omega arith;
        room = s.room;
        stands = st;
        word4 = k;
        sum≡ = rw (add-one i) (es ∙ ap₂ (add4 p) s.sum≡ ec);
        none≡ = rw (add-one i) (ap₂ or_else s.none≡ (sym fault_is ∙ q));
      }

  pub lookups_loop_stops : {f : Refusal} → o ≡ some f → FractionsEvaluated p w row words base r (Err f)
  unfolding fractions_verdict
  lookups_loop_stops {f} q =
      sym (first_stop _ (lookup_count row.lookups.lookups) i f (omega (arith, s.count)) s.none≡ (sym fault_is ∙ q))

pub lookups_loop_ends : {p w : ℕ} {row : RowSource} {words : List ℕ} {base r n : ℕ} {sum : Ext} {at : Starts} {i : ℕ}
    → LookupsLoop p w row words base r n sum at i → n ≤ i
    → FractionsEvaluated p w row words base r (Ok sum)
lookups_loop_ends {p} {w} {row} {words} {base} {r} {i = i} s h =
    let e : i ≡ lookup_count row.lookups.lookups = omega (arith, s.within, s.count) in
    record {
      below = s.word4;
      sum≡ = s.sum≡ ∙ ap (fractions_sum p words base) e;
      verdict≡ = sym s.none≡ ∙ ap (fractions_verdict p w row.lookups row.challenges row.vals words base r) e;
    }
