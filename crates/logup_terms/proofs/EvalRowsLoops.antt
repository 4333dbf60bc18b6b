-- One row of the trace, and the turns of the loop over the rows.
use mathlib.Core.Path.{◌≡◌, refl, sym, ap, ap₂, ◌∙◌}
use mathlib.Core.Bool.{Bool, true, false, cond}
use mathlib.Core.Option.{Option, none, some}
use mathlib.Core.List.{List}
use Prim.Native.Nat.{ℕ, ◌+◌, ◌*◌, ◌<◌, ◌≤◌, zero-le}
use native.Mathlib.Nat.{add-zero, suc-mul, zero-mul}
use native.Mathlib.Numerals.{add-one}
use native.Mathlib.Omega.{arith}
use lib.Dec.{eqb, ltb}
use lib.ListN.{length}
use Rattle.lists.specs.laws.Writing.{next_times}
use Rattle.lists.specs.Count.{or_else, first}
use Rattle.lists.specs.laws.Count.{first_stop}
use Rattle.field.specs.Element.{sub4, element}
use Rattle.expression.specs.declared.refusal.Refusal.{Refusal}
use Rattle.lookup.specs.Lookups.{Lookups, lookup_count}
use Rattle.logup.specs.Rows.{place}
use Rattle.logup.specs.Constraints.{must_vanish, cell, cell_sum, lookup_constraint, step, binding, row_verdict}
use Rattle.logup_terms.specs.inner.Constraint.{vanishing}
use Rattle.logup_terms.specs.inner.ConstraintRow.{fractions_sum, fractions_verdict, next_accumulator, accumulator_verdict, TraceInputs}

-- where a row lies
module _ {p height width n : ℕ} {words : List ℕ} {base : ℕ} (r : ℕ) (s : TraceInputs p height width n words) (e : base ≡ r * width) where
  pub row_in : r < height → 4 * (base + width) ≤ length words
  row_in h = omega (arith, next_times r height width h, s.size, e)

  pub next_in : r + 1 < height → 4 * (base + width) + 4 ≤ length words
  next_in h = omega (arith, next_times (r + 1) height width h, s.size, s.wide, e)

-- the verdict on a row is that of its lookups, then that of its end
module _ (p w : ℕ) (l : Lookups) (cs : List ℕ) (values : ℕ → List ℕ) (width : ℕ) (words terminal : List ℕ) (height r : ℕ) where
  abbrev n : ℕ
  n = lookup_count l.lookups

  last : (b : Bool) (x a s : List ℕ)
      → must_vanish (sub4 p (sub4 p (cond b x terminal) a) s) r (cond b (n + 1) (n + 2))
      ≡ cond b (must_vanish (sub4 p (sub4 p x a) s) r (n + 1)) (must_vanish (sub4 p (sub4 p terminal a) s) r (n + 2))
  last true x a s = refl
  last false x a s = refl

  both : or_else (fractions_verdict p w l cs (values r) words (r * width) r n)
      (accumulator_verdict p (cell p w l cs values width words terminal r 0) (cond (ltb (r + 1) height) (cell p w l cs values width words terminal (r + 1) 0) terminal) (cell_sum p w l cs values width words terminal r) n r height)
      ≡ row_verdict p w l cs values width words terminal height r
  unfolding row_verdict lookup_constraint step binding cell_sum cell fractions_verdict accumulator_verdict vanishing place
  both =
      ap (λ (o : Option Refusal). or_else (fractions_verdict p w l cs (values r) words (r * width) r n) (or_else (cond (eqb r 0) (must_vanish (element words (r * width + 0)) r n) none) o))
      (last (ltb (r + 1) height) (element words ((r + 1) * width + 0)) (element words (r * width + 0)) (cell_sum p w l cs values width words terminal r))

  pub row_is : {o : Option Refusal} {vals sum acc next : List ℕ} {base : ℕ} (x y : Option Refusal) → base ≡ r * width → vals ≡ values r → sum ≡ fractions_sum p words base n
      → x ≡ fractions_verdict p w l cs vals words base r n → acc ≡ element words base → next ≡ next_accumulator words (base + width) r height terminal
      → y ≡ accumulator_verdict p acc next sum n r height → o ≡ or_else x y → o ≡ row_verdict p w l cs values width words terminal height r
  unfolding fractions_sum next_accumulator cell_sum cell
  row_is {o} {vals} {sum} {acc} {next} {base} x y eb evals es ex ea en ey eo =
      eo
      ∙ ap₂ or_else (ex ∙ ap₂ (λ (v : List ℕ) (b : ℕ). fractions_verdict p w l cs v words b r n) evals eb)
      (ey ∙ (λ j. accumulator_verdict p (acc≡ j) (next≡ j) (sum≡ j) n r height))
      ∙ both
    where
      acc≡ : acc ≡ element words (r * width + 0)
      acc≡ = ea ∙ ap (element words) (eb ∙ sym (add-zero (r * width)))

      next≡ : next ≡ cond (ltb (r + 1) height) (element words ((r + 1) * width + 0)) terminal
      next≡ = en ∙ ap (λ (k : ℕ). cond (ltb (r + 1) height) (element words k) terminal) (ap (λ (k : ℕ). k + width) eb ∙ sym (add-zero ((r + 1) * width) ∙ ap (λ (k : ℕ). k * width) (add-one r) ∙ suc-mul r width))

      sum≡ : sum ≡ cell_sum p w l cs values width words terminal r
      sum≡ = es ∙ ap (λ (b : ℕ). fractions_sum p words b n) eb

-- the verdict on the accumulator, and on the step or the terminal
pub accumulator_is : {o x y : Option Refusal} {rest step' : List ℕ} {k : ℕ} (p : ℕ) (accumulator next sum : List ℕ) (n r height : ℕ) → step' ≡ sub4 p next accumulator → rest ≡ sub4 p step' sum
    → x ≡ cond (eqb r 0) (must_vanish accumulator r n) none → k ≡ cond (ltb (r + 1) height) (n + 1) (n + 2) → y ≡ must_vanish rest r k → o ≡ or_else x y
    → o ≡ accumulator_verdict p accumulator next sum n r height
unfolding accumulator_verdict
accumulator_is p accumulator next sum n r height es er ex ek ey eo =
    eo ∙ ap₂ or_else ex (ey ∙ ap₂ (λ (e : List ℕ) (k : ℕ). must_vanish e r k) (er ∙ ap (λ (e : List ℕ). sub4 p e sum) es) ek)

-- r rows without a refusal
pub record RowsLoop (f : ℕ → Option Refusal) (p height width n : ℕ) (words : List ℕ) (base r : ℕ) : Type 0 where
  pub cap : 4 * length words < 18446744073709551616
  pub traced : TraceInputs p height width n words
  pub within : r ≤ height
  pub base≡ : base ≡ r * width
  pub none≡ : first f r ≡ none

pub rows_loop_begins : {f : ℕ → Option Refusal} {p height width n : ℕ} {words : List ℕ} → 4 * length words < 18446744073709551616 → TraceInputs p height width n words → RowsLoop f p height width n words 0 0
unfolding first
rows_loop_begins {width = width} c s = record { cap = c; traced = s; within = zero-le; base≡ = sym (zero-mul width); none≡ = refl }

module _ {f : ℕ → Option Refusal} {p height width n : ℕ} {words : List ℕ} {base r : ℕ} (s : RowsLoop f p height width n words base r) where
  pub rows_loop_turn : r < height → none ≡ f r → RowsLoop f p height width n words (base + width) (r + 1)
  unfolding first
  rows_loop_turn h e =
      record {
        cap = s.cap;
        traced = s.traced;
        within = omega arith;
        base≡ = rw (add-one r, suc-mul r width, s.base≡);
        none≡ = rw (add-one r) (ap₂ or_else s.none≡ (sym e));
      }

  pub rows_loop_stops : (x : Refusal) → r < height → some x ≡ f r → some x ≡ first f height
  rows_loop_stops x h e = sym (first_stop f height r x h s.none≡ (sym e))

  pub rows_loop_ends : height ≤ r → none ≡ first f height
  rows_loop_ends h = let e : r ≡ height = omega (arith, s.within) in sym s.none≡ ∙ ap (first f) e
