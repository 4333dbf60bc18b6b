-- What the functions over a row of the trace speak of: the row's first element is number `base` of the trace.
use Rattle.std.specs.Prelude.{ℕ, ◌+◌, ◌*◌, ◌≤◌, ◌≡◌, cond, List, eqb, ltb, length, Result, Ok, Err}
use Rattle.std.proofs.Math.Option.{Option, none, some}
use Rattle.lists.specs.Count.{first, or_else}
use Rattle.field.specs.Element.{Word4, sub4, element, sum4}
use Rattle.field.specs.Ext.{ext_words}
use Rattle.field.specs.declared.extension.Ext.{Ext}
use Rattle.expression.specs.Requires.{Below}
use Rattle.expression.specs.declared.refusal.Refusal.{Refusal}
use Rattle.lookup.specs.Lookups.{Lookups, lookup_count}
use Rattle.logup.specs.Rows.{place}
use Rattle.logup.specs.Constraints.{must_vanish}
use Rattle.logup_column.specs.inner.Source.{RowSource}
use Rattle.logup_terms.specs.inner.Constraint.{vanishing}

-- element i + 1 of the row is lookup i's fraction
unfoldable pub fractions_sum : ℕ → List ℕ → ℕ → ℕ → List ℕ
fractions_sum p words base n = sum4 p (λ i. element words (base + (i + 1))) n

-- refusal 17 of the row's lookups, on a row with the node values `vals`
unfoldable pub fractions_verdict : ℕ → ℕ → Lookups → List ℕ → List ℕ → List ℕ → ℕ → ℕ → ℕ → Option Refusal
fractions_verdict p w l challenges vals words base r n =
    first (λ i. must_vanish (vanishing p w (place p w l challenges (λ _. vals) 0 i) (element words (base + (i + 1)))) r i) n

-- what the accumulator must become: that of the next row, which is element `next`, and on the last row the terminal
unfoldable pub next_accumulator : List ℕ → ℕ → ℕ → ℕ → List ℕ → List ℕ
next_accumulator words next r height terminal = cond (ltb (r + 1) height) (element words next) terminal

-- refusal 17 of the accumulator, and of the step or the terminal
unfoldable pub accumulator_verdict : ℕ → List ℕ → List ℕ → List ℕ → ℕ → ℕ → ℕ → Option Refusal
accumulator_verdict p accumulator next sum n r height =
    or_else (cond (eqb r 0) (must_vanish accumulator r n) none)
    (must_vanish (sub4 p (sub4 p next accumulator) sum) r (cond (ltb (r + 1) height) (n + 1) (n + 2)))

-- a trace as the tests leave it: words below p, as many as its size says, and wide enough for n lookups
pub record TraceInputs (p height width n : ℕ) (words : List ℕ) : Type 0 where
  pub below : Below p words
  pub size : length words ≡ width * height * 4
  pub wide : n + 1 ≤ width

-- the sum of a row's fractions, where its lookups refuse nothing
pub record FractionsAre (p w : ℕ) (s : RowSource) (words : List ℕ) (base r : ℕ) (sum : Ext) : Type 0 where
  pub below : Word4 p (ext_words sum)
  pub sum≡ : ext_words sum ≡ fractions_sum p words base (lookup_count s.lookups.lookups)
  pub verdict≡ : none ≡ fractions_verdict p w s.lookups s.challenges s.vals words base r (lookup_count s.lookups.lookups)

-- this sum, or the first refusal of the row's lookups
abbrev pub FractionsEvaluated : ℕ → ℕ → RowSource → List ℕ → ℕ → ℕ → Result Ext Refusal → Type 0
FractionsEvaluated p w s words base r (Ok sum) = FractionsAre p w s words base r sum
FractionsEvaluated p w s words base r (Err f) =
    some f ≡ fractions_verdict p w s.lookups s.challenges s.vals words base r (lookup_count s.lookups.lookups)
