-- Constraints (`eval_all`): the verdict on a whole trace and terminal. SPECIFICATION, section 5.
use Rattle.std.specs.Prelude.{ℕ, ◌+◌, ◌*◌, ◌/◌, ◌%◌, ◌<◌, ◌≡◌, Bool, true, false, cond, ◌&&◌, ◌||◌, not, List, eqb, leb, ltb, length}
use Rattle.std.proofs.Math.Option.{Option, none, some}
use Rattle.lists.specs.Count.{first, or_else}
use Rattle.field.specs.Element.{lift, one4, add4, sub4, mul4, scale4, element, is_zero, sum4, product4}
use Rattle.field.specs.Known.{prime_of, w_of}
use Rattle.expression.specs.Choices.{known, known_rule, limits_of}
use Rattle.expression.specs.declared.choices.Choices.{Choices}
use Rattle.expression.specs.Words.{all_below}
use Rattle.expression.specs.Refusal.{unless}
use Rattle.expression.specs.Values.{row_values}
use Rattle.expression.specs.declared.sizes.Limits.{Limits}
use Rattle.expression.specs.declared.refusal.Refusal.{Refusal}
use Rattle.expression.specs.declared.refusal.Refusal.TheVariants.{SizeAtOdds, TraceTooSmall, TerminalMisplaced, ConstraintNotZero}
use Rattle.lookup.specs.Lookups.{Lookups, lookup_count, exclusive}
use Rattle.lookup.specs.Table.{Table}
use Rattle.lookup.specs.Tests.{has_lookups}
use Rattle.logup.specs.Rule.{table_under}
use Rattle.logup.specs.Column.{Place, branches, multiplicity, flag, denom, fault}
use Rattle.logup.specs.Rows.{place, fraction_at, accumulator}
use Rattle.logup.specs.Refusals.{logup_refusal}

module _ (p w : ℕ) (c : Place) where
  -- the product of all denominators but that of tuple k
  unfoldable pub others : ℕ → List ℕ
  others k = product4 p w (λ j. cond (eqb j k) one4 (denom p w c j)) (branches c)

  -- `compute_combined_sum_terms`: the common denominator is the product, the numerator the sum of m_i · the others
  unfoldable pub additive_numerator : List ℕ
  additive_numerator = sum4 p (λ k. scale4 p (multiplicity c k) (others k)) (branches c)

  unfoldable pub additive_denominator : List ℕ
  additive_denominator = product4 p w (denom p w c) (branches c)

  -- `compute_exclusive_terms`: N = Σ flag · multiplicity, D = Σ flag · (alpha - combined) + (1 - Σ flag)
  unfoldable pub exclusive_numerator : List ℕ
  exclusive_numerator = sum4 p (λ k. scale4 p (flag c k) (lift (multiplicity c k))) (branches c)

  unfoldable pub exclusive_denominator : List ℕ
  exclusive_denominator =
      add4 p (sum4 p (λ k. scale4 p (flag c k) (denom p w c k)) (branches c))
      (sub4 p one4 (sum4 p (λ k. lift (flag c k)) (branches c)))

  unfoldable pub numerator : List ℕ
  numerator = cond (exclusive c.lookups.lookups c.lookup) exclusive_numerator additive_numerator

  unfoldable pub common_denominator : List ℕ
  common_denominator = cond (exclusive c.lookups.lookups c.lookup) exclusive_denominator additive_denominator

-- refusal 17: "a constraint is not zero"; row, place
abbrev pub must_vanish : List ℕ → ℕ → ℕ → Option Refusal
must_vanish x r place = cond (is_zero x) none (some (ConstraintNotZero r place))

-- a trace of `width` elements a row, and a terminal
module _ (p w : ℕ) (l : Lookups) (challenges : List ℕ) (values : ℕ → List ℕ) (width : ℕ) (words terminal : List ℕ) where
  -- element c of row r
  unfoldable pub cell : ℕ → ℕ → List ℕ
  cell r c = element words (r * width + c)

  unfoldable pub cell_sum : ℕ → List ℕ
  cell_sum r = sum4 p (λ i. cell r (i + 1)) (lookup_count l.lookups)

  -- "D × fraction - N"
  unfoldable pub lookup_constraint : ℕ → ℕ → List ℕ
  lookup_constraint r i =
      sub4 p (mul4 p w (common_denominator p w (place p w l challenges values r i)) (cell r (i + 1))) (numerator p w (place p w l challenges values r i))

  -- on all rows but the last: "next accumulator - accumulator - sum of the row's fractions"
  unfoldable pub step : ℕ → List ℕ
  step r = sub4 p (sub4 p (cell (r + 1) 0) (cell r 0)) (cell_sum r)

  -- on the last: "terminal - accumulator - sum of the row's fractions"
  unfoldable pub binding : ℕ → List ℕ
  binding r = sub4 p (sub4 p terminal (cell r 0)) (cell_sum r)

  -- the places: lookup i is i; with n lookups the accumulator is n, the step n + 1, the terminal n + 2
  unfoldable pub row_verdict : ℕ → ℕ → Option Refusal
  row_verdict height r =
      or_else (first (λ i. must_vanish (lookup_constraint r i) r i) (lookup_count l.lookups))
      (or_else (cond (eqb r 0) (must_vanish (cell r 0) r (lookup_count l.lookups)) none)
      (cond (ltb (r + 1) height) (must_vanish (step r) r (lookup_count l.lookups + 1)) (must_vanish (binding r) r (lookup_count l.lookups + 2))))

  unfoldable pub rows_verdict : ℕ → Option Refusal
  rows_verdict height = first (row_verdict height) height

abbrev pub is_present : Option (List ℕ) → Bool
is_present none = false
is_present (some e) = true

abbrev pub present_below : ℕ → Option (List ℕ) → Bool
present_below p none = true
present_below p (some e) = all_below p e

-- refusal 1 besides the table: whole challenges, and a trace of as many words as its width and its rows say
abbrev pub trace_sizes : List ℕ → ℕ → ℕ → List ℕ → Bool
trace_sizes challenges height width words = eqb (length challenges % 4) 0 && eqb (length words) (width * height * 4)

-- refusal 2 besides the table: the challenges, the trace, the terminal
abbrev pub trace_words : ℕ → List ℕ → List ℕ → Option (List ℕ) → Bool
trace_words p challenges words terminal = all_below p challenges && (all_below p words && present_below p terminal)

-- refusal 8: with lookups "fewer than 2n (constraints)", for so many challenge words
abbrev pub challenges_enough : List ℕ → ℕ → Bool
challenges_enough lookups words = not (has_lookups lookups) || leb (2 * lookup_count lookups) (words / 4)

-- refusal 10: with lookups "a trace narrower than n + 1 (constraints)"; 11: "a terminal without lookups, or none with lookups"
abbrev pub trace_refusal : List ℕ → ℕ → Bool → Option Refusal
trace_refusal lookups width present =
    unless (not (has_lookups lookups) || leb (lookup_count lookups + 1) width) TraceTooSmall
    (unless (cond (has_lookups lookups) present (not present)) TerminalMisplaced none)

module _ (m : Limits) (p w : ℕ) (t : Table) (challenges : List ℕ) (width : ℕ) (words : List ℕ) (terminal : Option (List ℕ)) where
  abbrev pub lists : List ℕ
  lists = t.lookups.lookups

  -- refusals 1 to 5, 8 and 9 as generation's, then 10 and 11
  unfoldable pub constraints_refusal : Option Refusal
  constraints_refusal =
      logup_refusal m p t
      (record {
        sizes = trace_sizes challenges t.traces.shape.height width words;
        words = trace_words p challenges words terminal;
        challenges = challenges_enough lists (length challenges);
      })
      (trace_refusal lists width (is_present terminal))

  abbrev pub terminal_verdict : Option (List ℕ) → Option Refusal
  terminal_verdict none = none
  terminal_verdict (some e) =
      rows_verdict p w t.lookups challenges (row_values p t.nodes t.traces) width words e t.traces.shape.height

  -- none where all constraints hold
  unfoldable pub verdict : Option Refusal
  verdict = or_else constraints_refusal (terminal_verdict terminal)

-- at the choices of a call, of the table as its rule reads it: refusal 1 where one of them is unknown
unfoldable pub verdict_at : Choices → ℕ → Table → List ℕ → ℕ → List ℕ → Option (List ℕ) → Option Refusal
verdict_at c rule t challenges width words terminal =
    unless (known c && known_rule rule) SizeAtOdds
    (verdict (limits_of c.profile) (prime_of c.field) (w_of c.field) (table_under rule t) challenges width words terminal)

-- "Where every denominator is nonzero and flags are lawful" (section 5): no refusal 13 to 15, and no zero denominator in an additive lookup
pub record Regular (p w : ℕ) (c : Place) : Type 0 where
  pub no_fault : fault p w c ≡ 0
  pub all_nonzero : exclusive c.lookups.lookups c.lookup ≡ false → (k : ℕ) → k < branches c → is_zero (denom p w c k) ≡ false

-- "exactly the generated trace and terminal": what the needed columns of a trace of so many rows hold
pub record IsGenerated (p w : ℕ) (l : Lookups) (challenges : List ℕ) (values : ℕ → List ℕ) (height width : ℕ) (words e : List ℕ) : Type 0 where
  pub accumulators : (r : ℕ) → r < height → cell p w l challenges values width words e r 0 ≡ accumulator p w l challenges values r
  pub fractions : (r i : ℕ) → r < height → i < lookup_count l.lookups
      → cell p w l challenges values width words e r (i + 1) ≡ fraction_at p w l challenges values r i
  pub last : e ≡ accumulator p w l challenges values height
