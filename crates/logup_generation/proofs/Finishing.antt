-- The answer and the buffer after the rows, and the outcome.
use mathlib.Core.Path.{◌≡◌, refl, sym, ap, ap₂, ◌∙◌}
use mathlib.Core.Bool.{Bool, true, false, ◌&&◌}
use mathlib.Core.Option.{Option, none, some}
use mathlib.Core.List.{List, [], ◌++◌}
use Prim.Native.Nat.{ℕ, ◌+◌, ◌*◌}
use native.Mathlib.Omega.{arith}
use lib.ListN.{length, drop, replicate}
use lib.Seq.{drop_at}
use Rattle.field.specs.Known.{prime_of, w_of}
use Rattle.expression.specs.Choices.{known, known_rule, limits_of}
use Rattle.expression.specs.Values.{row_values}
use Rattle.expression.specs.declared.choices.Choices.{Choices}
use Rattle.expression.specs.declared.sizes.Limits.{Limits}
use Rattle.expression.specs.declared.refusal.Refusal.{Refusal}
use Rattle.expression.specs.declared.refusal.Refusal.TheVariants.{SizeAtOdds}
use Rattle.expression.specs.declared.sizes.Shape.{Shape}
use Rattle.lookup.specs.Lookups.{Lookups, lent_lookups, lookup_count}
use Rattle.lookup.specs.Table.{Table, lent_table, values_of}
use Rattle.lookup.specs.Tests.{has_lookups}
use Rattle.logup.specs.Rule.{table_under}
use Rattle.logup.specs.Rows.{accumulator, row_words, trace, first_fault, used}
use Rattle.logup.specs.Generation.{Answer, refused, absent, rows_outcome, entry_refusal, entry_outcome, generation, generation_at}
use Rattle.logup.proofs.laws.Choices.{generation_unknown}
use Rattle.logup.proofs.laws.Rule.{refusal_under}
use Rattle.logup_generation.specs.inner.Outcome.{rows_answer, cleared}
use Rattle.logup_column.specs.inner.Requires.{lent_values}
use Rattle.lists.specs.laws.Joined.{joined_length}
use Rattle.logup_rows.specs.laws.Lengths.{row-length}
use Rattle.logup_rows.specs.laws.Unnamed.{unnamed-accumulator, unnamed-trace, unnamed-first_fault}

trace-length : (p w : ℕ) (l : Lookups) (cs : List ℕ) (values : ℕ → List ℕ) (height : ℕ) → length (trace p w l cs values height) ≡ used l.lookups height
unfolding trace used
trace-length p w l cs values height =
    joined_length (row_words p w l cs values) (4 * lookup_count l.lookups + 4) height (row-length p w l cs values) ∙ omega arith

-- the answer and the buffer after the rows are the definition's
module _ (m : Limits) (p w : ℕ) (t : Table) (cs buffer : List ℕ) where
  abbrev values : ℕ → List ℕ
  values = row_values p t.nodes t.traces

  abbrev height : ℕ
  height = t.traces.shape.height

  answer_is : (o : Option Refusal) → rows_answer o (accumulator p w t.lookups cs values height) ≡ (rows_outcome m p w t cs buffer o).answer
  unfolding rows_outcome
  answer_is none = refl
  answer_is (some f) = refl

  buffer_is : (o : Option Refusal)
      → cleared o (used t.lookups.lookups height) (trace p w t.lookups cs values height ++ drop (used t.lookups.lookups height) buffer) ≡ (rows_outcome m p w t cs buffer o).buffer
  unfolding rows_outcome
  buffer_is none = refl
  buffer_is (some f) =
      ap (λ (x : List ℕ). replicate (used t.lookups.lookups height) 0 ++ x)
      (drop_at (trace p w t.lookups cs values height) (drop (used t.lookups.lookups height) buffer) (used t.lookups.lookups height) (trace-length p w t.lookups cs values height))

  pub rows_done : {a : Answer} {e b b' : List ℕ} {o : Option Refusal} {u : ℕ} → e ≡ accumulator p w t.lookups cs values height → o ≡ first_fault p w t.lookups cs values height
      → b ≡ trace p w t.lookups cs values height ++ drop (used t.lookups.lookups height) buffer → u ≡ used t.lookups.lookups height
      → (a ≡ rows_answer o e) × (b' ≡ cleared o u b)
      → (a ≡ (rows_outcome m p w t cs buffer (first_fault p w t.lookups cs values height)).answer) × (b' ≡ (rows_outcome m p w t cs buffer (first_fault p w t.lookups cs values height)).buffer)
  rows_done {a} {e} {b} {b'} {o} {u} ee eo eb eu (ea, ec) = (
    ea ∙ ap₂ rows_answer eo ee ∙ answer_is (first_fault p w t.lookups cs values height),
    ec ∙ (λ j. cleared (eo j) (eu j) (eb j)) ∙ buffer_is (first_fault p w t.lookups cs values height),
  )

-- the outcome, for a table as a rule reads it: the tests are those of the table itself
module _ (rule : ℕ) (m : Limits) (p w : ℕ) (t : Table) (cs buffer : List ℕ) where
  abbrev u : Table
  u = table_under rule t

  -- a refusal before the rows
  pub refused_is : (f : Refusal) → entry_refusal m p w t cs buffer ≡ some f → (refused f ≡ (generation m p w u cs buffer).answer) × (buffer ≡ (generation m p w u cs buffer).buffer)
  unfolding generation entry_outcome
  refused_is f e = let k = refusal_under rule m p w t cs buffer ∙ e in (rw k, rw k)

  pub absent_is : entry_refusal m p w t cs buffer ≡ none → has_lookups t.lookups.lookups ≡ false → (absent ≡ (generation m p w u cs buffer).answer) × (buffer ≡ (generation m p w u cs buffer).buffer)
  unfolding generation entry_outcome
  absent_is e h = let k = refusal_under rule m p w t cs buffer ∙ e in (rw (k, h), rw (k, h))

  pub rows_are : {a : Answer} {b : List ℕ} → entry_refusal m p w t cs buffer ≡ none → has_lookups t.lookups.lookups ≡ true
      → (a ≡ (rows_outcome m p w u cs buffer (first_fault p w u.lookups cs (values_of p t) t.traces.shape.height)).answer)
      × (b ≡ (rows_outcome m p w u cs buffer (first_fault p w u.lookups cs (values_of p t) t.traces.shape.height)).buffer)
      → (a ≡ (generation m p w u cs buffer).answer) × (b ≡ (generation m p w u cs buffer).buffer)
  unfolding generation entry_outcome
  rows_are e h (ea, eb) = let k = refusal_under rule m p w t cs buffer ∙ e in (ea ∙ rw (k, h), eb ∙ rw (k, h))

-- after the rows over lookups whose names were not read, and whose elements are those of the table
pub rows_finished : {a : Answer} {e b b' x : List ℕ} {o : Option Refusal} {u : ℕ} (m : Limits) (p w : ℕ) (shape : Shape) (main preprocessed public_values nodes lookups names tuples mults flags elements cs buffer : List ℕ)
    → x ≡ elements
    → e ≡ accumulator p w (lent_lookups lookups [] tuples mults flags x) cs (lent_values p shape main preprocessed public_values nodes) shape.height
    → o ≡ first_fault p w (lent_lookups lookups [] tuples mults flags x) cs (lent_values p shape main preprocessed public_values nodes) shape.height
    → b ≡ trace p w (lent_lookups lookups [] tuples mults flags x) cs (lent_values p shape main preprocessed public_values nodes) shape.height ++ drop (used lookups shape.height) buffer
    → u ≡ used lookups shape.height → (a ≡ rows_answer o e) × (b' ≡ cleared o u b)
    → (a ≡ (rows_outcome m p w (lent_table shape main preprocessed public_values nodes (lent_lookups lookups names tuples mults flags elements)) cs
    buffer (first_fault p w (lent_lookups lookups names tuples mults flags elements) cs (lent_values p shape main preprocessed public_values nodes)
    shape.height)).answer)
    × (b' ≡ (rows_outcome m p w (lent_table shape main preprocessed public_values nodes (lent_lookups lookups names tuples mults flags elements)) cs
    buffer (first_fault p w (lent_lookups lookups names tuples mults flags elements) cs (lent_values p shape main preprocessed public_values nodes)
    shape.height)).buffer)
rows_finished {x = x} m p w shape main preprocessed public_values nodes lookups names tuples mults flags elements cs buffer ex ee eo eb eu done =
    rows_done m p w (lent_table shape main preprocessed public_values nodes (lent_lookups lookups names tuples mults flags elements)) cs buffer
    (ee ∙ ap (λ (l : Lookups). accumulator p w l cs vals shape.height) same ∙ sym (unnamed-accumulator p w lookups names tuples mults flags elements cs vals shape.height))
    (eo ∙ ap (λ (l : Lookups). first_fault p w l cs vals shape.height) same ∙ sym (unnamed-first_fault p w lookups names tuples mults flags elements cs vals shape.height))
    (eb ∙ ap (λ (q : List ℕ). q ++ drop (used lookups shape.height) buffer) (ap (λ (l : Lookups). trace p w l cs vals shape.height) same ∙ sym (unnamed-trace p w lookups names tuples mults flags elements cs vals shape.height)))
    eu done
  where
    vals : ℕ → List ℕ
    vals = lent_values p shape main preprocessed public_values nodes

    same : lent_lookups lookups [] tuples mults flags x ≡ lent_lookups lookups [] tuples mults flags elements
    same = ap (lent_lookups lookups [] tuples mults flags) ex

-- `generate`
module _ (c : Choices) (rule : ℕ) (t : Table) (cs buffer : List ℕ) {k r : Bool} (ek : k ≡ known c) (er : r ≡ known_rule rule) where
  pub choice_unknown : (k && r) ≡ false → record { answer = refused SizeAtOdds; buffer = buffer } ≡ generation_at c rule t cs buffer
  choice_unknown z = sym (generation_unknown c rule t cs buffer (sym (ap₂ ◌&&◌ ek er) ∙ z))

  pub choices_known : {m : Limits} {p w : ℕ} {a : Answer} {b : List ℕ} → (k && r) ≡ true → m ≡ limits_of c.profile → p ≡ prime_of c.field → w ≡ w_of c.field
      → (a ≡ (generation m p w (table_under rule t) cs buffer).answer) × (b ≡ (generation m p w (table_under rule t) cs buffer).buffer) → record { answer = a; buffer = b } ≡ generation_at c rule t cs buffer
  unfolding generation_at
  choices_known z em ep ew (ea, eb) =
      (λ i. record { answer = ea i; buffer = eb i }) ∙ rw (sym (ap₂ ◌&&◌ ek er) ∙ z, em, ep, ew) refl
