-- The verdict, from the tests and from the rows.
use mathlib.Core.Path.{◌≡◌, sym, ap₂, ◌∙◌}
use mathlib.Core.Bool.{Bool, true, false, ◌&&◌}
use mathlib.Core.Option.{Option, none, some}
use mathlib.Core.List.{List}
use Prim.Native.Nat.{ℕ}
use Rattle.field.specs.Known.{prime_of, w_of}
use Rattle.expression.specs.Choices.{known, known_rule, limits_of}
use Rattle.expression.specs.declared.choices.Choices.{Choices}
use Rattle.expression.specs.declared.sizes.Limits.{Limits}
use Rattle.expression.specs.declared.refusal.Refusal.{Refusal}
use Rattle.expression.specs.declared.refusal.Refusal.TheVariants.{SizeAtOdds}
use Rattle.lookup.specs.Table.{Table, values_of}
use Rattle.logup.specs.Rule.{table_under}
use Rattle.logup.specs.Constraints.{constraints_refusal, rows_verdict, verdict, verdict_at}
use Rattle.logup.proofs.laws.Choices.{verdict_unknown}
use Rattle.logup.proofs.laws.Rule.{constraints_refusal_under}

-- for a table as a rule reads it: the tests are those of the table itself
module _ (rule : ℕ) (m : Limits) (p w : ℕ) (t : Table) (cs : List ℕ) (width : ℕ) (words : List ℕ) (o : Option (List ℕ)) where
  abbrev u : Table
  u = table_under rule t

  tests_are : {v : Option Refusal} → v ≡ constraints_refusal m p w t cs width words o → constraints_refusal m p w u cs width words o ≡ v
  tests_are e = constraints_refusal_under rule m p w t cs width words o ∙ sym e

  pub refused_is : (f : Refusal) → some f ≡ constraints_refusal m p w t cs width words o → some f ≡ verdict m p w u cs width words o
  unfolding verdict
  refused_is f e = rw (tests_are e)

  pub absent_is : none ≡ constraints_refusal m p w t cs width words o → o ≡ none → none ≡ verdict m p w u cs width words o
  unfolding verdict
  absent_is e eo = rw (tests_are e, eo)

  pub given_is : {v : Option Refusal} (e : List ℕ) → none ≡ constraints_refusal m p w t cs width words o → o ≡ some e
      → v ≡ rows_verdict p w u.lookups cs (values_of p t) width words e t.traces.shape.height → v ≡ verdict m p w u cs width words o
  unfolding verdict
  given_is e k eo ev = rw (tests_are k, eo) ev

-- `eval_all`
module _ (c : Choices) (rule : ℕ) (t : Table) (cs : List ℕ) (width : ℕ) (words : List ℕ) (o : Option (List ℕ)) {k r : Bool} (ek : k ≡ known c) (er : r ≡ known_rule rule) where
  pub choice_unknown : (k && r) ≡ false → some SizeAtOdds ≡ verdict_at c rule t cs width words o
  choice_unknown z = sym (verdict_unknown c rule t cs width words o (sym (ap₂ ◌&&◌ ek er) ∙ z))

  pub choices_known : {m : Limits} {p w : ℕ} {v : Option Refusal} → (k && r) ≡ true → m ≡ limits_of c.profile → p ≡ prime_of c.field → w ≡ w_of c.field
      → v ≡ verdict m p w (table_under rule t) cs width words o → v ≡ verdict_at c rule t cs width words o
  unfolding verdict_at
  choices_known z em ep ew h = rw (sym (ap₂ ◌&&◌ ek er) ∙ z, ← em, ← ep, ← ew) h
