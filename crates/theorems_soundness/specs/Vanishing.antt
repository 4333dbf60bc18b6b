-- Every constraint of a trace and a terminal, one by one (SPECIFICATION, section 5, has them in its table), and that the constraints accept
-- exactly where each is zero, as a statement. Its proof is laws/Vanishing.antt.
use Rattle.std.specs.Prelude.{ℕ, ◌+◌, ◌<◌, ◌≤◌, ◌≡◌, ◌↔◌, true, List, T}
use Rattle.std.proofs.Math.Option.{none, some}
use Rattle.field.specs.Element.{is_zero}
use Rattle.field.specs.Known.{prime_of, w_of}
use Rattle.expression.specs.Choices.{known, known_rule, limits_of}
use Rattle.expression.specs.declared.choices.Choices.{Choices}
use Rattle.expression.specs.declared.sizes.Limits.{Limits}
use Rattle.lookup.specs.Lookups.{Lookups, lookup_count}
use Rattle.lookup.specs.Table.{Table, values_of}
use Rattle.logup.specs.Rule.{lookups_under}
use Rattle.logup.specs.Constraints.{cell, lookup_constraint, step, binding, rows_verdict, constraints_refusal, verdict_at}
use Rattle.theorems_soundness.specs.Constraints.{Verdict}

module _ (p w : ℕ) (l : Lookups) (challenges : List ℕ) (values : ℕ → List ℕ) (height width : ℕ) (words e : List ℕ) where
  pub record RowVanishes (r : ℕ) : Type 0 where
    pub lookups : (i : ℕ) → i < lookup_count l.lookups → is_zero (lookup_constraint p w l challenges values width words e r i) ≡ true
    pub starts : r ≡ 0 → is_zero (cell p w l challenges values width words e r 0) ≡ true
    pub steps : r + 1 < height → is_zero (step p w l challenges values width words e r) ≡ true
    pub ends : height ≤ r + 1 → is_zero (binding p w l challenges values width words e r) ≡ true

  -- on every row
  abbrev pub Vanishes : Type 0
  Vanishes = (r : ℕ) → r < height → RowVanishes r

-- SPECIFICATION, section 9.4: "constraints accept exactly where each constraint of each row is zero"; the rows
abbrev pub PassesExactly : ℕ → ℕ → Type 0
PassesExactly p w =
    (l : Lookups) (challenges : List ℕ) (values : ℕ → List ℕ) (height width : ℕ) (words e : List ℕ)
    → (rows_verdict p w l challenges values width words e height ≡ none) ↔ Vanishes p w l challenges values height width words e

-- and the entry point, where its tests find nothing
abbrev pub AcceptedExactly : Limits → ℕ → ℕ → ℕ → Verdict → Type 0
AcceptedExactly m p w rule v =
    (t : Table) (challenges : List ℕ) (width : ℕ) (words e : List ℕ)
    → (v t challenges width words (some e) ≡ none)
    ↔ ((constraints_refusal m p w t challenges width words (some e) ≡ none)
    × Vanishes p w (lookups_under rule t.lookups) challenges (values_of p t) t.traces.shape.height width words e)

-- `eval_all` at every known field, profile and rule
abbrev pub KnownVanishing : Type 0
KnownVanishing =
    (c : Choices) (rule : ℕ) → T (known c) → T (known_rule rule)
    → AcceptedExactly (limits_of c.profile) (prime_of c.field) (w_of c.field) rule (verdict_at c rule)
