-- The rows pass exactly where every constraint is zero on every row, and so does the entry point where its tests pass.
use Rattle.std.specs.Prelude.{◌≡◌, ◌↔◌, Bool, List, ℕ, ◌+◌, ltb}
use Rattle.std.proofs.Math.Path.{refl}
use Rattle.std.proofs.Common.{sym, ap, ap₂, ◌∙◌, subst, ltb→lt, nltb→le, lt-ltb, le-ltb}
use Rattle.std.proofs.Math.Bool.{true, false, cond}
use Rattle.std.proofs.Math.Option.{Option, none, some, some-ne-none}
use Rattle.std.proofs.Math.Dec.{eqb, not_T}
use Rattle.lists.specs.Count.{or_else}
use Rattle.lists.specs.laws.Count.{first_none, first-all, or_else_none, of_true, not_of_false, eqb_true, eq_of_eqb}
use Rattle.field.specs.Element.{is_zero}
use Rattle.field.specs.Known.{prime_of, w_of}
use Rattle.expression.specs.Choices.{limits_of}
use Rattle.expression.specs.declared.sizes.Limits.{Limits}
use Rattle.expression.specs.declared.refusal.Refusal.{Refusal}
use Rattle.expression.specs.declared.refusal.Refusal.TheVariants.{ConstraintNotZero}
use Rattle.lookup.specs.Lookups.{Lookups, lookup_count}
use Rattle.lookup.specs.Table.{values_of}
use Rattle.logup.specs.Rule.{lookups_under, table_under}
use Rattle.logup.specs.Constraints.{must_vanish, cell, lookup_constraint, step, binding, row_verdict, rows_verdict, verdict}
use Rattle.logup.proofs.laws.Rule.{constraints_refusal_under}
use Rattle.logup.proofs.laws.Choices.{verdict-known}
use Rattle.theorems_soundness.specs.Vanishing.{RowVanishes, Vanishes, PassesExactly, AcceptedExactly, KnownVanishing}

module _ {A : Type 0} where
  both_none : (a b : Option A) → a ≡ none → b ≡ none → or_else a b ≡ none
  both_none a b e q = ap₂ or_else e q

pub vanish_iff : (x : List ℕ) (r i : ℕ) → (must_vanish x r i ≡ none) ↔ (is_zero x ≡ true)
vanish_iff x r i = (go (is_zero x), λ e. ap (λ (b : Bool). cond b none (some (ConstraintNotZero r i))) e)
  where
    go : (b : Bool) → cond {A = Option Refusal} b none (some (ConstraintNotZero r i)) ≡ none → b ≡ true
    go true e = refl
    go false e = absurd (some-ne-none (ConstraintNotZero r i) e)

module _ (p w : ℕ) (l : Lookups) (challenges : List ℕ) (values : ℕ → List ℕ) (height width : ℕ) (words e : List ℕ) where
  abbrev n : ℕ
  n = lookup_count l.lookups

  abbrev at_cell : ℕ → ℕ → List ℕ
  at_cell = cell p w l challenges values width words e

  abbrev by_lookup : ℕ → ℕ → List ℕ
  by_lookup = lookup_constraint p w l challenges values width words e

  abbrev by_step : ℕ → List ℕ
  by_step = step p w l challenges values width words e

  abbrev by_terminal : ℕ → List ℕ
  by_terminal = binding p w l challenges values width words e

  abbrev row : ℕ → Option Refusal
  row = row_verdict p w l challenges values width words e height

  abbrev RowHolds : ℕ → Type 0
  RowHolds = RowVanishes p w l challenges values height width words e

  row-holds : (r : ℕ) → row r ≡ none → RowHolds r
  unfolding row_verdict
  row-holds r v =
      let (a, rest) = or_else_none v in
      let (b, d) = or_else_none rest in
      record {
        lookups = λ i l. (vanish_iff (by_lookup r i) r i).0 (first_none (λ i. must_vanish (by_lookup r i) r i) n i a l);
        starts = λ z. (vanish_iff (at_cell r 0) r n).0 (sym (ap (λ (q : Bool). cond q (must_vanish (at_cell r 0) r n) none) (eqb_true z)) ∙ b);
        steps = λ l. (vanish_iff (by_step r) r (n + 1)).0
            (sym (ap (λ (q : Bool). cond q (must_vanish (by_step r) r (n + 1)) (must_vanish (by_terminal r) r (n + 2)))
            (lt-ltb (r + 1) height l)) ∙ d);
        ends = λ l. (vanish_iff (by_terminal r) r (n + 2)).0
            (sym (ap (λ (q : Bool). cond q (must_vanish (by_step r) r (n + 1)) (must_vanish (by_terminal r) r (n + 2)))
            (le-ltb (r + 1) height l)) ∙ d);
      }

  of_row_holds : (r : ℕ) → RowHolds r → row r ≡ none
  unfolding row_verdict
  of_row_holds r v =
      both_none _ _ (first-all _ n (λ i l. (vanish_iff (by_lookup r i) r i).1 (v.lookups i l)))
      (both_none _ _ (first_case (eqb r 0) refl) (last_case (ltb (r + 1) height) refl))
    where
      first_case : (q : Bool) → eqb r 0 ≡ q → cond q (must_vanish (at_cell r 0) r n) none ≡ none
      first_case true q = (vanish_iff (at_cell r 0) r n).1 (v.starts (eq_of_eqb r 0 q))
      first_case false q = refl

      last_case : (q : Bool) → ltb (r + 1) height ≡ q
          → cond q (must_vanish (by_step r) r (n + 1)) (must_vanish (by_terminal r) r (n + 2)) ≡ none
      last_case true q = (vanish_iff (by_step r) r (n + 1)).1 (v.steps (ltb→lt (r + 1) height (of_true q)))
      last_case false q = (vanish_iff (by_terminal r) r (n + 2)).1 (v.ends (nltb→le (r + 1) height (not_T (ltb (r + 1) height) (not_of_false q))))

  vanish : (rows_verdict p w l challenges values width words e height ≡ none) ↔ Vanishes p w l challenges values height width words e
  unfolding rows_verdict
  vanish = (λ v r k. row-holds r (first_none row height r v k), λ v. first-all row height (λ r k. of_row_holds r (v r k)))

pub passes_exactly : (p w : ℕ) → PassesExactly p w
passes_exactly p w l challenges values height width words e = vanish p w l challenges values height width words e

-- the entry point: "none where all constraints hold"
pub accepted_exactly : (m : Limits) (p w rule : ℕ) → AcceptedExactly m p w rule (λ t. verdict m p w (table_under rule t))
unfolding verdict
accepted_exactly m p w rule t challenges width words e =
    let q = passes_exactly p w (lookups_under rule t.lookups) challenges (values_of p t) t.traces.shape.height width words e in
    let tests = constraints_refusal_under rule m p w t challenges width words (some e) in
    (λ v. let (a, b) = or_else_none v in (sym tests ∙ a, q.0 b), λ v. both_none _ _ (tests ∙ v.0) (q.1 v.1))

-- and so in each field
pub logup_vanishing : KnownVanishing
logup_vanishing c rule k r =
    subst (AcceptedExactly (limits_of c.profile) (prime_of c.field) (w_of c.field) rule) (sym (verdict-known c rule k r))
    (accepted_exactly (limits_of c.profile) (prime_of c.field) (w_of c.field) rule)
