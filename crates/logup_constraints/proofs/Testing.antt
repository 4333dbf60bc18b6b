-- The tests of the entry point: what they answer, and what they leave of a trace that passed them.
use mathlib.Core.Path.{◌≡◌, refl, sym, ap, ◌∙◌, subst}
use mathlib.Core.Bool.{Bool, beq, true, false, cond, ◌&&◌, ◌||◌, not, true≢false}
use mathlib.Core.Logic.{◌⊎◌, inl, inr}
use mathlib.Core.Option.{Option, none, some}
use mathlib.Core.List.{List}
use Prim.Native.Nat.{ℕ, ◌+◌, ◌*◌, ◌/◌, ◌%◌, ◌<◌, ◌≤◌}
use native.Mathlib.Omega.{arith}
use lib.Dec.{eqb, leb, ltb}
use lib.ListN.{length}
use borrow.Author.Tests.{eqb-true, leb-true, lt-ltb, le-ltb}
use Rattle.std.specs.Prelude.{Some, None}
use Rattle.std.specs.Prelude as Std
use Rattle.std.specs.Option.{is_some}
use Rattle.lookup.specs.declared.types.LookupTerminal.{LookupTerminal}
use Rattle.logup_constraints.specs.Refusals.{terminal_of}
use Rattle.std.proofs.lemmas.Bool.Decides.{leb_tells}
use Rattle.lists.specs.laws.Tests.{both_left, both_right}
use Rattle.field.specs.Element.{Word4}
use Rattle.expression.specs.Words.{all_below}
use Rattle.expression.specs.Refusal.{unless}
use Rattle.expression.specs.Limits.{Sane}
use Rattle.expression.specs.Requires.{Below, Evaluable}
use Rattle.expression.specs.laws.Below.{below-tested}
use Rattle.expression.specs.declared.sizes.Shape.{Shape}
use Rattle.expression.specs.declared.sizes.Limits.{Limits}
use Rattle.expression.specs.declared.refusal.Refusal.{Refusal}
use Rattle.expression.specs.declared.refusal.Refusal.TheVariants.{ChallengesMissing, RowsMissing, TraceTooSmall, TerminalMisplaced}
use Rattle.lookup.specs.Lookups.{lookup_count}
use Rattle.lookup.specs.Table.{Table}
use Rattle.lookup.specs.Tests.{has_lookups, rows_enough}
use Rattle.logup.specs.Constraints.{is_present, present_below, trace_sizes, trace_words, constraints_refusal}
use Rattle.logup_column.specs.inner.Refusals.{table_tests}
use Rattle.logup_column.specs.inner.Requires.{LookupLists, Field}
use Rattle.logup_column.specs.inner.Tested.{Tested}
use Rattle.logup_column.specs.laws.Refusals.{stops, passes}
use Rattle.expression.specs.laws.Refusal.{unless_none}
use Rattle.logup_column.specs.laws.Tested.{tested-lookups, tested-tuples, tested-lists, tested-traces}
use Rattle.logup_terms.specs.inner.ConstraintRow.{TraceInputs}
use Rattle.logup_constraints.specs.inner.Refusals.{trace_tests}

-- the two runs of tests are the definition's
pub entry_is : (m : Limits) (p w : ℕ) (t : Table) (cs : List ℕ) (width : ℕ) (words : List ℕ) (o : Option (List ℕ))
    → table_tests m p t (trace_sizes cs t.traces.shape.height width words) (trace_words p cs words o) (trace_tests t.traces.shape t.lookups.lookups (length cs) width (is_present o))
    ≡ constraints_refusal m p w t cs width words o
unfolding table_tests trace_tests constraints_refusal
entry_is m p w t cs width words o = refl

-- the code's tests, which say what is refused, and the definition's
at_most : (a b : ℕ) → leb a b ≡ not (ltb b a)
at_most a b = go (leb_tells a b)
  where
    go : ((leb a b ≡ true) × (a ≤ b)) ⊎ ((leb a b ≡ false) × (b < a)) → leb a b ≡ not (ltb b a)
    go (inl (e, l)) = e ∙ sym (ap not (le-ltb b a l))
    go (inr (e, l)) = e ∙ sym (ap not (lt-ltb b a l))

beyond : (a b : ℕ) → leb (b + 1) a ≡ not (leb a b)
beyond a b = go (leb_tells (b + 1) a) (leb_tells a b)
  where
    go : ((leb (b + 1) a ≡ true) × (b + 1 ≤ a)) ⊎ ((leb (b + 1) a ≡ false) × (a < b + 1)) → ((leb a b ≡ true) × (a ≤ b)) ⊎ ((leb a b ≡ false) × (b < a))
        → leb (b + 1) a ≡ not (leb a b)
    go (inl (e, l)) (inl (f, m)) = absurd (omega arith)
    go (inl (e, l)) (inr (f, m)) = e ∙ sym (ap not f)
    go (inr (e, l)) (inl (f, m)) = e ∙ sym (ap not f)
    go (inr (e, l)) (inr (f, m)) = absurd (omega arith)

with_some : (h x y : Bool) → x ≡ not y → (not h || x) ≡ not (h && y)
with_some true x y e = e
with_some false x y e = refl

placed_is : (h b : Bool) → cond h b (not b) ≡ not (not (beq h b))
placed_is true true = refl
placed_is true false = refl
placed_is false true = refl
placed_is false false = refl

module _ (s : Shape) (lookups : List ℕ) (k width : ℕ) (present : Bool) where
  abbrev F : Bool → Bool
  F h = not h || leb (2 * lookup_count lookups) (k / 4)

  abbrev G : Bool
  G = rows_enough s lookups

  abbrev H : Bool → Bool
  H h = not h || leb (lookup_count lookups + 1) width

  abbrev J : Bool → Bool
  J h = cond h present (not present)

  abbrev after10 : Option Refusal
  after10 = unless (J (has_lookups lookups)) TerminalMisplaced none

  abbrev after9 : Option Refusal
  after9 = unless (H (has_lookups lookups)) TraceTooSmall after10

  abbrev after8 : Option Refusal
  after8 = unless G RowsMissing after9

  module _ {h : Bool} (eh : h ≡ has_lookups lookups) where
    few_is : {b : Bool} → (h && ltb (k / 4) (2 * lookup_count lookups)) ≡ b → F (has_lookups lookups) ≡ not b
    few_is e = ap F (sym eh) ∙ with_some h _ _ (at_most (2 * lookup_count lookups) (k / 4)) ∙ ap not e

    narrow_is : {b : Bool} → (h && leb width (lookup_count lookups)) ≡ b → H (has_lookups lookups) ≡ not b
    narrow_is e = ap H (sym eh) ∙ with_some h _ _ (beyond width (lookup_count lookups)) ∙ ap not e

    misplaced_is : {b : Bool} → (not (beq h present)) ≡ b → J (has_lookups lookups) ≡ not b
    misplaced_is e = ap J (sym eh) ∙ placed_is h present ∙ ap not e

    pub trace_8 : (h && ltb (k / 4) (2 * lookup_count lookups)) ≡ true → some ChallengesMissing ≡ trace_tests s lookups k width present
    unfolding trace_tests
    trace_8 x = stops (F (has_lookups lookups)) ChallengesMissing after8 (few_is x)

    module _ {r : Bool} (y8 : (h && ltb (k / 4) (2 * lookup_count lookups)) ≡ false) (er : r ≡ G) where
      eighth_passed : {o : Option Refusal} → o ≡ after8 → o ≡ trace_tests s lookups k width present
      unfolding trace_tests
      eighth_passed q = passes (F (has_lookups lookups)) ChallengesMissing after8 (few_is y8) q

      pub trace_9 : r ≡ false → some RowsMissing ≡ trace_tests s lookups k width present
      trace_9 x = eighth_passed (stops G RowsMissing after9 (sym er ∙ x))

      module _ (y9 : r ≡ true) where
        ninth_passed : {o : Option Refusal} → o ≡ after9 → o ≡ trace_tests s lookups k width present
        ninth_passed q = eighth_passed (passes G RowsMissing after9 (sym er ∙ y9) q)

        pub trace_10 : (h && leb width (lookup_count lookups)) ≡ true → some TraceTooSmall ≡ trace_tests s lookups k width present
        trace_10 x = ninth_passed (stops (H (has_lookups lookups)) TraceTooSmall after10 (narrow_is x))

        module _ (y10 : (h && leb width (lookup_count lookups)) ≡ false) where
          tenth_passed : {o : Option Refusal} → o ≡ after10 → o ≡ trace_tests s lookups k width present
          tenth_passed q = ninth_passed (passes (H (has_lookups lookups)) TraceTooSmall after10 (narrow_is y10) q)

          pub trace_11 : (not (beq h present)) ≡ true → some TerminalMisplaced ≡ trace_tests s lookups k width present
          trace_11 x = tenth_passed (stops (J (has_lookups lookups)) TerminalMisplaced none (misplaced_is x))

          pub trace_passed : (not (beq h present)) ≡ false → none ≡ trace_tests s lookups k width present
          trace_passed x = tenth_passed (passes (J (has_lookups lookups)) TerminalMisplaced none (misplaced_is x) refl)

pub present_is : (t : Std.Option LookupTerminal) → is_some t ≡ is_present (terminal_of t)
present_is None = refl
present_is (Some t) = refl

-- what 8 to 11 leave where there is a terminal
pub record TraceReady (s : Shape) (lookups : List ℕ) (challenges width : ℕ) : Type 0 where
  pub some_lookups : has_lookups lookups ≡ true
  pub enough : 8 * lookup_count lookups ≤ challenges
  pub rows : rows_enough s lookups ≡ true
  pub wide : lookup_count lookups + 1 ≤ width

trace-ready : (s : Shape) (lookups : List ℕ) (k width : ℕ) → trace_tests s lookups k width true ≡ none → TraceReady s lookups k width
unfolding trace_tests
trace-ready s lookups k width e =
    let (a, h2) = unless_none (not (has_lookups lookups) || leb (2 * lookup_count lookups) (k / 4)) ChallengesMissing _ e in
    let (b, h3) = unless_none (rows_enough s lookups) RowsMissing _ h2 in
    let (c, h4) = unless_none (not (has_lookups lookups) || leb (lookup_count lookups + 1) width) TraceTooSmall _ h3 in
    let (d, _) = unless_none (cond (has_lookups lookups) true (not true)) TerminalMisplaced _ h4 in
    let h = with_lookups (has_lookups lookups) d in
    let enough : 2 * lookup_count lookups ≤ k / 4 = leb-true (2 * lookup_count lookups) (k / 4) (subst (λ (x : Bool). (not x || leb (2 * lookup_count lookups) (k / 4)) ≡ true) h a) in
    record {
      some_lookups = h;
      enough = omega (arith, enough);
      rows = b;
      wide = leb-true (lookup_count lookups + 1) width (subst (λ (x : Bool). (not x || leb (lookup_count lookups + 1) width) ≡ true) h c);
    }
  where
    with_lookups : (h : Bool) → cond h true (not true) ≡ true → h ≡ true
    with_lookups true e = refl
    with_lookups false e = absurd (true≢false (sym e))

-- what the rows require
pub rows-ready : {m : Limits} {p w : ℕ} {t : Table} {cs : List ℕ} {o : Option (List ℕ)} (width : ℕ) (words e : List ℕ) → Sane m → Field p w
    → Tested m p t (trace_sizes cs t.traces.shape.height width words) (trace_words p cs words o)
    → trace_tests t.traces.shape t.lookups.lookups (length cs) width (is_present o) ≡ none → o ≡ some e
    → Field p w × LookupLists t.lookups.lookups t.lookups.tuples t.lookups.multiplicities t.lookups.flags t.lookups.elements × Evaluable p t.traces t.nodes × Below p cs
    × (8 * lookup_count t.lookups.lookups ≤ length cs) × (lookup_count t.lookups.lookups ≤ 64) × (length t.lookups.tuples ≤ 64)
    × TraceInputs p t.traces.shape.height width (lookup_count t.lookups.lookups) words × Word4 p e
rows-ready {p = p} {t = t} {cs} {o} width words e g f s d eo =
    let q = trace-ready t.traces.shape t.lookups.lookups (length cs) width (subst (λ (o : Option (List ℕ)). trace_tests t.traces.shape t.lookups.lookups (length cs) width (is_present o) ≡ none) eo d) in
    let big : 0 < p = omega (arith, f.modulus.big) in
    let rest = both_right (all_below p cs) (all_below p words && present_below p o) s.lows in
    let end : Below p e = below-tested e big (subst (λ (o : Option (List ℕ)). present_below p o ≡ true) eo (both_right (all_below p words) (present_below p o) rest)) in (
      f,
      tested-lists g s,
      tested-traces g s f.modulus q.some_lookups q.rows,
      below-tested cs big (both_left (all_below p cs) (all_below p words && present_below p o) s.lows),
      q.enough,
      tested-lookups g s,
      tested-tuples g s,
      record {
        below = below-tested words big (both_left (all_below p words) (present_below p o) rest);
        size = eqb-true (length words) (width * t.traces.shape.height * 4) (both_right (eqb (length cs % 4) 0) (eqb (length words) (width * t.traces.shape.height * 4)) s.fits);
        wide = q.wide;
      },
      record { w0 = end.each 0; w1 = end.each 1; w2 = end.each 2; w3 = end.each 3 },
    )
