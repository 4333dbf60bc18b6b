-- The tests of the entry point: what they answer, and what they leave of a table that passed them.
use mathlib.Core.Path.{◌≡◌, refl, sym, ap, ap₂, ◌∙◌, subst}
use mathlib.Core.Bool.{Bool, true, false, ◌&&◌, ◌||◌, not}
use mathlib.Core.Option.{Option, none, some}
use mathlib.Core.List.{List}
use Prim.Native.Nat.{ℕ, ◌*◌, ◌/◌, ◌%◌, ◌≤◌}
use native.Mathlib.Omega.{arith}
use lib.Dec.{eqb, leb, ltb}
use lib.ListN.{length}
use borrow.Author.Tests.{eqb-true, leb-true, ltb-true, ltb-false, le-leb, lt-leb}
use Rattle.expression.specs.Words.{all_below}
use Rattle.expression.specs.Refusal.{unless}
use Rattle.expression.specs.Limits.{Sane}
use Rattle.expression.specs.Requires.{Below, Evaluable}
use Rattle.expression.specs.laws.Below.{below-tested}
use Rattle.expression.specs.declared.sizes.Shape.{Shape}
use Rattle.expression.specs.declared.sizes.Limits.{Limits}
use Rattle.expression.specs.declared.refusal.Refusal.{Refusal}
use Rattle.expression.specs.declared.refusal.Refusal.TheVariants.{ChallengesMissing, RowsMissing, TraceTooSmall}
use Rattle.lookup.specs.Lookups.{lookup_count}
use Rattle.lookup.specs.Table.{Table}
use Rattle.lookup.specs.Tests.{has_lookups, rows_enough}
use Rattle.logup.specs.Rows.{used}
use Rattle.logup.specs.Generation.{entry_refusal}
use Rattle.logup_column.specs.inner.Refusals.{table_tests}
use Rattle.logup_column.specs.inner.Requires.{LookupLists, Field}
use Rattle.logup_column.specs.inner.Tested.{Tested}
use Rattle.logup_column.specs.laws.Refusals.{stops, passes}
use Rattle.expression.specs.laws.Refusal.{unless_none}
use Rattle.logup_column.specs.laws.Tested.{tested-height, tested-lookups, tested-tuples, tested-lists, tested-traces}
use Rattle.logup_generation.specs.inner.Refusals.{trace_tests}

pub entry_is : (m : Limits) (p w : ℕ) (t : Table) (cs buffer : List ℕ)
    → table_tests m p t (eqb (length cs % 4) 0) (all_below p cs) (trace_tests t.traces.shape t.lookups.lookups (length cs) (length buffer)) ≡ entry_refusal m p w t cs buffer
unfolding table_tests trace_tests entry_refusal
entry_is m p w t cs buffer = refl

not-not : (b : Bool) → not (not b) ≡ b
not-not true = refl
not-not false = refl

not-ltb : (a b : ℕ) → not (ltb a b) ≡ leb b a
not-ltb a b = go (ltb a b) refl
  where
    go : (t : Bool) → ltb a b ≡ t → not t ≡ leb b a
    go true e = sym (lt-leb b a (ltb-true a b e))
    go false e = sym (le-leb b a (ltb-false a b e))

-- what 8 to 10 leave where there are lookups
pub record TraceReady (s : Shape) (lookups : List ℕ) (challenges room : ℕ) : Type 0 where
  pub enough : 8 * lookup_count lookups ≤ challenges
  pub rows : rows_enough s lookups ≡ true
  pub fits : used lookups s.height ≤ room

pub trace-ready : (s : Shape) (lookups : List ℕ) (challenges room : ℕ) → has_lookups lookups ≡ true → trace_tests s lookups challenges room ≡ none → TraceReady s lookups challenges room
unfolding trace_tests
trace-ready s lookups challenges room h e =
    let (a, h2) = unless_none (not (has_lookups lookups) || eqb (challenges / 4) (2 * lookup_count lookups)) ChallengesMissing _ e in
    let (b, h3) = unless_none (rows_enough s lookups) RowsMissing _ h2 in
    let (c, _) = unless_none (not (has_lookups lookups) || leb (used lookups s.height) room) TraceTooSmall _ h3 in
    let k : challenges / 4 ≡ 2 * lookup_count lookups = eqb-true (challenges / 4) (2 * lookup_count lookups) (subst (λ (x : Bool). (not x || eqb (challenges / 4) (2 * lookup_count lookups)) ≡ true) h a) in
    record {
      enough = omega (arith, k);
      rows = b;
      fits = leb-true (used lookups s.height) room (subst (λ (x : Bool). (not x || leb (used lookups s.height) room) ≡ true) h c);
    }

module _ (s : Shape) (lookups : List ℕ) (n room : ℕ) where
  abbrev F : Bool → Bool
  F h = not h || eqb (n / 4) (2 * lookup_count lookups)

  -- the code's tests say the opposite
  not-F : (h : Bool) → not (h && not (eqb (n / 4) (2 * lookup_count lookups))) ≡ F h
  not-F true = not-not (eqb (n / 4) (2 * lookup_count lookups))
  not-F false = refl

  abbrev G : Bool
  G = rows_enough s lookups

  abbrev H : Bool → ℕ → Bool
  H h u = not h || leb u room

  not-H : (h : Bool) (u : ℕ) → not (h && ltb room u) ≡ H h u
  not-H true u = not-ltb room u
  not-H false u = refl

  abbrev after9 : Option Refusal
  after9 = unless (H (has_lookups lookups) (used lookups s.height)) TraceTooSmall none

  abbrev after8 : Option Refusal
  after8 = unless G RowsMissing after9

  module _ {h : Bool} (eh : h ≡ has_lookups lookups) where
    pub trace_8 : (h && not (eqb (n / 4) (2 * lookup_count lookups))) ≡ true → some ChallengesMissing ≡ trace_tests s lookups n room
    unfolding trace_tests
    trace_8 x = stops (F (has_lookups lookups)) ChallengesMissing after8 (ap F (sym eh) ∙ sym (not-F h) ∙ ap not x)

    module _ {r : Bool} (y8 : (h && not (eqb (n / 4) (2 * lookup_count lookups))) ≡ false) (er : r ≡ G) where
      eighth_passed : {o : Option Refusal} → o ≡ after8 → o ≡ trace_tests s lookups n room
      unfolding trace_tests
      eighth_passed k = passes (F (has_lookups lookups)) ChallengesMissing after8 (ap F (sym eh) ∙ sym (not-F h) ∙ ap not y8) k

      pub trace_9 : r ≡ false → some RowsMissing ≡ trace_tests s lookups n room
      trace_9 x = eighth_passed (stops G RowsMissing after9 (sym er ∙ x))

      module _ {u : ℕ} (y9 : r ≡ true) (eu : u ≡ used lookups s.height) where
        ninth_passed : {o : Option Refusal} → o ≡ after9 → o ≡ trace_tests s lookups n room
        ninth_passed k = eighth_passed (passes G RowsMissing after9 (sym er ∙ y9) k)

        pub trace_10 : (h && ltb room u) ≡ true → some TraceTooSmall ≡ trace_tests s lookups n room
        trace_10 x = ninth_passed (stops (H (has_lookups lookups) (used lookups s.height)) TraceTooSmall none (ap₂ H (sym eh) (sym eu) ∙ sym (not-H h u) ∙ ap not x))

        pub trace_passed : (h && ltb room u) ≡ false → none ≡ trace_tests s lookups n room
        trace_passed x = ninth_passed (passes (H (has_lookups lookups) (used lookups s.height)) TraceTooSmall none (ap₂ H (sym eh) (sym eu) ∙ sym (not-H h u) ∙ ap not x) refl)

-- what the rows require
pub rows-ready : {m : Limits} {p w : ℕ} {t : Table} {cs : List ℕ} (room : ℕ) → Sane m → Field p w → Tested m p t (eqb (length cs % 4) 0) (all_below p cs) → has_lookups t.lookups.lookups ≡ true
    → trace_tests t.traces.shape t.lookups.lookups (length cs) room ≡ none
    → Field p w × LookupLists t.lookups.lookups t.lookups.tuples t.lookups.multiplicities t.lookups.flags t.lookups.elements × Evaluable p t.traces t.nodes × Below p cs
    × (8 * lookup_count t.lookups.lookups ≤ length cs) × (t.traces.shape.height ≤ 1048576) × (lookup_count t.lookups.lookups ≤ 64) × (length t.lookups.tuples ≤ 64) × (used t.lookups.lookups t.traces.shape.height ≤ room)
rows-ready {t = t} {cs} room g f s h d =
    let o = trace-ready t.traces.shape t.lookups.lookups (length cs) room h d in
    (f, tested-lists g s, tested-traces g s f.modulus h o.rows, below-tested cs (omega (arith, f.modulus.big)) s.lows, o.enough, tested-height g s, tested-lookups g s, tested-tuples g s, o.fits)
