-- Generation's tests, one by one: none refuses exactly where all pass. The same of a table's own tests, by which it has a ledger.
use Rattle.std.specs.Prelude.{◌≡◌, refl, Bool, false, ◌&&◌, ◌||◌, not, List, ℕ, ◌*◌, ◌/◌, ◌%◌, ◌<◌, ltb, length}
use Rattle.std.proofs.Common.{sym, ltb→lt}
use Rattle.std.proofs.Math.Path.{subst}
use Rattle.std.proofs.Math.Bool.{true}
use Rattle.std.proofs.Math.Option.{Option, none, some}
use Rattle.std.proofs.Math.Dec.{T, eqb, leb}
use Rattle.lists.specs.laws.Count.{and_left, of_true}
use Rattle.expression.specs.Words.{all_below}
use Rattle.expression.specs.Refusal.{nothing_refused, unless}
use Rattle.expression.specs.Node.{node_count}
use Rattle.expression.specs.Tests.{degrees_low}
use Rattle.expression.specs.laws.Refusal.{unless_none}
use Rattle.expression.specs.declared.sizes.Limits.{Limits}
use Rattle.expression.specs.declared.sizes.Shape.{Shape}
use Rattle.expression.specs.declared.refusal.Refusal.{Refusal}
use Rattle.expression.specs.declared.refusal.Refusal.TheVariants.{SizeAtOdds, WordTooLarge, NodeInvalid, DegreeTooHigh, LookupInvalid, ChallengesMissing, RowsMissing, TraceTooSmall}
use Rattle.lookup.specs.Lookups.{lookup_count}
use Rattle.lookup.specs.Table.{Table}
use Rattle.lookup.specs.Tests.{sizes, words_below, known, lists_agree, in_position, has_lookups, preprocessed_enough, rows_enough}
use Rattle.logup.specs.Rows.{used}
use Rattle.logup.specs.Generation.{entry_refusal}
use Rattle.logup.specs.Ledger.{has_ledger}
use Rattle.theorems_soundness.proofs.laws.Words.{and_of}

-- a test that passed leaves what comes after it
pub unless_of : (b : Bool) (f : Refusal) (o : Option Refusal) → T b → o ≡ none → unless b f o ≡ none
unless_of true f o t e = e
unless_of false f o t e = absurd t

-- a test that is made only where there are lookups
pub made : (b x : Bool) → T b → T (not b || x) → T x
made true x t r = r
made false x t r = absurd t

pub enough-rows : (s : Shape) (lookups : List ℕ) → T (has_lookups lookups) → T (rows_enough s lookups) → 0 < s.height
unfolding rows_enough
enough-rows s lookups l r =
    ltb→lt 0 s.height
    (and_left (ltb 0 s.height) (preprocessed_enough s) (made (has_lookups lookups) (ltb 0 s.height && preprocessed_enough s) l r))

module _ (m : Limits) (p w : ℕ) (t : Table) (challenges buffer : List ℕ) where
  abbrev lists : List ℕ
  lists = t.lookups.lookups

  abbrev n : ℕ
  n = lookup_count t.lookups.lookups

  pub record Passed : Type 0 where
    pub one : T (sizes m t && eqb (length challenges % 4) 0)
    pub two : T (words_below p t && all_below p challenges)
    pub three : T (known t)
    pub four : T (degrees_low m t.nodes)
    pub five : T (lists_agree (node_count t.nodes) t.lookups && in_position lists)
    pub eight : T (not (has_lookups lists) || eqb (length challenges / 4) (2 * n))
    pub nine : T (rows_enough t.traces.shape lists)
    pub ten : T (not (has_lookups lists) || leb (used lists t.traces.shape.height) (length buffer))

  pub passed : entry_refusal m p w t challenges buffer ≡ none → Passed
  unfolding entry_refusal
  passed entered =
      let a : _ = unless_none (sizes m t && eqb (length challenges % 4) 0) SizeAtOdds _ entered in
      let b : _ = unless_none (words_below p t && all_below p challenges) WordTooLarge _ a.1 in
      let c : _ = unless_none (known t) NodeInvalid _ b.1 in
      let d : _ = unless_none (degrees_low m t.nodes) DegreeTooHigh _ c.1 in
      let e : _ = unless_none (lists_agree (node_count t.nodes) t.lookups && in_position lists) LookupInvalid _ d.1 in
      let f : _ = unless_none (not (has_lookups lists) || eqb (length challenges / 4) (2 * n)) ChallengesMissing _ e.1 in
      let g : _ = unless_none (rows_enough t.traces.shape lists) RowsMissing _ f.1 in
      let h : _ = unless_none (not (has_lookups lists) || leb (used lists t.traces.shape.height) (length buffer)) TraceTooSmall none g.1 in
      record { one = of_true a.0; two = of_true b.0; three = of_true c.0; four = of_true d.0; five = of_true e.0; eight = of_true f.0; nine = of_true g.0; ten = of_true h.0 }

  pub entered : Passed → entry_refusal m p w t challenges buffer ≡ none
  unfolding entry_refusal
  entered q =
      unless_of (sizes m t && eqb (length challenges % 4) 0) SizeAtOdds _ q.one
      (unless_of (words_below p t && all_below p challenges) WordTooLarge _ q.two
      (unless_of (known t) NodeInvalid _ q.three
      (unless_of (degrees_low m t.nodes) DegreeTooHigh _ q.four
      (unless_of (lists_agree (node_count t.nodes) t.lookups && in_position lists) LookupInvalid _ q.five
      (unless_of (not (has_lookups lists) || eqb (length challenges / 4) (2 * n)) ChallengesMissing _ q.eight
      (unless_of (rows_enough t.traces.shape lists) RowsMissing _ q.nine
      (unless_of (not (has_lookups lists) || leb (used lists t.traces.shape.height) (length buffer)) TraceTooSmall none q.ten refl)))))))

-- the tests of a table that has a ledger
pub record Ledgered (m : Limits) (p : ℕ) (t : Table) : Type 0 where
  pub one : T (sizes m t)
  pub two : T (words_below p t)
  pub three : T (known t)
  pub four : T (degrees_low m t.nodes)
  pub five : T (lists_agree (node_count t.nodes) t.lookups && in_position t.lookups.lookups)
  pub nine : T (rows_enough t.traces.shape t.lookups.lookups)

none_refused : (o : Option Refusal) → T (nothing_refused o) → o ≡ none
none_refused none t = refl
none_refused (some f) t = absurd t

module _ (m : Limits) (p : ℕ) (t : Table) where
  pub ledgered : T (has_ledger m p t) → Ledgered m p t
  unfolding has_ledger
  ledgered ok =
      let a : _ = unless_none (sizes m t && true) SizeAtOdds _ (none_refused _ ok) in
      let b : _ = unless_none (words_below p t && true) WordTooLarge _ a.1 in
      let c : _ = unless_none (known t) NodeInvalid _ b.1 in
      let d : _ = unless_none (degrees_low m t.nodes) DegreeTooHigh _ c.1 in
      let e : _ = unless_none (lists_agree (node_count t.nodes) t.lookups && in_position t.lookups.lookups) LookupInvalid _ d.1 in
      let g : _ = unless_none (rows_enough t.traces.shape t.lookups.lookups) RowsMissing none e.1 in
      record {
        one = and_left (sizes m t) true (of_true a.0);
        two = and_left (words_below p t) true (of_true b.0);
        three = of_true c.0;
        four = of_true d.0;
        five = of_true e.0;
        nine = of_true g.0;
      }

  pub ledger_of : Ledgered m p t → T (has_ledger m p t)
  unfolding has_ledger
  ledger_of q =
      subst (λ (o : Option Refusal). T (nothing_refused o))
      (sym (unless_of (sizes m t && true) SizeAtOdds _ (and_of (sizes m t) true q.one tt)
      (unless_of (words_below p t && true) WordTooLarge _ (and_of (words_below p t) true q.two tt)
      (unless_of (known t) NodeInvalid _ q.three
      (unless_of (degrees_low m t.nodes) DegreeTooHigh _ q.four
      (unless_of (lists_agree (node_count t.nodes) t.lookups && in_position t.lookups.lookups) LookupInvalid _ q.five
      (unless_of (rows_enough t.traces.shape t.lookups.lookups) RowsMissing none q.nine refl)))))))
      tt
