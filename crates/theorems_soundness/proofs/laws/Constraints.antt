-- With every denominator nonzero and lawful flags, the constraints accept exactly the generated trace and terminal. SPECIFICATION, section
-- 5.
use Rattle.std.specs.Prelude.{◌≡◌, ◌↔◌, Bool, false, cond, ◌&&◌, ◌||◌, not, List, ℕ, ◌+◌, ◌*◌, ◌/◌, ◌%◌, ◌<◌, T, eqb, take, drop}
use Rattle.std.proofs.Math.Path.{refl, ap₂}
use Rattle.std.proofs.Common.{sym, ap, ◌∙◌, subst, ⊎_elim, arith, le_refl, le_of_eq, le→leb, eqb→eq, take_at}
use Rattle.std.proofs.Math.Bool.{true}
use Rattle.std.proofs.Math.Option.{none, some}
use Rattle.std.proofs.Math.Dec.{leb, ltb→lt}
use Rattle.std.proofs.Math.ListN.{length}
use Rattle.lists.specs.Count.{joined, or_else}
use Rattle.lists.specs.laws.Count.{or_else_none, and_left, and_right, of_true, true_of, eqb_true, eq_of_eqb}
use Rattle.lists.specs.laws.Tests.{both_left, both_right}
use Rattle.field.specs.Modulus.{Modulus, Certificate}
use Rattle.field.specs.Known.{prime_of, w_of}
use Rattle.field.specs.laws.Extension.{h}
use Rattle.field.proofs.laws.Known.{modulus_of, certificate_of}
use Rattle.expression.specs.Choices.{limits_of}
use Rattle.expression.specs.Words.{all_below}
use Rattle.expression.specs.Node.{node_count}
use Rattle.expression.specs.Values.{row_values}
use Rattle.expression.specs.Requires.{Below}
use Rattle.expression.specs.Tests.{degrees_low}
use Rattle.expression.specs.laws.Below.{below-tested}
use Rattle.expression.specs.laws.Refusal.{unless_none}
use Rattle.expression.specs.declared.sizes.Limits.{Limits}
use Rattle.expression.specs.declared.refusal.Refusal.TheVariants.{SizeAtOdds, WordTooLarge, NodeInvalid, DegreeTooHigh, LookupInvalid, ChallengesMissing, RowsMissing, TraceTooSmall, TerminalMisplaced}
use Rattle.lookup.specs.Lookups.{lookup_count}
use Rattle.lookup.specs.Table.{Table}
use Rattle.lookup.specs.Tests.{sizes, words_below, known, lists_agree, in_position, has_lookups, rows_enough}
use Rattle.logup.specs.Rule.{table_under}
use Rattle.logup.specs.Rows.{place, fraction_at, row_sum, accumulator, row_words, trace, used, first_fault}
use Rattle.logup.specs.Constraints.{trace_sizes, trace_words, constraints_refusal, verdict, Regular, IsGenerated}
use Rattle.logup.specs.Generation.{Outcome, Generation, terminal, written, rows_outcome, entry_outcome, generation, generation_at, accepts, terminal_words}
use Rattle.logup.specs.Ledger.{Element}
use Rattle.logup.proofs.laws.Rule.{constraints_refusal_under}
use Rattle.logup.proofs.laws.Choices.{generation-known, verdict-known}
use Rattle.theorems_soundness.specs.Constraints.{Verdict, GeneratedPasses, OnlyGeneratedPasses, ExactlyTheGeneratedPass, KnownConstraints}
use Rattle.theorems_soundness.proofs.laws.Words.{and_of, or_right, all_below_of, append-each, joined-each, element-each}
use Rattle.theorems_soundness.proofs.laws.Elements.{element-sum}
use Rattle.theorems_soundness.proofs.laws.Columns.{fraction-element}
use Rattle.theorems_soundness.proofs.laws.Entered.{unless_of, made, enough-rows, Passed, passed}
use Rattle.theorems_soundness.proofs.laws.Answers.{Accepted, accepted_of}
use Rattle.theorems_soundness.proofs.laws.Passes.{exactly_generated}
use Rattle.theorems_soundness.proofs.laws.Layout.{trace-length, trace-used, trace-generated, generated_is_trace}

present : (b : Bool) → T (cond b true false) → T b
present true t = tt
present false t = t

given : (b : Bool) → T b → T (cond b true false)
given true t = tt
given false t = t

-- a trace of any width and a terminal
module _ (m : Limits) (p w : ℕ) (M : Modulus p) (C : Certificate p w) (t : Table) (challenges : List ℕ) (width : ℕ) (words e : List ℕ) (four : length e ≡ 4) where
  abbrev lists : List ℕ
  lists = t.lookups.lookups

  abbrev n : ℕ
  n = lookup_count lists

  abbrev height : ℕ
  height = t.traces.shape.height

  abbrev values : ℕ → List ℕ
  values = row_values p t.nodes t.traces

  -- what the constraints' tests say
  record Tested : Type 0 where
    size : length words ≡ width * height * 4
    words_small : Below p words
    terminal_small : Element p e
    rows : 0 < height

  tested : constraints_refusal m p w t challenges width words (some e) ≡ none → Tested
  unfolding constraints_refusal
  tested tests =
      let a : _ = unless_none (sizes m t && trace_sizes challenges height width words) SizeAtOdds _ tests in
      let b : _ = unless_none (words_below p t && trace_words p challenges words (some e)) WordTooLarge _ a.1 in
      let c : _ = unless_none (known t) NodeInvalid _ b.1 in
      let d : _ = unless_none (degrees_low m t.nodes) DegreeTooHigh _ c.1 in
      let f : _ = unless_none (lists_agree (node_count t.nodes) t.lookups && in_position lists) LookupInvalid _ d.1 in
      let g : _ = unless_none (not (has_lookups lists) || leb (2 * n) (length challenges / 4)) ChallengesMissing _ f.1 in
      let k : _ = unless_none (rows_enough t.traces.shape lists) RowsMissing _ g.1 in
      let q : _ = unless_none (not (has_lookups lists) || leb (n + 1) width) TraceTooSmall _ k.1 in
      let r : _ = unless_none (cond (has_lookups lists) true false) TerminalMisplaced none q.1 in
      let size? : _ = both_right (sizes m t) (trace_sizes challenges height width words) a.0 in
      let words? : _ =
      both_right (all_below p challenges) (all_below p words && all_below p e) (both_right (words_below p t) (trace_words p challenges words (some e)) b.0) in
      let small : Below p e = below-tested e (h p w C) (both_right (all_below p words) (all_below p e) words?) in
      record {
        size = eq_of_eqb (length words) (width * height * 4) (both_right (eqb (length challenges % 4) 0) (eqb (length words) (width * height * 4)) size?);
        words_small = below-tested words (h p w C) (both_left (all_below p words) (all_below p e) words?);
        terminal_small = record { four = four; below = record { w0 = small.each 0; w1 = small.each 1; w2 = small.each 2; w3 = small.each 3 } };
        rows = enough-rows t.traces.shape lists (present (has_lookups lists) (of_true r.0)) (of_true k.0);
      }

  module _ (regular : (r i : ℕ) → r < height → i < n → Regular p w (place p w t.lookups challenges values r i)) where
    -- the constraints accept no other trace and terminal than the generated ones
    generated_of_verdict : verdict m p w t challenges width words (some e) ≡ none → IsGenerated p w t.lookups challenges values height width words e
    unfolding verdict
    generated_of_verdict v =
        let (tests, run) = or_else_none v in
        let k : Tested = tested tests in
        (exactly_generated p w M C t.lookups challenges values height width words e k.words_small k.terminal_small k.rows regular).0 run

    -- and they accept these, where the tests of the entry point do
    verdict_of_generated : constraints_refusal m p w t challenges width words (some e) ≡ none → IsGenerated p w t.lookups challenges values height width words e
        → verdict m p w t challenges width words (some e) ≡ none
    unfolding verdict
    verdict_of_generated tests g =
        let k : Tested = tested tests in
        ap₂ or_else tests
        ((exactly_generated p w M C t.lookups challenges values height width words e k.words_small k.terminal_small k.rows regular).1 g)

-- both entry points, at a trace of the generated trace's width
module _ (m : Limits) (p w : ℕ) (M : Modulus p) (C : Certificate p w) (t : Table) (challenges buffer : List ℕ)
    (accepted : T (accepts (generation m p w t challenges buffer).answer)) (lookups : T (has_lookups t.lookups.lookups)) where
  abbrev ls : List ℕ
  ls = t.lookups.lookups

  abbrev k : ℕ
  k = lookup_count ls

  abbrev rows : ℕ
  rows = t.traces.shape.height

  abbrev vs : ℕ → List ℕ
  vs = row_values p t.nodes t.traces

  abbrev whole : List ℕ
  whole = trace p w t.lookups challenges vs rows

  abbrev last : List ℕ
  last = accumulator p w t.lookups challenges vs rows

  acc : Accepted m p w t challenges buffer (generation m p w t challenges buffer).answer
  acc = accepted_of m p w t challenges buffer accepted

  tests : Passed m p w t challenges buffer
  tests = passed m p w t challenges buffer acc.entered

  some_lookups : 0 < k
  unfolding has_lookups
  some_lookups = ltb→lt 0 k lookups

  fine : first_fault p w t.lookups challenges vs rows ≡ none
  fine = ⊎_elim (λ q. absurd (omega (arith, some_lookups, q.0))) (λ q. q.0) acc.either

  -- what generation gave
  pub outcome_is : generation m p w t challenges buffer ≡ record { answer = terminal last; buffer = written whole (used ls rows) buffer }
  unfolding generation entry_outcome rows_outcome
  outcome_is = rw (acc.entered, true_of (has_lookups ls) lookups, fine) refl

  trace-below : Below p whole
  unfolding trace row_words accumulator fraction_at
  trace-below =
      record {
        each =
            joined-each p (row_words p w t.lookups challenges vs) 0 rows (h p w C)
            (λ r.
            append-each p (accumulator p w t.lookups challenges vs r) (joined (fraction_at p w t.lookups challenges vs r) 0 k)
            (element-each p (accumulator p w t.lookups challenges vs r) (h p w C) (element-sum p w C (row_sum p w t.lookups challenges vs) r))
            (joined-each p (fraction_at p w t.lookups challenges vs r) 0 k (h p w C)
            (λ i. element-each p (fraction_at p w t.lookups challenges vs r i) (h p w C) (fraction-element p w C (place p w t.lookups challenges vs r i)))));
      }

  last-element : Element p last
  unfolding accumulator
  last-element = element-sum p w C (row_sum p w t.lookups challenges vs) rows

  -- the generated trace and terminal pass the constraints' tests 1 to 11
  abbrev size? : Bool
  size? = eqb (length whole) ((k + 1) * rows * 4)

  abbrev whole? : Bool
  whole? = eqb (length challenges % 4) 0

  abbrev low? : Bool
  low? = all_below p challenges

  abbrev pairs? : Bool
  pairs? = leb (2 * k) (length challenges / 4)

  tests_pass : constraints_refusal m p w t challenges (k + 1) whole (some last) ≡ none
  unfolding constraints_refusal
  tests_pass =
      unless_of (sizes m t && (whole? && size?)) SizeAtOdds _
      (and_of (sizes m t) (whole? && size?) (and_left (sizes m t) whole? tests.one)
      (and_of whole? size? (and_right (sizes m t) whole? tests.one) (of_true size_is)))
      (unless_of (words_below p t && (low? && (all_below p whole && all_below p last))) WordTooLarge _
      (and_of (words_below p t) (low? && (all_below p whole && all_below p last)) (and_left (words_below p t) low? tests.two)
      (and_of low? (all_below p whole && all_below p last) (and_right (words_below p t) low? tests.two)
      (and_of (all_below p whole) (all_below p last) (all_below_of p whole trace-below)
      (all_below_of p last (record { each = element-each p last (h p w C) last-element })))))
      (unless_of (known t) NodeInvalid _ tests.three
      (unless_of (degrees_low m t.nodes) DegreeTooHigh _ tests.four
      (unless_of (lists_agree (node_count t.nodes) t.lookups && in_position ls) LookupInvalid _ tests.five
      (unless_of (not (has_lookups ls) || pairs?) ChallengesMissing _ (or_right (not (has_lookups ls)) pairs? enough)
      (unless_of (rows_enough t.traces.shape ls) RowsMissing _ tests.nine
      (unless_of (not (has_lookups ls) || leb (k + 1) (k + 1)) TraceTooSmall _
      (or_right (not (has_lookups ls)) (leb (k + 1) (k + 1)) (le→leb (k + 1) (k + 1) (le_refl (k + 1))))
      (unless_of (cond (has_lookups ls) true false) TerminalMisplaced none (given (has_lookups ls) lookups) refl))))))))
    where
      size_is : size? ≡ true
      size_is = eqb_true {a = length whole} {b = (k + 1) * rows * 4} (trace-length p w C t.lookups challenges vs rows ∙ omega arith)

      enough : T pairs?
      enough =
          le→leb (2 * k) (length challenges / 4)
          (le_of_eq (sym (eqb→eq (length challenges / 4) (2 * k) (made (has_lookups ls) (eqb (length challenges / 4) (2 * k)) lookups tests.eight))))

  module _ (regular : (r i : ℕ) → r < rows → i < k → Regular p w (place p w t.lookups challenges vs r i)) where
    passes : verdict m p w t challenges (k + 1) whole (some last) ≡ none
    passes =
        verdict_of_generated m p w M C t challenges (k + 1) whole last last-element.four regular tests_pass
        (trace-generated p w C t.lookups challenges vs rows)

    only : (words e : List ℕ) → length e ≡ 4 → verdict m p w t challenges (k + 1) words (some e) ≡ none → (words ≡ whole) × (e ≡ last)
    unfolding verdict
    only words e four v =
        let g : IsGenerated p w t.lookups challenges vs rows (k + 1) words e =
        generated_of_verdict m p w M C t challenges (k + 1) words e four regular v in (
          generated_is_trace p w C t.lookups challenges vs rows words e
              ((tested m p w M C t challenges (k + 1) words e four (or_else_none v).0).size ∙ omega arith) g,
          g.last,
        )

    -- "exactly the generated trace and terminal pass": the used part of generation's buffer, and its answer
    exactly : (words e : List ℕ) → length e ≡ 4
        → (verdict m p w t challenges (k + 1) words (some e) ≡ none)
        ↔ ((words ≡ take (used ls rows) (generation m p w t challenges buffer).buffer) × (terminal e ≡ (generation m p w t challenges buffer).answer))
    exactly words e four = (
      λ v. let q = only words e four v in (q.0 ∙ sym buffer_is, ap terminal q.1 ∙ sym answer_is),
      λ q.
          ap₂ (λ (a b : List ℕ). verdict m p w t challenges (k + 1) a (some b)) (q.0 ∙ buffer_is) (ap terminal_words (q.1 ∙ answer_is)) ∙ passes,
    )
      where
        answer_is : (generation m p w t challenges buffer).answer ≡ terminal last
        answer_is = ap (λ (o : Outcome). o.answer) outcome_is

        buffer_is : take (used ls rows) (generation m p w t challenges buffer).buffer ≡ whole
        buffer_is =
            ap (λ (o : Outcome). take (used ls rows) o.buffer) outcome_is
            ∙ take_at whole (drop (used ls rows) buffer) (used ls rows) (trace-used p w C t.lookups challenges vs rows)

-- under a rule, for every prime and value of X⁴ that make a field: of the table as the rule reads it, in which the tests find the same
module _ (m : Limits) (p w : ℕ) (M : Modulus p) (C : Certificate p w) (rule : ℕ) where
  abbrev generation_under : Generation
  generation_under t = generation m p w (table_under rule t)

  abbrev verdict_under : Verdict
  verdict_under t = verdict m p w (table_under rule t)

  pub generated-passes : GeneratedPasses m p w rule verdict_under
  generated-passes t challenges width words e four regular none_refused =
      verdict_of_generated m p w M C (table_under rule t) challenges width words e four regular
      (constraints_refusal_under rule m p w t challenges width words (some e) ∙ none_refused)

  pub only-generated-passes : OnlyGeneratedPasses p w rule verdict_under
  only-generated-passes t challenges width words e four regular =
      generated_of_verdict m p w M C (table_under rule t) challenges width words e four regular

  pub exactly_the_generated_pass : ExactlyTheGeneratedPass p w rule generation_under verdict_under
  exactly_the_generated_pass t challenges buffer accepted lookups regular =
      exactly m p w M C (table_under rule t) challenges buffer accepted lookups regular

-- and so in each field, at the entry points
pub logup_constraints : KnownConstraints
logup_constraints c rule k r =
    let m = limits_of c.profile in
    let p = prime_of c.field in
    let w = w_of c.field in
    let M = modulus_of c.field in
    let C = certificate_of c.field in
    let all : Generation → Verdict → Type 0 =
    λ g v. GeneratedPasses m p w rule v × OnlyGeneratedPasses p w rule v × ExactlyTheGeneratedPass p w rule g v in
    subst (all (generation_at c rule)) (sym (verdict-known c rule k r))
    (subst (λ (g : Generation). all g (verdict_under m p w M C rule)) (sym (generation-known c rule k r))
    (generated-passes m p w M C rule, only-generated-passes m p w M C rule, exactly_the_generated_pass m p w M C rule))
