-- The theorems about constraints and about the paper's sums at work in each field and under each rule: a table of two rows meets their hypotheses.
use Rattle.std.specs.Prelude.{ℕ, zero, suc, ◌<◌, ◌≡◌, refl, ◌≢◌, Bool, true, false, not, List, T, eqb}
use Rattle.std.proofs.Common.{sym, ap, ◌∙◌, subst, arith, lt_of_lt_of_le, lit<, lit≤}
use Rattle.std.proofs.Math.Option.{none, some}
use Rattle.lists.specs.laws.Same.{same_list-eq}
use Rattle.lists.specs.laws.Count.{and_left, and_right, every_at, of_true, true_of, eq_of_eqb}
use Rattle.field.specs.Element.{at, lift, is_zero}
use Rattle.field.specs.Modulus.{Certificate}
use Rattle.field.specs.Known.{known_field, prime_of, w_of}
use Rattle.field.specs.Extension.{el}
use Rattle.field.proofs.laws.Known.{modulus_of, certificate_of}
use Rattle.expression.specs.Choices.{choices_of, known_rule}
use Rattle.lookup.specs.Table.{Table, values_of}
use Rattle.logup.specs.Rule.{table_under}
use Rattle.logup.specs.Column.{branches, denom, fault}
use Rattle.logup.specs.Rows.{place, fraction_at, accumulator}
use Rattle.logup.specs.Generation.{Outcome, Generation, terminal, generation, accepts, terminal_words}
use Rattle.logup.specs.Constraints.{Regular, rows_verdict}
use Rattle.logup.specs.Ledger.{has_ledger, entries}
use Rattle.logup.proofs.laws.Choices.{generation-known}
use Rattle.theorems_soundness.specs.Paper.{paper_entries, paper_fraction, paper_sum, Faultless, TerminalIsTheSum, TerminalAtPairIsTheSum}
use Rattle.theorems_soundness.specs.Constraints.{AllRegular, HoldsGenerated, GeneratedPasses, OnlyGeneratedPasses, ExactlyTheGeneratedPass}
use Rattle.theorems_soundness.specs.Vanishing.{AcceptedExactly}
use Rattle.theorems_soundness.proofs.laws.Choices.{prime_least, in_each_field, known_of, rule_1}
use Rattle.theorems_soundness.proofs.laws.Elements.{element-lift}
use Rattle.theorems_soundness.proofs.laws.Vanishing.{passes_exactly, logup_vanishing}
use Rattle.theorems_soundness.proofs.laws.Constraints.{outcome_is, logup_constraints}
use Rattle.theorems_soundness.proofs.laws.Terminals.{fraction_is_the_sum, accumulator_is_the_sum}
use Rattle.theorems_soundness.proofs.laws.Paper.{found, logup_terminals}
use Rattle.theorems_soundness.proofs.laws.Accepted.{logup_ledgers}
use Rattle.theorems_soundness.proofs.laws.Cases.{forwards, generate_in, constraints_in, limits, challenges, buffer, answer, end, words, spot, regular_on, trace-holds}

not_true : (b : Bool) → T (not b) → b ≡ false
not_true true t = absurd t
not_true false t = refl

one-branch : (field rule r k : ℕ) → k < branches (spot field rule r 0) → k < 1
unfolding branches place
one-branch field rule r k l = l

module _ (field : ℕ) (ok : T (known_field field)) (rule : ℕ) (by : T (known_rule rule)) where
  abbrev p : ℕ
  p = prime_of field

  abbrev w : ℕ
  w = w_of field

  abbrev C : Certificate p w
  C = certificate_of field

  abbrev read : Table
  read = table_under rule forwards

  -- the theorems in this field, within the cabinet's limits and by this rule
  constraints : GeneratedPasses limits p w rule (constraints_in field rule) × OnlyGeneratedPasses p w rule (constraints_in field rule)
      × ExactlyTheGeneratedPass p w rule (generate_in field rule) (constraints_in field rule)
  constraints = logup_constraints (choices_of field 1) rule (known_of field ok) by

  vanishing : AcceptedExactly limits p w rule (constraints_in field rule)
  vanishing = logup_vanishing (choices_of field 1) rule (known_of field ok) by

  terminals : TerminalIsTheSum p w C rule (generate_in field rule) × TerminalAtPairIsTheSum p w C rule (generate_in field rule)
  terminals = logup_terminals (choices_of field 1) rule (known_of field ok) by C

  is_generation : generate_in field rule ≡ (λ t. generation limits p w (table_under rule t))
  is_generation = generation-known (choices_of field 1) rule (known_of field ok) by

  -- generation's answer is that terminal
  answered : answer field rule ≡ terminal (end field rule)
  answered = is ∙ ap terminal (sym (ap terminal_words is) ∙ same_list-eq _ _ (trace-holds field ok rule by).1.0)
    where
      accepted : T (accepts (generation limits p w read challenges buffer).answer)
      accepted = subst (λ (g : Generation). T (accepts (g forwards challenges buffer).answer)) is_generation (of_true (trace-holds field ok rule by).0)

      is : answer field rule ≡ terminal (accumulator p w read.lookups challenges (values_of p forwards) 2)
      is =
          ap (λ (g : Generation). (g forwards challenges buffer).answer) is_generation
          ∙ ap (λ (o : Outcome). o.answer)
          (outcome_is limits p w (modulus_of field) C read challenges buffer accepted (of_true (trace-holds field ok rule by).1.1.0))

  regular : AllRegular p w rule forwards challenges
  regular = each
    where
      test : (r : ℕ) → r < 2 → T (regular_on field rule r)
      test r l = every_at (regular_on field rule) 2 r (of_true (trace-holds field ok rule by).1.1.1.1.0) l

      nonzero : (r k : ℕ) → r < 2 → k < 1 → is_zero (denom p w (spot field rule r 0) k) ≡ false
      nonzero r zero l q =
          not_true (is_zero (denom p w (spot field rule r 0) 0))
          (and_right (eqb (fault p w (spot field rule r 0)) 0) (not (is_zero (denom p w (spot field rule r 0) 0))) (test r l))
      nonzero r (suc k) l q = absurd (omega arith)

      each : (r i : ℕ) → r < 2 → i < 1 → Regular p w (spot field rule r i)
      each r zero lr li =
          record {
            no_fault =
                eq_of_eqb (fault p w (spot field rule r 0)) 0
                (true_of (eqb (fault p w (spot field rule r 0)) 0)
                (and_left (eqb (fault p w (spot field rule r 0)) 0) (not (is_zero (denom p w (spot field rule r 0) 0))) (test r lr)));
            all_nonzero = λ _ k l. nonzero r k lr (one-branch field rule r k l);
          }
      each r (suc i) lr li = absurd (omega arith)

  -- the generated trace and terminal pass the constraints
  pub generated-trace-passes : constraints_in field rule forwards challenges 2 (words field rule) (some (end field rule)) ≡ none
  generated-trace-passes =
      (constraints.2 forwards challenges buffer (of_true (trace-holds field ok rule by).0) (of_true (trace-holds field ok rule by).1.1.0) regular (words field rule)
      (end field rule) refl
      ).1 (refl, sym answered)

  -- what passes holds the generated fractions and accumulators
  pub passing_trace_is_generated : HoldsGenerated p w rule forwards challenges 2 (words field rule) (end field rule)
  passing_trace_is_generated = constraints.1 forwards challenges 2 (words field rule) (end field rule) refl regular generated-trace-passes

  -- and what holds them passes
  pub passes_again : constraints_in field rule forwards challenges 2 (words field rule) (some (end field rule)) ≡ none
  passes_again =
      constraints.0 forwards challenges 2 (words field rule) (end field rule) refl regular
      ((vanishing forwards challenges 2 (words field rule) (end field rule)).0 generated-trace-passes).0 passing_trace_is_generated

  -- each constraint is zero, so the rows pass
  pub rows_pass : rows_verdict p w read.lookups challenges (values_of p forwards) 2 (words field rule) (end field rule) 2 ≡ none
  rows_pass =
      (passes_exactly p w read.lookups challenges (values_of p forwards) 2 2 (words field rule) (end field rule)
      ).1 ((vanishing forwards challenges 2 (words field rule) (end field rule)).0 generated-trace-passes).1

  faultless : Faultless p w rule forwards challenges
  faultless =
      (found limits p w read challenges buffer (end field rule)
      (ap (λ (g : Generation). (g forwards challenges buffer).answer) (sym is_generation) ∙ answered)).0

  -- the fraction of row 1, the accumulator before it, and the terminal are the paper's sums
  pub last-fraction : el p w C (fraction_at p w read.lookups challenges (values_of p forwards) 1 0) ≡ paper_fraction p w C rule forwards challenges 1 0
  last-fraction =
      fraction_is_the_sum p w (modulus_of field) C rule forwards challenges (of_true (trace-holds field ok rule by).1.1.1.0) faultless 1 0 (lit< tt) (lit< tt)

  pub last-accumulator : el p w C (accumulator p w read.lookups challenges (values_of p forwards) 1) ≡ paper_sum p w C rule forwards challenges 1
  last-accumulator =
      accumulator_is_the_sum p w (modulus_of field) C rule forwards challenges (of_true (trace-holds field ok rule by).1.1.1.0) faultless 1 (lit≤ tt)

  pub last-terminal : el p w C (end field rule) ≡ paper_sum p w C rule forwards challenges 2
  last-terminal = (terminals.0 forwards challenges buffer (end field rule) answered 1 refl).1

  -- and at that pair over the entries of the whole table
  pub terminal-over-entries : el p w C (end field rule) ≡ paper_entries p w C rule (lift 5) (lift 7) (entries p forwards)
  terminal-over-entries =
      terminals.1 forwards (lift 5) (lift 7) buffer (end field rule) (element-lift p w C 5 (lt_of_lt_of_le (lit< tt) (prime_least field)))
      (element-lift p w C 7 (lt_of_lt_of_le (lit< tt) (prime_least field))) answered

  -- generation accepts the table, so it has a ledger
  pub ledger-there : T (has_ledger limits p forwards)
  ledger-there = logup_ledgers (choices_of field 1) rule (known_of field ok) by forwards challenges buffer (of_true (trace-holds field ok rule by).0)

-- What is generated by rule 2 does not pass by rule 1.
ends_differ : (field : ℕ) → T (known_field field) → end field 2 ≢ end field 1
ends_differ =
    in_each_field (λ (field : ℕ). end field 2 ≢ end field 1)
    (λ e. let z : ◌≡◌ {A = ℕ} 1982292599 603979776 = ap (λ (l : List ℕ). at l 0) e in omega arith)
    (λ e. let z : ◌≡◌ {A = ℕ} 917842771 213070643 = ap (λ (l : List ℕ). at l 0) e in omega arith)

pub not_by_another_rule : (field : ℕ) → T (known_field field) → constraints_in field 1 forwards challenges 2 (words field 2) (some (end field 2)) ≢ none
not_by_another_rule field ok e =
    let k = trace-holds field ok 1 rule_1 in
    let q =
    ((constraints field ok 1 rule_1).2 forwards challenges buffer (of_true k.0) (of_true k.1.1.0) (regular field ok 1 rule_1) (words field 2) (end field 2) refl
    ).0 e in
    ends_differ field ok (ap terminal_words (q.1 ∙ answered field ok 1 rule_1))
