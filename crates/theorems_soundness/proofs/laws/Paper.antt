-- Generation's terminal is the last accumulator plus the fractions of the last row, and the paper's sum over all entries of the table, under each rule.
use Rattle.std.specs.Prelude.{◌≡◌, Bool, ℕ, T}
use Rattle.std.proofs.Common.{sym, ◌∙◌, subst, ⊎_elim, true≢false, le_refl}
use Rattle.std.proofs.Math.Path.{ap}
use Rattle.std.proofs.Math.Option.{none}
use mathlib.Core.List.{List}
use Rattle.lists.specs.laws.Count.{and_left}
use Rattle.field.specs.Element.{sum4}
use Rattle.field.specs.Modulus.{Modulus, Certificate}
use Rattle.field.specs.Known.{prime_of, w_of}
use Rattle.field.specs.Extension.{K, el}
use Rattle.field.proofs.laws.Known.{modulus_of}
use Rattle.theorems_logup.specs.Sums.{sum}
use Rattle.expression.specs.Choices.{limits_of}
use Rattle.expression.specs.Words.{all_below}
use Rattle.expression.specs.declared.sizes.Limits.{Limits}
use Rattle.lookup.specs.Table.{Table, values_of}
use Rattle.lookup.specs.Tests.{words_below}
use Rattle.logup.specs.Rule.{lookups_under, table_under}
use Rattle.logup.specs.Rows.{accumulator, first_fault}
use Rattle.logup.specs.Generation.{Answer, Generation, terminal, terminal_words, generation, accepts}
use Rattle.logup.specs.Constraints.{is_present}
use Rattle.logup.specs.Ledger.{Entry, entries, at_pair}
use Rattle.logup.proofs.laws.Choices.{generation-known}
use Rattle.theorems_soundness.specs.Paper.{TerminalIsTheSum, TerminalAtPairIsTheSum, KnownTerminals}
use Rattle.theorems_soundness.proofs.laws.Sums.{share}
use Rattle.theorems_soundness.proofs.laws.Rule.{entries_under}
use Rattle.theorems_soundness.proofs.laws.Entered.{passed}
use Rattle.theorems_soundness.proofs.laws.Answers.{Accepted, accepted_of}
use Rattle.theorems_soundness.proofs.laws.Terminals.{paper_read, accumulator_is_the_sum, terminal-here}

abbrev is_terminal : Answer → Bool
is_terminal a = is_present a.terminal

module _ (m : Limits) (p w : ℕ) (t : Table) (challenges buffer e : List ℕ)
    (given : (generation m p w t challenges buffer).answer ≡ terminal e) where
  accepted : Accepted m p w t challenges buffer (generation m p w t challenges buffer).answer
  accepted = accepted_of m p w t challenges buffer (subst (λ (a : Answer). T (accepts a)) (sym given) tt)

  -- no row has a fault, and the terminal is the accumulator past the last row
  pub found : (first_fault p w t.lookups challenges (values_of p t) t.traces.shape.height ≡ none)
      × (e ≡ accumulator p w t.lookups challenges (values_of p t) t.traces.shape.height)
  found =
      ⊎_elim (λ q. absurd (true≢false (sym (ap is_terminal given) ∙ ap is_terminal q.1)))
      (λ q. (q.0, sym (ap terminal_words given) ∙ ap terminal_words q.1)) accepted.either

  words : T (words_below p t)
  words = and_left (words_below p t) (all_below p challenges) (passed m p w t challenges buffer accepted.entered).two

module _ (m : Limits) (p w : ℕ) (M : Modulus p) (C : Certificate p w) (rule : ℕ) where
  -- the last accumulator plus the fractions of the last row, and the paper's sum over all rows
  pub terminal_is_the_sum : TerminalIsTheSum p w C rule (λ t. generation m p w (table_under rule t))
  unfolding accumulator sum4 words_below
  terminal_is_the_sum t challenges buffer e given last q =
      let (fine, is) = found m p w (table_under rule t) challenges buffer e given in (
        is ∙ ap (accumulator p w (lookups_under rule t.lookups) challenges (values_of p t)) q,
        ap (el p w C) is
            ∙ accumulator_is_the_sum p w M C rule t challenges (words m p w (table_under rule t) challenges buffer e given) fine t.traces.shape.height
            (le_refl t.traces.shape.height),
      )

  -- at a pair, the paper's sum over all entries of the table
  pub terminal_is_the_sum_at_a_pair : TerminalAtPairIsTheSum p w C rule (λ t. generation m p w (table_under rule t))
  unfolding at_pair
  terminal_is_the_sum_at_a_pair t alpha beta buffer e ea eb given =
      let s = table_under rule t in
      let (fine, is) = found m p w s (at_pair s alpha beta) buffer e given in
      ap (el p w C) is ∙ terminal-here m p w M C s alpha beta (words m p w s (at_pair s alpha beta) buffer e given) ea eb fine
      ∙ ap (λ (es : List Entry). sum (K p w C) es (share p w C alpha beta)) (entries_under rule p t)
      ∙ paper_read p w C rule alpha beta (entries p t)

-- and so in each field, at the entry point
pub logup_terminals : KnownTerminals
logup_terminals c rule k r C =
    let m = limits_of c.profile in
    let p = prime_of c.field in
    let w = w_of c.field in
    subst (λ (g : Generation). TerminalIsTheSum p w C rule g × TerminalAtPairIsTheSum p w C rule g) (sym (generation-known c rule k r))
    (terminal_is_the_sum m p w (modulus_of c.field) C rule, terminal_is_the_sum_at_a_pair m p w (modulus_of c.field) C rule)
