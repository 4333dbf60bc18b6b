-- The sums of Haböck's paper (ePrint 2022/1530, section 3) for a table: m ÷ (X - z) over the entries of a lookup, a row and the rows before a row, where m
-- is an entry's count, z its tuple's combined value under the rule and X the lookup's alpha; and that generation's numbers are these sums, as
-- statements. Their proofs are laws/Terminals.antt, laws/Paper.antt and laws/Rule.antt.
use Rattle.std.specs.Prelude.{ℕ, suc, ◌+◌, ◌*◌, ◌<◌, ◌≤◌, ◌≡◌, List, T}
use Rattle.std.proofs.Math.Option.{none}
use Rattle.field.specs.Element.{lift, add4, element}
use Rattle.field.specs.Modulus.{Certificate}
use Rattle.field.specs.Known.{prime_of, w_of}
use Rattle.field.specs.Extension.{K, KEl, el}
use Rattle.theorems_logup.specs.Sums.{sum_to, fractions}
use Rattle.expression.specs.Choices.{known, known_rule}
use Rattle.expression.specs.declared.choices.Choices.{Choices}
use Rattle.lookup.specs.Lookups.{lookup_count}
use Rattle.lookup.specs.Table.{Table, values_of}
use Rattle.lookup.specs.Tests.{words_below}
use Rattle.logup.specs.Tuple.{combine_under}
use Rattle.logup.specs.Rule.{lookups_under}
use Rattle.logup.specs.Rows.{fraction_at, row_sum, accumulator, first_fault}
use Rattle.logup.specs.Generation.{Generation, terminal, generation_at}
use Rattle.logup.specs.Ledger.{Entry, Element, lookup_entries, entries, at_pair}

module _ (p w : ℕ) (C : Certificate p w) (rule : ℕ) where
  -- over some entries, at an alpha and a beta
  abbrev pub paper_entries : List ℕ → List ℕ → List Entry → KEl p w C
  paper_entries alpha beta es =
      fractions (K p w C) (λ (e : Entry). el p w C (combine_under rule p w beta e.tuple)) (λ (e : Entry). el p w C (lift e.count)) es
      (el p w C alpha)

  -- over the entries of lookup i on row r
  abbrev pub paper_fraction : Table → List ℕ → ℕ → ℕ → KEl p w C
  paper_fraction t challenges r i =
      paper_entries (element challenges (2 * i)) (element challenges (2 * i + 1)) (lookup_entries p t.lookups (values_of p t r) i)

  -- over the entries of row r
  abbrev pub paper_row : Table → List ℕ → ℕ → KEl p w C
  paper_row t challenges r = sum_to (K p w C) (paper_fraction t challenges r) (lookup_count t.lookups.lookups)

  -- over the entries of the first n rows: the running sum
  abbrev pub paper_sum : Table → List ℕ → ℕ → KEl p w C
  paper_sum t challenges n = sum_to (K p w C) (paper_row t challenges) n

-- no row has one of the refusals 13 to 15
abbrev pub Faultless : ℕ → ℕ → ℕ → Table → List ℕ → Type 0
Faultless p w rule t challenges =
    first_fault p w (lookups_under rule t.lookups) challenges (values_of p t) t.traces.shape.height ≡ none

-- SPECIFICATION, section 9.4: "fraction, accumulator and terminal are Haböck's sums of m ÷ (X - z)"; the fraction of a lookup on a row
abbrev pub FractionIsTheSum : (p w : ℕ) → Certificate p w → Type 0
FractionIsTheSum p w C =
    (rule : ℕ) (t : Table) (challenges : List ℕ) → T (words_below p t) → Faultless p w rule t challenges
    → (r i : ℕ) → r < t.traces.shape.height → i < lookup_count t.lookups.lookups
    → el p w C (fraction_at p w (lookups_under rule t.lookups) challenges (values_of p t) r i) ≡ paper_fraction p w C rule t challenges r i

-- the accumulator before each row, and past the last
abbrev pub AccumulatorIsTheSum : (p w : ℕ) → Certificate p w → Type 0
AccumulatorIsTheSum p w C =
    (rule : ℕ) (t : Table) (challenges : List ℕ) → T (words_below p t) → Faultless p w rule t challenges
    → (n : ℕ) → n ≤ t.traces.shape.height
    → el p w C (accumulator p w (lookups_under rule t.lookups) challenges (values_of p t) n) ≡ paper_sum p w C rule t challenges n

-- the terminal that generation answers: the last accumulator plus the fractions of the last row, and the sum over all rows
abbrev pub TerminalIsTheSum : (p w : ℕ) → Certificate p w → ℕ → Generation → Type 0
TerminalIsTheSum p w C rule g =
    (t : Table) (challenges buffer e : List ℕ) → (g t challenges buffer).answer ≡ terminal e
    → (last : ℕ) → t.traces.shape.height ≡ suc last
    → (e
    ≡ add4 p (accumulator p w (lookups_under rule t.lookups) challenges (values_of p t) last)
    (row_sum p w (lookups_under rule t.lookups) challenges (values_of p t) last))
    × (el p w C e ≡ paper_sum p w C rule t challenges t.traces.shape.height)

-- and at one pair for all lookups the sum over all entries of the table, in any order
abbrev pub TerminalAtPairIsTheSum : (p w : ℕ) → Certificate p w → ℕ → Generation → Type 0
TerminalAtPairIsTheSum p w C rule g =
    (t : Table) (alpha beta buffer e : List ℕ) → Element p alpha → Element p beta
    → (g t (at_pair t alpha beta) buffer).answer ≡ terminal e
    → el p w C e ≡ paper_entries p w C rule alpha beta (entries p t)

-- of the entry point `generate` at every known field, profile and rule
abbrev pub KnownTerminals : Type 0
KnownTerminals =
    (c : Choices) (rule : ℕ) → T (known c) → T (known_rule rule) → (C : Certificate (prime_of c.field) (w_of c.field))
    → TerminalIsTheSum (prime_of c.field) (w_of c.field) C rule (generation_at c rule)
    × TerminalAtPairIsTheSum (prime_of c.field) (w_of c.field) C rule (generation_at c rule)
