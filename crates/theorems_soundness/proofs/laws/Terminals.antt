-- Fractions, accumulators and terminals are the paper's sums; at a pair that all lookups share, the terminal is the sum over all entries of the table.
use Rattle.std.specs.Prelude.{◌≡◌, refl, ◌≢◌, ℕ, ◌+◌, ◌*◌, ◌<◌, T, length}
use Rattle.std.proofs.Math.Path.{sym, ap}
use Rattle.std.proofs.Common.{ap₂, ◌∙◌, subst, ⊎_elim, arith, length-append, get_or-append-add}
use Rattle.std.proofs.Math.Option.{none}
use mathlib.Core.List.Memᴰ
use mathlib.Core.List.{List, [], ◌∷◌, ◌++◌, map, Memᴰ}
use Rattle.std.proofs.Math.ListN.{get_or-append}
use Rattle.lists.specs.Count.{joined}
use Rattle.field.specs.Element.{element}
use Rattle.field.specs.Modulus.{Modulus, Certificate}
use Rattle.field.specs.Extension.{K, KEl, el}
use Rattle.field.specs.laws.Extension.{h}
use Rattle.theorems_logup.specs.Inverse.{inverse, minus}
use Rattle.theorems_logup.specs.Sums.{sum}
use Rattle.theorems_logup.specs.Tables as Tables
use Rattle.theorems_logup.proofs.laws.Common.{sum_to_cong}
use Rattle.expression.specs.Words.{word}
use Rattle.expression.specs.Values.{row_values}
use Rattle.expression.specs.declared.sizes.Limits.{Limits}
use Rattle.lookup.specs.Lookups.{lookup_count}
use Rattle.lookup.specs.Table.{Table, values_of}
use Rattle.lookup.specs.Tests.{words_below}
use Rattle.logup.specs.Rule.{lookups_under}
use Rattle.logup.specs.Column.{Place, fraction, fault}
use Rattle.logup.specs.Rows.{place, fraction_at, row_sum, accumulator, first_fault}
use Rattle.logup.specs.Generation.{Answer, absent, terminal, terminal_words}
use Rattle.logup.specs.Ledger.{Entry, Element, lookup_entries, row_entries, entries, at_pair}
use Rattle.logup.proofs.laws.Rule.{ordered}
use Rattle.theorems_soundness.specs.Paper.{paper_entries, paper_fraction, paper_row, Faultless, FractionIsTheSum, AccumulatorIsTheSum}
use Rattle.theorems_soundness.proofs.laws.Joined.{word-joined, joined_none, joined_empty}
use Rattle.theorems_soundness.specs.Entries.{into, N}
use Rattle.theorems_soundness.proofs.laws.Setting.{as_four}
use Rattle.theorems_soundness.proofs.laws.Elements.{element-lift, element-sum, sum_is}
use Rattle.theorems_soundness.proofs.laws.Values.{row_below}
use Rattle.theorems_soundness.proofs.laws.Sums.{share, sum-joined}
use Rattle.theorems_soundness.proofs.laws.Tuples.{combine_is}
use Rattle.theorems_soundness.proofs.laws.Columns.{fraction_is, sound}
use Rattle.theorems_soundness.proofs.laws.Ledgers.{whence}
use Rattle.theorems_soundness.proofs.laws.Rule.{combine-ordered, as_read, lookup_entries_under}
use Rattle.theorems_soundness.proofs.laws.Answers.{no_fault, Accepted}

-- the sum by rule 1 over the entries as a rule reads them is the paper's sum by that rule
pub paper_read : (p w : ℕ) (C : Certificate p w) (rule : ℕ) (alpha beta : List ℕ) (es : List Entry)
    → sum (K p w C) (map (as_read rule) es) (share p w C alpha beta) ≡ paper_entries p w C rule alpha beta es
paper_read p w C rule alpha beta [] = refl
paper_read p w C rule alpha beta (e ∷ es) =
    ap₂ (λ (z s : KEl p w C). (K p w C).ring.add ((K p w C).ring.mul (into p w C e.count) (inverse (K p w C) (minus (K p w C) (el p w C alpha) z))) s)
    (sym (combine_is p w C beta (ordered rule e.tuple)) ∙ ap (el p w C) (combine-ordered p w C beta rule e.tuple))
    (paper_read p w C rule alpha beta es)

-- any challenges
pub fraction_is_the_sum : (p w : ℕ) → Modulus p → (C : Certificate p w) → FractionIsTheSum p w C
unfolding fraction_at place
fraction_is_the_sum p w M C rule t challenges ok fine r i lr li =
    let l = lookups_under rule t.lookups in
    let alpha = element challenges (2 * i) in
    let beta = element challenges (2 * i + 1) in
    fraction_is p w M C (place p w l challenges (values_of p t) r i) (row_below p M t ok r)
    (no_fault p w l challenges (values_of p t) t.traces.shape.height fine r i lr li)
    ∙ ap (λ (es : List Entry). sum (K p w C) es (share p w C alpha beta)) (lookup_entries_under rule p t.lookups (values_of p t r) i)
    ∙ paper_read p w C rule alpha beta (lookup_entries p t.lookups (values_of p t r) i)

pub row_is_the_sum : (p w : ℕ) → Modulus p → (C : Certificate p w) (rule : ℕ) (t : Table) (challenges : List ℕ) → T (words_below p t)
    → Faultless p w rule t challenges → (r : ℕ) → r < t.traces.shape.height
    → el p w C (row_sum p w (lookups_under rule t.lookups) challenges (values_of p t) r) ≡ paper_row p w C rule t challenges r
unfolding row_sum
row_is_the_sum p w M C rule t challenges ok fine r lr =
    sum_is p w C (fraction_at p w (lookups_under rule t.lookups) challenges (values_of p t) r) (lookup_count t.lookups.lookups)
    ∙ sum_to_cong (K p w C) _ (paper_fraction p w C rule t challenges r) (lookup_count t.lookups.lookups)
    (λ i li. fraction_is_the_sum p w M C rule t challenges ok fine r i lr li)

pub accumulator_is_the_sum : (p w : ℕ) → Modulus p → (C : Certificate p w) → AccumulatorIsTheSum p w C
unfolding accumulator
accumulator_is_the_sum p w M C rule t challenges ok fine n l =
    sum_is p w C (row_sum p w (lookups_under rule t.lookups) challenges (values_of p t)) n
    ∙ sum_to_cong (K p w C) _ (paper_row p w C rule t challenges) n (λ r k. row_is_the_sum p w M C rule t challenges ok fine r (omega arith))

-- the challenges at a pair: alpha and beta for each lookup
module _ (a b : List ℕ) (n i : ℕ) (la : length a ≡ 4) (lb : length b ≡ 4) (l : i < n) where
  at_word : (x j : ℕ) → x ≡ 8 * i + j → j < 8 → word (joined (λ i. a ++ b) 0 n) x ≡ word (a ++ b) j
  at_word x j q k = ap (word (joined (λ i. a ++ b) 0 n)) q ∙ word-joined (λ i. a ++ b) 8 (λ i. length-append a b ∙ omega arith) n i j l k

  alpha-word : (x j : ℕ) → x ≡ 8 * i + j → j < 4 → word (joined (λ i. a ++ b) 0 n) x ≡ word a j
  alpha-word x j q k = at_word x j q (omega arith) ∙ get_or-append a b 0 j (omega arith)

  beta-word : (x j : ℕ) → x ≡ 8 * i + 4 + j → j < 4 → word (joined (λ i. a ++ b) 0 n) x ≡ word b j
  beta-word x j q k = at_word x (length a + j) (omega arith) (omega arith) ∙ get_or-append-add a b j 0

  pair-alpha : element (joined (λ i. a ++ b) 0 n) (2 * i) ≡ a
  unfolding element
  pair-alpha =
      (λ x.
      alpha-word (4 * (2 * i)) 0 (omega arith) (omega arith) x ∷ alpha-word (4 * (2 * i) + 1) 1 (omega arith) (omega arith) x
      ∷ alpha-word (4 * (2 * i) + 2) 2 (omega arith) (omega arith) x ∷ alpha-word (4 * (2 * i) + 3) 3 (omega arith) (omega arith) x ∷ [])
      ∙ sym (as_four a la)

  pair-beta : element (joined (λ i. a ++ b) 0 n) (2 * i + 1) ≡ b
  unfolding element
  pair-beta =
      (λ x.
      beta-word (4 * (2 * i + 1)) 0 (omega arith) (omega arith) x ∷ beta-word (4 * (2 * i + 1) + 1) 1 (omega arith) (omega arith) x
      ∷ beta-word (4 * (2 * i + 1) + 2) 2 (omega arith) (omega arith) x ∷ beta-word (4 * (2 * i + 1) + 3) 3 (omega arith) (omega arith) x ∷ [])
      ∙ sym (as_four b lb)

-- the place of lookup i on row r at a pair
pub place-at_pair : (p w : ℕ) (t : Table) (alpha beta : List ℕ) → length alpha ≡ 4 → length beta ≡ 4 → (r i : ℕ) → i < lookup_count t.lookups.lookups
    → place p w t.lookups (at_pair t alpha beta) (row_values p t.nodes t.traces) r i
    ≡ record { lookups = t.lookups; vals = row_values p t.nodes t.traces r; lookup = i; alpha = alpha; beta = beta }
unfolding place at_pair
place-at_pair p w t alpha beta la lb r i l =
    λ x.
    record {
      lookups = t.lookups;
      vals = row_values p t.nodes t.traces r;
      lookup = i;
      alpha = pair-alpha alpha beta (lookup_count t.lookups.lookups) i la lb l x;
      beta = pair-beta alpha beta (lookup_count t.lookups.lookups) i la lb l x;
    }

-- one table at one pair
module _ (m : Limits) (p w : ℕ) (M : Modulus p) (C : Certificate p w) (t : Table) (alpha beta : List ℕ) (ok : T (words_below p t))
    (ea : Element p alpha) (eb : Element p beta) where
  abbrev cs : List ℕ
  cs = at_pair t alpha beta

  abbrev vs : ℕ → List ℕ
  vs = row_values p t.nodes t.traces

  abbrev rows : ℕ
  rows = t.traces.shape.height

  abbrev many : ℕ
  many = lookup_count t.lookups.lookups

  abbrev here : ℕ → ℕ → Place
  here r i = record { lookups = t.lookups; vals = vs r; lookup = i; alpha = alpha; beta = beta }

  abbrev sh : Entry → KEl p w C
  sh = share p w C alpha beta

  place_is : (r i : ℕ) → i < many → place p w t.lookups cs vs r i ≡ here r i
  place_is r i l = place-at_pair p w t alpha beta ea.four eb.four r i l

  module _ (fine : first_fault p w t.lookups cs vs rows ≡ none) where
    fault-here : (r i : ℕ) → r < rows → i < many → fault p w (here r i) ≡ 0
    fault-here r i lr li = ap (fault p w) (sym (place_is r i li)) ∙ no_fault p w t.lookups cs vs rows fine r i lr li

    fraction-here : (r i : ℕ) → r < rows → i < many → el p w C (fraction_at p w t.lookups cs vs r i) ≡ sum (K p w C) (lookup_entries p t.lookups (vs r) i) sh
    unfolding fraction_at
    fraction-here r i lr li =
        ap (λ (c : Place). el p w C (fraction p w c)) (place_is r i li) ∙ fraction_is p w M C (here r i) (row_below p M t ok r) (fault-here r i lr li)

    row_here : (r : ℕ) → r < rows → el p w C (row_sum p w t.lookups cs vs r) ≡ sum (K p w C) (row_entries p t.lookups (vs r)) sh
    unfolding row_sum row_entries
    row_here r lr =
        sum-joined p w C sh (fraction_at p w t.lookups cs vs r) (lookup_entries p t.lookups (vs r)) many (λ i li. fraction-here r i lr li)

    pub terminal-here : el p w C (accumulator p w t.lookups cs vs rows) ≡ Tables.terminal (K p w C) (N p w C) (el p w C alpha) (el p w C beta) (entries p t)
    unfolding accumulator entries
    terminal-here = sum-joined p w C sh (row_sum p w t.lookups cs vs) (λ r. row_entries p t.lookups (vs r)) rows row_here

    pub accepts-here : Tables.Accepts (K p w C) (N p w C) (el p w C alpha) (el p w C beta) (entries p t)
    accepts-here e mem n =
        let o = whence p t mem in
        subst (λ (e : Entry). minus (K p w C) (el p w C alpha) (Tables.combine (K p w C) (N p w C) (el p w C beta) e.tuple) ≢ (K p w C).ring.z) (sym o.is)
        (sound p w M C (here o.row o.lookup) (row_below p M t ok o.row) (fault-here o.row o.lookup o.row_there o.lookup_there) o.number
        o.number_there (λ z. n (ap (λ (e : Entry). e.count) o.is ∙ z)))

  no_entries : many ≡ 0 → entries p t ≡ []
  unfolding entries row_entries
  no_entries z =
      joined_empty (λ r. row_entries p t.lookups (vs r)) rows
      (λ r. ap (joined (lookup_entries p t.lookups (vs r)) 0) z ∙ joined_none (lookup_entries p t.lookups (vs r)))

  terminal-element : Element p (accumulator p w t.lookups cs vs rows)
  unfolding accumulator
  terminal-element = element-sum p w C (row_sum p w t.lookups cs vs) rows

  -- what an accepting answer's terminal is, and that every counted entry has a denominator
  pub record Sums (a : Answer) : Type 0 where
    pub is : el p w C (terminal_words a) ≡ Tables.terminal (K p w C) (N p w C) (el p w C alpha) (el p w C beta) (entries p t)
    pub accepted : Tables.Accepts (K p w C) (N p w C) (el p w C alpha) (el p w C beta) (entries p t)
    pub words : Element p (terminal_words a)

  pub sums_of : (buffer : List ℕ) (a : Answer) → Accepted m p w t cs buffer a → Sums a
  sums_of buffer a acc = ⊎_elim empty full acc.either
    where
      empty : (many ≡ 0) × (a ≡ absent) → Sums a
      empty (z, e) =
          record {
            is = ap (λ (a : Answer). el p w C (terminal_words a)) e ∙ ap (λ (l : List Entry). sum (K p w C) l sh) (sym (no_entries z));
            accepted = λ d mem. absurd (Memᴰ.not-nil (subst (Memᴰ d) (no_entries z) mem));
            words = subst (λ (a : Answer). Element p (terminal_words a)) (sym e) (element-lift p w C 0 (h p w C));
          }

      full : (first_fault p w t.lookups cs vs rows ≡ none) × (a ≡ terminal (accumulator p w t.lookups cs vs rows)) → Sums a
      full (fine, e) =
          record {
            is = ap (λ (a : Answer). el p w C (terminal_words a)) e ∙ terminal-here fine;
            accepted = accepts-here fine;
            words = subst (λ (a : Answer). Element p (terminal_words a)) (sym e) terminal-element;
          }
