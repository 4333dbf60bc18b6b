-- The answers.
use Rattle.std.specs.Prelude.{Err, Ok, Result}
use mathlib.Core.Path.{◌≡◌, refl, sym, ap, ap₂, ◌∙◌}
use mathlib.Core.Bool.{Bool, true, false, not}
use mathlib.Core.Option.{Option, none}
use mathlib.Core.List.{List, [], ◌∷◌}
use Prim.Native.Nat.{ℕ, zero, suc, ◌*◌, ◌<◌, ◌≤◌, zero-le}
use native.Mathlib.Omega.{arith}
use lib.Dec.{leb}
use lib.ListN.{length}
use borrow.Author.Tests.{leb-true}
use Rattle.lists.specs.Count.{total, first, or_else}
use Rattle.lists.specs.laws.Tests.{passed}
use Rattle.field.specs.Known.{prime_of}
use Rattle.expression.specs.Refusal.{refusal, unless}
use Rattle.expression.specs.declared.refusal.Refusal.{Refusal}
use Rattle.expression.specs.declared.refusal.Refusal.TheVariants.{SizeAtOdds, WeightTooLarge}
use Rattle.expression.specs.Refusal.{Verdict}
use Rattle.expression.specs.declared.sizes.Limits.{Limits}
use Rattle.expression.specs.Limits.{Sane}
use Rattle.expression.specs.Choices.{known, limits_of}
use Rattle.expression.specs.declared.choices.Choices.{Choices}
use Rattle.lookup.specs.Lookups.{Lookups, lookup_count, name_length, name_start, bus_lookups}
use Rattle.lookup.specs.Requires.{Fitting, Limited}
use Rattle.lookup.specs.Refusals.{columns_within, form_sizes, form_refusal}
use Rattle.lookup.specs.Tests.{lookups_within, lookups_fit}
use Rattle.lookup.specs.laws.Tested.{limited}
use Rattle.lookup.specs.declared.refusals.Columns.{Columns}
use Rattle.expression.specs.Tests.{nodes_within, nodes_fit}
use Rattle.lookup_degree.specs.Degree.{node_degrees}
use Rattle.lookup_degree.specs.Formed.{Formed}
use Rattle.expression.specs.laws.Refusal.{unless_none}
use Rattle.lookup_buses.specs.Widths.{width_in_lookup, width_in_table, expected, by_bus, lookup_refusal, table_refusal, widths_refusal}
use Rattle.packing_columns.specs.declared.columns.Plan.{Plan}
use Rattle.packing.specs.Written.{words_of}
use Rattle.packing.specs.PackSameBus.{single_table, holds, columns, packing_refusal, Outcome, counts, all_written, packing, packing_at}
use Rattle.packing.proofs.laws.Lengths.{NoLonger, packed_no_longer}
use Rattle.packing_columns.specs.inner.Layout.{plan_words, plan_counts, counts_hold, plan_refusal, formed_refusal, formed_outcome, Layout, ListsExact, OutputsHold}
use Rattle.packing.specs.declared.answer.Counts.{Counts}

-- no other lists count for the widths
same-widths : (l : Lookups) → widths_refusal (single_table (bus_lookups l.lookups l.names l.tuples)) ≡ widths_refusal (single_table l)
unfolding widths_refusal table_refusal lookup_refusal expected width_in_table width_in_lookup by_bus first
same-widths l = refl

-- the lengths of the lists say whether the lent ones hold the table's own
same-hold : (l lent : Lookups) → counts_hold (counts l) (counts lent) ≡ holds lent l
unfolding counts_hold holds
same-hold l lent = refl

pub held : {b : Bool} (l lent : Lookups) → b ≡ counts_hold (counts l) (counts lent) → b ≡ true → holds lent l ≡ true
held {b} l lent e z = sym (same-hold l lent) ∙ sym e ∙ z

-- the lent lists hold the packed table, since they hold the table itself
module _ (lent l w : Lookups) (k : NoLonger w l) (h : holds lent l ≡ true) where
  pub hold_lengths : (length w.lookups ≤ length lent.lookups) × (length w.names ≤ length lent.names) × (length w.tuples ≤ length lent.tuples)
      × (length w.multiplicities ≤ length lent.multiplicities) × (length w.flags ≤ length lent.flags) × (length w.elements ≤ length lent.elements)
  unfolding holds
  hold_lengths =
      let q = passed (leb (length l.lookups) (length lent.lookups))
      (leb (length l.names) (length lent.names) ∷ leb (length l.tuples) (length lent.tuples) ∷ leb (length l.multiplicities) (length lent.multiplicities)
      ∷ leb (length l.flags) (length lent.flags) ∷ leb (length l.elements) (length lent.elements) ∷ []) h in (
        omega (arith, leb-true (length l.lookups) (length lent.lookups) q.0, k.lookups),
        omega (arith, leb-true (length l.names) (length lent.names) q.1.0, k.names),
        omega (arith, leb-true (length l.tuples) (length lent.tuples) q.1.1.0, k.tuples),
        omega (arith, leb-true (length l.multiplicities) (length lent.multiplicities) q.1.1.1.0, k.multiplicities),
        omega (arith, leb-true (length l.flags) (length lent.flags) q.1.1.1.1.0, k.flags),
        omega (arith, leb-true (length l.elements) (length lent.elements) q.1.1.1.1.1.0, k.elements),
      )

module _ (limit : ℕ) (nodes : List ℕ) (l lent : Lookups) {r : Plan} (y : Layout limit nodes l r) where
  pub same-refusal : (v : Verdict) → refusal v ≡ plan_refusal r.over l.lookups l.names l.tuples → refusal v ≡ formed_refusal limit nodes l
  unfolding plan_refusal formed_refusal
  same-refusal v g = g ∙ ap₂ (λ (z : Option Refusal) (x : Bool). or_else z (unless (not x) WeightTooLarge none)) (same-widths l) y.over

  pub roomy : Fitting l → holds lent l ≡ true → OutputsHold r l lent
  unfolding columns
  roomy fit h =
      let W : Lookups = words_of (columns limit nodes l) in
      let q : W ≡ plan_words r l = y.words in
      let k = hold_lengths lent l W (packed_no_longer (node_degrees 0 nodes) limit l fit) h in
      record {
        numbered = y.numbered;
        fitting = fit;
        lookups = omega (arith, k.0, ap (λ (x : Counts). x.lookups) y.counted);
        names = omega (arith, k.1, ap (λ (x : Lookups). length x.names) q);
        tuples = omega (arith, k.2, ap (λ (x : Lookups). length x.tuples) q);
        multiplicities = omega (arith, k.3, ap (λ (x : Lookups). length x.multiplicities) q);
        flags = omega (arith, k.4, ap (λ (x : Lookups). length x.flags) q);
        elements = omega (arith, k.5, ap (λ (x : Lookups). length x.elements) q);
      }

  -- the outcome: packed, or refused
  pub packed_is : {c : Counts} {out : Lookups} → c ≡ plan_counts r l.lookups l.tuples → formed_refusal limit nodes l ≡ none → out ≡ all_written (plan_words r l) lent
      → (Ok c ≡ (formed_outcome limit nodes l lent).answer) × (out ≡ (formed_outcome limit nodes l lent).lists)
  unfolding formed_outcome
  packed_is {c} {out} e g o =
      rw g (ap Ok (e ∙ sym y.counted), o ∙ ap (λ (x : Lookups). all_written x lent) (sym y.words))

  pub refused_is : {f : Refusal} (v : Verdict) → refusal v ≡ formed_refusal limit nodes l → v ≡ Err f
      → (Err f ≡ (formed_outcome limit nodes l lent).answer) × (lent ≡ (formed_outcome limit nodes l lent).lists)
  unfolding formed_outcome
  refused_is {f} v g q = rw (sym g ∙ ap refusal q) (refl, refl)

  pub accepted_is : (v : Verdict) → refusal v ≡ formed_refusal limit nodes l → v ≡ Ok tt → formed_refusal limit nodes l ≡ none
  accepted_is v g q = sym g ∙ ap refusal q

-- the answer within limits
module _ (m : Limits) (p limit : ℕ) (c : Columns) (nodes : List ℕ) (l lent : Lookups) {b : Bool} (e : b ≡ counts_hold (counts l) (counts lent)) where
  pub answer-small : b ≡ false → (Err SizeAtOdds ≡ (packing m p limit c nodes l lent).answer) × (lent ≡ (packing m p limit c nodes l lent).lists)
  unfolding packing packing_refusal
  answer-small z = rw (sym (same-hold l lent) ∙ sym e ∙ z) (refl, refl)

  pub answer-refused : {v : Verdict} {f : Refusal} → b ≡ true → refusal v ≡ form_refusal m p c nodes l → v ≡ Err f
      → (Err f ≡ (packing m p limit c nodes l lent).answer) × (lent ≡ (packing m p limit c nodes l lent).lists)
  unfolding packing packing_refusal
  answer-refused z g q = rw (held l lent e z, sym g ∙ ap refusal q) (refl, refl)

  pub answer_formed : {v : Verdict} {a : Result Counts Refusal} {out : Lookups} → b ≡ true → refusal v ≡ form_refusal m p c nodes l → v ≡ Ok tt
      → (a ≡ (formed_outcome limit nodes l lent).answer) × (out ≡ (formed_outcome limit nodes l lent).lists)
      → (a ≡ (packing m p limit c nodes l lent).answer) × (out ≡ (packing m p limit c nodes l lent).lists)
  unfolding packing packing_refusal formed_outcome formed_refusal
  answer_formed z g q k = rw (held l lent e z, sym g ∙ ap refusal q) k

total_most : (f : ℕ → ℕ) (n : ℕ) → ((i : ℕ) → i < n → f i ≤ 65535) → total f n ≤ n * 65535
unfolding total
total_most f zero h = zero-le
total_most f (suc n) h = omega (arith, total_most f n (λ i g. h i (omega arith)), h n (omega arith))

-- what the tests say of the three lists of the widths
pub whole : (m : Limits) (p : ℕ) (c : Columns) (nodes : List ℕ) (l : Lookups) → Sane m → Formed m nodes l → form_refusal m p c nodes l ≡ none → ListsExact l.lookups l.names l.tuples
unfolding form_refusal form_sizes name_start
whole m p c nodes l g f e =
    let a = unless_none _ SizeAtOdds _ e in
    let k = passed (columns_within m c) (nodes_within m nodes ∷ lookups_within m l.lookups l.tuples ∷ nodes_fit nodes ∷ lookups_fit l ∷ []) a.0 in
    let q : Limited m l.lookups l.tuples = limited m l.lookups l.tuples k.1.1.0 in
    let t : total (name_length l.lookups) (lookup_count l.lookups) ≤ lookup_count l.lookups * 65535 = total_most (name_length l.lookups) (lookup_count l.lookups) (λ i h. omega (arith, q.name i h, g.name_bytes)) in
    record {
      few = f.few_lookups;
      lookups_long = f.fitting.lookups;
      names_long = f.fitting.names;
      names_few = omega (arith, f.fitting.names, f.few_lookups);
      tuples_long = f.fitting.tuples;
      tuples_few = f.few_tuples;
    }

-- `pack_same_bus`
module _ (c : Choices) (limit : ℕ) (columns : Columns) (nodes : List ℕ) (l lent : Lookups) {b : Bool} (e : b ≡ known c) where
  pub choice_unknown : b ≡ false → ◌≡◌ {A = Outcome} (record { answer = Err SizeAtOdds; lists = lent }) (packing_at c limit columns nodes l lent)
  unfolding packing_at
  choice_unknown z = rw (sym e ∙ z) refl

  pub choices_known : {m : Limits} {p : ℕ} {a : Result Counts Refusal} {out : Lookups} → b ≡ true → m ≡ limits_of c.profile → p ≡ prime_of c.field
      → (a ≡ (packing m p limit columns nodes l lent).answer) × (out ≡ (packing m p limit columns nodes l lent).lists)
      → ◌≡◌ {A = Outcome} (record { answer = a; lists = out }) (packing_at c limit columns nodes l lent)
  unfolding packing_at
  choices_known z em ep h = rw (sym e ∙ z, ← em, ← ep) (λ i. record { answer = h.0 i; lists = h.1 i })
