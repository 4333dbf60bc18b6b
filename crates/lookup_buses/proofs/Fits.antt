-- What the tests say, and the answer.
use Rattle.std.specs.Prelude.{Err, Ok, Result}
use mathlib.Core.Path.{◌≡◌, refl, sym, ap, ◌∙◌}
use mathlib.Core.Bool.{Bool, true, false, ◌&&◌}
use mathlib.Core.List.{[], ◌∷◌}
use Prim.Native.Nat.{ℕ, ◌*◌, ◌%◌, ◌<◌, ◌≤◌}
use native.Mathlib.Omega.{arith}
use lib.Dec.{eqb, leb}
use lib.ListN.{length}
use borrow.Author.Tests.{eqb-true, eq-eqb, ne_eqb, leb-true, le-leb, lt-leb}
use Rattle.lists.specs.Count.{every}
use Rattle.lists.specs.laws.Tests.{passed, every_true}
use Rattle.expression.specs.Limits.{Sane}
use Rattle.expression.specs.Choices.{known, limits_of}
use Rattle.expression.specs.Refusal.{refusal}
use Rattle.expression.specs.declared.choices.Choices.{Choices}
use Rattle.expression.specs.declared.sizes.Limits.{Limits}
use Rattle.expression.specs.declared.refusal.Refusal.{Refusal}
use Rattle.expression.specs.declared.refusal.Refusal.TheVariants.{SizeAtOdds, LookupInvalid}
use Rattle.expression.specs.Refusal.{Verdict}
use Rattle.lookup.specs.Lookups.{Lookups, lookup_words, lookup_count, name_start, tuple_start}
use Rattle.lookup.specs.Sizes.{table_count, size_start, covers}
use Rattle.lookup.specs.Tests.{lookups_within, lengths_agree}
use Rattle.lookup.specs.laws.Tested.{lookups-few}
use Rattle.lookup_buses.specs.Widths.{widths_refusal, widest}
use Rattle.lookup_buses.specs.CheckBusWidths.{BusTables, bus_sizes, lookup_count_size, name_bytes_size, tuple_count_size, table_at, tables_of, lists_fit, table_fits, all_fit, widths_answer, widths_at}
use Rattle.lookup_buses.specs.inner.Requires.{BusLists, BusListsCover, BusTablesFit}

-- `lists_fit`
module _ (m : Limits) (l : BusTables) where
  pub lists_yes : {a b c : ℕ} → length l.sizes % bus_sizes ≡ 0 → table_count bus_sizes l.sizes ≤ m.tables
      → a ≡ lookup_words * size_start bus_sizes l.sizes lookup_count_size (table_count bus_sizes l.sizes) → b ≡ 1 * size_start bus_sizes l.sizes name_bytes_size (table_count bus_sizes l.sizes) → c ≡ 1 * size_start bus_sizes l.sizes tuple_count_size (table_count bus_sizes l.sizes)
      → (eqb (length l.lookups) a && eqb (length l.names) b && eqb (length l.tuples) c) ≡ lists_fit m l
  unfolding lists_fit
  lists_yes h k ea eb ec = rw (eq-eqb (length l.sizes % bus_sizes) 0 h, le-leb (table_count bus_sizes l.sizes) m.tables k, ea, eb, ec)

  pub lists-uneven : (length l.sizes % bus_sizes ≡ 0 → ⊥) → false ≡ lists_fit m l
  unfolding lists_fit
  lists-uneven h = rw (ne_eqb (length l.sizes % bus_sizes) 0 h)

  pub lists_many : length l.sizes % bus_sizes ≡ 0 → m.tables < table_count bus_sizes l.sizes → false ≡ lists_fit m l
  unfolding lists_fit
  lists_many h k = rw (eq-eqb (length l.sizes % bus_sizes) 0 h, lt-leb (table_count bus_sizes l.sizes) m.tables k)

  pub spanned : Sane m → lists_fit m l ≡ true → BusListsCover l
  unfolding lists_fit
  spanned g h =
      let k =
      passed (eqb (length l.sizes % bus_sizes) 0)
      (leb (table_count bus_sizes l.sizes) m.tables
      ∷ covers bus_sizes l.sizes lookup_count_size lookup_words l.lookups
      ∷ covers bus_sizes l.sizes name_bytes_size 1 l.names
      ∷ covers bus_sizes l.sizes tuple_count_size 1 l.tuples
      ∷ [])
      h in
      record {
        few = omega (arith, leb-true (table_count bus_sizes l.sizes) m.tables k.1.0, g.tables);
        lookups = eqb-true _ _ k.1.1.0;
        names = eqb-true _ _ k.1.1.1.0;
        tuples = eqb-true _ _ k.1.1.1.1.0;
      }

-- `table_fits`
module _ (m : Limits) (l : Lookups) where
  pub table_yes : {b : Bool} {a c : ℕ} → b ≡ lookups_within m l.lookups l.tuples → b ≡ true → a ≡ name_start l.lookups (lookup_count l.lookups) → c ≡ tuple_start l.lookups (lookup_count l.lookups)
      → (eqb (length l.names) a && eqb (length l.tuples) c) ≡ table_fits m l
  unfolding table_fits
  table_yes e z ea ec = rw (sym e ∙ z, ea, ec)

  pub table_no : {b : Bool} → b ≡ lookups_within m l.lookups l.tuples → b ≡ false → false ≡ table_fits m l
  unfolding table_fits
  table_no e z = rw (sym e ∙ z)

  pub listed : Sane m → table_fits m l ≡ true → BusLists l.lookups l.names l.tuples
  unfolding table_fits
  listed g h =
      let k =
      passed (lookups_within m l.lookups l.tuples)
      (eqb (length l.names) (name_start l.lookups (lookup_count l.lookups))
      ∷ eqb (length l.tuples) (tuple_start l.lookups (lookup_count l.lookups))
      ∷ [])
      h in
      record {
        few = (lookups-few m l.lookups l.tuples g k.0).0;
        names_in = omega (arith, eqb-true (length l.names) (name_start l.lookups (lookup_count l.lookups)) k.1.0);
        tuples_in = omega (arith, eqb-true (length l.tuples) (tuple_start l.lookups (lookup_count l.lookups)) k.1.1.0);
      }

-- `all_fit` and the answer
module _ (m : Limits) (l : BusTables) where
  pub all_yes : {a b : Bool} → a ≡ lists_fit m l → a ≡ true → b ≡ every (λ t. table_fits m (table_at l t)) (table_count bus_sizes l.sizes) → b ≡ all_fit m l
  unfolding all_fit
  all_yes e z f = rw (sym e ∙ z) f

  pub all_no : {a : Bool} → a ≡ lists_fit m l → a ≡ false → false ≡ all_fit m l
  unfolding all_fit
  all_no e z = rw (sym e ∙ z)

  pub tabled : {a : Bool} → Sane m → a ≡ all_fit m l → a ≡ true → BusTablesFit l
  unfolding all_fit
  tabled {a} g e z =
      let k = passed (lists_fit m l) (every (λ t. table_fits m (table_at l t)) (table_count bus_sizes l.sizes) ∷ []) (sym e ∙ z) in
      record {
        spanned = spanned m l g k.0;
        each = λ t h. listed m (table_at l t) g (every_true (λ t. table_fits m (table_at l t)) (table_count bus_sizes l.sizes) t k.1.0 h);
      }

  pub answer-size : {a : Bool} → a ≡ all_fit m l → a ≡ false → Err SizeAtOdds ≡ widths_answer m l
  unfolding widths_answer
  answer-size {a} e z = rw (sym e ∙ z)

  pub answer_lengths : {a b : Bool} → a ≡ all_fit m l → a ≡ true → b ≡ every (lengths_agree l.lookups) (lookup_count l.lookups) → b ≡ false
      → Err LookupInvalid ≡ widths_answer m l
  unfolding widths_answer
  answer_lengths {a} {b} e z eb zb = rw (sym e ∙ z, sym eb ∙ zb)

  pub answer-widest : {a b : Bool} {v : Verdict} {w : ℕ} → a ≡ all_fit m l → a ≡ true → b ≡ every (lengths_agree l.lookups) (lookup_count l.lookups) → b ≡ true
      → refusal v ≡ widths_refusal (tables_of l) → v ≡ Ok tt → w ≡ widest (tables_of l) → Ok w ≡ widths_answer m l
  unfolding widths_answer
  answer-widest {a} {b} {v} {w} e z eb zb f k ew = rw (sym e ∙ z, sym eb ∙ zb, sym f ∙ ap refusal k, ew)

  pub answer-refused : {a b : Bool} {v : Verdict} {f : Refusal} → a ≡ all_fit m l → a ≡ true → b ≡ every (lengths_agree l.lookups) (lookup_count l.lookups) → b ≡ true
      → refusal v ≡ widths_refusal (tables_of l) → v ≡ Err f → Err f ≡ widths_answer m l
  unfolding widths_answer
  answer-refused {a} {b} {v} {f} e z eb zb g k = rw (sym e ∙ z, sym eb ∙ zb, sym g ∙ ap refusal k)

-- `check_bus_widths`
module _ (c : Choices) (l : BusTables) {b : Bool} (e : b ≡ known c) where
  pub choice_unknown : b ≡ false → Err SizeAtOdds ≡ widths_at c l
  unfolding widths_at
  choice_unknown z = rw (sym e ∙ z) refl

  pub choices_known : {m : Limits} {a : Result ℕ Refusal} → b ≡ true → m ≡ limits_of c.profile → a ≡ widths_answer m l → a ≡ widths_at c l
  unfolding widths_at
  choices_known z em h = rw (sym e ∙ z, ← em) h
