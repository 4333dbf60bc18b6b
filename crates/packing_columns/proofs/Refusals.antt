-- The refusals after 1 to 5.
use Rattle.std.specs.Prelude.{Err, Ok}
use mathlib.Core.Path.{◌≡◌, refl, sym, ap, ◌∙◌}
use mathlib.Core.Bool.{Bool, true, false}
use mathlib.Core.Option.{none, some}
use mathlib.Core.List.{List, [], ◌∷◌}
use Prim.Native.Nat.{ℕ, ◌*◌}
use native.Mathlib.Omega.{arith}
use lib.ListN.{length, take}
use lib.Seq.{take_all}
use Rattle.lists.specs.Count.{total, first}
use Rattle.expression.specs.Refusal.{refusal}
use Rattle.expression.specs.declared.refusal.Refusal.{Refusal}
use Rattle.expression.specs.declared.refusal.Refusal.TheVariants.{WeightTooLarge}
use Rattle.expression.specs.Refusal.{Verdict}
use Rattle.lookup.specs.Lookups.{Lookups, bus_lookups, lookup_words, lookup_count}
use Rattle.lookup.specs.Sizes.{size_start, table_part}
use Rattle.lookup_buses.specs.Widths.{expected, lookup_refusal, table_refusal, widths_refusal}
use Rattle.lookup_buses.specs.CheckBusWidths.{BusTables, table_at, tables_of, lent_bus_tables}
use Rattle.lookup_buses.specs.inner.Requires.{BusTablesFit}
use Rattle.packing.specs.PackSameBus.{single_table}
use Rattle.packing_columns.specs.inner.Layout.{plan_refusal, ListsExact}

-- one table as a list of one
module _ (lookups names tuples : List ℕ) (w : ListsExact lookups names tuples) where
  abbrev one : BusTables
  one = lent_bus_tables lookups names tuples (lookup_count lookups ∷ length names ∷ length tuples ∷ [])

  the_table : table_at one 0 ≡ bus_lookups lookups names tuples
  unfolding table_at table_part size_start total
  the_table =
      let of_lookups : take (lookup_words * lookup_count lookups) lookups ≡ lookups = take_all (lookup_words * lookup_count lookups) lookups (omega (arith, w.lookups_long)) in
      let of_names : take (1 * length names) names ≡ names = take_all (1 * length names) names (omega arith) in
      let of_tuples : take (1 * length tuples) tuples ≡ tuples = take_all (1 * length tuples) tuples (omega arith) in
      λ j. bus_lookups (of_lookups j) (of_names j) (of_tuples j)

  pub one_tabled : BusTablesFit one
  unfolding size_start total
  one_tabled =
      record {
        spanned = record { few = omega arith; lookups = omega (arith, w.lookups_long); names = omega arith; tuples = omega arith };
        each = λ t h. let e : t ≡ 0 = omega arith in rw (e, the_table) (record { few = w.few; names_in = omega (arith, w.names_long); tuples_in = omega (arith, w.tuples_long) });
      }

  by_table : widths_refusal (tables_of one) ≡ widths_refusal (single_table (table_at one 0))
  unfolding widths_refusal tables_of table_refusal lookup_refusal expected first
  by_table = refl

  pub one_refusal : widths_refusal (tables_of one) ≡ widths_refusal (single_table (bus_lookups lookups names tuples))
  one_refusal = by_table ∙ ap (λ (x : Lookups). widths_refusal (single_table x)) the_table

-- the refusals after 1 to 5
module _ (over : Bool) (lookups names tuples : List ℕ) {v : Verdict} (g : refusal v ≡ widths_refusal (single_table (bus_lookups lookups names tuples))) where
  pub refuse_widths : {f : Refusal} → v ≡ Err f → some f ≡ plan_refusal over lookups names tuples
  unfolding plan_refusal
  refuse_widths q = rw (sym g ∙ ap refusal q)

  pub refuse_over : v ≡ Ok tt → over ≡ true → some WeightTooLarge ≡ plan_refusal over lookups names tuples
  unfolding plan_refusal
  refuse_over q o = rw (sym g ∙ ap refusal q, o)

  pub refuse_none : v ≡ Ok tt → over ≡ false → none ≡ plan_refusal over lookups names tuples
  unfolding plan_refusal
  refuse_none q o = rw (sym g ∙ ap refusal q, o)
