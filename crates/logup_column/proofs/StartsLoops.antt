-- Where the next lookup's parts begin, and that they lie within the lists.
use mathlib.Core.Path.{◌≡◌, sym, ap, ap₂, ◌∙◌}
use mathlib.Core.List.{List}
use Prim.Native.Nat.{ℕ, ◌+◌, ◌<◌, ◌≤◌}
use native.Mathlib.Omega.{arith}
use lib.ListN.{length}
use Rattle.lists.specs.laws.Count.{total-one, total-le}
use Rattle.expression.specs.Words.{word}
use Rattle.lookup.specs.Lookups.{Lookups, lent_lookups, lookup_count, tuple_count, multiplicity_count, flag_count, tuple_start, multiplicity_start, flag_start, element_start}
use Rattle.lookup.specs.laws.Tested.{placed, element_start-le}
use Rattle.logup_column.specs.inner.Requires.{LookupLists, StartsOf, StartsWithin}
use Rattle.logup_column.specs.declared.starts.Starts.{Starts}

module _ {lookups tuples mults flags elements : List ℕ} {i : ℕ} {at : Starts} (s : LookupLists lookups tuples mults flags elements) (h : i < lookup_count lookups) (a : StartsOf lookups tuples i at) where
  abbrev named : Lookups
  named = lent_lookups lookups s.names tuples mults flags elements

  pub tuple-room : at.tuple + tuple_count lookups i ≤ length tuples
  tuple-room = omega (arith, a.tuple≡, (placed named s.fitting i h).tuples)

  pub multiplicity-room : at.multiplicity + multiplicity_count lookups i ≤ length mults
  multiplicity-room = omega (arith, a.multiplicity≡, (placed named s.fitting i h).multiplicities)

  pub flag-room : at.flag + flag_count lookups i ≤ length flags
  flag-room = omega (arith, a.flag≡, (placed named s.fitting i h).flags)

  pub element-room : {k : ℕ} → k ≡ tuple_count lookups i → element_start tuples (at.tuple + k) ≤ length elements
  element-room {k} e = element_start-le named s.fitting (at.tuple + k) (omega (arith, tuple-room))

  pub element_from : at.element ≡ element_start tuples at.tuple
  element_from = a.element≡ ∙ ap (element_start tuples) (sym a.tuple≡)

  pub next_is : {k m f e : ℕ} → k ≡ tuple_count lookups i → m ≡ multiplicity_count lookups i → f ≡ flag_count lookups i → e ≡ element_start tuples (at.tuple + k)
      → StartsOf lookups tuples (i + 1) (record { tuple = at.tuple + k; multiplicity = at.multiplicity + m; flag = at.flag + f; element = e })
      × StartsWithin tuples mults flags elements at (record { tuple = at.tuple + k; multiplicity = at.multiplicity + m; flag = at.flag + f; element = e })
  unfolding tuple_start multiplicity_start flag_start element_start
  next_is {k} {m} {f} {e} ek em ef ee = (
    record {
      tuple≡ = ap₂ ◌+◌ a.tuple≡ ek ∙ sym (total-one (tuple_count lookups) i);
      multiplicity≡ = ap₂ ◌+◌ a.multiplicity≡ em ∙ sym (total-one (multiplicity_count lookups) i);
      flag≡ = ap₂ ◌+◌ a.flag≡ ef ∙ sym (total-one (flag_count lookups) i);
      element≡ = ee ∙ ap (element_start tuples) (ap₂ ◌+◌ a.tuple≡ ek ∙ sym (total-one (tuple_count lookups) i));
    },
    record {
      tuple_le = omega arith;
      tuple_in = omega (arith, tuple-room);
      multiplicity_le = omega arith;
      multiplicity_in = omega (arith, multiplicity-room);
      flag_le = omega arith;
      flag_in = omega (arith, flag-room);
      element_le = omega (arith, element_from, total-le (word tuples) at.tuple (at.tuple + k) (omega arith));
      element_in = omega (arith, element-room ek);
    },
  )
