-- Where the parts begin, and how long they are.
use Rattle.std.specs.Prelude.{◌≡◌, length}
use Rattle.std.proofs.Math.Path.{refl, sym, ap₂}
use Rattle.std.proofs.Common.{◌∙◌, arith, length-take, length-drop}
use mathlib.Core.List.{List, [], ◌∷◌, flat_map}
use Prim.Native.Nat.{ℕ, suc, ◌+◌, ◌<◌, ◌≤◌}
use Rattle.std.proofs.Math.ListN.{length-append}
use Rattle.lists.specs.Count.{total}
use Rattle.lists.specs.laws.Count.{total-le}
use Rattle.lists.specs.laws.Sums.{total_head}
use Rattle.expression.specs.Words.{word}
use Rattle.lookup.specs.Lookups.{lookup_count, name_start, tuple_start, multiplicity_start, flag_start, element_start}
use Rattle.packing_columns.specs.inner.LookupLists.{list_start, list_length, list_part, list_parts}
use Rattle.packing_columns.specs.declared.lookup_lists.LookupList.{LookupList}
use Rattle.packing_columns.specs.declared.lookup_lists.LookupList.TheVariants.{Names, Tuples, Multiplicities, Flags, Elements}

-- a start is no further than a later one
pub start-le : (list : LookupList) (lookups tuples : List ℕ) (i j : ℕ) → i ≤ j → list_start list lookups tuples i ≤ list_start list lookups tuples j
unfolding list_start name_start tuple_start multiplicity_start flag_start element_start
start-le Names lookups tuples i j h = total-le _ i j h
start-le Tuples lookups tuples i j h = total-le _ i j h
start-le Multiplicities lookups tuples i j h = total-le _ i j h
start-le Flags lookups tuples i j h = total-le _ i j h
start-le Elements lookups tuples i j h = total-le _ _ _ (total-le _ i j h)

-- all parts lie in src
module _ (list : LookupList) (lookups tuples src : List ℕ) (room : list_start list lookups tuples (lookup_count lookups) ≤ length src) where
  part-long : (i : ℕ) → i < lookup_count lookups → length (list_part list lookups tuples src i) ≡ list_length list lookups tuples i
  unfolding list_part list_length
  part-long i h =
      let a : list_start list lookups tuples i ≤ list_start list lookups tuples (i + 1) = start-le list lookups tuples i (i + 1) (omega arith) in
      let b : list_start list lookups tuples (i + 1) ≤ list_start list lookups tuples (lookup_count lookups) = start-le list lookups tuples (i + 1) (lookup_count lookups) (omega arith) in
      simp (length-take, length-drop) (omega (arith, room))

  pub parts-long : (is : List ℕ) → ((t : ℕ) → t < length is → word is t < lookup_count lookups)
      → length (list_parts list lookups tuples src is) ≡ total (λ t. list_length list lookups tuples (word is t)) (length is)
  unfolding list_parts flat_map total
  parts-long [] h = refl
  parts-long (i ∷ is) h =
      length-append (list_part list lookups tuples src i) (flat_map (list_part list lookups tuples src) is)
      ∙ ap₂ ◌+◌ (part-long i (h 0 (omega arith))) (parts-long is (λ t g. h (suc t) (omega arith)))
      ∙ sym (total_head (λ t. list_length list lookups tuples (word (i ∷ is) t)) (length is))
