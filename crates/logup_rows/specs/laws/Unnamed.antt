-- No accumulator, no trace and no fault reads a name.
use Rattle.std.specs.Prelude.{◌≡◌, List, [], ℕ}
use Rattle.std.proofs.Math.Path.{refl}
use Rattle.lists.specs.Count.{total, first, joined}
use Rattle.lookup.specs.Lookups.{lent_lookups, tuple_start, multiplicity_start, flag_start, element_start, tuple_width, multiplicity_node, flag_node, tuple_nodes}
use Rattle.logup.specs.Tuple.{tuple}
use Rattle.logup.specs.Column.{branches, multiplicity, flag, denom, used_denom, chosen, additive_fraction, additive_fault, exclusive_fraction, exclusive_fault, fraction, fault}
use Rattle.logup.specs.Rows.{place, fraction_at, row_sum, accumulator, row_words, fault_at, row_fault, trace, first_fault}

module _ (p w : ℕ) (lookups names tuples multiplicities flags elements challenges : List ℕ) (values : ℕ → List ℕ) where
  pub unnamed-accumulator : (r : ℕ) → accumulator p w (lent_lookups lookups names tuples multiplicities flags elements) challenges values r
      ≡ accumulator p w (lent_lookups lookups [] tuples multiplicities flags elements) challenges values r
  unfolding accumulator row_sum place fraction_at fraction additive_fraction exclusive_fraction branches multiplicity flag denom used_denom chosen tuple tuple_nodes tuple_width tuple_start
      multiplicity_node multiplicity_start flag_node flag_start element_start total
  unnamed-accumulator r = refl

  pub unnamed-trace : (height : ℕ) → trace p w (lent_lookups lookups names tuples multiplicities flags elements) challenges values height
      ≡ trace p w (lent_lookups lookups [] tuples multiplicities flags elements) challenges values height
  unfolding trace row_words accumulator row_sum place fraction_at fraction additive_fraction exclusive_fraction branches multiplicity flag denom used_denom chosen tuple tuple_nodes tuple_width
      tuple_start multiplicity_node multiplicity_start flag_node flag_start element_start total joined
  unnamed-trace height = refl

  pub unnamed-first_fault : (height : ℕ) → first_fault p w (lent_lookups lookups names tuples multiplicities flags elements) challenges values height
      ≡ first_fault p w (lent_lookups lookups [] tuples multiplicities flags elements) challenges values height
  unfolding first_fault row_fault fault_at place fault additive_fault exclusive_fault branches multiplicity flag denom used_denom chosen tuple tuple_nodes tuple_width tuple_start
      multiplicity_node multiplicity_start flag_node flag_start element_start total first
  unnamed-first_fault height = refl
