-- No constraint reads a name.
use Rattle.std.specs.Prelude.{◌≡◌, refl, List, [], ℕ}
use Rattle.std.proofs.Common.{ap, ◌∙◌}
use Rattle.lists.specs.Count.{total, first}
use Rattle.lookup.specs.Lookups.{lent_lookups, tuple_start, multiplicity_start, flag_start, element_start, tuple_width, multiplicity_node, flag_node, tuple_nodes}
use Rattle.logup.specs.Tuple.{tuple}
use Rattle.logup.specs.Column.{branches, multiplicity, flag, denom}
use Rattle.logup.specs.Rows.{place}
use Rattle.logup.specs.Constraints.{others, additive_numerator, additive_denominator, exclusive_numerator, exclusive_denominator, numerator, common_denominator, cell, cell_sum, lookup_constraint, step, binding, row_verdict, rows_verdict}

unnamed : (p w : ℕ) (lookups names tuples multiplicities flags elements challenges : List ℕ) (values : ℕ → List ℕ) (width : ℕ) (words terminal : List ℕ) (height : ℕ)
    → rows_verdict p w (lent_lookups lookups [] tuples multiplicities flags elements) challenges values width words terminal height
    ≡ rows_verdict p w (lent_lookups lookups names tuples multiplicities flags elements) challenges values width words terminal height
unfolding rows_verdict row_verdict lookup_constraint step binding cell_sum cell place numerator common_denominator additive_numerator additive_denominator exclusive_numerator exclusive_denominator others branches multiplicity flag
    denom tuple tuple_nodes tuple_width tuple_start multiplicity_node multiplicity_start flag_node flag_start element_start total first
unnamed p w lookups names tuples multiplicities flags elements challenges values width words terminal height = refl

-- with a list of elements that is equal
pub unnamed-verdict : {x : List ℕ} (p w : ℕ) (lookups names tuples multiplicities flags elements challenges : List ℕ) (values : ℕ → List ℕ) (width : ℕ) (words terminal : List ℕ) (height : ℕ)
    → x ≡ elements
    → rows_verdict p w (lent_lookups lookups [] tuples multiplicities flags x) challenges values width words terminal height
    ≡ rows_verdict p w (lent_lookups lookups names tuples multiplicities flags elements) challenges values width words terminal height
unnamed-verdict p w lookups names tuples multiplicities flags elements challenges values width words terminal height e =
    ap (λ (q : List ℕ). rows_verdict p w (lent_lookups lookups [] tuples multiplicities flags q) challenges values width words terminal height) e
    ∙ unnamed p w lookups names tuples multiplicities flags elements challenges values width words terminal height
