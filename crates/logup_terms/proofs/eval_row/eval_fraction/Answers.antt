use mathlib.Core.Path.{◌∙◌}
use Rattle.logup_terms.specs.laws.Same.{vanishing-same}
use Rattle.logup_column.specs.laws.Lookup.{powers_are, element-word, field-values, one-fits, one-flags, one_same}
use Rattle.logup_terms.proofs.eval_row.eval_fraction.Goals as goal

pub lookup_constraint-requires : goal.lookup_constraint-requires
lookup_constraint-requires c = (
  field-values c.requires.0.field c.requires.1,
  (powers_are _ c.requires.0 c.requires.2.counted c.load_powers-powers.ensures).0,
  element-word _ c.requires.0.below c.load-alpha.ensures,
  one-fits c.requires.0.lists c.requires.2.counted c.requires.2.begins c.requires.2.ends,
  one-flags c.requires.0.lists c.requires.2.counted c.requires.2.begins c.requires.2.ends,
  c.requires.3,
)

pub returns : goal.returns
returns c =
    c.lookup_constraint.ensures.1 ∙ vanishing-same (one_same c.requires.0.lists c.requires.2.counted c.requires.2.begins c.requires.2.ends _ _ _ _
    c.load-alpha.ensures (powers_are _ c.requires.0 c.requires.2.counted c.load_powers-powers.ensures).1) _
