use Rattle.lookup_degree.specs.inner.At.{lookup_degree_at}
use mathlib.Core.Path.{◌∙◌, sym}
use Rattle.lookup_degree.proofs.lookups.lookup_degree.Goals as goal

pub returns-then-exclusive : goal.returns-then-exclusive
unfolding lookup_degree_at
returns-then-exclusive c = rw (sym c.exclusive.ensures ∙ c.if-exclusive.true) c.exclusive_degree.ensures

pub returns-else-exclusive : goal.returns-else-exclusive
unfolding lookup_degree_at
returns-else-exclusive c = rw (sym c.exclusive.ensures ∙ c.if-exclusive.false) c.additive_degree.ensures
