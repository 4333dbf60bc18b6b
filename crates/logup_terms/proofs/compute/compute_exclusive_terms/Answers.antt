use Rattle.logup_terms.proofs.TermsLoops.{exclusive-ends}
use Rattle.logup.specs.Column.{branches}
use mathlib.Core.Path.{refl}
use Rattle.logup_terms.proofs.compute.compute_exclusive_terms.Goals as goal

pub returns : goal.returns
unfolding branches
returns c = exclusive-ends c.sum_branches-t.ensures refl c.sub.ensures c.add.ensures
