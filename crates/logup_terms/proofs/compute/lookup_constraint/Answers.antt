use Rattle.logup_terms.proofs.TermsLoops.{constraint_ends}
use Rattle.field.specs.Ext.{ext_words}
use Rattle.logup_terms.proofs.compute.lookup_constraint.Goals as goal

pub returns : goal.returns
returns c = (
  c.sub.ensures.0,
  constraint_ends (ext_words c.args.cell) c.compute_terms-t.ensures c.mul.ensures.1 c.sub.ensures.1,
)
