use Rattle.field.proofs.laws.Norm.{norm2_lo, norm2_hi}
use Rattle.field.specs.Ext.{ext_words}
use Rattle.field.proofs.extension.norm2.Goals as goal

pub returns : goal.returns
returns c = (
  c.dot4.ensures.0,
  c.dot4-2.ensures.0,
  norm2_lo _ _ c.requires.2 (ext_words c.args.a) _ _ _ _ c.mul-v1.ensures.1 c.mul-v2.ensures.1 c.neg-minus3.ensures.1 c.dot4.ensures.1,
  norm2_hi _ _ c.requires.2 (ext_words c.args.a) _ _ _ _ c.mul-v3.ensures.1 c.neg-minus1.ensures.1 c.neg-minus3.ensures.1 c.dot4-2.ensures.1,
)
