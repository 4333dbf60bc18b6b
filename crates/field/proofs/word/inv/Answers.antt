use Rattle.field.proofs.laws.Inverse.{inverse1-zero, inverse1_unique}
use Rattle.field.proofs.laws.Known.{modulus}
use Rattle.field.specs.Word.{inverse1}
use native.Mathlib.Omega.{arith}
use mathlib.Core.Path.{◌∙◌, sym, ap}
use Rattle.field.proofs.word.inv.Goals as goal

pub returns-then-a-eq0 : goal.returns-then-a-eq0
returns-then-a-eq0 c = (omega arith, sym (ap (inverse1 c.args.p) c.if-a-eq0.true ∙ inverse1-zero c.args.p (modulus c.requires.0)))

pub returns : goal.returns
returns c = (
  c.inv_nonzero.ensures.0,
  inverse1_unique c.args.p (modulus c.requires.0) c.requires.1 c.args.a _ (omega arith) c.requires.2 c.inv_nonzero.ensures.0 c.inv_nonzero.ensures.1,
)
