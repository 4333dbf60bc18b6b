use Rattle.field.proofs.laws.Reduction.{mul4_by}
use borrow.Author.Rules.{rules}
use Rattle.field.proofs.extension.mul.Goals as goal

pub returns : goal.returns
returns c = (
  search rules,
  mul4_by _ _ _ _ _ _ _ _ _ _ _ c.mul-w1.ensures.1 c.mul-w2.ensures.1
      c.mul-w3.ensures.1 c.dot4.ensures.1 c.dot4-2.ensures.1
      c.dot4-3.ensures.1 c.dot4-4.ensures.1,
)
