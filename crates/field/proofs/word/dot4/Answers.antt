use mathlib.Core.Path.{◌∙◌}
use Prim.Native.Nat.{◌+◌, ◌%◌}
use Rattle.field.proofs.word.dot4.Goals as goal

pub returns : goal.returns
returns c = (
  c.reduce.ensures.0,
  c.reduce.ensures.1
      ∙ (λ i.
      (c.product.ensures.0 i + c.product-2.ensures.0 i
      + c.product-3.ensures.0 i + c.product-4.ensures.0 i) % c.args.p),
)
