use mathlib.Core.Path.{◌∙◌}
use Prim.Native.Nat.{◌%◌}
use Rattle.field.specs.Word.{mul_m}
use Rattle.field.proofs.word.mul.Goals as goal

pub returns : goal.returns
unfolding mul_m
returns c = (c.reduce.ensures.0, c.reduce.ensures.1 ∙ (λ i. c.product.ensures.0 i % c.args.p))
