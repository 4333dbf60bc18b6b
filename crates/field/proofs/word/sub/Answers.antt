use Rattle.field.proofs.laws.Reduction.{sub-lt, sub_ge}
use native.Mathlib.Omega.{arith}
use Rattle.field.proofs.word.sub.Goals as goal

pub returns-then-a-b : goal.returns-then-a-b
returns-then-a-b c = (omega arith, sub-lt c.args.p c.args.a c.args.b (omega arith) (omega arith))

pub returns-else-a-b : goal.returns-else-a-b
returns-else-a-b c = (omega arith, sub_ge c.args.p c.args.a c.args.b (omega arith) (omega arith))
