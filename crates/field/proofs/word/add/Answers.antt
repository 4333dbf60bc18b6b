use Rattle.field.proofs.laws.Reduction.{add-lt, add_ge}
use native.Mathlib.Omega.{arith}
use Rattle.field.proofs.word.add.Goals as goal

pub returns-then-s-p : goal.returns-then-s-p
returns-then-s-p c = (c.if-s-p.true, add-lt c.args.p c.args.a c.args.b c.if-s-p.true)

pub returns-else-s-p : goal.returns-else-s-p
returns-else-s-p c = (omega arith, add_ge c.args.p c.args.a c.args.b (omega arith) (omega arith) (omega arith))
