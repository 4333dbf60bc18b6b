use Rattle.field.proofs.laws.Reduction.{neg-zero, neg-pos}
use native.Mathlib.Omega.{arith}
use Rattle.field.proofs.word.neg.Goals as goal

pub returns-then-a-eq0 : goal.returns-then-a-eq0
returns-then-a-eq0 c = (omega arith, neg-zero c.args.p c.args.a (omega arith))

pub returns-else-a-eq0 : goal.returns-else-a-eq0
returns-else-a-eq0 c = (omega arith, neg-pos c.args.p c.args.a (omega arith) (omega arith))
