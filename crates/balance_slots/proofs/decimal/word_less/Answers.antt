use native.Mathlib.Omega.{arith}
use Rattle.balance_slots.proofs.DecimalLoops.{fits-ten, less_is}
use Rattle.balance_slots.proofs.decimal.word_less.Goals as goal

pub push_digits-n-requires : goal.push_digits-n-requires
push_digits-n-requires c = (omega (arith, c.ranges.a), fits-ten c.args.a (omega (arith, c.ranges.a)))

pub push_digits-m-requires : goal.push_digits-m-requires
push_digits-m-requires c = (omega (arith, c.ranges.b), fits-ten c.args.b (omega (arith, c.ranges.b)))

pub returns : goal.returns
returns c = less_is _ _ _ _ c.push_digits-n.ensures c.push_digits-m.ensures c.lt.ensures
