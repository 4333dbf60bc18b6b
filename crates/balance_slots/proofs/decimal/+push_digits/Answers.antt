use Rattle.std.proofs.Common.{arith}
use Rattle.balance_slots.proofs.DecimalLoops.{one-fits, push_small, fewer, push_room, push_back}
use Rattle.balance_slots.proofs.decimal.+push_digits.Goals as goal

pub bounds-out-0 : goal.bounds-out-0
bounds-out-0 t c = one-fits c.args.x c.args.out.now c.if-x-lt10.true c.requires.1

pub returns-then-x-lt10 : goal.returns-then-x-lt10
returns-then-x-lt10 t c = push_small c.args.x c.args.out.now c.if-x-lt10.true c.requires.1

pub push_digits-n-requires : goal.push_digits-n-requires
push_digits-n-requires t c =
    (omega arith, (omega arith, fewer c.args.x c.args.out.now c.if-x-lt10.false c.requires.0 c.requires.1))

pub bounds-out-n : goal.bounds-out-n
bounds-out-n t c =
    push_room c.args.x c.args.out.now c.if-x-lt10.false c.requires.0 c.requires.1 c.push_digits-n.ensures

pub returns : goal.returns
returns t c =
    push_back c.args.x c.args.out.now c.if-x-lt10.false c.requires.0 c.requires.1 c.push_digits-n.ensures
