use Rattle.balance_slots.specs.Decimal.{text_less}
use Rattle.balance_slots.proofs.DecimalLoops.{LessLoop}
use Rattle.balance_slots.proofs.decimal.tuple_less.Given as goal

abbrev pub invariant-loop-i : goal.invariant-loop-i
invariant-loop-i l = LessLoop text_less l.x l.y l.i
