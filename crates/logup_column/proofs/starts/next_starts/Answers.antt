use native.Mathlib.Omega.{arith}
use Rattle.logup_column.proofs.StartsLoops.{tuple-room, multiplicity-room, flag-room, element-room, element_from, next_is}
use Rattle.logup_column.proofs.starts.next_starts.Goals as goal

pub overflow_add-tuple : goal.overflow_add-tuple
overflow_add-tuple c = omega (arith, tuple-room c.requires.0 c.requires.1 c.requires.2, c.tuple_count.ensures)

pub overflow_add-result : goal.overflow_add-result
overflow_add-result c =
    omega (arith, multiplicity-room c.requires.0 c.requires.1 c.requires.2, c.multiplicity_count.ensures)

pub overflow_add-result-2 : goal.overflow_add-result-2
overflow_add-result-2 c = omega (arith, flag-room c.requires.0 c.requires.1 c.requires.2, c.flag_count.ensures)

pub start_of-requires : goal.start_of-requires
start_of-requires c = (
  omega arith,
  omega (arith, tuple-room c.requires.0 c.requires.1 c.requires.2, c.tuple_count.ensures),
  element-room c.requires.0 c.requires.1 c.requires.2 c.tuple_count.ensures,
  element_from c.requires.0 c.requires.1 c.requires.2,
)

pub returns : goal.returns
returns c =
    next_is c.requires.0 c.requires.1 c.requires.2 c.tuple_count.ensures c.multiplicity_count.ensures c.flag_count.ensures
    c.start_of.ensures
