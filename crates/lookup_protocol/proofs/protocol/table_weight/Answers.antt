use native.Mathlib.Omega.{arith}
use Rattle.lookup_protocol.proofs.laws.Height.{weight-fits}
use Rattle.lookup_protocol.proofs.protocol.table_weight.Goals as goal

pub overflow_mul-result : goal.overflow_mul-result
overflow_mul-result c =
    record {
      fits = omega (
        arith,
        weight-fits {b = c.from.result} c.weight_sum.ensures.1 (rw c.from.ensures c.requires.1),
      );
    }

pub returns : goal.returns
returns c = (
  rw (c.weight_sum.ensures.0, c.from.ensures),
  weight-fits {b = c.from.result} c.weight_sum.ensures.1 (rw c.from.ensures c.requires.1),
)
