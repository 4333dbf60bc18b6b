use Rattle.field_batch.proofs.DivisionLoops.{Multiplying}
use Rattle.field_batch.proofs.division.products.Given as goal

abbrev pub invariant-loop-j : goal.invariant-loop-j
invariant-loop-j g l = Multiplying g.row.P l.w l.ms l.ds l.initial.held l.n l.held l.product l.j
