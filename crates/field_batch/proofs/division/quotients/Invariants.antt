use Rattle.field_batch.proofs.DivisionLoops.{Dividing}
use Rattle.field_batch.proofs.division.quotients.Given as goal

abbrev pub invariant-loop-i : goal.invariant-loop-i
invariant-loop-i g l = Dividing g.row.P l.w l.ms l.held l.initial.ds l.n l.ds l.rest l.i
