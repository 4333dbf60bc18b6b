use Rattle.expression_eval.proofs.EvaluateLoops.{Filling}
use Rattle.expression.specs.Node.{node_count}
use Rattle.expression.specs.Window.{as_traces, window}
use Rattle.expression_eval.proofs.traits.row_values.Given as goal

abbrev pub invariant-loop-i : goal.invariant-loop-i
invariant-loop-i l = Filling l.p l.nodes (window (as_traces l.traces) l.r) (node_count l.nodes) l.vals l.i
