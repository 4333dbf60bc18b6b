use Rattle.expression_eval.proofs.EvaluateLoops.{begins, turn, ends}
use Rattle.expression.specs.Values.{row_values}
use Rattle.expression.specs.laws.Window.{node-readable}
use native.Mathlib.Omega.{arith}
use borrow.Author.Rules.{rules}
use Rattle.expression_eval.proofs.traits.row_values.Goals as goal

pub loop-i-init : goal.loop-i-init
loop-i-init c =
    let t = c.requires in
    begins t.0.few (omega (arith, t.0.modulus.big)) t.2

pub node_value-requires : goal.node_value-requires
node_value-requires c =
    let t = c.requires in
    (rw c.node_at.ensures (node-readable _ _ t.0 t.1 (search rules)), c.rows_ahead-rows.ensures, c.loop-i.invariant.slots)

pub loop-i-preserved : goal.loop-i-preserved
loop-i-preserved c =
    let k = c.node_at in
    turn k.result c.loop-i.invariant (search rules) k.ensures c.node_value.ensures

pub returns : goal.returns
unfolding row_values
returns c = ends c.loop-i.invariant (search rules)
