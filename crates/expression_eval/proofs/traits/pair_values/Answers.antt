use Rattle.expression_eval.proofs.EvaluateLoops.{begins, turn, ends}
use Rattle.expression.specs.Values.{row_values}
use Rattle.expression.specs.laws.Window.{node-readable}
use Rattle.expression_eval.specs.laws.Window.{row-ahead}
use native.Mathlib.Omega.{arith}
use mathlib.Core.Path.{refl}
use lib.Dec.{lit<}
use borrow.Author.Rules.{rules}
use Rattle.expression_eval.proofs.traits.pair_values.Goals as goal

pub loop-i-init : goal.loop-i-init
loop-i-init c =
    let t = c.requires in
    (begins t.0.few (omega (arith, t.0.modulus.big)) t.2, begins t.0.few (omega (arith, t.0.modulus.big)) t.3)

pub node_value-current-requires : goal.node_value-current-requires
node_value-current-requires c =
    let t = c.requires in
    (rw c.node_at-node.ensures (node-readable _ _ t.0 t.1 (search rules)), c.rows_ahead-rows.ensures, c.loop-i.invariant.0.slots)

pub node_value-following-requires : goal.node_value-following-requires
node_value-following-requires c =
    let t = c.requires in
    let next = row-ahead _ _ 1 t.1 (lit< tt) c.rows_ahead-rows.ensures refl in
    (rw c.node_at-node.ensures (node-readable _ _ t.0 next.0 (search rules)), c.rows_ahead-next_rows.ensures, c.loop-i.invariant.1.slots)

pub loop-i-preserved : goal.loop-i-preserved
loop-i-preserved c =
    let k = c.node_at-node in
    let s = c.loop-i.invariant in
    (turn k.result s.0 (search rules) k.ensures c.node_value-current.ensures, turn k.result s.1 (search rules) k.ensures c.node_value-following.ensures)

pub returns : goal.returns
unfolding row_values
returns c =
    let s = c.loop-i.invariant in
    let a = ends s.0 (search rules) in
    let b = ends s.1 (search rules) in
    let next = row-ahead _ _ 1 c.requires.1 (lit< tt) c.rows_ahead-rows.ensures refl in
    (a.0, a.1, b.0, rw next.1 at b.1)
