use Rattle.expression.specs.Refusal.{refusal}
use mathlib.Core.Path.{◌≡◌, refl, ap, ◌∙◌}
use borrow.Author.Rules.{rules}
use Rattle.std.specs.Prelude.{Err}
use Rattle.logup_column.proofs.RefusalsLoops.{table-nodes, table_1, table_2, table-rest, stopped, went_on}
use Rattle.logup_column.proofs.refusals.table_refusal.Goals as goal

pub returns-then-not-sizes-fit : goal.returns-then-not-sizes-fit
returns-then-not-sizes-fit c = table_1 _ _ _ _ _ c.sizes.ensures c.if-not-sizes-fit.true

pub returns-then-not-words_below-low : goal.returns-then-not-words_below-low
returns-then-not-words_below-low c = table_2 _ _ _ _ _ c.sizes.ensures c.if-not-sizes-fit.false c.words_below.ensures c.if-not-words_below-low.true

pub nodes_refusal-requires : goal.nodes_refusal-requires
nodes_refusal-requires c =
    (c.requires.degree, table-nodes _ _ _ c.sizes.ensures c.if-not-sizes-fit.false c.requires)

pub position_refusal-requires : goal.position_refusal-requires
position_refusal-requires c =
    table-nodes _ _ _ c.sizes.ensures c.if-not-sizes-fit.false c.requires

pub returns-in_err-nodes_refusal : goal.returns-in_err-nodes_refusal
returns-in_err-nodes_refusal c =
    let e : c.from_residual.result ≡ Err c.in_err-nodes_refusal.field-0.0 = search rules in
    ap refusal e ∙ table-rest _ _ _ _ _ c.sizes.ensures c.if-not-sizes-fit.false c.words_below.ensures
    (refusal c.nodes_refusal.result) _ c.if-not-words_below-low.false
    c.nodes_refusal.ensures refl (stopped _ c.in_err-nodes_refusal.was)

pub returns : goal.returns
returns c =
    table-rest _ _ _ _ _ c.sizes.ensures c.if-not-sizes-fit.false c.words_below.ensures
    (refusal c.nodes_refusal.result) (refusal c.position_refusal.result) c.if-not-words_below-low.false
    c.nodes_refusal.ensures c.position_refusal.ensures (went_on _ c.in_ok-nodes_refusal.was)
