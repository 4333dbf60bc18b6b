use Rattle.expression.specs.laws.Below.{below_row}
use Rattle.expression_eval.specs.laws.Window.{row-ahead}
use Rattle.expression.specs.Window.{window}
use Rattle.expression.specs.Values.{node_value}
use mathlib.Core.Path.{refl}
use Rattle.expression_eval.proofs.traits.node_value.Goals as goal

pub read-requires : goal.read-requires
read-requires c =
    let t = c.requires in
    let there = rw c.in-Main.is at t.0.readable in
    let ahead = row-ahead _ _ _ t.0.inside there.0 t.1 refl in
    (t.0.inside, ahead.0, ahead.1, t.0.rows.main_fits, there.1)

pub read-requires-in-Preprocessed : goal.read-requires-in-Preprocessed
read-requires-in-Preprocessed c =
    let t = c.requires in
    let there = rw c.in-Preprocessed.is at t.0.readable in
    let ahead = row-ahead _ _ _ t.0.inside there.0 t.1 refl in
    (t.0.inside, ahead.0, ahead.1, t.0.rows.pre_fits, there.1)

pub returns-in-Main : goal.returns-in-Main
unfolding node_value window
returns-in-Main c =
    (rw c.read.ensures ((below_row _ _ c.requires.0.rows.main_below).each _), rw c.in-Main.is c.read.ensures)

pub returns-in-Preprocessed : goal.returns-in-Preprocessed
unfolding node_value window
returns-in-Preprocessed c =
    (rw c.read-in-Preprocessed.ensures ((below_row _ _ c.requires.0.rows.pre_below).each _), rw c.in-Preprocessed.is c.read-in-Preprocessed.ensures)
