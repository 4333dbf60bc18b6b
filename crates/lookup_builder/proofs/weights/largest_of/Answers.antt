use mathlib.Core.Path.{refl}
use Rattle.lookup_degree.specs.laws.Rising.{rise_begins, rise_turn}
use borrow.Author.Rules.{rules}
use Rattle.lookup_builder.proofs.weights.largest_of.Goals as goal

pub loop-weight-init : goal.loop-weight-init
loop-weight-init c = rise_begins

pub loop-weight-preserved : goal.loop-weight-preserved
loop-weight-preserved c = rise_turn _ c.loop-weight.invariant (search rules) c.max-top.ensures refl
